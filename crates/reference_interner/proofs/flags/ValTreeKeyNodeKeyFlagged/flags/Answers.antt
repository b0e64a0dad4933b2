use Rattle.reference_interner.specs.Nodes.{valtree_node}
use Rattle.reference_interner.proofs.flags.ValTreeKeyNodeKeyFlagged.flags.Goals as goal

pub kept_flags-requires : goal.kept_flags-requires
kept_flags-requires c = (valtree_node, c.requires)

pub returns : goal.returns
returns c = c.kept_flags.ensures valtree_node c.requires
