use Rattle.reference_interner.specs.Nodes.{const_node}
use Rattle.reference_interner.proofs.flags.ConstKeyNodeKeyFlagged.flags.Goals as goal

pub kept_flags-requires : goal.kept_flags-requires
kept_flags-requires c = (const_node, c.requires)

pub returns : goal.returns
returns c = c.kept_flags.ensures const_node c.requires
