use Rattle.reference_interner.specs.Nodes.{alternatives_node}
use Rattle.reference_interner.proofs.flags.AlternativesKeyNodeKeyFlagged.flags.Goals as goal

pub kept_flags-requires : goal.kept_flags-requires
kept_flags-requires c = (alternatives_node, c.requires)

pub returns : goal.returns
returns c = c.kept_flags.ensures alternatives_node c.requires
