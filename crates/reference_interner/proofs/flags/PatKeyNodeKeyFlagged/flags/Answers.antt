use Rattle.reference_interner.specs.Nodes.{pat_node}
use Rattle.reference_interner.proofs.flags.PatKeyNodeKeyFlagged.flags.Goals as goal

pub kept_flags-requires : goal.kept_flags-requires
kept_flags-requires c = (pat_node, c.requires)

pub returns : goal.returns
returns c = c.kept_flags.ensures pat_node c.requires
