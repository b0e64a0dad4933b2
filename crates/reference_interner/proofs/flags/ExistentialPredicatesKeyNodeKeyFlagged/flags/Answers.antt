use Rattle.reference_interner.specs.Nodes.{predicates_node}
use Rattle.reference_interner.proofs.flags.ExistentialPredicatesKeyNodeKeyFlagged.flags.Goals as goal

pub kept_flags-requires : goal.kept_flags-requires
kept_flags-requires c = (predicates_node, c.requires)

pub returns : goal.returns
returns c = c.kept_flags.ensures predicates_node c.requires
