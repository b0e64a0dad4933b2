use Rattle.reference_interner.specs.Nodes.{tys_node}
use Rattle.reference_interner.proofs.flags.TysKeyNodeKeyFlagged.flags.Goals as goal

pub kept_flags-requires : goal.kept_flags-requires
kept_flags-requires c = (tys_node, c.requires)

pub returns : goal.returns
returns c = c.kept_flags.ensures tys_node c.requires
