use Rattle.reference_interner.specs.Nodes.{ty_node}
use Rattle.reference_interner.proofs.RefInternerInterner.ty_flags.Goals as goal

pub kept_flags-requires : goal.kept_flags-requires
kept_flags-requires c = (ty_node, c.requires)

pub returns : goal.returns
returns c = c.kept_flags.ensures ty_node c.requires
