use Rattle.reference_interner.specs.Nodes.{args_node}
use Rattle.reference_interner.proofs.flags.ArgsKeyNodeKeyFlagged.flags.Goals as goal

pub kept_flags-requires : goal.kept_flags-requires
kept_flags-requires c = (args_node, c.requires)

pub returns : goal.returns
returns c = c.kept_flags.ensures args_node c.requires
