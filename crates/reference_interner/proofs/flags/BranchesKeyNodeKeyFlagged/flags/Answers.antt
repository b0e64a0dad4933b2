use Rattle.reference_interner.specs.Nodes.{branches_node}
use Rattle.reference_interner.proofs.flags.BranchesKeyNodeKeyFlagged.flags.Goals as goal

pub kept_flags-requires : goal.kept_flags-requires
kept_flags-requires c = (branches_node, c.requires)

pub returns : goal.returns
returns c = c.kept_flags.ensures branches_node c.requires
