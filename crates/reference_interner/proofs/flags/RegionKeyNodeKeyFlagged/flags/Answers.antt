use Rattle.reference_interner.specs.Nodes.{region_node}
use Rattle.reference_interner.proofs.flags.RegionKeyNodeKeyFlagged.flags.Goals as goal

pub kept_flags-requires : goal.kept_flags-requires
kept_flags-requires c = (region_node, c.requires)

pub returns : goal.returns
returns c = c.kept_flags.ensures region_node c.requires
