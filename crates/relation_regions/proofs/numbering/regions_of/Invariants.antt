-- The regions of the first pairs.
use Rattle.std.proofs.Common.{take}
use Rattle.relation_regions.specs.Numbering.{AreRegionsOf}
use Rattle.relation_regions.proofs.numbering.regions_of.Given as goal

abbrev pub invariant-loop-pair : goal.invariant-loop-pair
invariant-loop-pair g l = AreRegionsOf l.table (take l.pair-index l.pairs) l.regions.items
