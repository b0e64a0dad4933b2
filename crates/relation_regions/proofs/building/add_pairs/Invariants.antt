-- The pairs below the counter are added.
use Rattle.relation_regions.specs.Building.{AddsPairs}
use Rattle.relation_regions.proofs.building.add_pairs.Given as goal

abbrev pub invariant-loop-pair : goal.invariant-loop-pair
invariant-loop-pair l = AddsPairs l.fn.graph l.pairs l.pair l.graph
