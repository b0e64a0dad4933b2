-- The nodes below the counter have their edges.
use Rattle.relation_regions.specs.Building.{AddsStatic}
use Rattle.relation_regions.proofs.building.add_static.Given as goal

abbrev pub invariant-loop-node : goal.invariant-loop-node
invariant-loop-node l = AddsStatic l.fn.graph l.node l.graph
