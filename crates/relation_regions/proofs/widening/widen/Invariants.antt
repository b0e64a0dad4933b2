-- The nodes below the counter have their edges.
use Rattle.relation_regions.specs.Widening.{IsWidened}
use Rattle.relation_regions.proofs.widening.widen.Given as goal

abbrev pub invariant-loop-node : goal.invariant-loop-node
invariant-loop-node l = IsWidened l.fn.graph l.reasons l.node l.graph
