-- The nodes below the counter are looked at.
use Rattle.relation_regions.specs.Deciding.{AreValuesTo}
use Rattle.relation_regions.proofs.decide.add_values.Given as goal

abbrev pub invariant-loop-node : goal.invariant-loop-node
invariant-loop-node l = AreValuesTo l.standings l.found l.target l.fn.values.items l.values.items l.node
