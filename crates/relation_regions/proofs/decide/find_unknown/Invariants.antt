-- The nodes below the counter are known.
use Rattle.relation_regions.specs.Deciding.{AllKnown}
use Rattle.relation_regions.proofs.decide.find_unknown.Given as goal

abbrev pub invariant-loop-node : goal.invariant-loop-node
invariant-loop-node l = AllKnown l.standings l.found l.known l.node
