-- The targets below the counter are reached by given nodes only as it is known.
use Rattle.relation_regions.specs.Deciding.{IsDecidedTo}
use Rattle.relation_regions.proofs.decide.decide_targets.Given as goal

abbrev pub invariant-loop-target : goal.invariant-loop-target
invariant-loop-target l = IsDecidedTo l.known l.wide l.standings l.target l.values.items
