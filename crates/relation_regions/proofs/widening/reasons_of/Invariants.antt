-- The targets below the counter are looked at.
use Rattle.relation_regions.specs.Widening.{AreReasons, HaveReasons}
use Rattle.relation_regions.proofs.widening.reasons_of.Given as goal

abbrev pub invariant-loop-target : goal.invariant-loop-target
invariant-loop-target l = record {
  reasons : AreReasons l.graph l.standings l.reasons.items;
  looked_at : HaveReasons l.graph l.standings l.target l.reasons.items;
}
