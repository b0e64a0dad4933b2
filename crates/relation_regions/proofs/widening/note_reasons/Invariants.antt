-- The nodes below the counter are looked at.
use Rattle.relation_regions.proofs.Widened.{IsNoted}
use Rattle.relation_regions.proofs.widening.note_reasons.Given as goal

abbrev pub invariant-loop-node : goal.invariant-loop-node
invariant-loop-node l = IsNoted l.graph l.standings l.found l.target l.node l.reasons.items
