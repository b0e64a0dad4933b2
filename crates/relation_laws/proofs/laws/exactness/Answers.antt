use Rattle.relation_semantics.proofs.Exactness.{exacts_compose, exact_front_goes_on, exact_front_ends, exact_keeps_unifiers}
use Rattle.relation_laws.proofs.laws.exactness.Goals as goal

pub returns : goal.returns
returns c = record { parts = exacts_compose; goes_on = exact_front_goes_on; ends = exact_front_ends; unifiers = exact_keeps_unifiers }
