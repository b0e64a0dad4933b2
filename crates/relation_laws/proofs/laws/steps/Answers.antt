use Rattle.relation_semantics.proofs.Composing.{steps_compose}
use Rattle.relation_semantics.proofs.Opening.{instantiating_steps, opening_steps, one_round_relates, two_rounds_relate, unused_binders_relate}
use Rattle.relation_semantics.proofs.Exactness.{exact_steps_compose, instantiating_is_exact_step}
use Rattle.relation_laws.proofs.laws.steps.Goals as goal

pub returns : goal.returns
returns c = record { compose = steps_compose; instantiating = instantiating_steps; opening = opening_steps; one_round = one_round_relates; two_rounds = two_rounds_relate; unused = unused_binders_relate; exact_compose = exact_steps_compose; exact_instantiating = instantiating_is_exact_step }
