-- What was made is known in the context.
use Rattle.std.proofs.Common.{◌≡◌, ◌∙◌, List, [], ◌∷◌}
use Rattle.relation_terms.proofs.Stays.{extends_on, knows_param_env}
use Rattle.examples.proofs.Ranked.{knows_rule, impl_known, given_known, three_known, first_of_three, second_of_three}
use Rattle.examples.proofs.beside.told_of_vecs.Goals as goal

pub ask_two-requires-clause-env_known : goal.ask_two-requires-clause-env_known
ask_two-requires-clause-env_known g c =
    knows_param_env c.in_ok-ctx.ensures.grown c.in_ok-param_env.param_env c.in_ok-param_env.ensures.sure

pub ask_two-requires-clause-impls_known : goal.ask_two-requires-clause-impls_known
ask_two-requires-clause-impls_known g c =
    three_known _ _ (extends_on c.in_ok-param_env.ensures.grown c.in_ok-ctx.ensures.grown) c.in_ok-for_all.for_all
    c.in_ok-for_bytes.for_bytes c.in_ok-had.had c.deref.result.now (c.deref.ensures.value ∙ c.in_ok-impls.ensures)
    (knows_rule (extends_on c.in_ok-byte.ensures.grown (extends_on c.in_ok-over.ensures.grown
    (extends_on c.in_ok-ranked.ensures.grown (extends_on c.in_ok-for_bytes.ensures.grown c.in_ok-had.ensures.grown))))
    c.in_ok-for_all.for_all (impl_known _ _ _ _ c.in_ok-for_all.ensures.is))
    (knows_rule c.in_ok-had.ensures.grown c.in_ok-for_bytes.for_bytes
    (given_known _ _ c.in_ok-for_bytes.ensures.is c.in_ok-ranked.ensures.sure)) c.in_ok-had.ensures.sure

pub ask_two-requires-clause-left : goal.ask_two-requires-clause-left
ask_two-requires-clause-left g c =
    first_of_three c.in_ok-for_all.for_all c.in_ok-for_bytes.for_bytes c.in_ok-had.had c.deref.result.now
    (c.deref.ensures.value ∙ c.in_ok-impls.ensures)

pub ask_two-requires-clause-right : goal.ask_two-requires-clause-right
ask_two-requires-clause-right g c =
    second_of_three c.in_ok-for_all.for_all c.in_ok-for_bytes.for_bytes c.in_ok-had.had c.deref.result.now
    (c.deref.ensures.value ∙ c.in_ok-impls.ensures)
