-- What was made is known in the context.
use Rattle.relation_terms.proofs.Stays.{extends_on, knows_ty, knows_region, knows_param_env}
use Rattle.examples.proofs.subtyping.told_of_refs.Goals as goal

pub ask_subtype-answer-requires-clause-env_known : goal.ask_subtype-answer-requires-clause-env_known
ask_subtype-answer-requires-clause-env_known g c =
    knows_param_env c.in_ok-ctx.ensures.grown c.in_ok-param_env.param_env c.in_ok-param_env.ensures.sure

pub ask_subtype-answer-requires-clause-rhs_known : goal.ask_subtype-answer-requires-clause-rhs_known
ask_subtype-answer-requires-clause-rhs_known g c =
    knows_ty (extends_on c.in_ok-param_env.ensures.grown c.in_ok-ctx.ensures.grown) c.in_ok-rhs.rhs c.in_ok-rhs.ensures.sure

pub ask_subtype-answer-requires-clause-lhs_known : goal.ask_subtype-answer-requires-clause-lhs_known
ask_subtype-answer-requires-clause-lhs_known g c =
    knows_ty
    (extends_on c.in_ok-rhs.ensures.grown (extends_on c.in_ok-param_env.ensures.grown c.in_ok-ctx.ensures.grown))
    c.in_ok-lhs.lhs c.in_ok-lhs.ensures.sure

pub ask_subtype-answer-requires-clause-shorter_known : goal.ask_subtype-answer-requires-clause-shorter_known
ask_subtype-answer-requires-clause-shorter_known g c =
    knows_region
    (extends_on c.in_ok-lhs.ensures.grown (extends_on c.in_ok-rhs.ensures.grown
    (extends_on c.in_ok-param_env.ensures.grown c.in_ok-ctx.ensures.grown)))
    c.in_ok-shorter.shorter c.in_ok-shorter.ensures.sure

pub ask_subtype-answer-requires-clause-longer_known : goal.ask_subtype-answer-requires-clause-longer_known
ask_subtype-answer-requires-clause-longer_known g c =
    knows_region
    (extends_on c.in_ok-shorter.ensures.grown (extends_on c.in_ok-lhs.ensures.grown
    (extends_on c.in_ok-rhs.ensures.grown (extends_on c.in_ok-param_env.ensures.grown c.in_ok-ctx.ensures.grown))))
    c.in_ok-longer.longer c.in_ok-longer.ensures.sure
