use Rattle.relation_terms.proofs.Stays.{extends_on, knows_ty, knows_param_env}
use Rattle.relation_tests.proofs.tested.relates_variable.Goals as goal

pub relate_tested-requires-clause-env_known : goal.relate_tested-requires-clause-env_known
relate_tested-requires-clause-env_known g c =
    knows_param_env (extends_on c.in_ok-ctx.ensures.grown c.in_ok-next_ty_infer.ensures.grown)
    c.in_ok-param_env.param_env c.in_ok-param_env.ensures.sure

pub relate_tested-requires-clause-lhs_known : goal.relate_tested-requires-clause-lhs_known
relate_tested-requires-clause-lhs_known g c =
    knows_ty
    (extends_on c.in_ok-byte.ensures.grown (extends_on c.in_ok-param_env.ensures.grown
    (extends_on c.in_ok-ctx.ensures.grown c.in_ok-next_ty_infer.ensures.grown)))
    c.in_ok-variable.variable c.in_ok-variable.ensures.sure

pub relate_tested-requires-clause-rhs_known : goal.relate_tested-requires-clause-rhs_known
relate_tested-requires-clause-rhs_known g c =
    knows_ty
    (extends_on c.in_ok-param_env.ensures.grown
    (extends_on c.in_ok-ctx.ensures.grown c.in_ok-next_ty_infer.ensures.grown))
    c.in_ok-byte.byte c.in_ok-byte.ensures.sure
