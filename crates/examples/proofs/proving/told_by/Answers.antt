-- What was made is known in the context.
use Rattle.std.proofs.Common.{◌∙◌}
use Rattle.relation_terms.proofs.Stays.{extends_on, knows_clause, knows_param_env}
use Rattle.examples.proofs.Ranked.{both_known}
use Rattle.examples.proofs.proving.told_by.Goals as goal

pub ask_solver-requires-clause-env_known : goal.ask_solver-requires-clause-env_known
ask_solver-requires-clause-env_known g c =
    knows_param_env (extends_on c.in_ok-ctx.ensures.grown c.in_ok-next_ty_infer.ensures.grown)
    c.in_ok-param_env.param_env c.in_ok-param_env.ensures.sure

pub ask_solver-requires-clause-rules_known : goal.ask_solver-requires-clause-rules_known
ask_solver-requires-clause-rules_known g c =
    both_known _ _
    (extends_on c.in_ok-param_env.ensures.grown
    (extends_on c.in_ok-ctx.ensures.grown c.in_ok-next_ty_infer.ensures.grown))
    c.args.first c.args.second c.deref.result.now (c.deref.ensures.value ∙ c.in_ok-rules.ensures)
    c.requires.first_known c.requires.second_known

pub ask_solver-requires-clause-goal_known : goal.ask_solver-requires-clause-goal_known
ask_solver-requires-clause-goal_known g c =
    knows_clause
    (extends_on c.in_ok-param_env.ensures.grown
    (extends_on c.in_ok-ctx.ensures.grown c.in_ok-next_ty_infer.ensures.grown))
    c.args.goal c.requires.goal_known
