use Rattle.context_relation.specs.Stepping.{two_variables, no_ty_variables}
use Rattle.context_relation.proofs.relation.SolverRelating.combine_tys.Goals as goal

pub returns-in-Some-ty_var-clause-combines : goal.returns-in-Some-ty_var-clause-combines
returns-in-Some-ty_var-clause-combines g c = two_variables c.in-Some.x.0 c.in-Some-ty_var.y.0 c.in-Some.ensures.is
    c.in-Some-ty_var.ensures.is c.combine_ty_vars.ensures.combines

pub returns-in-None-ty_var-2-clause-stepped : goal.returns-in-None-ty_var-2-clause-stepped
returns-in-None-ty_var-2-clause-stepped g c =
    c.super_combine_tys.ensures.stepped c.in-None.ensures.is_none c.in-None-ty_var-2.ensures.is_none

pub returns-in-None-ty_var-2-clause-combines : goal.returns-in-None-ty_var-2-clause-combines
returns-in-None-ty_var-2-clause-combines g c = no_ty_variables c.in-None.ensures.is_none
    c.in-None-ty_var-2.ensures.is_none c.super_combine_tys.ensures.combines

pub returns-in-None-ty_var-2-clause-memory : goal.returns-in-None-ty_var-2-clause-memory
returns-in-None-ty_var-2-clause-memory g c = λ n m. c.super_combine_tys.ensures.memory

pub returns-in-Some-ty_var-clause-memory : goal.returns-in-Some-ty_var-clause-memory
returns-in-Some-ty_var-clause-memory g c = λ n m. absurd (n c.in-Some.x.0 c.in-Some.ensures.is)

pub returns-in-None-ty_var-clause-memory : goal.returns-in-None-ty_var-clause-memory
returns-in-None-ty_var-clause-memory g c = λ n m. absurd (n c.in-Some.x.0 c.in-Some.ensures.is)

pub returns-in-Some-ty_var-2-clause-memory : goal.returns-in-Some-ty_var-2-clause-memory
returns-in-Some-ty_var-2-clause-memory g c = λ n m. absurd (m c.in-Some-ty_var-2.y.0 c.in-Some-ty_var-2.ensures.is)
