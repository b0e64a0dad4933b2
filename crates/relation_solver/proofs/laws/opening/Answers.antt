use Rattle.relation_solver.proofs.Opened.{opened_are_unconstrained}
use Rattle.relation_solver.proofs.laws.opening.Goals as goal

pub returns : goal.returns
returns c = record { unconstrained = opened_are_unconstrained }
