use Rattle.relation_solver.proofs.Solving.{yes_is_sound, yes_is_principal, no_means_none}
use Rattle.relation_solver.proofs.laws.goals.Goals as goal

pub returns : goal.returns
returns c = record { sound = yes_is_sound; principal = yes_is_principal; none = no_means_none }
