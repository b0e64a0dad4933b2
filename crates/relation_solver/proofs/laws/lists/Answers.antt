use Rattle.relation_solver.proofs.Solving.{all_yes_are_sound, all_yes_are_principal, some_no_means_none}
use Rattle.relation_solver.proofs.laws.lists.Goals as goal

pub returns : goal.returns
returns c = record { sound = all_yes_are_sound; principal = all_yes_are_principal; none = some_no_means_none }
