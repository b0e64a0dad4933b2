-- Keys stand while an interner grows.
use Rattle.relation_methods.proofs.Finding.{tables_stand}
use Rattle.relation_methods.proofs.laws.growth.Goals as goal

pub returns : goal.returns
returns g c = record { stand = λ m n. tables_stand m n }
