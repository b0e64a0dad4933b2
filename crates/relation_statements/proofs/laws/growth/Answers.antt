use Rattle.relation_statements.proofs.Growing.{implied_stays}
use Rattle.relation_statements.proofs.laws.growth.Goals as goal

pub returns : goal.returns
returns g c = record { stay = implied_stays }
