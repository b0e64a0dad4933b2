use Rattle.relation_solver.proofs.Deriving.{proofs_derive, proofs_derive_by}
use Rattle.relation_solver.proofs.laws.derivations.Goals as goal

pub returns : goal.returns
returns c = record { derive = proofs_derive; derive_by = proofs_derive_by }
