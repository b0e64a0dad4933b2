use Rattle.std.proofs.Common.{refl}
use Rattle.relation_folds.specs.Visits.{passed}
use Rattle.relation_folds.proofs.visit.predicates.AliasTyKeyIdTypeVisitable.visit_with.Goals as goal

pub returns : goal.returns
returns g c = passed refl c.visit_args_with.ensures
