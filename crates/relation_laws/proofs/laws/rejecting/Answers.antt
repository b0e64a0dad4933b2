use Rattle.relation_laws.proofs.Rejected.{clashes_do_not_unify, clashes_are_not_related}
use Rattle.relation_laws.proofs.laws.rejecting.Goals as goal

pub returns : goal.returns
returns c = record { unifying = clashes_do_not_unify; relating = clashes_are_not_related }
