use Rattle.fast_reject.proofs.Clashing.{deeper}
use Rattle.fast_reject.proofs.Rejecting.{clashes_are_apart}
use Rattle.fast_reject.proofs.deep.DeepRejectCtxt.types_may_unify_with_depth.Goals as goal

pub returns-clause-deeper : goal.returns-clause-deeper
returns-clause-deeper g c = λ f e h. deeper e (c.types_may_unify.ensures.0 f) h

pub returns-clause-apart : goal.returns-clause-apart
returns-clause-apart g c = λ f. clashes_are_apart _ _ _ _ _ (c.types_may_unify.ensures.0 f)
