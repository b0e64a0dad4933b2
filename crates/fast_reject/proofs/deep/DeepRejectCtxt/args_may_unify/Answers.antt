use Rattle.std.proofs.Common.{sym, refl}
use Rattle.fast_reject.proofs.Clashing.{moved}
use Rattle.fast_reject.proofs.Rejecting.{clashes_are_apart}
use Rattle.fast_reject.proofs.deep.DeepRejectCtxt.args_may_unify.Goals as goal

pub returns-clause-exact : goal.returns-clause-exact
returns-clause-exact g c =
    moved _ _ c.args_may_unify.result refl (sym c.args-left.ensures) (sym c.args-right.ensures) c.args_may_unify.ensures

pub returns-clause-apart : goal.returns-clause-apart
returns-clause-apart g c = λ f. clashes_are_apart _ _ _ _ _ ((moved _ _ c.args_may_unify.result refl
    (sym c.args-left.ensures) (sym c.args-right.ensures) c.args_may_unify.ensures).0 f)
