use Rattle.std.proofs.Common.{◌∙◌, sym}
use Rattle.fast_reject.proofs.PairTests.{told_some, told_none, nothing_inside}
use Rattle.fast_reject.proofs.forms.stands_for.Goals as goal

pub returns-in-Some : goal.returns-in-Some
returns-in-Some g c = told_some _ c.in-Some.may (sym c.may_stand_for.ensures ∙ c.in-Some.is)

pub returns-in-None : goal.returns-in-None
returns-in-None g c = told_none _ (λ w e. nothing_inside w (sym c.in-None.is ∙ c.may_stand_for.ensures ∙ e))
