use Rattle.std.proofs.Common.{◌≡◌, ◌∙◌, ap, Option, Some, None, IfNone, not, false}
use Rattle.std.proofs.Common.{is_some}
use Rattle.relation_semantics.proofs.Retelling.{noted_nothing}
use Rattle.relation_recursion.proofs.reading.note_declared.Goals as goal

-- What is said where there is none is so where none was found.
if_none : {A : Type 0} (o : Option A) {P : Type 0} → is_some o ≡ false → IfNone o P → P
if_none (Some x) e h = absurd cc
if_none None e h = h

pub returns-then-is_none-clause-noted : goal.returns-then-is_none-clause-noted
returns-then-is_none-clause-noted g c = noted_nothing tt (g.R.HasState.state c.args.r.now) _ _

pub returns-then-is_none-clause-asks : goal.returns-then-is_none-clause-asks
returns-then-is_none-clause-asks g c = λ promised directed d ts us over opens.
    absurd (directed (if_none c.item_variances.result (c.is_none.ensures ∙ ap not c.if-is_none.true) c.item_variances.ensures.none))
