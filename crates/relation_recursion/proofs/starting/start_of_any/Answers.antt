use Rattle.std.proofs.Common.{sym, ◌∙◌}
use Rattle.std.proofs.lemmas.Bool.{false≢true}
use Rattle.relation_recursion.proofs.Beginnings.{left_starts, right_starts, forms_start}
use Rattle.relation_recursion.proofs.starting.start_of_any.Goals as goal

pub returns-then-is_error-clause-starts : goal.returns-then-is_error-clause-starts
returns-then-is_error-clause-starts g c =
    let m = g.I.Interner.meaning c.args.cx.now in
    left_starts m c.args.a.now c.args.b.now (c.is_error.ensures.0 c.if-is_error.true)

pub returns-then-is_error-2-clause-starts : goal.returns-then-is_error-2-clause-starts
returns-then-is_error-2-clause-starts g c =
    let m = g.I.Interner.meaning c.args.cx.now in
    right_starts m c.args.a.now c.args.b.now (c.is_error-2.ensures.0 c.if-is_error-2.true)

pub compare_tys-requires-clause-no_error : goal.compare_tys-requires-clause-no_error
compare_tys-requires-clause-no_error g c = (
  (λ h. false≢true (sym c.if-is_error.false ∙ c.is_error.ensures.1 h)),
  λ h. false≢true (sym c.if-is_error-2.false ∙ c.is_error-2.ensures.1 h),
)

pub returns-in-Ok-clause-starts : goal.returns-in-Ok-clause-starts
returns-in-Ok-clause-starts g c =
    let m = g.I.Interner.meaning c.args.cx.now in
    forms_start m c.args.a.now c.args.b.now c.is_by_parts.result c.parts_count.result c.in-Ok.ensures.alike
    c.is_by_parts.ensures c.parts_count.ensures.counts
