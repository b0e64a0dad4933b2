use Rattle.std.proofs.Common.{sym, subst}
use Rattle.text_asking.specs.Meets.{AllKnown}
use Rattle.text_asking.proofs.question.ask_visited.Goals as goal

pub visit-requires-clause-skip_known : goal.visit-requires-clause-skip_known
visit-requires-clause-skip_known g c =
    let m = g.I.Interner.meaning c.args.cx.now in
    subst (λ xs. AllKnown m xs) (sym c.deref.ensures.value) (c.in_ok-skip.ensures m c.requires)

pub visit-requires-clause-stop_known : goal.visit-requires-clause-stop_known
visit-requires-clause-stop_known g c =
    let m = g.I.Interner.meaning c.args.cx.now in
    subst (λ xs. AllKnown m xs) (sym c.deref-2.ensures.value) (c.in_ok-stop.ensures m c.requires)
