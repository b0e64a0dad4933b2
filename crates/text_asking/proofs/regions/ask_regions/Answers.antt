-- What is stated is known.
use Rattle.std.proofs.Common.{sym, subst}
use Rattle.std.specs.List.{All}
use Rattle.outlives_assumptions.specs.Assumptions.{IsKnown}
use Rattle.text_asking.specs.Meets.{AllKnown}
use Rattle.text_asking.proofs.regions.ask_regions.Goals as goal

pub ask_solved-requires-clause-stated : goal.ask_solved-requires-clause-stated
ask_solved-requires-clause-stated g c =
    let m = g.I.Interner.meaning c.args.ctx.now.interner in
    let first = subst (AllKnown m) (sym c.deref.ensures.value) (c.in_ok-longer.ensures m c.requires.ready) in
    let second = subst (AllKnown m) (sym c.deref-2.ensures.value) (c.in_ok-shorter.ensures m c.requires.ready) in
    subst (All (IsKnown m)) (sym c.deref-3.ensures.value) (c.in-Ok.ensures m first second)
