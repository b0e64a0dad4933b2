use Rattle.std.proofs.Common.{sym, subst}
use Rattle.std.specs.List.{All}
use Rattle.variable_tables.proofs.Grows.{lawful_grows}
use Rattle.outlives_assumptions.specs.Assumptions.{IsKnown}
use Rattle.text_asking.specs.Meets.{AllKnown}
use Rattle.text_asking.proofs.outliving.ask_assumptions.Goals as goal

pub followed-requires : goal.followed-requires
followed-requires g c =
    let m = g.I.Interner.meaning c.args.ctx.now.interner in
    let first = subst (AllKnown m) (sym c.deref.ensures.value) (c.in_ok-assumed.ensures m c.requires.ready) in
    let second = subst (AllKnown m) (sym c.deref-2.ensures.value) (c.in_ok-regions.ensures m c.requires.ready) in
    subst (All (IsKnown m)) (sym c.deref-3.ensures.value) (c.in-Ok.ensures m first second)

pub returns-in-Ok-followed-clause-lawful : goal.returns-in-Ok-followed-clause-lawful
returns-in-Ok-followed-clause-lawful g c = lawful_grows c.followed.ensures.grown c.args.ctx.now.inner c.requires.lawful

pub returns-clause-lawful : goal.returns-clause-lawful
returns-clause-lawful g c = lawful_grows c.followed.ensures.grown c.args.ctx.now.inner c.requires.lawful
