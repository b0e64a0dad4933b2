use Rattle.std.proofs.Common.{sym, subst}
use Rattle.variable_tables.proofs.Grows.{lawful_grows}
use Rattle.text_asking.specs.Puts.{ArePuts}
use Rattle.text_asking.proofs.question.ask_folded.Goals as goal

pub fold-requires-clause-puts : goal.fold-requires-clause-puts
fold-requires-clause-puts g c =
    let m = g.I.Interner.meaning c.args.ctx.now.interner in
    subst (λ xs. ArePuts m xs) (sym c.deref.ensures.value) (c.in_ok-puts.ensures m c.requires.ready)

pub returns-in-Ok-clause-lawful : goal.returns-in-Ok-clause-lawful
returns-in-Ok-clause-lawful g c = lawful_grows c.fold.ensures.grown c.args.ctx.now.inner c.requires.lawful

pub returns-clause-lawful : goal.returns-clause-lawful
returns-clause-lawful g c = lawful_grows c.fold.ensures.grown c.args.ctx.now.inner c.requires.lawful
