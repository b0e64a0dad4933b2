use Rattle.std.proofs.Common.{sym, subst}
use Rattle.variable_tables.proofs.Grows.{lawful_grows}
use Rattle.text_asking.specs.Meets.{AllKnown}
use Rattle.text_asking.proofs.lists.args_of.Goals as goal

pub mk_args-requires : goal.mk_args-requires
mk_args-requires g c =
    let m = g.I.Interner.meaning c.args.ctx.now.interner in
    subst (AllKnown m) (sym c.deref.ensures.value) (c.in_ok-keys.ensures m c.requires.ready)

pub returns-in_err-args-clause-lawful : goal.returns-in_err-args-clause-lawful
returns-in_err-args-clause-lawful g c = lawful_grows c.mk_args.ensures.grown c.args.ctx.now.inner c.requires.lawful

pub returns-clause-lawful : goal.returns-clause-lawful
returns-clause-lawful g c = lawful_grows c.mk_args.ensures.grown c.args.ctx.now.inner c.requires.lawful
