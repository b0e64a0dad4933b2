use Rattle.variable_tables.proofs.Grows.{lawful_grows}
use Rattle.text_asking.proofs.elaborating.ask_elaborated.Goals as goal

pub returns-in_default-clause-lawful : goal.returns-in_default-clause-lawful
returns-in_default-clause-lawful g c =
    lawful_grows c.clauses_of.ensures.grown c.args.ctx.now.inner c.requires.lawful

pub returns-in-Ok-clause-lawful : goal.returns-in-Ok-clause-lawful
returns-in-Ok-clause-lawful g c = lawful_grows c.elaborated.ensures.grown c.args.ctx.now.inner
    (lawful_grows c.clauses_of.ensures.grown c.args.ctx.now.inner c.requires.lawful)

pub returns-in-Err-clause-lawful : goal.returns-in-Err-clause-lawful
returns-in-Err-clause-lawful g c = lawful_grows c.elaborated.ensures.grown c.args.ctx.now.inner
    (lawful_grows c.clauses_of.ensures.grown c.args.ctx.now.inner c.requires.lawful)
