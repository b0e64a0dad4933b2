use Rattle.variable_tables.proofs.Grows.{lawful_grows}
use Rattle.relation_terms.proofs.Stays.{extends_on}
use Rattle.text_asking.proofs.elaborating.ask_supertraits.Goals as goal

pub returns-in_default-clause-lawful : goal.returns-in_default-clause-lawful
returns-in_default-clause-lawful g c =
    lawful_grows c.bound_of.ensures.grown c.args.ctx.now.inner c.requires.lawful

pub returns-in-Ok-clause-lawful : goal.returns-in-Ok-clause-lawful
returns-in-Ok-clause-lawful g c = lawful_grows c.supertraits_of.ensures.grown c.args.ctx.now.inner
    (lawful_grows c.bound_of.ensures.grown c.args.ctx.now.inner c.requires.lawful)

pub returns-in-Ok-clause-grown : goal.returns-in-Ok-clause-grown
returns-in-Ok-clause-grown g c = extends_on c.bound_of.ensures.grown c.supertraits_of.ensures.grown

pub returns-in-Err-clause-lawful : goal.returns-in-Err-clause-lawful
returns-in-Err-clause-lawful g c = lawful_grows c.supertraits_of.ensures.grown c.args.ctx.now.inner
    (lawful_grows c.bound_of.ensures.grown c.args.ctx.now.inner c.requires.lawful)
