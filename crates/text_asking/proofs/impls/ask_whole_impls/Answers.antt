use Rattle.relation_terms.proofs.Stays.{extends_on}
use Rattle.variable_tables.proofs.Grows.{lawful_grows}
use Rattle.text_asking.proofs.impls.ask_whole_impls.Goals as goal

pub told_of-requires-clause-lawful : goal.told_of-requires-clause-lawful
told_of-requires-clause-lawful g c = lawful_grows c.pair_of.ensures.grown c.args.ctx.now.inner c.requires.lawful

pub told_of-requires-clause-known : goal.told_of-requires-clause-known
told_of-requires-clause-known g c = c.in-Some.ensures.sure

pub returns-in_default-clause-lawful : goal.returns-in_default-clause-lawful
returns-in_default-clause-lawful g c = lawful_grows c.pair_of.ensures.grown c.args.ctx.now.inner c.requires.lawful

pub returns-in-Ok-clause-grown : goal.returns-in-Ok-clause-grown
returns-in-Ok-clause-grown g c = extends_on c.pair_of.ensures.grown c.told_of.ensures.grown

pub returns-clause-grown : goal.returns-clause-grown
returns-clause-grown g c = extends_on c.pair_of.ensures.grown c.told_of.ensures.grown
