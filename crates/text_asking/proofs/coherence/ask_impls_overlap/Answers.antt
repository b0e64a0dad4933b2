use Rattle.relation_terms.proofs.Stays.{extends_on}
use Rattle.variable_tables.proofs.Grows.{lawful_grows}
use Rattle.text_asking.proofs.coherence.ask_impls_overlap.Goals as goal

pub returns-in_err-impls-clause-lawful : goal.returns-in_err-impls-clause-lawful
returns-in_err-impls-clause-lawful g c =
    lawful_grows c.impls_of.ensures.grown c.args.ctx.now.inner c.requires.lawful

pub ask_overlap-requires-clause-lawful : goal.ask_overlap-requires-clause-lawful
ask_overlap-requires-clause-lawful g c =
    lawful_grows c.impls_of.ensures.grown c.args.ctx.now.inner c.requires.lawful

pub returns-in-Ok-clause-grown : goal.returns-in-Ok-clause-grown
returns-in-Ok-clause-grown g c = extends_on c.impls_of.ensures.grown c.ask_overlap.ensures.grown

pub returns-in-Err-clause-grown : goal.returns-in-Err-clause-grown
returns-in-Err-clause-grown g c = extends_on c.impls_of.ensures.grown c.ask_overlap.ensures.grown
