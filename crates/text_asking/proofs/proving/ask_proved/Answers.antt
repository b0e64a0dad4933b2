-- What is asked is known still where the variables were made.
use Rattle.relation_terms.proofs.Stays.{extends_on}
use Rattle.variable_tables.proofs.Grows.{lawful_grows}
use Rattle.text_asking.proofs.ProofLemmas.{proof_later}
use Rattle.text_asking.proofs.proving.ask_proved.Goals as goal

pub have_named-requires-clause-lawful : goal.have_named-requires-clause-lawful
have_named-requires-clause-lawful g c = lawful_grows c.proof_of.ensures.grown c.args.ctx.now.inner c.requires.lawful

pub have_named-requires-clause-term_known : goal.have_named-requires-clause-term_known
have_named-requires-clause-term_known g c = c.in-Some.ensures.sure.goal

pub told_of-requires-clause-known : goal.told_of-requires-clause-known
told_of-requires-clause-known g c = proof_later c.have_named.ensures.grown c.in-Some.proof c.in-Some.ensures.sure

pub returns-in_default-clause-lawful : goal.returns-in_default-clause-lawful
returns-in_default-clause-lawful g c =
    lawful_grows c.proof_of.ensures.grown c.args.ctx.now.inner c.requires.lawful

pub returns-in_default-have_named-clause-grown : goal.returns-in_default-have_named-clause-grown
returns-in_default-have_named-clause-grown g c = extends_on c.proof_of.ensures.grown c.have_named.ensures.grown

pub returns-in-Ok-told_of-clause-grown : goal.returns-in-Ok-told_of-clause-grown
returns-in-Ok-told_of-clause-grown g c =
    extends_on (extends_on c.proof_of.ensures.grown c.have_named.ensures.grown) c.told_of.ensures.grown

pub returns-clause-grown : goal.returns-clause-grown
returns-clause-grown g c =
    extends_on (extends_on c.proof_of.ensures.grown c.have_named.ensures.grown) c.told_of.ensures.grown

pub source_named-source-requires : goal.source_named-source-requires
source_named-source-requires g c = proof_later (extends_on c.have_named.ensures.grown c.told_of.ensures.grown)
    c.in-Some.proof c.in-Some.ensures.sure

pub returns-in-Ok-told_of-clause-known : goal.returns-in-Ok-told_of-clause-known
returns-in-Ok-told_of-clause-known g c = c.in-Ok-told_of.ensures.known
