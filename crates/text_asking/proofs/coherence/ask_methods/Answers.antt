use Rattle.relation_terms.proofs.Stays.{knows_ty}
use Rattle.variable_tables.proofs.Grows.{lawful_grows}
use Rattle.text_asking.proofs.coherence.ask_methods.Goals as goal

pub find_methods-requires-clause-ty_known : goal.find_methods-requires-clause-ty_known
find_methods-requires-clause-ty_known g c =
    knows_ty c.methods_of.ensures.grown c.in_ok-ty.ty
    (c.in_ok-ty.ensures (g.I.Interner.meaning c.args.ctx.now.interner) c.requires.ready)

pub returns-in-Ok-clause-lawful : goal.returns-in-Ok-clause-lawful
returns-in-Ok-clause-lawful g c = lawful_grows c.methods_of.ensures.grown c.args.ctx.now.inner c.requires.lawful

pub returns-in_default-clause-lawful : goal.returns-in_default-clause-lawful
returns-in_default-clause-lawful g c =
    lawful_grows c.methods_of.ensures.grown c.args.ctx.now.inner c.requires.lawful

pub returns-clause-lawful : goal.returns-clause-lawful
returns-clause-lawful g c = lawful_grows c.methods_of.ensures.grown c.args.ctx.now.inner c.requires.lawful
