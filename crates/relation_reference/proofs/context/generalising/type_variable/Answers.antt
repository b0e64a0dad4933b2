use Rattle.occurs_check.specs.declared.term_vid.TermVid.TheVariants.{Ty}
use Rattle.relation_reference.proofs.context.generalising.type_variable.Goals as goal

pub unreachable-requires-in-None : goal.unreachable-requires-in-None
unreachable-requires-in-None g c = c.in-None.ensures.is_none (Ty (record { 0 = c.requires.varies.0 })) c.requires.varies.1
