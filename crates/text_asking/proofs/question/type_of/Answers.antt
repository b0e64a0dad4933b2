use Rattle.relation_terms.specs.declared.terms.generic_arg.GenericArgKind.TheVariants.{Ty}
use Rattle.text_asking.proofs.question.type_of.Goals as goal

pub returns-in-Some : goal.returns-in-Some
returns-in-Some g c = λ m ready. ready c.args.number (Ty c.in-Some.ty) c.in-Some.ensures
