use Rattle.relation_terms.specs.declared.terms.generic_arg.GenericArgKind.TheVariants.{Ty}
use Rattle.text_asking.proofs.question.fit_type_of.Goals as goal

pub returns-in-Some-Some-clause-known : goal.returns-in-Some-Some-clause-known
returns-in-Some-Some-clause-known g c = λ m ready. ready c.args.number (Ty c.in-Some-Some.ty) c.in-Some-Some.ensures

pub returns-in-Some-Some-clause-fit : goal.returns-in-Some-Some-clause-fit
returns-in-Some-Some-clause-fit g c = λ m fit.
    fit c.args.number (Ty c.in-Some-Some.ty) c.in-Some-Some.fit c.in-Some-Some.ensures c.in-Some-Some.ensures'
