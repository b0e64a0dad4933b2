use Rattle.relation_terms.specs.declared.terms.generic_arg.GenericArgKind.TheVariants.{Ty}
use Rattle.relation_terms.proofs.Stays.{knows_ty}
use Rattle.text_asking.proofs.coherence.method_of.Goals as goal

pub variables_at-requires : goal.variables_at-requires
variables_at-requires g c = c.requires

pub returns-clause-sure : goal.returns-clause-sure
returns-clause-sure g c =
    knows_ty c.mk_bound_vars.ensures.grown c.in_ok-ty.ty (c.requires _ (Ty c.in_ok-ty.ty) c.in_ok-ty.ensures)
