use Rattle.std.proofs.Common.{◌∙◌, ap, ◌++◌, ◌∷◌, []}
use Rattle.relation_terms.specs.declared.terms.generic_arg.GenericArgKind.TheVariants.{Ty}
use Rattle.relation_terms.proofs.Stays.{knows_ty}
use Rattle.examples.proofs.Headers.{args_known, header_made}
use Rattle.examples.proofs.overlapping.make_header.Goals as goal

pub mk_args-requires : goal.mk_args-requires
mk_args-requires g c =
    args_known (g.I.Interner.meaning c.mk_bound_vars.new.self) c.args.ty c.deref.result.now
    (c.deref.ensures.value ∙ c.in_ok-push.ensures.items ∙ ap (λ z. z ++ Ty c.args.ty ∷ []) c.new-args.ensures.items)
    (knows_ty c.in_ok-bound_vars.ensures.grown c.args.ty c.requires.is_known)

pub returns-clause-plain : goal.returns-clause-plain
returns-clause-plain g c =
    header_made (g.I.Interner.meaning c.args.cx.now) (g.I.Interner.meaning c.mk_bound_vars.new.self)
    (g.I.Interner.meaning c.mk_args.new.self) _ _ c.args.ty c.deref.result.now
    (c.deref.ensures.value ∙ c.in_ok-push.ensures.items ∙ ap (λ z. z ++ Ty c.args.ty ∷ []) c.new-args.ensures.items)
    c.in_ok-bound_vars.ensures.grown c.in_ok-value.ensures.grown c.requires c.in_ok-bound_vars.ensures.made
    c.in_ok-value.ensures.made
