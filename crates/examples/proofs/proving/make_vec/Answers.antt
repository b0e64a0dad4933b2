use Rattle.std.proofs.Common.{◌∙◌, ap, ◌++◌, ◌∷◌, []}
use Rattle.relation_terms.specs.declared.terms.generic_arg.GenericArgKind.TheVariants.{Ty}
use Rattle.examples.proofs.Headers.{args_known}
use Rattle.examples.proofs.Ranked.{vec_result}
use Rattle.examples.proofs.proving.make_vec.Goals as goal

pub mk_args-requires : goal.mk_args-requires
mk_args-requires g c =
    args_known (g.I.Interner.meaning c.args.cx.now) c.args.ty c.deref.result.now
    (c.deref.ensures.value ∙ c.in_ok-push.ensures.items ∙ ap (λ z. z ++ Ty c.args.ty ∷ []) c.new-list.ensures.items)
    c.requires

pub returns-clause-made : goal.returns-clause-made
returns-clause-made g c =
    vec_result (g.I.Interner.meaning c.args.cx.now) (g.I.Interner.meaning c.mk_args.new.self)
    (g.I.Interner.meaning c.mk_ty.new.self) c.in_ok-args.ensures.grown c.args.vec c.args.ty c.in_ok-args.args
    c.deref.result.now
    (c.deref.ensures.value ∙ c.in_ok-push.ensures.items ∙ ap (λ z. z ++ Ty c.args.ty ∷ []) c.new-list.ensures.items)
    c.in_ok-args.ensures.made c.mk_ty.result c.mk_ty.ensures.made
