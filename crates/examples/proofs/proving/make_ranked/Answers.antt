use Rattle.std.proofs.Common.{◌∙◌, ap, ◌++◌, ◌∷◌, []}
use Rattle.relation_terms.specs.declared.terms.generic_arg.GenericArgKind.TheVariants.{Ty}
use Rattle.examples.proofs.Headers.{args_known}
use Rattle.examples.proofs.Ranked.{clause_known, clause_result}
use Rattle.examples.proofs.proving.make_ranked.Goals as goal

pub mk_args-requires : goal.mk_args-requires
mk_args-requires g c =
    args_known (g.I.Interner.meaning c.args.cx.now) c.args.ty c.deref.result.now
    (c.deref.ensures.value ∙ c.in_ok-push.ensures.items ∙ ap (λ z. z ++ Ty c.args.ty ∷ []) c.new-list.ensures.items)
    c.requires

pub mk_clause-requires : goal.mk_clause-requires
mk_clause-requires g c =
    clause_known (g.I.Interner.meaning c.args.cx.now) (g.I.Interner.meaning c.mk_args.new.self)
    (g.I.Interner.meaning c.mk_bound_vars.new.self) c.in_ok-args.ensures.grown c.in_ok-bound_vars.ensures.grown
    c.args.ranked c.args.ty c.in_ok-args.args c.in_ok-bound_vars.bound_vars c.deref.result.now c.deref-2.result.now
    (c.deref.ensures.value ∙ c.in_ok-push.ensures.items ∙ ap (λ z. z ++ Ty c.args.ty ∷ []) c.new-list.ensures.items)
    (c.deref-2.ensures.value ∙ c.new-none.ensures.items) c.requires c.in_ok-args.ensures.made
    c.in_ok-bound_vars.ensures.made

pub returns-clause-made : goal.returns-clause-made
returns-clause-made g c =
    clause_result (g.I.Interner.meaning c.args.cx.now) (g.I.Interner.meaning c.mk_args.new.self)
    (g.I.Interner.meaning c.mk_bound_vars.new.self) c.in_ok-args.ensures.grown c.in_ok-bound_vars.ensures.grown
    c.args.ranked c.args.ty c.in_ok-args.args c.in_ok-bound_vars.bound_vars c.deref.result.now c.deref-2.result.now
    (c.deref.ensures.value ∙ c.in_ok-push.ensures.items ∙ ap (λ z. z ++ Ty c.args.ty ∷ []) c.new-list.ensures.items)
    (c.deref-2.ensures.value ∙ c.new-none.ensures.items) c.requires c.in_ok-args.ensures.made
    c.in_ok-bound_vars.ensures.made (g.I.Interner.meaning c.mk_clause.new.self) c.mk_clause.result
    c.mk_clause.ensures.made
