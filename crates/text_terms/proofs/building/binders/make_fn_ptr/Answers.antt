use Rattle.std.proofs.Common.{◌≡◌, ◌==◌, sym, ap, ap₂, ◌∙◌, subst, refl, IsTrue, IsSome, Some, false, length}
use Rattle.std.proofs.lemmas.Bool.{false≢true}
use Rattle.relation_terms.specs.Trees.{known, list_tree, front}
use Rattle.relation_terms.specs.Meaning.{arg_tree}
use Rattle.relation_terms.proofs.Stays.{extends_on}
use Rattle.text_terms.specs.Terms.{fn_ptr_tree}
use Rattle.text_terms.proofs.BuildingLemmas.{tys_tree, tree_as, inputs_known, signature_known, kinds_stay}
use Rattle.text_terms.proofs.building.binders.make_fn_ptr.Goals as goal

pub mk_type_list-requires : goal.mk_type_list-requires
mk_type_list-requires g c =
    let m = g.I.Interner.meaning c.args.cx.now in
    subst (λ u. IsTrue (known u))
    (sym (ap (list_tree (arg_tree m)) c.in_ok-tys.ensures) ∙ (tys_tree m c.in_ok-tys.tys.items
    ∙ sym (ap (list_tree m.ty) c.deref.ensures.value)))
    c.requires

pub make_ty-requires : goal.make_ty-requires
make_ty-requires g c =
    let m = g.I.Interner.meaning c.args.cx.now in
    let p = g.I.Interner.meaning c.mk_bound_vars.new.self in
    let types = list_tree (arg_tree m) c.args.types.now in
    let list = p.tys c.in-Ok.inputs_and_output in
    let same : list ≡ types = c.mk_bound_vars.ensures.grown.tys c.in-Ok.inputs_and_output c.in-Ok.ensures.sure
    ∙ (c.in-Ok.ensures.made ∙ (ap (list_tree m.ty) c.deref.ensures.value
    ∙ (sym (tys_tree m c.in_ok-tys.tys.items) ∙ ap (list_tree (arg_tree m)) c.in_ok-tys.ensures))) in
    let inputs = inputs_known (arg_tree m) c.args.types.now
    (λ e. false≢true (sym (subst (λ xs. (length xs == 0) ≡ false) e (sym c.if-is_empty.ensures)))) c.requires in
    signature_known (p.bound_vars c.in-Ok-mk_bound_vars.bound_vars) c.args.header list
    (subst (λ o. IsSome o) (sym c.in-Ok-mk_bound_vars.ensures.made) refl)
    (subst (λ t. IsTrue (known (front t))) (sym same) inputs)

pub returns-clause-grown : goal.returns-clause-grown
returns-clause-grown g c =
    extends_on c.mk_type_list.ensures.grown (extends_on c.mk_bound_vars.ensures.grown c.make_ty.ensures.grown)

pub returns-clause-made : goal.returns-clause-made
returns-clause-made g c =
    let m = g.I.Interner.meaning c.args.cx.now in
    let same = c.mk_bound_vars.ensures.grown.tys c.in-Ok.inputs_and_output c.in-Ok.ensures.sure
    ∙ (c.in-Ok.ensures.made ∙ (ap (list_tree m.ty) c.deref.ensures.value
    ∙ (sym (tys_tree m c.in_ok-tys.tys.items) ∙ ap (list_tree (arg_tree m)) c.in_ok-tys.ensures))) in
    let kinds = c.in-Ok-mk_bound_vars.ensures.made
    ∙ ap (λ ks. Some ks) (kinds_stay c.mk_type_list.ensures.grown c.args.variables.now) in
    tree_as (g.I.Interner.meaning c.make_ty.new.cx) _ _ c.make_ty.result (ap₂ (fn_ptr_tree c.args.header) kinds same)
    c.make_ty.ensures.made
