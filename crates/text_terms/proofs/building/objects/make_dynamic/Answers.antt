use Rattle.std.proofs.Common.{sym, ap, ap₂, ◌∙◌, subst, IsTrue}
use Rattle.relation_terms.specs.Trees.{known, list_tree}
use Rattle.relation_terms.specs.Meaning.{object_predicate_tree}
use Rattle.relation_terms.proofs.Stays.{extends_on, knows_region}
use Rattle.text_terms.specs.Terms.{object_tree}
use Rattle.text_terms.specs.Built.{inner_tree}
use Rattle.relation_folds.proofs.FieldFolding.{both_known}
use Rattle.text_terms.proofs.BuildingLemmas.{predicates_tree, tree_as}
use Rattle.text_terms.proofs.building.objects.make_dynamic.Goals as goal

pub mk_existential_predicates-requires : goal.mk_existential_predicates-requires
mk_existential_predicates-requires g c =
    let m = g.I.Interner.meaning c.args.cx.now in
    subst (λ u. IsTrue (known u))
    (sym (ap (list_tree (inner_tree m)) c.in_ok-list.ensures) ∙ (predicates_tree m c.in_ok-list.list.items
    ∙ sym (ap (list_tree (object_predicate_tree m)) c.deref.ensures.value)))
    c.requires.inners

pub make_ty-requires : goal.make_ty-requires
make_ty-requires g c =
    let p = g.I.Interner.meaning c.mk_existential_predicates.new.self in
    both_known (p.existential_predicates c.in-Ok.predicates) (p.region c.args.region) c.in-Ok.ensures.sure
    (knows_region c.mk_existential_predicates.ensures.grown c.args.region c.requires.region)

pub returns-clause-grown : goal.returns-clause-grown
returns-clause-grown g c = extends_on c.mk_existential_predicates.ensures.grown c.make_ty.ensures.grown

pub returns-clause-made : goal.returns-clause-made
returns-clause-made g c =
    let m = g.I.Interner.meaning c.args.cx.now in
    tree_as (g.I.Interner.meaning c.make_ty.new.cx) _ _ c.make_ty.result
    (ap₂ object_tree (c.in-Ok.ensures.made ∙ (ap (list_tree (object_predicate_tree m)) c.deref.ensures.value
    ∙ (sym (predicates_tree m c.in_ok-list.list.items) ∙ ap (list_tree (inner_tree m)) c.in_ok-list.ensures)))
    (c.mk_existential_predicates.ensures.grown.region c.args.region c.requires.region))
    c.make_ty.ensures.made
