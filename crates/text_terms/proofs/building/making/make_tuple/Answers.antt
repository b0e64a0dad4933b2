use Rattle.std.proofs.Common.{sym, ap, ◌∙◌, subst, IsTrue}
use Rattle.relation_terms.specs.Heads.{tuple}
use Rattle.relation_terms.specs.Trees.{node, known, list_tree}
use Rattle.relation_terms.specs.Meaning.{arg_tree}
use Rattle.relation_terms.proofs.Stays.{extends_on}
use Rattle.text_terms.proofs.BuildingLemmas.{tys_tree, tree_as}
use Rattle.text_terms.proofs.building.making.make_tuple.Goals as goal

pub mk_type_list-requires : goal.mk_type_list-requires
mk_type_list-requires g c =
    let m = g.I.Interner.meaning c.args.cx.now in
    subst (λ u. IsTrue (known u))
    (sym (ap (list_tree (arg_tree m)) c.in_ok-tys.ensures) ∙ (tys_tree m c.in_ok-tys.tys.items
    ∙ sym (ap (list_tree m.ty) c.deref.ensures.value)))
    c.requires

pub returns-clause-grown : goal.returns-clause-grown
returns-clause-grown g c = extends_on c.mk_type_list.ensures.grown c.make_ty.ensures.grown

pub returns-clause-made : goal.returns-clause-made
returns-clause-made g c =
    let m = g.I.Interner.meaning c.args.cx.now in
    tree_as (g.I.Interner.meaning c.make_ty.new.cx) _ _ c.make_ty.result
    (ap (node tuple) (c.in-Ok.ensures.made ∙ (ap (list_tree m.ty) c.deref.ensures.value
    ∙ (sym (tys_tree m c.in_ok-tys.tys.items) ∙ ap (list_tree (arg_tree m)) c.in_ok-tys.ensures))))
    c.make_ty.ensures.made
