use Rattle.std.proofs.Common.{sym, ap, ap₂, ◌∙◌, subst, IsTrue}
use Rattle.relation_terms.specs.Heads.{value_branch}
use Rattle.relation_terms.specs.Trees.{node, known, list_tree}
use Rattle.relation_terms.specs.Meaning.{arg_tree}
use Rattle.relation_terms.proofs.Stays.{extends_on}
use Rattle.relation_terms.specs.Meaning.{value_tree}
use Rattle.text_terms.proofs.BuildingLemmas.{consts_tree, tree_as}
use Rattle.text_terms.proofs.building.making.make_branch.Goals as goal

pub mk_branches-requires : goal.mk_branches-requires
mk_branches-requires g c =
    let m = g.I.Interner.meaning c.args.cx.now in
    subst (λ u. IsTrue (known u))
    (sym (ap (list_tree (arg_tree m)) c.in_ok-constants.ensures) ∙ (consts_tree m c.in_ok-constants.constants.items
    ∙ sym (ap (list_tree m.const_) c.deref.ensures.value)))
    c.requires.constants_known

pub returns-clause-grown : goal.returns-clause-grown
returns-clause-grown g c = extends_on c.mk_branches.ensures.grown c.make_value.ensures.grown

pub returns-clause-made : goal.returns-clause-made
returns-clause-made g c =
    let m = g.I.Interner.meaning c.args.cx.now in
    tree_as (g.I.Interner.meaning c.make_value.new.cx) _ _ c.make_value.result
    (ap₂ (λ t v. value_tree t (node value_branch v)) (c.mk_branches.ensures.grown.ty c.args.ty c.requires.ty_known)
    (c.in-Ok.ensures.made ∙ (ap (list_tree m.const_) c.deref.ensures.value
    ∙ (sym (consts_tree m c.in_ok-constants.constants.items) ∙ ap (list_tree (arg_tree m)) c.in_ok-constants.ensures))))
    c.make_value.ensures.made
