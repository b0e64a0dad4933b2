use Rattle.std.proofs.Common.{map, sym, ap, ap₂, ◌∙◌, subst, IsTrue, Some, slice_range}
use Rattle.relation_terms.specs.Heads.{tuple, expression, value_branch}
use Rattle.relation_terms.specs.Trees.{node, known, list_tree}
use Rattle.relation_terms.specs.Meaning.{arg_tree}
use Rattle.relation_terms.specs.declared.terms.generic_arg.GenericArgKind.TheVariants.{Ty}
use Rattle.relation_terms.specs.Meaning.{value_tree}
use Rattle.text_terms.specs.Terms.{item_tree, text_term_tree}
use Rattle.text_terms.proofs.BuildingLemmas.{known_list, built_list, item_is, makes}
use Rattle.text_terms.proofs.building.making.make_listed.Goals as goal

pub make_item-requires : goal.make_item-requires
make_item-requires g c =
    let m = g.I.Interner.meaning c.args.cx.now in
    subst (λ u. IsTrue (known u)) (sym (ap (list_tree (arg_tree m)) c.deref.ensures.value))
    (known_list (arg_tree m) c.args.built.now c.requires (slice_range c.args.numbers.now (c.in-Item.parts).first (c.in-Item.parts).behind) c.in_ok-args-in-Item.args.items c.in_ok-args-in-Item.ensures)

pub make_tuple-requires : goal.make_tuple-requires
make_tuple-requires g c =
    let m = g.I.Interner.meaning c.args.cx.now in
    subst (λ u. IsTrue (known u)) (sym (ap (list_tree (arg_tree m)) c.deref-in-Tuple.ensures.value))
    (known_list (arg_tree m) c.args.built.now c.requires (slice_range c.args.numbers.now (c.in-Tuple.parts).first (c.in-Tuple.parts).behind) c.in_ok-members-in-Tuple.members.items c.in_ok-members-in-Tuple.ensures)

pub make_branch-requires-clause-ty_known : goal.make_branch-requires-clause-ty_known
make_branch-requires-clause-ty_known g c = c.requires c.in-Branch.ty (Ty c.in_ok-ty-in-Branch.ty) c.in_ok-ty-in-Branch.ensures

pub make_branch-requires-clause-constants_known : goal.make_branch-requires-clause-constants_known
make_branch-requires-clause-constants_known g c =
    let m = g.I.Interner.meaning c.args.cx.now in
    subst (λ u. IsTrue (known u)) (sym (ap (list_tree (arg_tree m)) c.deref-in-Branch.ensures.value))
    (known_list (arg_tree m) c.args.built.now c.requires (slice_range c.args.numbers.now (c.in-Branch.parts).first (c.in-Branch.parts).behind) c.in_ok-constants-in-Branch.constants.items c.in_ok-constants-in-Branch.ensures)

pub make_expression-requires : goal.make_expression-requires
make_expression-requires g c =
    let m = g.I.Interner.meaning c.args.cx.now in
    subst (λ u. IsTrue (known u)) (sym (ap (list_tree (arg_tree m)) c.deref-in-Expr.ensures.value))
    (known_list (arg_tree m) c.args.built.now c.requires (slice_range c.args.numbers.now (c.in-Expr.parts).first (c.in-Expr.parts).behind) c.in_ok-args-in-Expr.args.items c.in_ok-args-in-Expr.ensures)

pub returns-in_ok-args-in-Item-clause-made : goal.returns-in_ok-args-in-Item-clause-made
returns-in_ok-args-in-Item-clause-made g c names =
    let m = g.I.Interner.meaning c.args.cx.now in
    makes m (g.I.Interner.meaning c.make_item.new.cx) c.args.built.now (λ ts. text_term_tree (map m.id c.args.ids.now) names c.args.numbers.now ts c.args.term)
    (item_tree c.in-Item.sort (Some (m.id c.in_ok-id-in-Item.id)) (list_tree (arg_tree m) c.deref.result.now)) c.make_item.result c.make_item.ensures.made
    (λ trees b. item_is m.id c.args.ids.now c.in-Item.sort c.in-Item.item c.in_ok-id-in-Item.id _ _ c.in_ok-id-in-Item.ensures
    (ap (list_tree (arg_tree m)) c.deref.ensures.value
    ∙ built_list (arg_tree m) c.args.built.now trees b (slice_range c.args.numbers.now (c.in-Item.parts).first (c.in-Item.parts).behind) c.in_ok-args-in-Item.args.items c.in_ok-args-in-Item.ensures)
    ∙ sym (ap (text_term_tree (map m.id c.args.ids.now) names c.args.numbers.now trees) c.in-Item.is))

pub returns-in_ok-members-in-Tuple-clause-made : goal.returns-in_ok-members-in-Tuple-clause-made
returns-in_ok-members-in-Tuple-clause-made g c names =
    let m = g.I.Interner.meaning c.args.cx.now in
    makes m (g.I.Interner.meaning c.make_tuple.new.cx) c.args.built.now (λ ts. text_term_tree (map m.id c.args.ids.now) names c.args.numbers.now ts c.args.term)
    (node tuple (list_tree (arg_tree m) c.deref-in-Tuple.result.now)) c.make_tuple.result c.make_tuple.ensures.made
    (λ trees b. ap (node tuple) (ap (list_tree (arg_tree m)) c.deref-in-Tuple.ensures.value
    ∙ built_list (arg_tree m) c.args.built.now trees b (slice_range c.args.numbers.now (c.in-Tuple.parts).first (c.in-Tuple.parts).behind) c.in_ok-members-in-Tuple.members.items c.in_ok-members-in-Tuple.ensures)
    ∙ sym (ap (text_term_tree (map m.id c.args.ids.now) names c.args.numbers.now trees) c.in-Tuple.is))

pub returns-in_ok-constants-in-Branch-clause-made : goal.returns-in_ok-constants-in-Branch-clause-made
returns-in_ok-constants-in-Branch-clause-made g c names =
    let m = g.I.Interner.meaning c.args.cx.now in
    makes m (g.I.Interner.meaning c.make_branch.new.cx) c.args.built.now (λ ts. text_term_tree (map m.id c.args.ids.now) names c.args.numbers.now ts c.args.term)
    (value_tree (m.ty c.in_ok-ty-in-Branch.ty) (node value_branch (list_tree (arg_tree m) c.deref-in-Branch.result.now))) c.make_branch.result c.make_branch.ensures.made
    (λ trees b. ap₂ (λ x y. value_tree x (node value_branch y)) (b c.in-Branch.ty (Ty c.in_ok-ty-in-Branch.ty) c.in_ok-ty-in-Branch.ensures)
    (ap (list_tree (arg_tree m)) c.deref-in-Branch.ensures.value
    ∙ built_list (arg_tree m) c.args.built.now trees b (slice_range c.args.numbers.now (c.in-Branch.parts).first (c.in-Branch.parts).behind) c.in_ok-constants-in-Branch.constants.items c.in_ok-constants-in-Branch.ensures)
    ∙ sym (ap (text_term_tree (map m.id c.args.ids.now) names c.args.numbers.now trees) c.in-Branch.is))

pub returns-in_ok-args-in-Expr-clause-made : goal.returns-in_ok-args-in-Expr-clause-made
returns-in_ok-args-in-Expr-clause-made g c names =
    let m = g.I.Interner.meaning c.args.cx.now in
    makes m (g.I.Interner.meaning c.make_expression.new.cx) c.args.built.now (λ ts. text_term_tree (map m.id c.args.ids.now) names c.args.numbers.now ts c.args.term)
    (node (expression c.in-Expr.kind) (list_tree (arg_tree m) c.deref-in-Expr.result.now)) c.make_expression.result c.make_expression.ensures.made
    (λ trees b. ap (node (expression c.in-Expr.kind)) (ap (list_tree (arg_tree m)) c.deref-in-Expr.ensures.value
    ∙ built_list (arg_tree m) c.args.built.now trees b (slice_range c.args.numbers.now (c.in-Expr.parts).first (c.in-Expr.parts).behind) c.in_ok-args-in-Expr.args.items c.in_ok-args-in-Expr.ensures)
    ∙ sym (ap (text_term_tree (map m.id c.args.ids.now) names c.args.numbers.now trees) c.in-Expr.is))
