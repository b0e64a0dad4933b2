use Rattle.std.proofs.Common.{Some, sym, ap, ap₂, ◌∙◌, subst, map, IsTrue, slice_range}
use Rattle.relation_terms.specs.Heads.{projection, alias_term}
use Rattle.relation_terms.specs.Trees.{node, cons, nil, known, list_tree}
use Rattle.relation_terms.specs.Meaning.{arg_tree, term_tree}
use Rattle.relation_terms.specs.Predicates.{alias_term_kind, alias_term_id}
use Rattle.relation_terms.proofs.Stays.{stays_arg}
use Rattle.relation_folds.proofs.FieldFolding.{both_known}
use Rattle.text_terms.proofs.BuildingLemmas.{known_list, built_list, term_is}
use Rattle.text_clauses.specs.Clauses.{declared_tree, says_tree}
use Rattle.text_clauses.proofs.ClauseLemmas.{declared_is}
use Rattle.text_clauses.proofs.building.kinds.make_projection.Goals as goal

pub mk_args-requires : goal.mk_args-requires
mk_args-requires g c =
    let m = g.I.Interner.meaning c.args.cx.now in
    subst (λ u. IsTrue (known u)) (sym (ap (list_tree (arg_tree m)) c.deref.ensures.value))
    (known_list (arg_tree m) c.args.built.now c.requires
    (slice_range c.args.numbers.now (c.in-ComesTo.args).first (c.in-ComesTo.args).behind)
    c.in_ok-keys-in-ComesTo.keys.items c.in_ok-keys-in-ComesTo.ensures)

pub returns-in-Ok-clause-made : goal.returns-in-Ok-clause-made
returns-in-Ok-clause-made g c names =
    let m = g.I.Interner.meaning c.args.cx.now in
    let n = g.I.Interner.meaning c.mk_args.new.self in
    let e = c.mk_args.ensures.grown in
    let id = c.in_ok-id-in-ComesTo.id in
    let kind = c.in_ok-kind-in-ComesTo.kind in
    let key = c.in_ok-key-in-ComesTo.key in
    let term = c.in_ok-term-in-ComesTo.term in
    let there = c.in_ok-key-in-ComesTo.ensures in
    let args = n.args c.in-Ok.args in
    let sure = c.requires c.in-ComesTo.key key there in
    let same = term_is n term ∙ (ap (arg_tree n) (sym c.in_ok-term-in-ComesTo.ensures) ∙ stays_arg e key sure) in
    let alias = node (alias_term (alias_term_kind kind) (n.id (alias_term_id kind))) args in (
      both_known alias (term_tree n term) c.in-Ok.ensures.sure
          (subst (λ t. IsTrue (known t)) (sym same) sure),
      λ trees b. ap₂ (λ u v. node projection (cons u (cons v nil)))
          (c.in_ok-kind-in-ComesTo.ensures n.id args
          ∙ (ap₂ (λ d ts. declared_tree c.in-ComesTo.sort (Some d) ts) (e.id id) c.in-Ok.ensures.made
          ∙ declared_is m.id c.args.ids.now c.in-ComesTo.sort c.in-ComesTo.item id _ _ c.in_ok-id-in-ComesTo.ensures
          (ap (list_tree (arg_tree m)) c.deref.ensures.value
          ∙ built_list (arg_tree m) c.args.built.now trees b
          (slice_range c.args.numbers.now (c.in-ComesTo.args).first (c.in-ComesTo.args).behind)
          c.in_ok-keys-in-ComesTo.keys.items c.in_ok-keys-in-ComesTo.ensures)))
          (same ∙ b c.in-ComesTo.key key there)
          ∙ sym (ap (says_tree (map m.id c.args.ids.now) names c.args.numbers.now trees) c.in-ComesTo.is),
    )
