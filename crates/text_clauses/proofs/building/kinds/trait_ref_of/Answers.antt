use Rattle.std.proofs.Common.{sym, ap, ap₂, ◌∙◌, subst, IsTrue, slice_range}
use Rattle.relation_terms.specs.Heads.{trait_ref}
use Rattle.relation_terms.specs.Trees.{node, known, list_tree}
use Rattle.relation_terms.specs.Meaning.{arg_tree}
use Rattle.text_terms.proofs.BuildingLemmas.{known_list, built_list, head_is}
use Rattle.text_clauses.proofs.building.kinds.trait_ref_of.Goals as goal

pub mk_args-requires : goal.mk_args-requires
mk_args-requires g c =
    let m = g.I.Interner.meaning c.args.cx.now in
    subst (λ u. IsTrue (known u)) (sym (ap (list_tree (arg_tree m)) c.deref.ensures.value))
    (known_list (arg_tree m) c.args.built.now c.requires
    (slice_range c.args.numbers.now c.args.args.first c.args.args.behind) c.in_ok-keys.keys.items
    c.in_ok-keys.ensures)

pub returns-clause-made : goal.returns-clause-made
returns-clause-made g c =
    let m = g.I.Interner.meaning c.args.cx.now in
    let e = c.mk_args.ensures.grown in (
      c.in-Ok.ensures.sure,
      λ trees b. ap₂ (λ d ts. node (trait_ref d) ts) (e.id c.in_ok-id.id) c.in-Ok.ensures.made
          ∙ head_is trait_ref m.id c.args.ids.now c.args.item c.in_ok-id.id _ _ c.in_ok-id.ensures
          (ap (list_tree (arg_tree m)) c.deref.ensures.value
          ∙ built_list (arg_tree m) c.args.built.now trees b
          (slice_range c.args.numbers.now c.args.args.first c.args.args.behind) c.in_ok-keys.keys.items
          c.in_ok-keys.ensures),
    )
