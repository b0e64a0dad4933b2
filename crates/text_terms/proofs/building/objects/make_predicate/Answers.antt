use Rattle.std.proofs.Common.{Some, refl, sym, ap, ap₂, ◌∙◌, subst, map, IsTrue, slice_range}
use Rattle.relation_terms.specs.Heads.{existential_trait, existential_projection, existential_auto, atom}
use Rattle.relation_terms.specs.Trees.{cons, known, list_tree}
use Rattle.relation_terms.specs.Meaning.{under, arg_tree, bound_kinds}
use Rattle.text_terms.specs.Terms.{text_term_tree}
use Rattle.text_terms.specs.Built.{inner_tree}
use Rattle.text_terms.proofs.BuildingLemmas.{known_list, built_list, made_from, head_is, leaf_is}
use Rattle.text_terms.proofs.building.objects.make_predicate.Goals as goal

pub make_implements-requires : goal.make_implements-requires
make_implements-requires g c =
    let m = g.I.Interner.meaning c.args.cx.now in
    subst (λ u. IsTrue (known u)) (sym (ap (list_tree (arg_tree m)) c.deref-in-Implements.ensures.value))
    (known_list (arg_tree m) c.args.built.now c.requires (slice_range c.args.numbers.now (c.in-Implements.args).first (c.in-Implements.args).behind) c.in_ok-args-in-Implements.args.items c.in_ok-args-in-Implements.ensures)

pub make_projects-requires-clause-args : goal.make_projects-requires-clause-args
make_projects-requires-clause-args g c =
    let m = g.I.Interner.meaning c.args.cx.now in
    subst (λ u. IsTrue (known u)) (sym (ap (list_tree (arg_tree m)) c.deref-in-Projects-2.ensures.value))
    (known_list (arg_tree m) c.args.built.now c.requires (slice_range c.args.numbers.now (c.in-Projects.args).first (c.in-Projects.args).behind) c.in_ok-args-in-Projects.args.items c.in_ok-args-in-Projects.ensures)

pub make_projects-requires-clause-key : goal.make_projects-requires-clause-key
make_projects-requires-clause-key g c = c.requires c.in-Projects.key c.in_ok-key-in-Projects.key c.in_ok-key-in-Projects.ensures

pub make_under-requires : goal.make_under-requires
make_under-requires g c = refl

pub returns-in_ok-args-in-Implements-clause-made : goal.returns-in_ok-args-in-Implements-clause-made
returns-in_ok-args-in-Implements-clause-made g c names =
    let m = g.I.Interner.meaning c.args.cx.now in
    made_from m c.args.built.now (λ ts. text_term_tree (map m.id c.args.ids.now) names c.args.numbers.now ts c.args.term)
    (inner_tree (g.I.Interner.meaning c.make_implements.new.cx)) _ c.make_implements.result c.make_implements.ensures.made
    (λ trees b. ap₂ under (ap (λ vs. Some (bound_kinds m vs)) c.deref.ensures.value ∙ sym (c.in_ok-variables-in-Implements.ensures trees b))
    (head_is existential_trait m.id c.args.ids.now c.in-Implements.item c.in_ok-id-in-Implements.id _ _ c.in_ok-id-in-Implements.ensures
    (ap (list_tree (arg_tree m)) c.deref-in-Implements.ensures.value
    ∙ built_list (arg_tree m) c.args.built.now trees b (slice_range c.args.numbers.now (c.in-Implements.args).first (c.in-Implements.args).behind) c.in_ok-args-in-Implements.args.items c.in_ok-args-in-Implements.ensures))
    ∙ sym (ap (text_term_tree (map m.id c.args.ids.now) names c.args.numbers.now trees) c.in-Implements.is))

pub returns-in_ok-key-in-Projects-clause-made : goal.returns-in_ok-key-in-Projects-clause-made
returns-in_ok-key-in-Projects-clause-made g c names =
    let m = g.I.Interner.meaning c.args.cx.now in
    made_from m c.args.built.now (λ ts. text_term_tree (map m.id c.args.ids.now) names c.args.numbers.now ts c.args.term)
    (inner_tree (g.I.Interner.meaning c.make_projects.new.cx)) _ c.make_projects.result c.make_projects.ensures.made
    (λ trees b. ap₂ under (ap (λ vs. Some (bound_kinds m vs)) c.deref-in-Projects.ensures.value ∙ sym (c.in_ok-variables-in-Projects.ensures trees b))
    (head_is existential_projection m.id c.args.ids.now c.in-Projects.item c.in_ok-id-in-Projects.id _ _ c.in_ok-id-in-Projects.ensures
    (ap₂ cons (b c.in-Projects.key c.in_ok-key-in-Projects.key c.in_ok-key-in-Projects.ensures)
    (ap (list_tree (arg_tree m)) c.deref-in-Projects-2.ensures.value
    ∙ built_list (arg_tree m) c.args.built.now trees b (slice_range c.args.numbers.now (c.in-Projects.args).first (c.in-Projects.args).behind) c.in_ok-args-in-Projects.args.items c.in_ok-args-in-Projects.ensures)))
    ∙ sym (ap (text_term_tree (map m.id c.args.ids.now) names c.args.numbers.now trees) c.in-Projects.is))

pub returns-in_ok-id-in-IsAuto-clause-made : goal.returns-in_ok-id-in-IsAuto-clause-made
returns-in_ok-id-in-IsAuto-clause-made g c names =
    let m = g.I.Interner.meaning c.args.cx.now in
    made_from m c.args.built.now (λ ts. text_term_tree (map m.id c.args.ids.now) names c.args.numbers.now ts c.args.term)
    (inner_tree (g.I.Interner.meaning c.make_under.new.cx)) _ c.make_under.result c.make_under.ensures.made
    (λ trees b. ap₂ under (ap (λ vs. Some (bound_kinds m vs)) c.deref-in-IsAuto.ensures.value ∙ sym (c.in_ok-variables-in-IsAuto.ensures trees b))
    (leaf_is (λ x. atom (existential_auto x)) m.id c.args.ids.now c.in-IsAuto.item c.in_ok-id-in-IsAuto.id c.in_ok-id-in-IsAuto.ensures)
    ∙ sym (ap (text_term_tree (map m.id c.args.ids.now) names c.args.numbers.now trees) c.in-IsAuto.is))
