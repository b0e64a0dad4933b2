use Rattle.std.proofs.Common.{sym, ap, ap₂, ◌∙◌, subst, IsTrue, slice_range}
use Rattle.relation_terms.specs.Trees.{known, list_tree}
use Rattle.relation_terms.specs.Meaning.{arg_tree}
use Rattle.relation_terms.specs.declared.terms.generic_arg.GenericArgKind.TheVariants.{Lifetime}
use Rattle.text_terms.specs.Terms.{text_term_tree, object_tree}
use Rattle.text_terms.specs.Built.{inner_tree}
use Rattle.text_terms.proofs.BuildingLemmas.{known_list, built_list, made_of}
use Rattle.text_terms.proofs.building.objects.make_object.Goals as goal

pub make_dynamic-requires-clause-inners : goal.make_dynamic-requires-clause-inners
make_dynamic-requires-clause-inners g c =
    let m = g.I.Interner.meaning c.args.cx.now in
    subst (λ u. IsTrue (known u)) (sym (ap (list_tree (inner_tree m)) c.deref.ensures.value))
    (known_list (inner_tree m) c.args.inners.now c.requires.inners (slice_range c.args.numbers.now (c.in-Object.parts).first (c.in-Object.parts).behind) c.in_ok-list-in-Object.list.items c.in_ok-list-in-Object.ensures)

pub make_dynamic-requires-clause-region : goal.make_dynamic-requires-clause-region
make_dynamic-requires-clause-region g c = c.requires.keys c.in-Object.region (Lifetime c.in_ok-region-in-Object.region) c.in_ok-region-in-Object.ensures

pub returns-in_ok-region-in-Object-clause-made : goal.returns-in_ok-region-in-Object-clause-made
returns-in_ok-region-in-Object-clause-made g c items names =
    let m = g.I.Interner.meaning c.args.cx.now in
    made_of m c.args.built.now c.args.inners.now (λ ts. text_term_tree items names c.args.numbers.now ts c.args.term) (arg_tree (g.I.Interner.meaning c.make_dynamic.new.cx))
    (object_tree (list_tree (inner_tree m) c.deref.result.now) (m.region c.in_ok-region-in-Object.region)) c.make_dynamic.result c.make_dynamic.ensures.made
    (λ trees b p. ap₂ object_tree (ap (list_tree (inner_tree m)) c.deref.ensures.value
    ∙ built_list (inner_tree m) c.args.inners.now trees p (slice_range c.args.numbers.now (c.in-Object.parts).first (c.in-Object.parts).behind) c.in_ok-list-in-Object.list.items c.in_ok-list-in-Object.ensures)
    (b c.in-Object.region (Lifetime c.in_ok-region-in-Object.region) c.in_ok-region-in-Object.ensures)
    ∙ sym (ap (text_term_tree items names c.args.numbers.now trees) c.in-Object.is))
