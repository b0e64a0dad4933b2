use Rattle.std.proofs.Common.{sym, ap, ap₂, ◌∙◌, subst, IsTrue, slice_range}
use Rattle.relation_terms.specs.Heads.{range_pattern, or_pattern}
use Rattle.relation_terms.specs.Trees.{node, nil, cons, known, list_tree}
use Rattle.relation_terms.specs.declared.terms.generic_arg.GenericArgKind.TheVariants.{Const}
use Rattle.text_terms.specs.Terms.{text_term_tree}
use Rattle.text_terms.specs.Built.{inner_tree}
use Rattle.relation_folds.proofs.FieldFolding.{both_known}
use Rattle.text_terms.proofs.BuildingLemmas.{known_list, built_list, made_of}
use Rattle.text_terms.proofs.building.patterns.make_pattern.Goals as goal

pub make_pat-requires : goal.make_pat-requires
make_pat-requires g c =
    let m = g.I.Interner.meaning c.args.cx.now in
    both_known (m.const_ c.in_ok-start-in-Range.start) (m.const_ c.in_ok-end-in-Range.end)
    (c.requires.keys c.in-Range.start (Const c.in_ok-start-in-Range.start) c.in_ok-start-in-Range.ensures)
    (c.requires.keys c.in-Range.end (Const c.in_ok-end-in-Range.end) c.in_ok-end-in-Range.ensures)

pub make_alternatives-requires : goal.make_alternatives-requires
make_alternatives-requires g c =
    let m = g.I.Interner.meaning c.args.cx.now in
    subst (λ u. IsTrue (known u)) (sym (ap (list_tree (inner_tree m)) c.deref.ensures.value))
    (known_list (inner_tree m) c.args.inners.now c.requires.inners (slice_range c.args.numbers.now (c.in-Or.parts).first (c.in-Or.parts).behind) c.in_ok-list-in-Or.list.items c.in_ok-list-in-Or.ensures)

pub returns-in_ok-end-in-Range-clause-made : goal.returns-in_ok-end-in-Range-clause-made
returns-in_ok-end-in-Range-clause-made g c items names =
    let m = g.I.Interner.meaning c.args.cx.now in
    made_of m c.args.built.now c.args.inners.now (λ ts. text_term_tree items names c.args.numbers.now ts c.args.term) (inner_tree (g.I.Interner.meaning c.make_pat.new.cx)) _ c.make_pat.result
    c.make_pat.ensures.made
    (λ trees b p. ap₂ (λ y z. node range_pattern (cons y (cons z nil))) (b c.in-Range.start (Const c.in_ok-start-in-Range.start) c.in_ok-start-in-Range.ensures)
    (b c.in-Range.end (Const c.in_ok-end-in-Range.end) c.in_ok-end-in-Range.ensures) ∙ sym (ap (text_term_tree items names c.args.numbers.now trees) c.in-Range.is))

pub returns-in_ok-list-in-Or-clause-made : goal.returns-in_ok-list-in-Or-clause-made
returns-in_ok-list-in-Or-clause-made g c items names =
    let m = g.I.Interner.meaning c.args.cx.now in
    made_of m c.args.built.now c.args.inners.now (λ ts. text_term_tree items names c.args.numbers.now ts c.args.term) (inner_tree (g.I.Interner.meaning c.make_alternatives.new.cx))
    (node or_pattern (list_tree (inner_tree m) c.deref.result.now)) c.make_alternatives.result c.make_alternatives.ensures.made
    (λ trees b p. ap (node or_pattern) (ap (list_tree (inner_tree m)) c.deref.ensures.value
    ∙ built_list (inner_tree m) c.args.inners.now trees p (slice_range c.args.numbers.now (c.in-Or.parts).first (c.in-Or.parts).behind) c.in_ok-list-in-Or.list.items c.in_ok-list-in-Or.ensures)
    ∙ sym (ap (text_term_tree items names c.args.numbers.now trees) c.in-Or.is))

pub returns-in-NotNull-clause-made : goal.returns-in-NotNull-clause-made
returns-in-NotNull-clause-made g c items names =
    let m = g.I.Interner.meaning c.args.cx.now in
    made_of m c.args.built.now c.args.inners.now (λ ts. text_term_tree items names c.args.numbers.now ts c.args.term) (inner_tree (g.I.Interner.meaning c.make_pat-in-NotNull.new.cx)) _ c.make_pat-in-NotNull.result
    c.make_pat-in-NotNull.ensures.made
    (λ trees b p. sym (ap (text_term_tree items names c.args.numbers.now trees) c.in-NotNull.is))
