use Rattle.std.proofs.Common.{◌∙◌, IsTrue, sym, subst}
use Rattle.relation_terms.specs.Trees.{known}
use Rattle.relation_terms.specs.Fields.{fields_tree}
use Rattle.relation_terms.proofs.Fields.{predicate_over_parts, known_over_under}
use Rattle.relation_terms.proofs.Members.{if_ok}
use Rattle.relation_terms.specs.Interning.{Sorted}
use Rattle.relation_terms.proofs.terms.parts.predicates.predicate_with_fields.Goals as goal

pub mk_predicate-requires : goal.mk_predicate-requires
mk_predicate-requires g c =
    let m = g.I.Interner.meaning c.args.cx.now in
    let s : Sorted m = g.met.I.Interner.sorted c.args.cx.now in
    let t = m.predicate c.args.predicate.now in
    let r = predicate_over_parts m s c.predicate_kind-value.result c.predicate_over-value.result t c.args.fields.now
    c.predicate_over-value.ensures c.predicate_kind-value.ensures c.requires.predicate_known c.requires.fits in
    subst (λ x. IsTrue (known x)) (sym r)
    (known_over_under t (fields_tree m c.args.fields.now) c.requires.predicate_known c.requires.fields_known)

pub returns : goal.returns
returns g c =
    let m = g.I.Interner.meaning c.args.cx.now in
    let s : Sorted m = g.met.I.Interner.sorted c.args.cx.now in
    let t = m.predicate c.args.predicate.now in
    let r = predicate_over_parts m s c.predicate_kind-value.result c.predicate_over-value.result t c.args.fields.now
    c.predicate_over-value.ensures c.predicate_kind-value.ensures c.requires.predicate_known c.requires.fits in
    record {
      grown = c.mk_predicate.ensures.grown;
      sure = c.mk_predicate.ensures.sure;
      made = if_ok c.mk_predicate.result (λ k i. i ∙ r) c.mk_predicate.ensures.made;
      refused = c.mk_predicate.ensures.refused;
    }
