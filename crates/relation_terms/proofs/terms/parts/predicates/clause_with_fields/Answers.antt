use Rattle.std.proofs.Common.{◌∙◌, IsTrue, sym, subst}
use Rattle.relation_terms.specs.Trees.{known}
use Rattle.relation_terms.specs.Fields.{fields_tree}
use Rattle.relation_terms.proofs.Fields.{clause_over_parts, known_over_under}
use Rattle.relation_terms.proofs.Members.{if_ok}
use Rattle.relation_terms.specs.Interning.{Sorted}
use Rattle.relation_terms.proofs.terms.parts.predicates.clause_with_fields.Goals as goal

pub mk_clause-requires : goal.mk_clause-requires
mk_clause-requires g c =
    let m = g.I.Interner.meaning c.args.cx.now in
    let s : Sorted m = g.met.I.Interner.sorted c.args.cx.now in
    let t = m.clause c.args.clause.now in
    let r = clause_over_parts m s c.clause_kind-value.result c.clause_over-value.result t c.args.fields.now
    c.clause_over-value.ensures c.clause_kind-value.ensures c.requires.clause_known c.requires.fits in
    subst (λ x. IsTrue (known x)) (sym r)
    (known_over_under t (fields_tree m c.args.fields.now) c.requires.clause_known c.requires.fields_known)

pub returns : goal.returns
returns g c =
    let m = g.I.Interner.meaning c.args.cx.now in
    let s : Sorted m = g.met.I.Interner.sorted c.args.cx.now in
    let t = m.clause c.args.clause.now in
    let r = clause_over_parts m s c.clause_kind-value.result c.clause_over-value.result t c.args.fields.now
    c.clause_over-value.ensures c.clause_kind-value.ensures c.requires.clause_known c.requires.fits in
    record {
      grown = c.mk_clause.ensures.grown;
      sure = c.mk_clause.ensures.sure;
      made = if_ok c.mk_clause.result (λ k i. i ∙ r) c.mk_clause.ensures.made;
      refused = c.mk_clause.ensures.refused;
    }
