use Rattle.std.proofs.Common.{◌∙◌, ◌≡◌, true, IsTrue, sym, ap, subst}
use Rattle.std.proofs.lemmas.Bool.{and_parts}
use Rattle.relation_terms.specs.Heads.{value_type}
use Rattle.relation_terms.specs.Trees.{known, list_tree, node, cons, nil}
use Rattle.relation_terms.specs.Parts.{Fit, part_tree, part_sort, parts_of, over}
use Rattle.relation_terms.proofs.Stays.{stays_same}
use Rattle.relation_terms.proofs.Members.{fit_none, over_none, region_alone, type_term}
use Rattle.relation_terms.proofs.Parts.{fit_one, fit_one_some, over_known, body_got, body_sort_known}
use Rattle.relation_terms.proofs.Binders.{under_known, under_parts, under_over}
use Rattle.relation_terms.specs.Interning.{Sorted}
use Rattle.relation_terms.specs.Meaning.{under}
use Rattle.relation_terms.specs.Parts.{body_tree, body_sort}
use Rattle.relation_terms.specs.declared.terms.part_kind.Part.TheVariants.{Binder}
use Rattle.relation_terms.specs.Heads.{binder_sort}
use Rattle.relation_terms.proofs.terms.parts.whole.with_parts.Goals as goal

pub returns-in-ValueType : goal.returns-in-ValueType
returns-in-ValueType g c =
    let m = g.I.Interner.meaning c.args.cx.now in
    let xs = c.args.parts.now in
    let us = list_tree (part_tree m) xs in
    let t = part_tree m c.args.term.now in
    let f = subst (λ p. Fit xs (parts_of (part_tree m p))) c.in-ValueType.is c.requires.fits in
    let x = c.index-parts-0.result in
    let o = fit_one m (part_tree m) xs (m.ty c.in-ValueType.field-0) x x f c.index-parts-0.is in
    let w = node value_type (cons (m.ty c.expect_ty.result) nil) in
    let e : w ≡ over t us = ap (λ p. node value_type (cons (part_tree m p) nil)) c.expect_ty.ensures
    ∙ ap (node value_type) o.0 ∙ ap (λ p. over (part_tree m p) us) (sym c.in-ValueType.is) in
    record {
      grown = stays_same m;
      sure = over_known t us w e c.requires.term_known c.requires.parts_known;
      made = e;
      sort = ap part_sort (sym c.in-ValueType.is);
    }

pub expect_ty-requires : goal.expect_ty-requires
expect_ty-requires g c =
    let m = g.I.Interner.meaning c.args.cx.now in
    let xs = c.args.parts.now in
    let ty = c.in-ValueType.field-0 in
    let f = subst (λ p. Fit xs (parts_of (part_tree m p))) c.in-ValueType.is c.requires.fits in
    let k : IsTrue (known (node value_type (cons (m.ty ty) nil))) =
    subst (λ p. IsTrue (known (part_tree m p))) c.in-ValueType.is c.requires.term_known in
    let x = c.index-parts-0.result in
    (fit_one m (part_tree m) xs (m.ty ty) x x f c.index-parts-0.is).1
    ∙ type_term (m.ty ty) ((g.met.I.Interner.sorted c.args.cx.now).ty ty (and_parts (known (m.ty ty)) true k).0)

pub returns-in-Region-clause-made : goal.returns-in-Region-clause-made
returns-in-Region-clause-made g c =
    let m = g.I.Interner.meaning c.args.cx.now in
    let xs = c.args.parts.now in
    let r = c.in-Region.field-0 in
    let t = part_tree m c.args.term.now in
    let k = subst (λ p. IsTrue (known (part_tree m p))) c.in-Region.is c.requires.term_known in
    let e : parts_of t ≡ nil =
    ap (λ p. parts_of (part_tree m p)) c.in-Region.is
    ∙ region_alone (m.region r) ((g.met.I.Interner.sorted c.args.cx.now).region r k) in
    sym (over_none t (list_tree (part_tree m) xs) e (fit_none (part_tree m) xs (subst (Fit xs) e c.requires.fits)))

pub bounds-parts-0-in-Binder : goal.bounds-parts-0-in-Binder
bounds-parts-0-in-Binder g c =
    let m = g.I.Interner.meaning c.args.cx.now in
    let xs = c.args.parts.now in
    let o = m.bound_vars c.in-Binder.vars in
    let t = body_tree m c.in-Binder.body in
    let k = subst (λ p. IsTrue (known (part_tree m p))) c.in-Binder.is c.requires.term_known in
    let e : parts_of (part_tree m c.args.term.now) ≡ cons t nil =
    ap (λ p. parts_of (part_tree m p)) c.in-Binder.is ∙ under_parts o t k in
    fit_one_some m xs t (subst (Fit xs) e c.requires.fits)

pub returns-in-Binder : goal.returns-in-Binder
returns-in-Binder g c =
    let m = g.I.Interner.meaning c.args.cx.now in
    let s : Sorted m = g.met.I.Interner.sorted c.args.cx.now in
    let xs = c.args.parts.now in
    let us = list_tree (part_tree m) xs in
    let b = c.in-Binder.body in
    let o = m.bound_vars c.in-Binder.vars in
    let t = body_tree m b in
    let k = subst (λ p. IsTrue (known (part_tree m p))) c.in-Binder.is c.requires.term_known in
    let e : parts_of (part_tree m c.args.term.now) ≡ cons t nil =
    ap (λ p. parts_of (part_tree m p)) c.in-Binder.is ∙ under_parts o t k in
    let x = c.index-parts-0-in-Binder.result in
    let one = fit_one m (part_tree m) xs t x x (subst (Fit xs) e c.requires.fits) c.index-parts-0-in-Binder.is in
    let got = body_got m x b (one.1 ∙ body_sort_known m s b (under_known o t k).1) in
    let new = Binder c.in-Binder.vars c.body_or.result in
    let r : part_tree m new ≡ over (part_tree m c.args.term.now) us =
    ap (λ z. under o (body_tree m z)) c.body_or.ensures ∙ ap (under o) got.0 ∙ sym (under_over o t (part_tree m x) k)
    ∙ ap (over (under o t)) one.0 ∙ ap (λ p. over (part_tree m p) us) (sym c.in-Binder.is) in
    record {
      grown = stays_same m;
      sure = over_known (part_tree m c.args.term.now) us (part_tree m new) r c.requires.term_known c.requires.parts_known;
      made = r;
      sort = ap (λ z. binder_sort (body_sort z)) c.body_or.ensures ∙ ap binder_sort got.1
          ∙ ap part_sort (sym c.in-Binder.is);
    }
