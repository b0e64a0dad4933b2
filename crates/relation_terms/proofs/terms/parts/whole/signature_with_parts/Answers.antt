use Rattle.std.proofs.Common.{◌∙◌, ◌≡◌, IsTrue, true, ◌&&◌, get_or, refl, sym, ap, ap₂, subst}
use Rattle.std.proofs.lemmas.Bool.{and_parts}
use Rattle.relation_terms.specs.Heads.{inputs, type_sort, signature}
use Rattle.relation_terms.specs.Trees.{known, list_tree, node, cons, nil, front, last}
use Rattle.relation_terms.specs.Meaning.{signature_tree}
use Rattle.relation_terms.specs.declared.terms.fn_sig.FnSig.{FnSig}
use Rattle.relation_terms.specs.Parts.{part_tree, over}
use Rattle.relation_terms.proofs.Stays.{knows_as}
use Rattle.relation_terms.proofs.Binders.{front_known, last_term}
use Rattle.relation_terms.proofs.Members.{type_term}
use Rattle.relation_terms.proofs.Parts.{fit_two, fit_two_some, over_known}
use Rattle.relation_terms.proofs.terms.parts.whole.signature_with_parts.Goals as goal

pub expect_inputs-requires : goal.expect_inputs-requires
expect_inputs-requires g c =
    let m = g.I.Interner.meaning c.args.cx.now in
    let ts = m.tys (c.args.sig.now).inputs_and_output in
    let xs = c.args.parts.now in
    let x = c.index-parts-0.result in
    (fit_two m (part_tree m) xs (node inputs (front ts)) (last ts) x x x (get_or xs 1 x) c.requires.fits
    c.index-parts-0.is refl).1.0

pub bounds-parts-1 : goal.bounds-parts-1
bounds-parts-1 g c =
    let m = g.I.Interner.meaning c.args.cx.now in
    let ts = m.tys (c.args.sig.now).inputs_and_output in
    fit_two_some m c.args.parts.now (node inputs (front ts)) (last ts) c.requires.fits

pub expect_ty-requires : goal.expect_ty-requires
expect_ty-requires g c =
    let m = g.I.Interner.meaning c.args.cx.now in
    let ts = m.tys (c.args.sig.now).inputs_and_output in
    let xs = c.args.parts.now in
    let x = c.index-parts-0.result in
    let y = c.index-parts-1.result in
    let k = (and_parts (known (front ts)) (known (last ts) && true) c.requires.term_known).0 in
    let are = (g.met.I.Interner.sorted c.args.cx.now).tys (c.args.sig.now).inputs_and_output (front_known ts k) in
    (fit_two m (part_tree m) xs (node inputs (front ts)) (last ts) x x y y c.requires.fits c.index-parts-0.is
    c.index-parts-1.is).1.1 ∙ type_term (last ts) (last_term type_sort ts k are)

pub with_output-requires : goal.with_output-requires
with_output-requires g c =
    let m = g.I.Interner.meaning c.args.cx.now in
    let ts = m.tys (c.args.sig.now).inputs_and_output in
    let xs = c.args.parts.now in
    let x = c.index-parts-0.result in
    let y = c.index-parts-1.result in
    let whole = (fit_two m (part_tree m) xs (node inputs (front ts)) (last ts) x x y y c.requires.fits c.index-parts-0.is
    c.index-parts-1.is).0 in
    let k : IsTrue (known (part_tree m x) && (known (part_tree m y) && true)) =
    knows_as (list_tree (part_tree m) xs) (cons (part_tree m x) (cons (part_tree m y) nil)) whole c.requires.parts_known in
    let p = and_parts (known (part_tree m x)) (known (part_tree m y) && true) k in
    record {
      tys_known = subst (λ z. IsTrue (known (part_tree m z))) (sym c.expect_inputs.ensures) p.0;
      output_known = subst (λ z. IsTrue (known (part_tree m z))) (sym c.expect_ty.ensures)
          (and_parts (known (part_tree m y)) true p.1).0;
    }

pub returns : goal.returns
returns g c =
    let m = g.I.Interner.meaning c.args.cx.now in
    let ts = m.tys (c.args.sig.now).inputs_and_output in
    let xs = c.args.parts.now in
    let x = c.index-parts-0.result in
    let y = c.index-parts-1.result in
    let whole = (fit_two m (part_tree m) xs (node inputs (front ts)) (last ts) x x y y c.requires.fits c.index-parts-0.is
    c.index-parts-1.is).0 in
    let h = (c.args.sig.now).header in
    let n = g.I.Interner.meaning c.with_output.new.cx in
    let us = list_tree (part_tree m) xs in
    let t = signature_tree m c.args.sig.now in
    let made : FnSig g.row.I-Key.Denot = record { inputs_and_output = c.in_ok-types.types; header = h } in
    let o = c.in_ok-types.ensures in
    let e : signature_tree n made ≡ over t us =
    ap (λ z. node (signature h.c_variadic h.safety h.abi) z)
    (ap₂ (λ a b. cons a (cons b nil)) (ap (λ z. node inputs z) o.inputs ∙ ap (part_tree m) c.expect_inputs.ensures)
    (o.output ∙ ap (part_tree m) c.expect_ty.ensures) ∙ whole) in
    record {
      grown = o.grown;
      sure = over_known t us (signature_tree n made) e c.requires.term_known c.requires.parts_known;
      made = e;
    }
