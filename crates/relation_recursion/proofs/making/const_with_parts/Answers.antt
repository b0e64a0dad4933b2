use Rattle.std.proofs.Common.{◌≡◌, ◌∙◌, sym, ap, ap₂, subst, map, IsTrue}
use Rattle.relation_terms.specs.Trees.{known, list_tree}
use Rattle.relation_terms.specs.Meaning.{const_tree}
use Rattle.relation_terms.specs.Parts.{part_tree, part_of_arg, parts_of, over as term_over}
use Rattle.relation_terms.proofs.Stays.{extends_on}
use Rattle.relation_terms.proofs.Members.{if_ok}
use Rattle.relation_semantics.specs.Parts.{const_parts_of}
use Rattle.relation_semantics.specs.Making.{const_over}
use Rattle.relation_recursion.proofs.MadeAnew.{value_type_known, value_tree_known, value_known}
use Rattle.relation_terms.specs.Meaning.{value_tree}
use Rattle.relation_recursion.proofs.AsParts.{args_as, fits_as, branches_as, value_over, const_parts_as, const_over_as}
use Rattle.relation_recursion.proofs.making.const_with_parts.Goals as goal

pub with_parts-requires : goal.with_parts-requires
with_parts-requires g c =
    let m = g.I.Interner.meaning c.args.cx.now in
    let k = m.const_ c.args.constant.now in
    let t = m.ty c.in-Value.ty in
    let v = m.valtree c.in-Value.value in
    let e : k ≡ value_tree t v = c.const_kind.ensures ∙ ap (const_tree m) c.in-Value.is in
    let sure = value_tree_known k t v e c.requires.constant_known in
    let is = (g.met.I.Interner.sorted c.args.cx.now).valtree c.in-Value.value sure in
    let xs = c.args.args.now in
    let ps = c.as_slice.result.now in
    let q : ps ≡ map part_of_arg xs = c.as_slice.ensures.value ∙ c.in_ok-parts.ensures in
    record {
      term_known = sure;
      parts_known = subst (λ z. IsTrue (known z)) (sym (args_as m xs ps q)) c.requires.args_known;
      fits = fits_as xs ps (const_parts_of k) _ q (branches_as v is ∙ sym (ap const_parts_of e)) c.requires.fits;
    }

pub mk_const-requires : goal.mk_const-requires
mk_const-requires g c =
    let m = g.I.Interner.meaning c.args.cx.now in
    let n = g.I.Interner.meaning c.with_parts.new.cx in
    let k = m.const_ c.args.constant.now in
    let t = m.ty c.in-Value.ty in
    let v = m.valtree c.in-Value.value in
    let e : k ≡ value_tree t v = c.const_kind.ensures ∙ ap (const_tree m) c.in-Value.is in
    let sure = value_type_known k t v e c.requires.constant_known in
    let made = c.in_ok-value-in-Value.ensures in
    let same : n.ty c.in-Value.ty ≡ t = (made.grown).ty c.in-Value.ty sure in
    let r : n.valtree c.expect_valtree.result ≡ part_tree n c.in_ok-value-in-Value.value = ap (part_tree n) c.expect_valtree.ensures in
    value_known (n.ty c.in-Value.ty) (n.valtree c.expect_valtree.result) (subst (λ z. IsTrue (known z)) (sym same) sure)
    (subst (λ z. IsTrue (known z)) (sym r) made.sure)

pub returns-in-Value : goal.returns-in-Value
returns-in-Value g c =
    let m = g.I.Interner.meaning c.args.cx.now in
    let n = g.I.Interner.meaning c.with_parts.new.cx in
    let k = m.const_ c.args.constant.now in
    let t = m.ty c.in-Value.ty in
    let v = m.valtree c.in-Value.value in
    let e : k ≡ value_tree t v = c.const_kind.ensures ∙ ap (const_tree m) c.in-Value.is in
    let is = (g.met.I.Interner.sorted c.args.cx.now).valtree c.in-Value.value
    (value_tree_known k t v e c.requires.constant_known) in
    let xs = c.args.args.now in
    let ps = c.as_slice.result.now in
    let us = list_tree (part_tree m) ps in
    let q : ps ≡ map part_of_arg xs = c.as_slice.ensures.value ∙ c.in_ok-parts.ensures in
    let made = c.in_ok-value-in-Value.ensures in
    let same : n.ty c.in-Value.ty ≡ t =
    (made.grown).ty c.in-Value.ty (value_type_known k t v e c.requires.constant_known) in
    let r : n.valtree c.expect_valtree.result ≡ term_over v us = ap (part_tree n) c.expect_valtree.ensures ∙ made.made in
    let whole : value_tree (n.ty c.in-Value.ty) (n.valtree c.expect_valtree.result) ≡ const_over k us =
    ap₂ value_tree same r ∙ value_over t v us is ∙ sym (ap (λ z. const_over z us) e) in
    record {
      extends = extends_on made.grown c.mk_const.ensures.grown;
      sure = c.mk_const.ensures.sure;
      means = if_ok c.mk_const.result (λ x i. i ∙ whole ∙ ap (const_over k) (args_as m xs ps q)) c.mk_const.ensures.made;
    }

pub with_parts-requires-in_default : goal.with_parts-requires-in_default
with_parts-requires-in_default g c =
    let m = g.I.Interner.meaning c.args.cx.now in
    let k = m.const_ c.args.constant.now in
    let xs = c.args.args.now in
    let ps = c.as_slice-in_default.result.now in
    let q : ps ≡ map part_of_arg xs = c.as_slice-in_default.ensures.value ∙ c.in_ok-parts.ensures in
    let same = ap parts_of c.const_kind.ensures ∙ const_parts_as m c.const_kind.result c.in_default.not-Value
    ∙ sym (ap const_parts_of c.const_kind.ensures) in
    record {
      term_known = c.requires.constant_known;
      parts_known = subst (λ z. IsTrue (known z)) (sym (args_as m xs ps q)) c.requires.args_known;
      fits = fits_as xs ps (const_parts_of k) _ q same c.requires.fits;
    }

pub returns : goal.returns
returns g c =
    let m = g.I.Interner.meaning c.args.cx.now in
    let n = g.I.Interner.meaning c.with_parts-in_default.new.cx in
    let k = m.const_ c.args.constant.now in
    let xs = c.args.args.now in
    let ps = c.as_slice-in_default.result.now in
    let us = list_tree (part_tree m) ps in
    let q : ps ≡ map part_of_arg xs = c.as_slice-in_default.ensures.value ∙ c.in_ok-parts.ensures in
    let made = c.in_ok-made-in_default.ensures in
    let r : n.const_ c.expect_const.result ≡ part_tree n c.in_ok-made-in_default.made = ap (part_tree n) c.expect_const.ensures in
    let same : term_over k us ≡ const_over k us = ap (λ z. term_over z us) c.const_kind.ensures
    ∙ const_over_as m c.const_kind.result us c.in_default.not-Value ∙ sym (ap (λ z. const_over z us) c.const_kind.ensures) in
    record {
      extends = made.grown;
      sure = subst (λ z. IsTrue (known z)) (sym r) made.sure;
      means = r ∙ made.made ∙ same ∙ ap (const_over k) (args_as m xs ps q);
    }
