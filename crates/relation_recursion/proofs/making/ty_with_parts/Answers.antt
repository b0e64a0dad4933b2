use Rattle.std.proofs.Common.{◌≡◌, ◌∙◌, sym, ap, subst, map, IsTrue}
use Rattle.relation_terms.specs.Heads.{type_sort}
use Rattle.relation_terms.specs.Trees.{known, list_tree}
use Rattle.relation_terms.specs.Parts.{part_tree, part_of_arg}
use Rattle.relation_semantics.specs.Parts.{direct_parts}
use Rattle.relation_semantics.specs.Making.{form_over}
use Rattle.relation_recursion.proofs.AsParts.{args_as, fits_as, parts_as, over_as}
use Rattle.relation_recursion.proofs.making.ty_with_parts.Goals as goal

pub with_parts-requires : goal.with_parts-requires
with_parts-requires g c =
    let m = g.I.Interner.meaning c.args.cx.now in
    let t = m.ty c.args.ty.now in
    let is = (g.met.I.Interner.sorted c.args.cx.now).ty c.args.ty.now c.requires.ty_known in
    let xs = c.args.args.now in
    let ps = c.as_slice.result.now in
    let q : ps ≡ map part_of_arg xs = c.as_slice.ensures.value ∙ c.in_ok-parts.ensures in
    record {
      term_known = c.requires.ty_known;
      parts_known = subst (λ z. IsTrue (known z)) (sym (args_as m xs ps q)) c.requires.args_known;
      fits = fits_as xs ps (direct_parts t) _ q (parts_as type_sort t is) c.requires.fits;
    }

pub returns : goal.returns
returns g c =
    let m = g.I.Interner.meaning c.args.cx.now in
    let n = g.I.Interner.meaning c.with_parts.new.cx in
    let t = m.ty c.args.ty.now in
    let is = (g.met.I.Interner.sorted c.args.cx.now).ty c.args.ty.now c.requires.ty_known in
    let xs = c.args.args.now in
    let ps = c.as_slice.result.now in
    let q : ps ≡ map part_of_arg xs = c.as_slice.ensures.value ∙ c.in_ok-parts.ensures in
    let made = c.in_ok-made.ensures in
    let r : n.ty c.expect_ty.result ≡ part_tree n c.in_ok-made.made = ap (part_tree n) c.expect_ty.ensures in
    record {
      extends = made.grown;
      sure = subst (λ z. IsTrue (known z)) (sym r) made.sure;
      means = r ∙ made.made ∙ over_as type_sort t (list_tree (part_tree m) ps) is ∙ ap (form_over t) (args_as m xs ps q);
    }
