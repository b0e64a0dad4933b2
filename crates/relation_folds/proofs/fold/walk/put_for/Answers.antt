use Rattle.std.proofs.Common.{◌≡◌, ◌∙◌, refl, sym, ap, subst, false, IsTrue, ⊎_elim}
use Rattle.relation_terms.specs.Heads.{region_sort, type_sort, const_sort}
use Rattle.relation_terms.specs.Trees.{known}
use Rattle.relation_terms.specs.Parts.{part_tree, part_sort}
use Rattle.relation_terms.proofs.Parts.{sort_known}
use Rattle.relation_folds.specs.Folds.{asks, folded, folded_parts}
use Rattle.relation_folds.proofs.Folding.{put_made, left_made, unasked_made}
use Rattle.relation_folds.proofs.Visiting.{has_sort}
use Rattle.relation_folds.proofs.fold.walk.put_for.Goals as goal

pub returns-in-Replace-clause-made : goal.returns-in-Replace-clause-made
returns-in-Replace-clause-made g c =
    let m = g.I.Interner.meaning c.args.cx.now in
    let p = g.F.TypeFolder.replaces m c.args.folder.now in
    let x = c.in-Region.region in
    let is = c.in-Region.is in
    let term = (g.met.I.Interner.sorted c.args.cx.now).region x
    (subst (λ q. IsTrue (known (part_tree m q))) is c.requires.known) in
    let n = g.I.Interner.meaning c.fold_region.new.cx in (
      put_made region_sort p c.args.depth (m.region x) n.region c.in_ok-by-in-Region.field-0 term c.in_ok-by-in-Region.ensures.made refl c.in-Replace.by c.in-Replace.is
          ∙ ap (λ q. folded p c.args.depth (part_tree m q)) (sym is),
      ap part_sort (sym is),
    )

pub returns-in-Descend-clause-made : goal.returns-in-Descend-clause-made
returns-in-Descend-clause-made g c =
    let m = g.I.Interner.meaning c.args.cx.now in
    let p = g.F.TypeFolder.replaces m c.args.folder.now in
    let x = c.in-Region.region in
    let is = c.in-Region.is in
    let term = (g.met.I.Interner.sorted c.args.cx.now).region x
    (subst (λ q. IsTrue (known (part_tree m q))) is c.requires.known) in
    let n = g.I.Interner.meaning c.fold_region.new.cx in
    ap (λ q. folded p c.args.depth (part_tree m q)) is
    ∙ left_made region_sort p c.args.depth (m.region x) n.region c.in_ok-by-in-Region.field-0 term c.in_ok-by-in-Region.ensures.made c.in-Descend.is
    ∙ ap (λ q. folded_parts p c.args.depth (part_tree m q)) (sym is)

pub returns-in-Replace-2-clause-made : goal.returns-in-Replace-2-clause-made
returns-in-Replace-2-clause-made g c =
    let m = g.I.Interner.meaning c.args.cx.now in
    let p = g.F.TypeFolder.replaces m c.args.folder.now in
    let x = c.in-Ty.ty in
    let is = c.in-Ty.is in
    let term = (g.met.I.Interner.sorted c.args.cx.now).ty x
    (subst (λ q. IsTrue (known (part_tree m q))) is c.requires.known) in
    let n = g.I.Interner.meaning c.fold_ty.new.cx in (
      put_made type_sort p c.args.depth (m.ty x) n.ty c.in_ok-by-in-Ty.field-0 term c.in_ok-by-in-Ty.ensures.made refl c.in-Replace-2.by c.in-Replace-2.is
          ∙ ap (λ q. folded p c.args.depth (part_tree m q)) (sym is),
      ap part_sort (sym is),
    )

pub returns-in-Descend-2-clause-made : goal.returns-in-Descend-2-clause-made
returns-in-Descend-2-clause-made g c =
    let m = g.I.Interner.meaning c.args.cx.now in
    let p = g.F.TypeFolder.replaces m c.args.folder.now in
    let x = c.in-Ty.ty in
    let is = c.in-Ty.is in
    let term = (g.met.I.Interner.sorted c.args.cx.now).ty x
    (subst (λ q. IsTrue (known (part_tree m q))) is c.requires.known) in
    let n = g.I.Interner.meaning c.fold_ty.new.cx in
    ap (λ q. folded p c.args.depth (part_tree m q)) is
    ∙ left_made type_sort p c.args.depth (m.ty x) n.ty c.in_ok-by-in-Ty.field-0 term c.in_ok-by-in-Ty.ensures.made c.in-Descend-2.is
    ∙ ap (λ q. folded_parts p c.args.depth (part_tree m q)) (sym is)

pub returns-in-Replace-3-clause-made : goal.returns-in-Replace-3-clause-made
returns-in-Replace-3-clause-made g c =
    let m = g.I.Interner.meaning c.args.cx.now in
    let p = g.F.TypeFolder.replaces m c.args.folder.now in
    let x = c.in-Const.constant in
    let is = c.in-Const.is in
    let term = (g.met.I.Interner.sorted c.args.cx.now).const_ x
    (subst (λ q. IsTrue (known (part_tree m q))) is c.requires.known) in
    let n = g.I.Interner.meaning c.fold_const.new.cx in (
      put_made const_sort p c.args.depth (m.const_ x) n.const_ c.in_ok-by-in-Const.field-0 term c.in_ok-by-in-Const.ensures.made refl c.in-Replace-3.by c.in-Replace-3.is
          ∙ ap (λ q. folded p c.args.depth (part_tree m q)) (sym is),
      ap part_sort (sym is),
    )

pub returns-in-Descend-3-clause-made : goal.returns-in-Descend-3-clause-made
returns-in-Descend-3-clause-made g c =
    let m = g.I.Interner.meaning c.args.cx.now in
    let p = g.F.TypeFolder.replaces m c.args.folder.now in
    let x = c.in-Const.constant in
    let is = c.in-Const.is in
    let term = (g.met.I.Interner.sorted c.args.cx.now).const_ x
    (subst (λ q. IsTrue (known (part_tree m q))) is c.requires.known) in
    let n = g.I.Interner.meaning c.fold_const.new.cx in
    ap (λ q. folded p c.args.depth (part_tree m q)) is
    ∙ left_made const_sort p c.args.depth (m.const_ x) n.const_ c.in_ok-by-in-Const.field-0 term c.in_ok-by-in-Const.ensures.made c.in-Descend-3.is
    ∙ ap (λ q. folded_parts p c.args.depth (part_tree m q)) (sym is)

pub returns-in-ValTree-clause-made : goal.returns-in-ValTree-clause-made
returns-in-ValTree-clause-made g c =
    let m = g.I.Interner.meaning c.args.cx.now in
    let q = c.args.part.now in
    let sort = sort_known m (g.met.I.Interner.sorted c.args.cx.now) q c.requires.known in
    let none : asks (part_sort q) ≡ false =
    ⊎_elim (λ v. ap (λ z. asks (part_sort z)) v.1)
    (λ r. ⊎_elim (λ v. ap (λ z. asks (part_sort z)) v.1) (λ v. ap (λ z. asks (part_sort z)) v.1) r) c.in-ValTree.is in
    unasked_made (g.F.TypeFolder.replaces m c.args.folder.now) c.args.depth (part_tree m q) (ap asks sort ∙ none)
    (λ e. has_sort q (sym sort ∙ e))
