use Rattle.std.proofs.Common.{◌∙◌, ◌≡◌, sym, subst}
use Rattle.relation_terms.specs.Trees.{list_tree}
use Rattle.relation_terms.specs.Meaning.{const_tree}
use Rattle.relation_terms.specs.Parts.{Fit, part_tree, parts_tree, parts_of, over}
use Rattle.relation_terms.proofs.Stays.{extends_on, knows_as}
use Rattle.relation_terms.proofs.Members.{if_ok}
use Rattle.relation_terms.proofs.Parts.{const_seen, const_remade, known_parts, over_known}
use Rattle.relation_terms.proofs.terms.parts.whole.const_with_parts.Goals as goal

pub make_parts-requires : goal.make_parts-requires
make_parts-requires g c =
    let m = g.I.Interner.meaning c.args.cx.now in
    let t = m.const_ c.args.constant.now in
    let v = c.const_parts.result in
    let seen = const_seen m v t c.const_kind-kind.result c.const_kind-kind.ensures c.const_parts.ensures in
    record {
      like_known = knows_as (parts_of t) (parts_tree m v) seen (known_parts t c.requires.term_known);
      members_known = c.requires.parts_known;
      fits = subst (Fit c.args.parts.now) (sym seen) c.requires.fits;
    }

pub mk_const-requires : goal.mk_const-requires
mk_const-requires g c =
    let m = g.I.Interner.meaning c.args.cx.now in
    let us = list_tree (part_tree m) c.args.parts.now in
    let t = m.const_ c.args.constant.now in
    let n = g.I.Interner.meaning c.make_parts.new.cx in
    let o = c.in_ok-made.ensures in
    let r : const_tree n c.const_over.result ≡ over t us =
    const_remade o.grown c.const_parts.result c.in_ok-made.made t us o.alike o.made c.requires.term_known
    c.const_kind-kind.result c.const_over.result c.const_kind-kind.ensures c.const_parts.ensures
    c.const_over.ensures in
    over_known t us (const_tree n c.const_over.result) r c.requires.term_known c.requires.parts_known

pub returns : goal.returns
returns g c =
    let m = g.I.Interner.meaning c.args.cx.now in
    let us = list_tree (part_tree m) c.args.parts.now in
    let t = m.const_ c.args.constant.now in
    let n = g.I.Interner.meaning c.make_parts.new.cx in
    let o = c.in_ok-made.ensures in
    let r : const_tree n c.const_over.result ≡ over t us =
    const_remade o.grown c.const_parts.result c.in_ok-made.made t us o.alike o.made c.requires.term_known
    c.const_kind-kind.result c.const_over.result c.const_kind-kind.ensures c.const_parts.ensures
    c.const_over.ensures in
    record {
      grown = extends_on o.grown c.mk_const.ensures.grown;
      sure = c.mk_const.ensures.sure;
      made = if_ok c.mk_const.result (λ k i. i ∙ r) c.mk_const.ensures.made;
    }
