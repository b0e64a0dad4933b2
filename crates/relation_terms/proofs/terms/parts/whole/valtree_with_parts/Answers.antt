use Rattle.std.proofs.Common.{◌∙◌, ◌≡◌, sym, subst}
use Rattle.relation_terms.specs.Trees.{list_tree}
use Rattle.relation_terms.specs.Meaning.{valtree_tree}
use Rattle.relation_terms.specs.Parts.{Fit, part_tree, parts_tree, parts_of, over}
use Rattle.relation_terms.proofs.Stays.{extends_on, knows_as}
use Rattle.relation_terms.proofs.Members.{if_ok}
use Rattle.relation_terms.proofs.Parts.{valtree_seen, valtree_remade, known_parts, over_known}
use Rattle.relation_terms.proofs.terms.parts.whole.valtree_with_parts.Goals as goal

pub make_parts-requires : goal.make_parts-requires
make_parts-requires g c =
    let m = g.I.Interner.meaning c.args.cx.now in
    let t = m.valtree c.args.valtree.now in
    let v = c.valtree_parts.result in
    let seen = valtree_seen m v t c.valtree_kind-kind.result c.valtree_kind-kind.ensures c.valtree_parts.ensures in
    record {
      like_known = knows_as (parts_of t) (parts_tree m v) seen (known_parts t c.requires.term_known);
      members_known = c.requires.parts_known;
      fits = subst (Fit c.args.parts.now) (sym seen) c.requires.fits;
    }

pub mk_valtree-requires : goal.mk_valtree-requires
mk_valtree-requires g c =
    let m = g.I.Interner.meaning c.args.cx.now in
    let us = list_tree (part_tree m) c.args.parts.now in
    let t = m.valtree c.args.valtree.now in
    let n = g.I.Interner.meaning c.make_parts.new.cx in
    let o = c.in_ok-made.ensures in
    let r : valtree_tree n c.valtree_over.result ≡ over t us =
    valtree_remade o.grown c.valtree_parts.result c.in_ok-made.made t us o.alike o.made c.requires.term_known
    c.valtree_kind-kind.result c.valtree_over.result c.valtree_kind-kind.ensures c.valtree_parts.ensures
    c.valtree_over.ensures in
    over_known t us (valtree_tree n c.valtree_over.result) r c.requires.term_known c.requires.parts_known

pub returns : goal.returns
returns g c =
    let m = g.I.Interner.meaning c.args.cx.now in
    let us = list_tree (part_tree m) c.args.parts.now in
    let t = m.valtree c.args.valtree.now in
    let n = g.I.Interner.meaning c.make_parts.new.cx in
    let o = c.in_ok-made.ensures in
    let r : valtree_tree n c.valtree_over.result ≡ over t us =
    valtree_remade o.grown c.valtree_parts.result c.in_ok-made.made t us o.alike o.made c.requires.term_known
    c.valtree_kind-kind.result c.valtree_over.result c.valtree_kind-kind.ensures c.valtree_parts.ensures
    c.valtree_over.ensures in
    record {
      grown = extends_on o.grown c.mk_valtree.ensures.grown;
      sure = c.mk_valtree.ensures.sure;
      made = if_ok c.mk_valtree.result (λ k i. i ∙ r) c.mk_valtree.ensures.made;
    }
