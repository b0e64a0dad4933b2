use Rattle.std.proofs.Common.{◌∙◌, ◌≡◌, sym, subst}
use Rattle.relation_terms.specs.Trees.{list_tree}
use Rattle.relation_terms.specs.Meaning.{pattern_tree}
use Rattle.relation_terms.specs.Parts.{Fit, part_tree, parts_tree, parts_of, over}
use Rattle.relation_terms.proofs.Stays.{extends_on, knows_as}
use Rattle.relation_terms.proofs.Members.{if_ok}
use Rattle.relation_terms.proofs.Parts.{pattern_seen, pattern_remade, known_parts, over_known}
use Rattle.relation_terms.proofs.terms.parts.whole.pat_with_parts.Goals as goal

pub make_parts-requires : goal.make_parts-requires
make_parts-requires g c =
    let m = g.I.Interner.meaning c.args.cx.now in
    let t = m.pat c.args.pat.now in
    let v = c.pattern_parts.result in
    let seen = pattern_seen m v t c.pat_kind-kind.result c.pat_kind-kind.ensures c.pattern_parts.ensures in
    record {
      like_known = knows_as (parts_of t) (parts_tree m v) seen (known_parts t c.requires.term_known);
      members_known = c.requires.parts_known;
      fits = subst (Fit c.args.parts.now) (sym seen) c.requires.fits;
    }

pub mk_pat-requires : goal.mk_pat-requires
mk_pat-requires g c =
    let m = g.I.Interner.meaning c.args.cx.now in
    let us = list_tree (part_tree m) c.args.parts.now in
    let t = m.pat c.args.pat.now in
    let n = g.I.Interner.meaning c.make_parts.new.cx in
    let o = c.in_ok-made.ensures in
    let r : pattern_tree n c.pattern_over.result ≡ over t us =
    pattern_remade o.grown c.pattern_parts.result c.in_ok-made.made t us o.alike o.made c.requires.term_known
    c.pat_kind-kind.result c.pattern_over.result c.pat_kind-kind.ensures c.pattern_parts.ensures
    c.pattern_over.ensures in
    over_known t us (pattern_tree n c.pattern_over.result) r c.requires.term_known c.requires.parts_known

pub returns : goal.returns
returns g c =
    let m = g.I.Interner.meaning c.args.cx.now in
    let us = list_tree (part_tree m) c.args.parts.now in
    let t = m.pat c.args.pat.now in
    let n = g.I.Interner.meaning c.make_parts.new.cx in
    let o = c.in_ok-made.ensures in
    let r : pattern_tree n c.pattern_over.result ≡ over t us =
    pattern_remade o.grown c.pattern_parts.result c.in_ok-made.made t us o.alike o.made c.requires.term_known
    c.pat_kind-kind.result c.pattern_over.result c.pat_kind-kind.ensures c.pattern_parts.ensures
    c.pattern_over.ensures in
    record {
      grown = extends_on o.grown c.mk_pat.ensures.grown;
      sure = c.mk_pat.ensures.sure;
      made = if_ok c.mk_pat.result (λ k i. i ∙ r) c.mk_pat.ensures.made;
    }
