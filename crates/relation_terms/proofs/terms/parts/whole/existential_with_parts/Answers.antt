use Rattle.std.proofs.Common.{◌∙◌, ◌≡◌, refl, sym, ap, subst}
use Rattle.relation_terms.specs.Trees.{list_tree}
use Rattle.relation_terms.specs.Meaning.{existential_tree}
use Rattle.relation_terms.specs.Parts.{Fit, part_tree, parts_tree, over}
use Rattle.relation_terms.proofs.Parts.{existential_viewed, existential_remade, over_known}
use Rattle.relation_terms.proofs.terms.parts.whole.existential_with_parts.Goals as goal

pub make_parts-requires-clause-fits : goal.make_parts-requires-clause-fits
make_parts-requires-clause-fits g c =
    let m = g.I.Interner.meaning c.args.cx.now in
    let p = c.args.predicate.now in
    subst (Fit c.args.parts.now) (sym (ap (parts_tree m) c.existential_parts.ensures ∙ existential_viewed m p))
    c.requires.fits

pub returns : goal.returns
returns g c =
    let m = g.I.Interner.meaning c.args.cx.now in
    let n = g.I.Interner.meaning c.make_parts.new.cx in
    let us = list_tree (part_tree m) c.args.parts.now in
    let p = c.args.predicate.now in
    let t = existential_tree m p in
    let o = c.in_ok-made.ensures in
    let r : existential_tree n c.existential_over.result ≡ over t us =
    existential_remade o.grown c.existential_parts.result c.in_ok-made.made t us o.alike o.made c.requires.term_known
    p c.existential_over.result refl c.existential_parts.ensures c.existential_over.ensures in
    record {
      grown = o.grown;
      sure = over_known t us (existential_tree n c.existential_over.result) r c.requires.term_known c.requires.parts_known;
      made = r;
    }
