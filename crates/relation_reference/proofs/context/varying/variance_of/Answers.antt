use Rattle.std.proofs.Common.{◌∙◌, ◌<◌, IsTrue, sym, ap, subst, rules}
use Rattle.relation_terms.specs.Trees.{known, count}
use Rattle.relation_terms.specs.Parts.{part_tree, parts_of}
use Rattle.relation_semantics.specs.Generalising.{variance_of_part}
use Rattle.relation_semantics.specs.Lawful.{items_of}
use Rattle.relation_reference.proofs.context.varying.variance_of.Goals as goal

pub returns-in-Const : goal.returns-in-Const
returns-in-Const g c =
    let m = g.I.Interner.meaning c.args.cx.now in
    let k = c.in-Const.constant in
    let is = c.in-Const.is in
    let sure : IsTrue (known (m.const_ k)) = subst (λ p. IsTrue (known (part_tree m p))) is c.requires.term_known in
    let within : c.args.i < count (parts_of (m.const_ k)) =
    subst (λ p. c.args.i < count (parts_of (part_tree m p))) is c.requires.in_bounds in
    c.xform-in-Const.ensures
    ∙ sym (c.mode_in_const.ensures c.args.i c.args.variance ((g.met.I.Interner.sorted c.args.cx.now).const_ k sure) within)
    ∙ sym (ap (λ p. variance_of_part (items_of m) (part_tree m p) c.args.i c.args.variance) is)

pub returns-in-Region-2 : goal.returns-in-Region-2
returns-in-Region-2 g c =
    let s = g.met.I.Interner.sorted c.args.cx.now in
    let is_region = s.region in
    let is_valtree = s.valtree in
    let is_pat = s.pat in
    search rules

pub returns-in-Region-3 : goal.returns-in-Region-3
returns-in-Region-3 g c =
    let s = g.met.I.Interner.sorted c.args.cx.now in
    let is_region = s.region in
    let is_valtree = s.valtree in
    let is_pat = s.pat in
    search rules

pub returns-in-Region-4 : goal.returns-in-Region-4
returns-in-Region-4 g c =
    let s = g.met.I.Interner.sorted c.args.cx.now in
    let is_region = s.region in
    let is_valtree = s.valtree in
    let is_pat = s.pat in
    search rules
