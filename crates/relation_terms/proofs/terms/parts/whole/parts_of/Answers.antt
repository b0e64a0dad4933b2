use Rattle.std.proofs.Common.{◌∙◌, IsTrue, sym, ap, subst}
use Rattle.relation_terms.specs.Trees.{known}
use Rattle.relation_terms.specs.Parts.{part_tree, parts_tree, parts_of}
use Rattle.relation_terms.specs.Orders.{order_of}
use Rattle.relation_terms.proofs.Orders.{ty_order}
use Rattle.relation_terms.proofs.Stays.{knows_as}
use Rattle.relation_terms.proofs.Parts.{ty_seen, known_parts}
use Rattle.relation_terms.proofs.Members.{region_alone, region_in_turn}
use Rattle.relation_terms.proofs.terms.parts.whole.parts_of.Goals as goal

pub returns-in-Ty : goal.returns-in-Ty
returns-in-Ty g c =
    let m = g.I.Interner.meaning c.args.cx.now in
    let t = m.ty c.in-Ty.ty in
    let v = c.ty_parts.result in
    let seen = ty_seen m v t c.ty_kind.result c.ty_kind.ensures c.ty_parts.ensures in
    let k = subst (λ p. IsTrue (known (part_tree m p))) c.in-Ty.is c.requires in
    record {
      sure = knows_as (parts_of t) (parts_tree m v) seen (known_parts t k);
      means = seen ∙ ap (λ p. parts_of (part_tree m p)) (sym c.in-Ty.is);
      order = ty_order m v t c.ty_kind.result c.ty_kind.ensures c.ty_parts.ensures
          ∙ ap (λ p. order_of (part_tree m p)) (sym c.in-Ty.is);
    }

pub returns-in-Region-clause-means : goal.returns-in-Region-clause-means
returns-in-Region-clause-means g c =
    let m = g.I.Interner.meaning c.args.cx.now in
    let r = c.in-Region.field-0 in
    let k = subst (λ p. IsTrue (known (part_tree m p))) c.in-Region.is c.requires in
    sym (ap (λ p. parts_of (part_tree m p)) c.in-Region.is
    ∙ region_alone (m.region r) ((g.met.I.Interner.sorted c.args.cx.now).region r k))

pub returns-in-Region-clause-order : goal.returns-in-Region-clause-order
returns-in-Region-clause-order g c =
    let m = g.I.Interner.meaning c.args.cx.now in
    let r = c.in-Region.field-0 in
    let k = subst (λ p. IsTrue (known (part_tree m p))) c.in-Region.is c.requires in
    sym (ap (λ p. order_of (part_tree m p)) c.in-Region.is
    ∙ region_in_turn (m.region r) ((g.met.I.Interner.sorted c.args.cx.now).region r k))
