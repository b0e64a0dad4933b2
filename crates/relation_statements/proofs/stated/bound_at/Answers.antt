use Rattle.std.proofs.Common.{◌∙◌, ap, sym, subst, arith, get_or, IsTrue}
use Rattle.relation_terms.specs.Trees.{known, nil}
use Rattle.relation_terms.specs.Owned.{bound_tree}
use Rattle.relation_statements.proofs.Making.{at_map, map_length, bounds_known}
use Rattle.relation_statements.proofs.stated.bound_at.Goals as goal

pub returns-clause-sure : goal.returns-clause-sure
returns-clause-sure g c =
    let m = g.I.Interner.meaning c.args.cx.now in
    let d = m.id (c.args.trait_id.now).0 in
    let xs = (m.tables).const_bounds d in
    let x = c.index-explicit_implied_const_bounds-index.result in
    let i = c.args.index in
    let count = map_length (bound_tree m) xs in
    let room = c.requires in
    subst (λ z. IsTrue (known z))
    (at_map (bound_tree m) xs i x nil (omega (arith, count, room))
    ∙ ap (bound_tree m) (ap (λ ys. get_or ys i x) (sym c.explicit_implied_const_bounds.ensures)
    ∙ sym c.index-explicit_implied_const_bounds-index.is))
    (bounds_known m (g.met.I.Interner.states c.args.cx.now) d i nil c.requires)
