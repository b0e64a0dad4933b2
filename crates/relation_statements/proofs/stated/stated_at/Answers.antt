use Rattle.std.proofs.Common.{◌∙◌, ap, sym, subst, arith, get_or, length, IsTrue}
use Rattle.relation_terms.specs.Trees.{known, nil}
use Rattle.relation_statements.proofs.Making.{at_map, map_length, listed_known}
use Rattle.relation_statements.proofs.stated.stated_at.Goals as goal

pub returns-clause-sure : goal.returns-clause-sure
returns-clause-sure g c =
    let m = g.I.Interner.meaning c.args.cx.now in
    let d = m.id (c.args.trait_id.now).0 in
    let xs = c.stated.result.now in
    let x = c.index-stated-index.result in
    let i = c.args.index in
    let count = map_length (λ p. m.clause p.0) xs in
    let same = ap length c.stated.ensures in
    let room = c.requires in
    subst (λ z. IsTrue (known z))
    (ap (λ ys. get_or ys i nil) (sym c.stated.ensures)
    ∙ at_map (λ p. m.clause p.0) xs i x nil (omega (arith, count, same, room))
    ∙ ap (λ p. m.clause p.0) (sym c.index-stated-index.is))
    (listed_known m (g.met.I.Interner.states c.args.cx.now) c.args.only_self d i nil c.requires)
