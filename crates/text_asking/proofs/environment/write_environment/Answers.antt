use Rattle.std.proofs.Common.{IsTrue, subst}
use Rattle.relation_terms.specs.Trees.{known}
use Rattle.text_terms.proofs.Parts.{part_of}
use Rattle.text_asking.proofs.environment.write_environment.Goals as goal

-- The clauses of a known environment are known.
pub write_clause-requires : goal.write_clause-requires
write_clause-requires g c =
    let m = g.I.Interner.meaning c.args.cx.now in
    let list = m.clauses c.caller_bounds-bounds.result in
    let sure : IsTrue (known list) = subst (λ t. IsTrue (known t)) c.caller_bounds-bounds.ensures c.requires in
    (part_of m.clause list c.clauses-clause-items.result.now c.loop-clause.clause-index c.clause-item.result
    c.clause-item.is c.clauses-clause-items.ensures c.loop-clause-test.true sure).0
