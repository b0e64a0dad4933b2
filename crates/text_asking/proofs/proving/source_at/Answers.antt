use Rattle.std.proofs.Common.{IsTrue, subst}
use Rattle.relation_terms.specs.Trees.{known}
use Rattle.relation_proving.proofs.OpenedRules.{each_known}
use Rattle.text_asking.proofs.proving.source_at.Goals as goal

pub clauses-requires : goal.clauses-requires
clauses-requires g c = subst (λ t. IsTrue (known t)) c.caller_bounds-assumed.ensures c.requires.env

pub source_held-requires-clause-assumed : goal.source_held-requires-clause-assumed
source_held-requires-clause-assumed g c =
    let m = g.I.Interner.meaning c.args.cx.now in
    let sure : IsTrue (known (m.clauses c.caller_bounds-assumed.result)) =
    subst (λ t. IsTrue (known t)) c.caller_bounds-assumed.ensures c.requires.env in
    each_known m.clause c.clauses.result.now (subst (λ t. IsTrue (known t)) c.clauses.ensures sure)
