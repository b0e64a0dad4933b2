use Rattle.std.proofs.Common.{IsTrue, subst}
use Rattle.relation_terms.specs.Trees.{known}
use Rattle.relation_proving.proofs.OtherSubjects.{another_given, first_known, given_known}
use Rattle.relation_proving.proofs.reading.gives_another.Goals as goal

pub clauses-requires : goal.clauses-requires
clauses-requires g c = given_known (g.I.Interner.meaning c.args.cx.now) c.args.rule.now c.requires.rule_known

pub clause_kind-gives-requires : goal.clause_kind-gives-requires
clause_kind-gives-requires g c =
    first_known (g.I.Interner.meaning c.args.cx.now) c.clauses.result.now _ c.in-Some.given.now
    (subst (λ t. IsTrue (known t)) c.clauses.ensures
    (given_known (g.I.Interner.meaning c.args.cx.now) c.args.rule.now c.requires.rule_known))
    c.in-Some.ensures.cases.0

pub clause_kind-asks-requires : goal.clause_kind-asks-requires
clause_kind-asks-requires g c = c.requires.goal_known

pub returns-in-Some : goal.returns-in-Some
returns-in-Some g c = λ t.
    another_given (g.I.Interner.meaning c.args.cx.now) c.args.rule.now c.args.goal.now c.in-Some.given.now
    c.clauses.result.now _ c.clause_kind-gives.result c.clause_kind-asks.result c.clauses.ensures
    c.in-Some.ensures.cases.0 c.clause_kind-gives.ensures c.clause_kind-asks.ensures (c.are_of_two.ensures t)
