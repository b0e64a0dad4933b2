use Rattle.relation_terms.specs.declared.predicate.kinds.PredicateKind.TheVariants.{Clause}
use Rattle.relation_folds.proofs.Fielding.{over_predicate}
use Rattle.relation_folds.proofs.visit.predicates.ClauseKindKeyIdNameTypeVisitable.visit_with.Goals as goal

pub returns : goal.returns
returns g c =
    over_predicate (g.V.TypeVisitor.visits c.args.cx.now) c.args.visitor.now c.visit_fields.new.visitor
    (g.I.Interner.meaning c.args.cx.now) (Clause c.args.self.now) c.clause_fields.result c.visit_fields.result
    c.clause_fields.ensures c.visit_fields.ensures
