use Rattle.relation_folds.proofs.Fielding.{over_predicate}
use Rattle.relation_folds.proofs.visit.predicates.PredicateKindKeyIdNameTypeVisitable.visit_with.Goals as goal

pub returns : goal.returns
returns g c =
    over_predicate (g.V.TypeVisitor.visits c.args.cx.now) c.args.visitor.now c.visit_fields.new.visitor
    (g.I.Interner.meaning c.args.cx.now) c.args.self.now c.predicate_fields.result c.visit_fields.result
    c.predicate_fields.ensures c.visit_fields.ensures
