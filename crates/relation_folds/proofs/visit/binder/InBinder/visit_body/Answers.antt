use Rattle.relation_folds.proofs.Entering.{walks_deeper}
use Rattle.relation_folds.proofs.visit.binder.InBinder.visit_body.Goals as goal

pub returns-clause-same_reference : goal.returns-clause-same_reference
returns-clause-same_reference g c =
    (walks_deeper (g.V.TypeVisitor.visits c.args.cx.now) (λ v. v.visitor.ghost_name) (λ v. v.visitor.now) 0
    c.args.self.now c.visit_with.new.visitor (g.T.HasTree.tree (g.I.Interner.meaning c.args.cx.now) c.args.body.now)
    c.visit_with.result c.visit_with.ensures).0

pub returns-clause-walks : goal.returns-clause-walks
returns-clause-walks g c =
    (walks_deeper (g.V.TypeVisitor.visits c.args.cx.now) (λ v. v.visitor.ghost_name) (λ v. v.visitor.now) 0
    c.args.self.now c.visit_with.new.visitor (g.T.HasTree.tree (g.I.Interner.meaning c.args.cx.now) c.args.body.now)
    c.visit_with.result c.visit_with.ensures).1
