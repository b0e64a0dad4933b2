use Rattle.std.proofs.Common.{refl, sym, subst}
use Rattle.relation_folds.specs.Visits.{Walks, passed}
use Rattle.relation_folds.proofs.visit.clauses.ParamEnvKeyKeyTypeVisitable.visit_with.Goals as goal

pub returns : goal.returns
returns g c =
    subst (λ t. Walks (g.V.TypeVisitor.visits c.args.cx.now) 0 c.args.visitor.now t c.visit_with.new.visitor
    c.visit_with.result) (sym c.caller_bounds.ensures) (passed refl c.visit_with.ensures)
