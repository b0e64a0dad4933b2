use Rattle.relation_folds.specs.Visits.{Flow, Walks}
use Rattle.relation_folds.proofs.Visiting.{rest}
use Rattle.relation_folds.proofs.visit.clauses.ClausesKeyKeyTypeVisitable.visit_with.Given as goal

-- What goes over the rest of the list from here goes over the whole from its beginning.
abbrev pub invariant-loop-step : goal.invariant-loop-step
invariant-loop-step g l =
    (w : _) (r : Flow) →
    Walks (g.V.TypeVisitor.visits l.cx) 0 l.visitor (rest l.step ((g.I.Interner.meaning l.cx).clauses l.self)) w r →
    Walks (g.V.TypeVisitor.visits l.cx) 0 l.fn.visitor ((g.I.Interner.meaning l.cx).clauses l.self) w r
