use Rattle.relation_folds.proofs.Folding.{steps_grown}
use Rattle.relation_folds.proofs.fold.clauses.ClauseKeyKeyTypeFoldable.fold_with.Goals as goal

pub returns-clause-steps : goal.returns-clause-steps
returns-clause-steps g c =
    steps_grown g.met.F.TypeFolder.ready_on g.met.F.TypeFolder.replaces_on c.in_ok-made.ensures.steps
    c.mk_clause.ensures.grown
