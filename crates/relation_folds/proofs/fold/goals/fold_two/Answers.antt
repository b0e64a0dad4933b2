use Rattle.std.proofs.Common.{◌≡◌, ap}
use Rattle.relation_terms.specs.Trees.{nth}
use Rattle.relation_folds.specs.Folds.{folded}
use Rattle.relation_folds.proofs.Folding.{left_later}
use Rattle.relation_terms.proofs.Predicates.{two_known}
use Rattle.relation_folds.proofs.fold.goals.fold_two.Goals as goal

pub returns-clause-same : goal.returns-clause-same
returns-clause-same g c = λ q.
    let m = g.I.Interner.meaning c.args.cx.now in
    let n = g.I.Interner.meaning c.fold_with.new.cx in
    let p = g.F.TypeFolder.replaces m c.args.folder.now in
    let t = g.T.HasTree.tree m c.args.first.now in
    let u = g.U.HasTree.tree m c.args.second.now in
    let s = c.in_ok-new_first.ensures.steps in
    let k = (two_known t u c.requires.known).1 in
    let first : folded p 0 t ≡ t = ap (nth 0) q in
    let second : folded p 0 u ≡ u = ap (nth 1) q in (
      c.in_ok-new_first.ensures.same first,
      c.in_ok-new_second.ensures.same (left_later s 0 u (g.U.HasTree.tree n c.args.second.now)
          (g.U.HasTree.stays m n s.grown c.args.second.now k) second),
    )
