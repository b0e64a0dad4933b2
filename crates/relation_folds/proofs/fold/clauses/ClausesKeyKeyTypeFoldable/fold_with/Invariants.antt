use Rattle.std.proofs.Common.{◌≡◌, IsTrue}
use Rattle.relation_terms.specs.Trees.{known, list_tree}
use Rattle.relation_folds.specs.Folds.{Steps, folded}
use Rattle.relation_folds.proofs.Members.{firsts}
use Rattle.relation_folds.proofs.fold.clauses.ClausesKeyKeyTypeFoldable.fold_with.Given as goal

abbrev pub invariant-loop-i : goal.invariant-loop-i
invariant-loop-i g l =
    let m = g.I.Interner.meaning l.fn.cx in
    let n = g.I.Interner.meaning l.cx in
    record {
      steps : Steps g.F.TypeFolder.ready g.F.TypeFolder.replaces m l.fn.folder n l.folder;
      same : list_tree n.clause l.made.items ≡
          folded (g.F.TypeFolder.replaces m l.fn.folder) 0 (firsts l.i (m.clauses l.self));
      sure : IsTrue (known (list_tree n.clause l.made.items));
    }
