use Rattle.std.proofs.Common.{true, ◌≡◌, IsTrue}
use Rattle.std.proofs.lemmas.Bool.{and_parts, and_from}
use Rattle.relation_terms.specs.Trees.{known}
use Rattle.relation_folds.specs.Folds.{folded}
use Rattle.relation_folds.proofs.Folding.{left_later}
use Rattle.relation_folds.proofs.fold.foldable.ExpectedFoundTypeFoldable.fold_with.Goals as goal

pub returns-clause-same : goal.returns-clause-same
returns-clause-same g c = λ q.
    let m = g.I.Interner.meaning c.args.cx.now in
    let n = g.I.Interner.meaning c.fold_with.new.cx in
    let p = g.F.TypeFolder.replaces m c.args.folder.now in
    let tree = g.T.HasTree.tree in
    let eq = g.T.PartialEq.eq in
    let a = c.args.self.now.expected in
    let b = c.args.self.now.found in
    let s = c.in_ok-expected.ensures.steps in
    let first : folded p 0 (tree m a) ≡ tree m a = cc in
    let second : folded p 0 (tree m b) ≡ tree m b = cc in
    let part : IsTrue (known (tree m b)) = (and_parts (known (tree m b)) true
    (and_parts (known (tree m a)) _ c.requires.known).1).0 in
    let stay : tree n b ≡ tree m b = g.T.HasTree.stays m n s.grown b part in
    let x : IsTrue (eq c.in_ok-expected.expected a) = c.in_ok-expected.ensures.same first in
    let y : IsTrue (eq c.in_ok-found.found b) =
    c.in_ok-found.ensures.same (left_later s 0 (tree m b) (tree n b) stay second) in
    and_from (eq c.in_ok-expected.expected a) (eq c.in_ok-found.found b) x y
