use Rattle.std.proofs.Common.{◌≡◌, ap}
use Rattle.std.specs.Cmp.Derive.{both_true}
use Rattle.relation_terms.specs.Trees.{nth}
use Rattle.relation_terms.specs.Parts.{parts_of}
use Rattle.relation_terms.proofs.Same.{bool_self}
use Rattle.relation_folds.specs.Folds.{folded}
use Rattle.relation_folds.proofs.Folding.{left_later}
use Rattle.relation_terms.proofs.Predicates.{two_known}
use Rattle.relation_folds.proofs.fold.predicates.SubtypePredicateKeyTypeFoldable.fold_with.Goals as goal

pub returns-clause-same : goal.returns-clause-same
returns-clause-same g c = λ q.
    let m = g.I.Interner.meaning c.args.cx.now in
    let n = g.I.Interner.meaning c.fold_ty_with.new.cx in
    let p = g.F.TypeFolder.replaces m c.args.folder.now in
    let x = c.args.self.now in
    let s = c.in_ok-a.ensures.steps in
    let k = (two_known (m.ty x.a) (m.ty x.b) c.requires.known).1 in
    let first : folded p 0 (m.ty x.a) ≡ m.ty x.a = ap (λ t. nth 0 (parts_of t)) q in
    let second : folded p 0 (m.ty x.b) ≡ m.ty x.b = ap (λ t. nth 1 (parts_of t)) q in
    both_true (bool_self x.a_is_expected) (both_true (c.in_ok-a.ensures.same first)
    (c.in_ok-b.ensures.same (left_later s 0 (m.ty x.b) (n.ty x.b) (s.grown.ty x.b k) second)))
