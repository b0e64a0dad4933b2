use Rattle.std.proofs.Common.{◌≡◌, ap}
use Rattle.std.specs.Cmp.Derive.{both_true}
use Rattle.relation_terms.specs.Trees.{nth}
use Rattle.relation_terms.specs.Parts.{parts_of}
use Rattle.relation_folds.specs.Folds.{folded}
use Rattle.relation_folds.proofs.Folding.{left_later}
use Rattle.relation_terms.proofs.Predicates.{two_known}
use Rattle.relation_folds.proofs.fold.predicates.OutlivesPredicateKeyRegionKeyKeyTypeFoldable.fold_with.Goals as goal

pub returns-clause-same : goal.returns-clause-same
returns-clause-same g c = λ q.
    let m = g.I.Interner.meaning c.args.cx.now in
    let n = g.I.Interner.meaning c.fold_region_with.new.cx in
    let p = g.F.TypeFolder.replaces m c.args.folder.now in
    let x = c.args.self.now in
    let s = c.in_ok-longer.ensures.steps in
    let k = (two_known (m.region x.0) (m.region x.1) c.requires.known).1 in
    let first : folded p 0 (m.region x.0) ≡ m.region x.0 = ap (λ t. nth 0 (parts_of t)) q in
    let second : folded p 0 (m.region x.1) ≡ m.region x.1 = ap (λ t. nth 1 (parts_of t)) q in
    both_true (c.in_ok-longer.ensures.same first)
    (c.in_ok-shorter.ensures.same (left_later s 0 (m.region x.1) (n.region x.1) (s.grown.region x.1 k) second))
