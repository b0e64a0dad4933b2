use Rattle.std.proofs.Common.{◌+◌, ◌*◌}
use Rattle.relation_terms.specs.Trees.{size, list_tree}
use Rattle.relation_folds.specs.Clashes.{Clash}
use Rattle.relation_folds.proofs.Visiting.{rest}
use Rattle.fast_reject.proofs.consts.+clashes.Given as goal

abbrev pub decreases-consts_may_unify : goal.decreases-consts_may_unify
decreases-consts_may_unify g l = 3 * size ((g.I.Interner.meaning l.cx.now).const_ l.lhs.now) + 1

abbrev pub decreases-valtrees_may_unify : goal.decreases-valtrees_may_unify
decreases-valtrees_may_unify g l = 3 * size ((g.I.Interner.meaning l.cx.now).valtree l.lhs.now) + 1

abbrev pub decreases-branches_may_unify : goal.decreases-branches_may_unify
decreases-branches_may_unify g l = 3 * size (list_tree (g.I.Interner.meaning l.cx.now).const_ l.left.now)

-- There is a clash in what is left just where there is one in the whole.
abbrev pub invariant-branches_may_unify-loop-i : goal.invariant-branches_may_unify-loop-i
invariant-branches_may_unify-loop-i g l =
    let m = g.I.Interner.meaning l.cx in
    let xs = list_tree (m.const_) l.left in
    let ys = list_tree (m.const_) l.right in
    record {
      on : Clash l.sides.left l.sides.right l.depth xs ys → Clash l.sides.left l.sides.right l.depth (rest l.i xs) (rest l.i ys);
      back : Clash l.sides.left l.sides.right l.depth (rest l.i xs) (rest l.i ys) → Clash l.sides.left l.sides.right l.depth xs ys;
    }
