use Rattle.std.proofs.Common.{◌+◌, ◌*◌}
use Rattle.relation_terms.specs.Trees.{size, list_tree}
use Rattle.relation_terms.specs.Meaning.{arg_tree}
use Rattle.relation_folds.specs.Clashes.{Clash}
use Rattle.fast_reject.specs.Pairs.{pair_size}
use Rattle.relation_folds.proofs.Visiting.{rest}
use Rattle.fast_reject.proofs.walk.+clashes.Given as goal

abbrev pub decreases-types_may_unify : goal.decreases-types_may_unify
decreases-types_may_unify g l = 3 * size ((g.I.Interner.meaning l.cx.now).ty l.lhs) + 1

abbrev pub decreases-unlike_may_unify : goal.decreases-unlike_may_unify
decreases-unlike_may_unify g l = 3 * size ((g.I.Interner.meaning l.cx.now).ty l.lhs)

abbrev pub decreases-pair_may_unify : goal.decreases-pair_may_unify
decreases-pair_may_unify g l = 3 * pair_size (g.I.Interner.meaning l.cx.now) l.pair + 2

abbrev pub decreases-tys_may_unify : goal.decreases-tys_may_unify
decreases-tys_may_unify g l = 3 * size (list_tree (g.I.Interner.meaning l.cx.now).ty l.left.now)

abbrev pub decreases-arg_may_unify : goal.decreases-arg_may_unify
decreases-arg_may_unify g l = 3 * size (arg_tree (g.I.Interner.meaning l.cx.now) l.left.now) + 2

abbrev pub decreases-args_may_unify : goal.decreases-args_may_unify
decreases-args_may_unify g l = 3 * size (list_tree (arg_tree (g.I.Interner.meaning l.cx.now)) l.left.now)

-- There is a clash in what is left just where there is one in the whole.
abbrev pub invariant-tys_may_unify-loop-i : goal.invariant-tys_may_unify-loop-i
invariant-tys_may_unify-loop-i g l =
    let m = g.I.Interner.meaning l.cx in
    let xs = list_tree (m.ty) l.left in
    let ys = list_tree (m.ty) l.right in
    record {
      on : Clash l.sides.left l.sides.right l.depth xs ys → Clash l.sides.left l.sides.right l.depth (rest l.i xs) (rest l.i ys);
      back : Clash l.sides.left l.sides.right l.depth (rest l.i xs) (rest l.i ys) → Clash l.sides.left l.sides.right l.depth xs ys;
    }

-- There is a clash in what is left just where there is one in the whole.
abbrev pub invariant-args_may_unify-loop-i : goal.invariant-args_may_unify-loop-i
invariant-args_may_unify-loop-i g l =
    let m = g.I.Interner.meaning l.cx in
    let xs = list_tree (arg_tree m) l.left in
    let ys = list_tree (arg_tree m) l.right in
    record {
      on : Clash l.sides.left l.sides.right l.depth xs ys → Clash l.sides.left l.sides.right l.depth (rest l.i xs) (rest l.i ys);
      back : Clash l.sides.left l.sides.right l.depth (rest l.i xs) (rest l.i ys) → Clash l.sides.left l.sides.right l.depth xs ys;
    }
