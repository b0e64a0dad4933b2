-- Binders that bind by their lists: in the parts of what they do so in.
use Rattle.std.proofs.Common.{ℕ, zero, suc, ◌<◌, arith}
use Rattle.relation_terms.specs.Heads.{unevaluated, expression, value, value_branch}
use Rattle.relation_terms.specs.Trees.{Tree, leaf, node, bind, nil, cons, count, nth}
use Rattle.relation_semantics.specs.Bound.{BindsByList, IsWellBound}
use Rattle.relation_semantics.specs.Parts.{direct_parts, branches_of, const_parts_of}

-- The outermost binder does, where each does.
pub outermost_binds : (t : Tree) → IsWellBound t → BindsByList t
outermost_binds (bind ks t) b = b.0
outermost_binds t b = tt

-- And so do those in its parts.
pub nth_by_lists : (ts : Tree) (i : ℕ) → i < count ts → IsWellBound ts → IsWellBound (nth i ts)
nth_by_lists (cons t ts) zero l b = b.0
nth_by_lists (cons t ts) (suc i) l b = nth_by_lists ts i (omega (arith, l)) b.1
nth_by_lists (leaf x) i l b = absurd (omega (arith, l))
nth_by_lists (node h ts) i l b = absurd (omega (arith, l))
nth_by_lists (bind ks t) i l b = absurd (omega (arith, l))
nth_by_lists nil i l b = absurd (omega (arith, l))

parts_by_lists : (t : Tree) → IsWellBound t → IsWellBound (direct_parts t)
parts_by_lists (node h ts) b = b
parts_by_lists t b = tt

branches_by_lists : (t : Tree) → IsWellBound t → IsWellBound (branches_of t)
branches_by_lists (node value_branch ts) b = b
branches_by_lists t b = tt

const_parts_by_lists : (t : Tree) → IsWellBound t → IsWellBound (const_parts_of t)
const_parts_by_lists (node (unevaluated d) ts) b = b
const_parts_by_lists (node (expression k) ts) b = b
const_parts_by_lists (node value (cons t (cons v nil))) b = branches_by_lists v b.1.0
const_parts_by_lists t b = tt

pub part_by_lists : (t : Tree) (i : ℕ) → i < count (direct_parts t) → IsWellBound t → IsWellBound (nth i (direct_parts t))
part_by_lists t i l b = nth_by_lists (direct_parts t) i l (parts_by_lists t b)

pub const_part_by_lists : (t : Tree) (i : ℕ) → i < count (const_parts_of t) → IsWellBound t →
    IsWellBound (nth i (const_parts_of t))
const_part_by_lists t i l b = nth_by_lists (const_parts_of t) i l (const_parts_by_lists t b)
