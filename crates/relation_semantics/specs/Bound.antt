-- What binders bind in their bodies: by their lists.
use Rattle.std.specs.Prelude.{◌≡◌, ℕ, suc, List, Some, slice_get}
use Rattle.relation_terms.specs.Heads.{BoundKind, bound_sort, Leaf, bound}
use Rattle.relation_terms.specs.Trees.{Tree, leaf, node, bind, nil, cons}

-- A leaf that the binder `depth` steps up binds is of the kind that stands at its place in the binder's list.
abbrev pub IsBoundAs : List BoundKind → ℕ → Leaf → Type 0
IsBoundAs ks depth (bound k d i) = d ≡ depth →
    (q : BoundKind) × (slice_get ks i ≡ Some q) × (bound_sort q ≡ bound_sort k)
IsBoundAs ks depth l = Unit {0}

-- All that the binder `depth` steps up binds in a tree.
abbrev pub AreBoundAs : List BoundKind → ℕ → Tree → Type 0
AreBoundAs ks depth (leaf l) = IsBoundAs ks depth l
AreBoundAs ks depth (node h ts) = AreBoundAs ks depth ts
AreBoundAs ks depth (bind ls t) = AreBoundAs ks (suc depth) t
AreBoundAs ks depth nil = Unit {0}
AreBoundAs ks depth (cons t ts) = AreBoundAs ks depth t × AreBoundAs ks depth ts

-- What a binder binds stands in its body by places of its list, as what it is there.
abbrev pub BindsByList : Tree → Type 0
BindsByList (bind ks t) = AreBoundAs ks 0 t
BindsByList t = Unit {0}

-- Each binder in a tree does that.
abbrev pub IsWellBound : Tree → Type 0
IsWellBound (leaf l) = Unit {0}
IsWellBound (node h ts) = IsWellBound ts
IsWellBound (bind ks t) = AreBoundAs ks 0 t × IsWellBound t
IsWellBound nil = Unit {0}
IsWellBound (cons t ts) = IsWellBound t × IsWellBound ts
