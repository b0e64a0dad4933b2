-- What is asked of terms as a whole: how far their bound variables escape, and whether inference variables stand in them.
use Rattle.std.specs.Prelude.{ℕ, suc, ◌-◌, max, Bool, true, false, ◌||◌}
use Rattle.relation_terms.specs.Heads.{Leaf, variable, bound, region_var}
use Rattle.relation_terms.specs.Trees.{Tree, leaf, node, bind, nil, cons}
use Rattle.relation_terms.specs.declared.terms.flags.TypeFlags.{TypeFlags}

-- How many binders a leaf needs around it, so that it is bound by none outside of them.
abbrev pub leaf_binder : Leaf → ℕ
leaf_binder (bound k d i) = suc d
leaf_binder l = 0

-- How many binders a tree needs around it, so that none of its variables is bound outside of them.
abbrev pub outer_exclusive_binder : Tree → ℕ
outer_exclusive_binder (leaf l) = leaf_binder l
outer_exclusive_binder (node h ts) = outer_exclusive_binder ts
outer_exclusive_binder (bind ks t) = outer_exclusive_binder t - 1
outer_exclusive_binder nil = 0
outer_exclusive_binder (cons t ts) = max (outer_exclusive_binder t) (outer_exclusive_binder ts)

-- An inference variable of any kind but region.
abbrev pub is_non_region_variable : Leaf → Bool
is_non_region_variable (variable region_var n) = false
is_non_region_variable (variable k n) = true
is_non_region_variable l = false

-- An inference variable of any kind but region stands in a tree.
abbrev pub has_non_region_infer : Tree → Bool
has_non_region_infer (leaf l) = is_non_region_variable l
has_non_region_infer (node h ts) = has_non_region_infer ts
has_non_region_infer (bind ks t) = has_non_region_infer t
has_non_region_infer nil = false
has_non_region_infer (cons t ts) = has_non_region_infer t || has_non_region_infer ts

-- Both answers.
abbrev pub flags_of : Tree → TypeFlags
flags_of t = record {
  outer_exclusive_binder = outer_exclusive_binder t;
  has_non_region_infer = has_non_region_infer t;
}

-- The answers of two trees together, and of a tree under one more binder.
abbrev pub flags_joined : TypeFlags → TypeFlags → TypeFlags
flags_joined f g = record {
  outer_exclusive_binder = max f.outer_exclusive_binder g.outer_exclusive_binder;
  has_non_region_infer = f.has_non_region_infer || g.has_non_region_infer;
}

abbrev pub flags_under : TypeFlags → TypeFlags
flags_under f = record {
  outer_exclusive_binder = f.outer_exclusive_binder - 1;
  has_non_region_infer = f.has_non_region_infer;
}

-- The answers of a tree that is a leaf; of all others, those of a tree without leaves.
abbrev pub own_flags : Tree → TypeFlags
own_flags (leaf l) = flags_of (leaf l)
own_flags t = flags_of nil
