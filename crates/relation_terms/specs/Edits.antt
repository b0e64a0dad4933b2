-- How lists of arguments are cut, joined and made, and which aliases ask what of an item.
--
--   first_of n ts        the first n members
--   behind_first n ts    what stands behind them
--   put_before ts us     ts, then us
--   with_first t ts      the list with t in place of its first member
--   param_trees ks       of each generic parameter itself
--   error_trees ks       of each generic parameter an error of its kind; of a lifetime 'static, as there is no error region
--   HasSelf ts           the list has a first member, which is a type
use Rattle.std.specs.Prelude.{ℕ, zero, suc, ◌≡◌, List, [], ◌∷◌}
use Rattle.relation_terms.specs.Heads.{BoundKind, bound_kind, region_kind, type_kind, const_kind, type_sort, atom}
use Rattle.relation_terms.specs.Heads.{type_param, early_region, const_param, type_error, const_error, static_region}
use Rattle.relation_terms.specs.Trees.{Tree, leaf, nil, cons}
use Rattle.relation_terms.specs.Parts.{tree_sort}

-- The first members of a list.
abbrev pub first_of : ℕ → Tree → Tree
first_of zero ts = nil
first_of (suc n) (cons t ts) = cons t (first_of n ts)
first_of (suc n) ts = nil

-- What stands behind the first members.
abbrev pub behind_first : ℕ → Tree → Tree
behind_first zero ts = ts
behind_first (suc n) (cons t ts) = behind_first n ts
behind_first (suc n) ts = nil

-- One list, then another.
abbrev pub put_before : Tree → Tree → Tree
put_before (cons t ts) us = cons t (put_before ts us)
put_before ts us = us

-- The list with another first member.
abbrev pub with_first : Tree → Tree → Tree
with_first t ts = cons t (behind_first 1 ts)

-- A generic parameter of an index, and an error in its place.
abbrev pub param_tree : ℕ → BoundKind → Tree
param_tree i (bound_kind region_kind n) = leaf (atom (early_region i n))
param_tree i (bound_kind type_kind n) = leaf (atom (type_param i n))
param_tree i (bound_kind const_kind n) = leaf (atom (const_param i n))

abbrev pub error_tree : BoundKind → Tree
error_tree (bound_kind region_kind n) = leaf (atom static_region)
error_tree (bound_kind type_kind n) = leaf (atom type_error)
error_tree (bound_kind const_kind n) = leaf (atom const_error)

-- The generic parameters, the first of an index, each as itself.
abbrev pub params_from : ℕ → List BoundKind → Tree
params_from i [] = nil
params_from i (k ∷ ks) = cons (param_tree i k) (params_from (suc i) ks)

abbrev pub param_trees : List BoundKind → Tree
param_trees ks = params_from 0 ks

abbrev pub error_trees : List BoundKind → Tree
error_trees [] = nil
error_trees (k ∷ ks) = cons (error_tree k) (error_trees ks)

-- The list begins with a type.
abbrev pub HasSelf : Tree → Type 0
HasSelf (cons t ts) = tree_sort t ≡ type_sort
HasSelf ts = ⊥
