-- How many types and constants binders bind, for what a budget has to be.
use Rattle.std.specs.Prelude.{ℕ, ◌+◌, ◌<◌, List, [], ◌∷◌}
use Rattle.relation_terms.specs.Heads.{BoundKind, bound_kind, type_kind, const_kind, region_kind}
use Rattle.relation_terms.specs.Trees.{Tree}
use Rattle.relation_semantics.specs.Binders.{bound_by}
use Rattle.relation_semantics.specs.OneUniverse.{HasOneUniverse, all_unbound}
use Rattle.relation_semantics.specs.Stores.{Store}

-- One for a place of a binder that stands for a type or a constant.
abbrev pub counts_kind : BoundKind → ℕ
counts_kind (bound_kind type_kind n) = 1
counts_kind (bound_kind const_kind n) = 1
counts_kind (bound_kind region_kind n) = 0

-- How many places of a binder's list do.
abbrev pub types_bound : List BoundKind → ℕ
types_bound [] = 0
types_bound (k ∷ ks) = counts_kind k + types_bound ks

-- Fewer instantiations were left than there were unresolved type and constant variables, with one for each type or
-- constant that either header binds; if all of these variables were of the current universe.
abbrev pub WasTooFew : Store → Tree → Tree → Type 0
WasTooFew st a b = HasOneUniverse st.universe st →
    st.budget < all_unbound st + (types_bound (bound_by a) + types_bound (bound_by b))
