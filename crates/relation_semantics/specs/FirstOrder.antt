-- First-order terms and stores, and unification.
use Rattle.std.specs.Prelude.{◌≡◌, ℕ, Some}
use Rattle.relation_terms.specs.Heads.{region_sort, leaf_sort, VarKind, type_var}
use Rattle.relation_terms.specs.Heads.{const_var, Atom, type_error, const_error, fresh_type, fresh_int, fresh_float}
use Rattle.relation_terms.specs.Heads.{fresh_const, not_null_pattern, unstable_feature, ambiguous, Head, adt, fn_def}
use Rattle.relation_terms.specs.Heads.{closure, coroutine_closure, coroutine, coroutine_witness, array, slice, tuple}
use Rattle.relation_terms.specs.Heads.{raw_ptr, ref, signature, inputs, value, value_type, value_branch, arguments}
use Rattle.relation_terms.specs.Heads.{existential_trait, existential_projection, trait_ref, trait_clause, Leaf}
use Rattle.relation_terms.specs.Heads.{variable, bound, placeholder, atom, unknown}
use Rattle.relation_terms.specs.Trees.{Tree, leaf, node, bind, nil, cons, Assign, apply, Leaves, IsList}
use Rattle.relation_terms.specs.Erasure.{erase}
use Rattle.relation_semantics.specs.Stores.{Store, bound_term, IsAssignment}

-- No error, nothing that stands for a variable, no pattern, and of the predicates without parts none but auto traits.
abbrev pub IsFirstOrderAtom : Atom → Type 0
IsFirstOrderAtom type_error = ⊥
IsFirstOrderAtom const_error = ⊥
IsFirstOrderAtom (fresh_type n) = ⊥
IsFirstOrderAtom (fresh_int n) = ⊥
IsFirstOrderAtom (fresh_float n) = ⊥
IsFirstOrderAtom (fresh_const n) = ⊥
IsFirstOrderAtom not_null_pattern = ⊥
IsFirstOrderAtom (unstable_feature d) = ⊥
IsFirstOrderAtom ambiguous = ⊥
IsFirstOrderAtom x = Unit {0}

-- No bound variable.
abbrev pub IsFirstOrderLeaf : Leaf → Type 0
IsFirstOrderLeaf (variable k n) = Unit {0}
IsFirstOrderLeaf (bound k d i) = ⊥
IsFirstOrderLeaf (placeholder k u n) = Unit {0}
IsFirstOrderLeaf (atom x) = IsFirstOrderAtom x
IsFirstOrderLeaf unknown = ⊥

-- No alias, binder or pattern type; of the constants' forms values alone.
abbrev pub IsFirstOrderHead : Head → Type 0
IsFirstOrderHead (adt d) = Unit {0}
IsFirstOrderHead (fn_def d) = Unit {0}
IsFirstOrderHead (closure d) = Unit {0}
IsFirstOrderHead (coroutine_closure d) = Unit {0}
IsFirstOrderHead (coroutine d) = Unit {0}
IsFirstOrderHead (coroutine_witness d) = Unit {0}
IsFirstOrderHead array = Unit {0}
IsFirstOrderHead slice = Unit {0}
IsFirstOrderHead tuple = Unit {0}
IsFirstOrderHead (raw_ptr m) = Unit {0}
IsFirstOrderHead (ref m) = Unit {0}
IsFirstOrderHead (signature v s x) = Unit {0}
IsFirstOrderHead inputs = Unit {0}
IsFirstOrderHead value = Unit {0}
IsFirstOrderHead value_type = Unit {0}
IsFirstOrderHead value_branch = Unit {0}
IsFirstOrderHead arguments = Unit {0}
IsFirstOrderHead (existential_trait d) = Unit {0}
IsFirstOrderHead (existential_projection d) = Unit {0}
IsFirstOrderHead (trait_ref d) = Unit {0}
IsFirstOrderHead (trait_clause p) = Unit {0}
IsFirstOrderHead h = ⊥

-- A region's variable, bound variable, placeholder or name.
abbrev pub IsRegionLeaf : Leaf → Type 0
IsRegionLeaf l = leaf_sort l ≡ region_sort

-- No variable and no placeholder of a type or a constant.
abbrev pub IsClosedLeaf : Leaf → Type 0
IsClosedLeaf (variable type_var n) = ⊥
IsClosedLeaf (variable const_var n) = ⊥
IsClosedLeaf (variable k n) = Unit {0}
IsClosedLeaf (bound k d i) = Unit {0}
IsClosedLeaf (placeholder k u n) = IsRegionLeaf (placeholder k u n)
IsClosedLeaf (atom x) = Unit {0}
IsClosedLeaf unknown = ⊥

-- The type of a value is closed.
abbrev pub IsTypeClosed : Head → Tree → Type 0
IsTypeClosed value_type ts = Leaves IsClosedLeaf ts
IsTypeClosed h ts = Unit {0}

-- A first-order term: its leaves, forms and values are.
abbrev pub IsFirstOrder : Tree → Type 0
IsFirstOrder (leaf l) = IsFirstOrderLeaf l
IsFirstOrder (node h ts) = IsFirstOrderHead h × IsList ts × IsTypeClosed h ts × IsFirstOrder ts
IsFirstOrder (bind ks t) = ⊥
IsFirstOrder nil = Unit {0}
IsFirstOrder (cons t ts) = IsFirstOrder t × IsFirstOrder ts

-- Each binding of the store is first-order.
abbrev pub IsFirstOrderStore : Store → Type 0
IsFirstOrderStore st = (k : VarKind) (n : ℕ) (t : Tree) → bound_term st k n ≡ Some t → IsFirstOrder t

-- The assignment makes the two terms one tree but for what erasure takes away.
abbrev pub Unifies : Assign → Tree → Tree → Type 0
Unifies s a b = erase (apply s a) ≡ erase (apply s b)

-- The assignment meets a store's bindings but for what erasure takes away.
abbrev pub MeetsErased : Store → Assign → Type 0
MeetsErased st s = (k : VarKind) (n : ℕ) (t : Tree) → bound_term st k n ≡ Some t → Unifies s (leaf (variable k n)) t

-- An assignment that satisfies a store's bindings up to erasure. Its constraints on regions are not asked.
abbrev pub IsErasedSolution : Store → Assign → Type 0
IsErasedSolution st s = IsAssignment st s × MeetsErased st s
