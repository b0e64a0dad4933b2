-- Terms and stores whose types and constants stand in one universe, and how often relating them may instantiate.
use Rattle.std.specs.Prelude.{◌≡◌, ◌⊎◌, ℕ, ◌+◌, ◌<◌, ◌≤◌}
use Rattle.relation_terms.specs.Heads.{VarKind, type_var, const_var, Leaf, placeholder}
use Rattle.relation_terms.specs.Trees.{Tree, Leaves}
use Rattle.relation_semantics.specs.Stores.{Store, Entry, unbound, same_as, bound_to, universe_of, IsMade, sum_over, all_bound}
use Rattle.relation_semantics.specs.FirstOrder.{IsRegionLeaf}
use Rattle.relation_semantics.specs.ErasureLaws.{IsTypeOrConst}

-- No placeholder of a type or a constant is of a universe above `u`.
abbrev pub NamesTypesTo : ℕ → Leaf → Type 0
NamesTypesTo u (placeholder q w n) = IsRegionLeaf (placeholder q w n) ⊎ (w ≤ u)
NamesTypesTo u l = Unit {0}

-- Each variable of a type or a constant is of universe `u`.
abbrev pub HasOneUniverse : ℕ → Store → Type 0
HasOneUniverse u st = (k : VarKind) (n : ℕ) → IsTypeOrConst k → IsMade st k n → universe_of st k n ≡ u

-- The types and constants of two terms and of the store stand in universe `u`: the variables are of it, and of the
-- placeholders in the terms none is beyond what it can name.
pub record IsPairOf (u : ℕ) (st : Store) (a b : Tree) : Type 0 where
  pub variables : HasOneUniverse u st
  pub left : Leaves (NamesTypesTo u) a
  pub right : Leaves (NamesTypesTo u) b

-- One for the entry of a variable of which nothing is recorded.
abbrev pub counts_unbound : Entry → ℕ
counts_unbound unbound = 1
counts_unbound (same_as m) = 0
counts_unbound (bound_to t) = 0

-- How many type and constant variables are unresolved, of those that are the same only one.
abbrev pub all_unbound : Store → ℕ
all_unbound st = sum_over counts_unbound (st.entries type_var) + sum_over counts_unbound (st.entries const_var)

-- One for the entry of a variable that is the same as no other.
abbrev pub counts_root : Entry → ℕ
counts_root unbound = 1
counts_root (same_as m) = 0
counts_root (bound_to t) = 1

-- How many type and constant variables there are, of those that are the same only one.
abbrev pub all_roots : Store → ℕ
all_roots st = sum_over counts_root (st.entries type_var) + sum_over counts_root (st.entries const_var)

-- The variables of types and constants are of universe `u` still, and there are no more of them.
abbrev pub StaysOf : ℕ → Store → Store → Type 0
StaysOf u before after = HasOneUniverse u after × (all_roots after ≤ all_roots before)

-- They are wherever they were.
abbrev pub KeepsUniverse : Store → Store → Type 0
KeepsUniverse before after = (u : ℕ) → HasOneUniverse u before → StaysOf u before after

-- They are after two terms were related, where the terms stand in that universe too.
abbrev pub KeepsUniverseOf : Store → Store → Tree → Tree → Type 0
KeepsUniverseOf before after a b = (u : ℕ) → IsPairOf u before a b → StaysOf u before after

-- The same of a step to a pair that is left, and that stands in the universe too.
abbrev pub LeadsInUniverse : Store → Store → Tree → Tree → Tree → Tree → Type 0
LeadsInUniverse before after a b x y = (u : ℕ) → IsPairOf u before a b → IsPairOf u after x y ×
    (all_roots after ≤ all_roots before)

-- Of two terms in one universe: at most as many type and constant variables are bound after as there were before.
abbrev pub BindsNoMore : Store → Store → Tree → Tree → Type 0
BindsNoMore before after a b = (u : ℕ) → IsPairOf u before a b → all_bound after ≤ all_roots before

-- Fewer are: one is unresolved.
abbrev pub BindsFewer : Store → Store → Tree → Tree → Type 0
BindsFewer before after a b = (u : ℕ) → IsPairOf u before a b → all_bound after < all_roots before
