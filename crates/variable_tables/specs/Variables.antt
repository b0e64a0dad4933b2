-- One table of variables, as lists: what is recorded of them, and what leading a class on makes of it.
use Rattle.std.specs.Prelude.{ℕ, min, List, map, get_or, slice_set, eqb, cond, Option, Some, None}
use Rattle.relation_terms.specs.Trees.{Tree}
use Rattle.relation_terms.specs.declared.terms.numbers.UniverseIndex.{UniverseIndex}
use Rattle.relation_semantics.specs.Stores.{Entry, unbound, same_as, bound_to}
use Rattle.variable_tables.specs.declared.inner.Variable.{Variable}
use Rattle.variable_tables.specs.declared.inner.VariableValue.{VariableValue}
use Rattle.variable_tables.specs.declared.inner.VariableValue.TheVariants.{Unknown, SameAs, Known}

module _ {K : Type 0} where
  -- The keys of variables, what is recorded of them, and their universes.
  abbrev pub keys_of : List (Variable K) → List K
  keys_of vs = map (λ v. v.key) vs

  abbrev pub values_of : List (Variable K) → List (VariableValue K)
  values_of vs = map (λ v. v.value) vs

  abbrev pub universes_of : List (Variable K) → List ℕ
  universes_of vs = map (λ v. (v.universe).0) vs

  -- The same of one variable, by its number.
  abbrev pub value_at : List (Variable K) → ℕ → VariableValue K
  value_at vs n = get_or (values_of vs) n Unknown

  abbrev pub universe_at : List (Variable K) → ℕ → ℕ
  universe_at vs n = get_or (universes_of vs) n 0

  -- The root of a variable, by what is recorded of it.
  abbrev pub root_by : ℕ → VariableValue K → ℕ
  root_by n Unknown = n
  root_by n (SameAs r) = r
  root_by n (Known t) = n

  abbrev pub root_at : List (Variable K) → ℕ → ℕ
  root_at vs n = root_by n (value_at vs n)

  -- The universe of a variable of which nothing is recorded, or none.
  abbrev pub free_universe : ℕ → VariableValue K → Option UniverseIndex
  free_universe u Unknown = Some (record { 0 = u })
  free_universe u (SameAs r) = None
  free_universe u (Known t) = None

  -- The universe of the root of a variable's class, or none where that is bound to a term.
  abbrev pub class_universe : List (Variable K) → ℕ → Option UniverseIndex
  class_universe vs n = free_universe (universe_at vs (root_at vs n)) (value_at vs (root_at vs n))

  -- The term that a root is bound to, or else its key.
  abbrev pub term_by : K → VariableValue K → K
  term_by k Unknown = k
  term_by k (SameAs r) = k
  term_by k (Known t) = t

  abbrev pub term_at : Variable K → K
  term_at v = term_by v.key v.value

  -- A variable of which nothing is recorded.
  abbrev pub free_variable : K → UniverseIndex → Variable K
  free_variable k u = record { key = k; value = Unknown; universe = u }

  -- What leads to the child leads to the root from then on; all else stands.
  abbrev pub led : ℕ → ℕ → VariableValue K → VariableValue K
  led child root Unknown = Unknown
  led child root (SameAs m) = SameAs (cond (eqb m child) root m)
  led child root (Known t) = Known t

  -- What is recorded of variables once the child and its class lead to the root, and their universes then.
  abbrev pub led_values : ℕ → ℕ → List (Variable K) → List (VariableValue K)
  led_values child root vs = slice_set (map (led child root) (values_of vs)) child (SameAs root)

  abbrev pub led_universes : ℕ → ℕ → List (Variable K) → List ℕ
  led_universes child root vs = slice_set (universes_of vs) root (min (universe_at vs child) (universe_at vs root))

  -- What is recorded of a variable, by the trees of its terms.
  abbrev pub entry_of_value : (K → Tree) → VariableValue K → Entry
  entry_of_value tree Unknown = unbound
  entry_of_value tree (SameAs m) = same_as m
  entry_of_value tree (Known t) = bound_to (tree t)

  -- The entries of a table.
  abbrev pub entries_of : (K → Tree) → List (Variable K) → List Entry
  entries_of tree vs = map (entry_of_value tree) (values_of vs)

  -- The trees of the keys of a table.
  abbrev pub trees_of : (K → Tree) → List (Variable K) → List Tree
  trees_of tree vs = map tree (keys_of vs)
