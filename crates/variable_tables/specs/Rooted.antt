-- What a table of variables keeps: rows, and beside them the roots of classes.
use Rattle.std.specs.Prelude.{◌≡◌, ℕ, suc, List, [], ◌∷◌, map, length, eqb, cond, Option, Some, None}
use Rattle.variable_classes.specs.Roots.{root_in}
use Rattle.variable_tables.specs.declared.inner.Variable.{Variable}
use Rattle.variable_tables.specs.declared.inner.VariableValue.{VariableValue}
use Rattle.variable_tables.specs.declared.inner.VariableValue.TheVariants.{Unknown, SameAs, Known}
use Rattle.variable_tables.specs.declared.table.Row.{Row}

module _ {K : Type 0} where
  -- The keys, terms and universes of rows.
  abbrev pub row_keys : List (Row K) → List K
  row_keys es = map (λ e. e.key) es

  abbrev pub row_terms : List (Row K) → List (Option K)
  row_terms es = map (λ e. e.term) es

  abbrev pub row_universes : List (Row K) → List ℕ
  row_universes es = map (λ e. (e.universe).0) es

  -- What is recorded of a root, by the term that it is bound to; and of a variable with a root.
  abbrev pub bound_value : Option K → VariableValue K
  bound_value None = Unknown
  bound_value (Some t) = Known t

  abbrev pub root_value : ℕ → ℕ → Option K → VariableValue K
  root_value n r t = cond (eqb r n) (bound_value t) (SameAs r)

  -- The term that a root is bound to, or else its key.
  abbrev pub term_or : K → Option K → K
  term_or k None = k
  term_or k (Some t) = t

  -- The variables of rows, from a number on.
  abbrev pub variables_from : ℕ → List (Row K) → List ℕ → List (Variable K)
  variables_from n [] rs = []
  variables_from n (e ∷ es) rs =
      (record { key = e.key; value = root_value n (root_in rs n) e.term; universe = e.universe }) ∷ variables_from (suc n) es rs

  -- Each variable has a root there.
  abbrev pub IsTable : List (Row K) → List ℕ → Type 0
  IsTable es rs = length rs ≡ length es
