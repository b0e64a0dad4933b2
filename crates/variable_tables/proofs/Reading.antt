-- What is read of a table as contracts see it, by the rows and roots that it keeps.
use Rattle.std.proofs.Common.{◌≡◌, ℕ, ◌<◌, refl, sym, ap, ◌∙◌, arith, List, length, get_or, Option, Some, None}
use Rattle.std.proofs.lemmas.List.{get_or-map}
use Rattle.variable_classes.specs.Roots.{root_in}
use Rattle.variable_tables.specs.declared.inner.Variable.{Variable}
use Rattle.variable_tables.specs.declared.inner.VariableValue.{VariableValue}
use Rattle.variable_tables.specs.declared.inner.VariableValue.TheVariants.{Unknown}
use Rattle.variable_tables.specs.declared.table.Row.{Row}
use Rattle.variable_tables.specs.Tabled.{Table}
use Rattle.variable_tables.specs.Variables.{keys_of, value_at, root_at, universe_at, term_at, term_by, free_universe, class_universe}
use Rattle.variable_tables.specs.Rooted.{bound_value, root_value, term_or, variables_from}
use Rattle.variable_tables.proofs.Rows.{keys_are, universes_are, as_long, value_is, root_is, value_root, own_root}

abbrev pub table_of : {K : Type 0} → List (Row K) → List ℕ → Table K
table_of es rs = record { items = variables_from 0 es rs }

pub table_long : {K : Type 0} (es : List (Row K)) (rs : List ℕ) (t : Table K) → table_of es rs ≡ t → length es ≡ length t.items
table_long es rs t is = sym (as_long 0 es rs) ∙ ap (λ z. length z.items) is

module _ {K : Type 0} (es : List (Row K)) (rs : List ℕ) (t : Table K) (is : table_of es rs ≡ t) (v : ℕ) (h : v < length t.items) where
  pub in_rows : v < length es
  in_rows = let a = table_long es rs t is in omega (arith, a, h)

  pub in_roots : length rs ≡ length es → v < length rs
  in_roots long = let a = in_rows in omega (arith, a, long)

  pub reads_root : root_at t.items v ≡ root_in rs v
  reads_root = ap (λ z. root_at z.items v) (sym is) ∙ root_is es rs v in_rows

  pub table_own : value_at t.items v ≡ Unknown → root_in rs v ≡ v
  table_own e = own_root es rs v in_rows (ap (λ z. value_at z.items v) is ∙ e)

  -- `row` is the variable's.
  module _ (row : Row K) (e : row ≡ get_or es v row) where
    pub reads_value : value_at t.items v ≡ root_value v (root_in rs v) row.term
    reads_value = ap (λ z. value_at z.items v) (sym is) ∙ value_is es rs v in_rows
        ∙ ap (root_value v (root_in rs v)) (get_or-map (λ z. z.term) es v row None in_rows ∙ ap (λ z. z.term) (sym e))

    pub reads_key : (d : K) → row.key ≡ get_or (keys_of t.items) v d
    reads_key d = ap (λ z. z.key) e ∙ sym (get_or-map (λ z. z.key) es v row d in_rows) ∙ ap (λ ks. get_or ks v d) (sym (keys_are 0 es rs))
        ∙ ap (λ z. get_or (keys_of z.items) v d) is

    pub reads_universe : (row.universe).0 ≡ universe_at t.items v
    reads_universe = ap (λ z. (z.universe).0) e ∙ sym (get_or-map (λ z. (z.universe).0) es v row 0 in_rows) ∙ ap (λ us. get_or us v 0) (sym (universes_are 0 es rs))
        ∙ ap (λ z. universe_at z.items v) is

    -- Of a root.
    term_is : (x : VariableValue K) → x ≡ bound_value row.term → (k : K) → term_by k x ≡ term_or k row.term
    term_is x q k = ap (term_by k) q ∙ go row.term
      where
        go : (o : Option K) → term_by k (bound_value o) ≡ term_or k o
        go None = refl
        go (Some z) = refl

    pub reads_term : root_in rs v ≡ v → (d : Variable K) → term_or row.key row.term ≡ term_at (get_or t.items v d)
    reads_term own d =
        let value : (get_or t.items v d).value ≡ bound_value row.term =
        sym (get_or-map (λ z. z.value) t.items v d Unknown h) ∙ reads_value ∙ value_root v (root_in rs v) row.term own in
        let key : row.key ≡ (get_or t.items v d).key = reads_key ((get_or t.items v d).key) ∙ get_or-map (λ z. z.key) t.items v d ((get_or t.items v d).key) h in
        sym (term_is (get_or t.items v d).value value row.key) ∙ ap (λ k. term_by k (get_or t.items v d).value) key

-- The universe of a class, by its root and what is recorded of that.
pub class_universe_is : {K : Type 0} (vs : List (Variable K)) (v root : ℕ) (x : VariableValue K) → root ≡ root_at vs v → x ≡ value_at vs root →
    free_universe (universe_at vs root) x ≡ class_universe vs v
class_universe_is vs v root x e q = ap (free_universe (universe_at vs root)) q ∙ ap (λ r. free_universe (universe_at vs r) (value_at vs r)) e
