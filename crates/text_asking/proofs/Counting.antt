-- How many variables a context has, and after one more was made.
use Rattle.std.proofs.Common.{◌≡◌, ℕ, zero, suc, ◌<◌, ◌≤◌, sym, ap, subst, arith, length, [], ◌∷◌}
use Rattle.std.proofs.lemmas.List.{length-append}
use Rattle.relation_terms.specs.Heads.{VarKind, type_var, int_var, float_var, const_var, region_var}
use Rattle.relation_terms.specs.Meaning.{Meaning}
use Rattle.relation_semantics.specs.Stores.{unbound}
use Rattle.relation_semantics.specs.Steps.{MakesVariable, IsLater}
use Rattle.variable_tables.specs.declared.inner.InferCtxtInner.{InferCtxtInner}
use Rattle.variable_tables.specs.Tables.{store_of}
use Rattle.relation_reference.proofs.Making.{entries_long}
use Rattle.text_asking.specs.Asking.{variables_in}

-- The entries of a kind are as many as its variables.
pub entries_count : {Key Id Name : Type 0} (m : Meaning Key Id Name) (x : InferCtxtInner Key) (k : VarKind) →
    length ((store_of m x).entries k) ≡ variables_in x k
entries_count m x type_var = entries_long m.ty x.types.items
entries_count m x int_var = entries_long m.ty x.ints.items
entries_count m x float_var = entries_long m.ty x.floats.items
entries_count m x const_var = entries_long m.const_ x.consts.items
entries_count m x region_var = entries_long m.region x.regions.items

-- What all smaller numbers are below is not smaller.
as_many : (a b : ℕ) → ((i : ℕ) → i < a → i < b) → a ≤ b
as_many zero b h = omega arith
as_many (suc a) b h = (let l = h a (omega arith) in omega (arith, l))

module _ {Key Id Name : Type 0} (m n : Meaning Key Id Name) (x y : InferCtxtInner Key) where
  -- No variable goes.
  pub none_lost : IsLater (store_of m x) (store_of n y) → (k : VarKind) → variables_in x k ≤ variables_in y k
  none_lost l k = as_many (variables_in x k) (variables_in y k)
      (λ i h. subst (λ z. i < z) (entries_count n y k) (l.grows k i (subst (λ z. i < z) (sym (entries_count m x k)) h)))

  -- One more variable of a kind.
  pub one_more : (k : VarKind) (i u : ℕ) → MakesVariable (store_of m x) (store_of n y) k i u →
      variables_in y k ≡ suc (variables_in x k)
  one_more k i u h =
      let l = length-append ((store_of m x).entries k) (unbound ∷ []) in
      let a = entries_count m x k in
      let b = entries_count n y k in
      let e = ap length h.entries_grow in
      omega (arith, l, a, b, e)
