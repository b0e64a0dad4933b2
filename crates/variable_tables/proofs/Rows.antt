-- What is read of the rows of a table, and what writing them and joining classes makes of it.
use Rattle.std.proofs.Common.{◌≡◌, ◌≢◌, ℕ, zero, suc, ◌+◌, ◌<◌, refl, sym, ap, ap₂, ◌∙◌, arith, List, [], ◌∷◌, ◌++◌, length, length-append, map, get_or, set, min, max, eqb, cond, true, false, Option, Some, None}
use Rattle.std.proofs.lemmas.List.{get_or-set_same, get_or-set_other, get_or_past, length-map, length-set, ext_get_or}
use Rattle.std.proofs.Math.ListN.{get_or-map as at_map}
use Rattle.std.proofs.lemmas.Bool.{eqb-true, eq-eqb}
use native.Mathlib.Decide.{ℕ_discrete}
use Rattle.variable_classes.specs.Roots.{root_in, led_root, joined_roots}
use Rattle.variable_classes.proofs.Leading.{led_child, led_other}
use Rattle.variable_classes.proofs.Rooted.{root_led as led_roots, root_more}
use Rattle.variable_tables.specs.declared.inner.VariableValue.{VariableValue}
use Rattle.variable_tables.specs.declared.inner.VariableValue.TheVariants.{Unknown, SameAs, Known}
use Rattle.variable_tables.specs.declared.table.Row.{Row}
use Rattle.variable_tables.specs.Variables.{keys_of, values_of, universes_of, value_at, root_at, root_by, universe_at, led, free_variable, led_values, led_universes}
use Rattle.variable_tables.specs.Rooted.{row_keys, row_terms, row_universes, bound_value, root_value, variables_from}

-- What is recorded of a root, and of another.
pub value_root : {K : Type 0} (n r : ℕ) (t : Option K) → r ≡ n → root_value n r t ≡ bound_value t
value_root n r t e = ap (λ b. cond b (bound_value t) (SameAs r)) (eq-eqb r n e)

pub value_other : {K : Type 0} (n r : ℕ) (t : Option K) → r ≢ n → root_value n r t ≡ SameAs r
value_other n r t o = go (eqb r n) refl
  where
    go : (b : _) → eqb r n ≡ b → root_value n r t ≡ SameAs r
    go true e = absurd (o (eqb-true r n e))
    go false e = ap (λ b. cond b (bound_value t) (SameAs r)) e

-- So of what nothing is recorded is its own root, and bound to nothing.
is_bound_free : {K : Type 0} (t : Option K) → bound_value t ≡ Unknown → t ≡ None
is_bound_free None e = refl
is_bound_free (Some t) e = absurd (cc e)

pub free_root : {K : Type 0} (n r : ℕ) (t : Option K) → root_value n r t ≡ Unknown → r ≡ n
free_root n r t e = go (ℕ_discrete r n)
  where
    go : Dec (r ≡ n) → r ≡ n
    go (yes q) = q
    go (no o) = let z = sym (value_other n r t o) ∙ e in absurd (cc z)

root_by_bound : {K : Type 0} (n : ℕ) (t : Option K) → root_by n (bound_value t) ≡ n
root_by_bound n None = refl
root_by_bound n (Some t) = refl

pub root_by_value : {K : Type 0} (n r : ℕ) (t : Option K) → root_by n (root_value n r t) ≡ r
root_by_value n r t = go (ℕ_discrete r n)
  where
    go : Dec (r ≡ n) → root_by n (root_value n r t) ≡ r
    go (yes e) = ap (root_by n) (value_root n r t e) ∙ root_by_bound n t ∙ sym e
    go (no o) = ap (root_by n) (value_other n r t o)

module _ {K : Type 0} where
  -- The values alone.
  abbrev pub values_from : ℕ → List (Option K) → List ℕ → List (VariableValue K)
  values_from n [] rs = []
  values_from n (t ∷ ts) rs = root_value n (root_in rs n) t ∷ values_from (suc n) ts rs

  pub keys_are : (n : ℕ) (es : List (Row K)) (rs : List ℕ) → keys_of (variables_from n es rs) ≡ row_keys es
  keys_are n [] rs = refl
  keys_are n (e ∷ es) rs = ap (λ ks. e.key ∷ ks) (keys_are (suc n) es rs)

  pub universes_are : (n : ℕ) (es : List (Row K)) (rs : List ℕ) → universes_of (variables_from n es rs) ≡ row_universes es
  universes_are n [] rs = refl
  universes_are n (e ∷ es) rs = ap (λ us. (e.universe).0 ∷ us) (universes_are (suc n) es rs)

  pub values_are : (n : ℕ) (es : List (Row K)) (rs : List ℕ) → values_of (variables_from n es rs) ≡ values_from n (row_terms es) rs
  values_are n [] rs = refl
  values_are n (e ∷ es) rs = ap (λ vs. root_value n (root_in rs n) e.term ∷ vs) (values_are (suc n) es rs)

  pub as_long : (n : ℕ) (es : List (Row K)) (rs : List ℕ) → length (variables_from n es rs) ≡ length es
  as_long n [] rs = refl
  as_long n (e ∷ es) rs = ap suc (as_long (suc n) es rs)

  values_long : (n : ℕ) (ts : List (Option K)) (rs : List ℕ) → length (values_from n ts rs) ≡ length ts
  values_long n [] rs = refl
  values_long n (t ∷ ts) rs = ap suc (values_long (suc n) ts rs)

  value_from : (n : ℕ) (ts : List (Option K)) (rs : List ℕ) (i m : ℕ) → i < length ts → n + i ≡ m →
      get_or (values_from n ts rs) i Unknown ≡ root_value m (root_in rs m) (get_or ts i None)
  value_from n [] rs i m h e = absurd (omega (arith, h))
  value_from n (t ∷ ts) rs zero m h e = ap (λ z. root_value z (root_in rs z) t) (let q : n ≡ m = omega (arith, e) in q)
  value_from n (t ∷ ts) rs (suc i) m h e = value_from (suc n) ts rs i m (omega (arith, h)) (omega (arith, e))

  -- What is recorded of a variable.
  pub value_is : (es : List (Row K)) (rs : List ℕ) (i : ℕ) → i < length es →
      value_at (variables_from 0 es rs) i ≡ root_value i (root_in rs i) (get_or (row_terms es) i None)
  value_is es rs i h = ap (λ vs. get_or vs i Unknown) (values_are 0 es rs)
      ∙ value_from 0 (row_terms es) rs i i (let a = length-map es (λ e. e.term) in omega (arith, a, h)) (omega arith)

  pub root_is : (es : List (Row K)) (rs : List ℕ) (i : ℕ) → i < length es → root_at (variables_from 0 es rs) i ≡ root_in rs i
  root_is es rs i h = ap (root_by i) (value_is es rs i h) ∙ root_by_value i (root_in rs i) (get_or (row_terms es) i None)

  pub own_root : (es : List (Row K)) (rs : List ℕ) (i : ℕ) → i < length es → value_at (variables_from 0 es rs) i ≡ Unknown → root_in rs i ≡ i
  own_root es rs i h e = free_root i (root_in rs i) (get_or (row_terms es) i None) (sym (value_is es rs i h) ∙ e)

  -- The values once the class of a root is led to another root.
  led_bound : (child root : ℕ) (t : Option K) → led child root (bound_value t) ≡ bound_value t
  led_bound child root None = refl
  led_bound child root (Some t) = refl

  module _ (rs : List ℕ) (child root : ℕ) (there : child < length rs) (child_own : root_in rs child ≡ child) (root_own : root_in rs root ≡ root) (smaller : root < child) where
    at_child : (t : Option K) → root_value child (root_in (map (led_root child root) rs) child) t ≡ SameAs root
    at_child t =
        let r = led_roots rs child root there child ∙ led_child child root (root_in rs child) child_own in
        ap (λ z. root_value child z t) r ∙ value_other child root t (λ e. omega (arith, e, smaller))

    at_other : (n : ℕ) (t : Option K) → n ≢ child → root_value n (root_in (map (led_root child root) rs) n) t ≡ led child root (root_value n (root_in rs n) t)
    at_other n t o = ap (λ z. root_value n z t) (led_roots rs child root there n) ∙ go (ℕ_discrete (root_in rs n) n) (ℕ_discrete (root_in rs n) child)
      where
        go : Dec (root_in rs n ≡ n) → Dec (root_in rs n ≡ child) → root_value n (led_root child root (root_in rs n)) t ≡ led child root (root_value n (root_in rs n) t)
        go (yes e) q = value_root n (led_root child root (root_in rs n)) t (led_other child root (root_in rs n) (λ z. o (sym e ∙ z)) ∙ e)
            ∙ sym (ap (led child root) (value_root n (root_in rs n) t e) ∙ led_bound child root t)
        go (no d) (yes e) = value_other n (led_root child root (root_in rs n)) t
            (λ z. let r : root ≡ n = sym (led_child child root (root_in rs n) e) ∙ z in d (ap (root_in rs) (sym r) ∙ root_own ∙ r))
            ∙ sym (ap (led child root) (value_other n (root_in rs n) t d))
        go (no d) (no q) = value_other n (led_root child root (root_in rs n)) t (λ z. d (sym (led_other child root (root_in rs n) q) ∙ z))
            ∙ sym (ap (led child root) (value_other n (root_in rs n) t d))

    values_led : (ts : List (Option K)) → child < length ts →
        values_from 0 ts (map (led_root child root) rs) ≡ set (map (led child root) (values_from 0 ts rs)) child (SameAs root)
    values_led ts h = ext_get_or Unknown (values_from 0 ts (map (led_root child root) rs)) (set (map (led child root) (values_from 0 ts rs)) child (SameAs root))
        (values_long 0 ts (map (led_root child root) rs) ∙ sym (length-set (map (led child root) (values_from 0 ts rs)) child (SameAs root) ∙ old_long))
        (λ i l. by i (let a = values_long 0 ts (map (led_root child root) rs) in omega (arith, a, l)) (ℕ_discrete i child))
      where
        old_long : length (map (led child root) (values_from 0 ts rs)) ≡ length ts
        old_long = length-map (values_from 0 ts rs) (led child root) ∙ values_long 0 ts rs

        by : (i : ℕ) → i < length ts → Dec (i ≡ child) → get_or (values_from 0 ts (map (led_root child root) rs)) i Unknown ≡ get_or (set (map (led child root) (values_from 0 ts rs)) child (SameAs root)) i Unknown
        by i l (yes e) = ap (λ z. get_or (values_from 0 ts (map (led_root child root) rs)) z Unknown) e
            ∙ value_from 0 ts (map (led_root child root) rs) child child h (omega arith) ∙ at_child (get_or ts child None)
            ∙ sym (ap (λ z. get_or (set (map (led child root) (values_from 0 ts rs)) child (SameAs root)) z Unknown) e
            ∙ get_or-set_same (map (led child root) (values_from 0 ts rs)) child (SameAs root) Unknown (let a = old_long in omega (arith, a, h)))
        by i l (no o) = value_from 0 ts (map (led_root child root) rs) i i l (omega arith) ∙ at_other i (get_or ts i None) o
            ∙ sym (get_or-set_other (map (led child root) (values_from 0 ts rs)) child i (SameAs root) Unknown o
            ∙ at_map (led child root) (values_from 0 ts rs) i Unknown
            ∙ ap (led child root) (value_from 0 ts rs i i l (omega arith)))

    -- So of a whole table, whose rows keep their keys and terms.
    module _ (es fs : List (Row K)) (qs : List ℕ) (joins : qs ≡ joined_roots child root rs) (in_rows : child < length es)
        (keys : row_keys fs ≡ row_keys es) (terms : row_terms fs ≡ row_terms es) where
      joined : qs ≡ (map (led_root child root) rs)
      joined = joins ∙ ap₂ (λ x y. map (led_root x y) rs)
          (let e : max (root_in rs child) (root_in rs root) ≡ child = omega (arith, child_own, root_own, smaller) in e)
          (let e : min (root_in rs child) (root_in rs root) ≡ root = omega (arith, child_own, root_own, smaller) in e)

      pub linked_keys : keys_of (variables_from 0 fs qs) ≡ keys_of (variables_from 0 es rs)
      linked_keys = keys_are 0 fs qs ∙ keys ∙ sym (keys_are 0 es rs)

      pub linked_values : values_of (variables_from 0 fs qs) ≡ led_values child root (variables_from 0 es rs)
      linked_values = values_are 0 fs qs ∙ ap₂ (values_from 0) terms joined
          ∙ values_led (row_terms es) (let a = length-map es (λ e. e.term) in omega (arith, a, in_rows))
          ∙ ap (λ vs. set (map (led child root) vs) child (SameAs root)) (sym (values_are 0 es rs))

      pub linked_long : length rs ≡ length es → length qs ≡ length fs
      linked_long e = ap length joined ∙ length-map rs (led_root child root) ∙ e
          ∙ sym (length-map es (λ z. z.key)) ∙ sym (ap length keys) ∙ length-map fs (λ z. z.key)

      pub linked_universes : (u : ℕ) → u ≡ min (universe_at (variables_from 0 es rs) child) (universe_at (variables_from 0 es rs) root) →
          row_universes fs ≡ set (row_universes es) root u → universes_of (variables_from 0 fs qs) ≡ led_universes child root (variables_from 0 es rs)
      linked_universes u e us = universes_are 0 fs qs ∙ us ∙ ap₂ (λ l z. set l root z) (sym (universes_are 0 es rs)) e

  -- The universe of a variable.
  pub universe_is : (es : List (Row K)) (rs : List ℕ) (i : ℕ) → universe_at (variables_from 0 es rs) i ≡ get_or (row_universes es) i 0
  universe_is es rs i = ap (λ us. get_or us i 0) (universes_are 0 es rs)

  -- A root was bound.
  module _ (es fs : List (Row K)) (rs : List ℕ) (v : ℕ) (t : K) (there : v < length es) (own : root_in rs v ≡ v)
      (keys : row_keys fs ≡ row_keys es) (terms : row_terms fs ≡ set (row_terms es) v (Some t)) where
    pub bound_keys : keys_of (variables_from 0 fs rs) ≡ keys_of (variables_from 0 es rs)
    bound_keys = keys_are 0 fs rs ∙ keys ∙ sym (keys_are 0 es rs)

    pub bound_long : length rs ≡ length es → length rs ≡ length fs
    bound_long e = e ∙ sym (length-map es (λ z. z.key)) ∙ sym (ap length keys) ∙ length-map fs (λ z. z.key)

    values_bound : (ts : List (Option K)) → v < length ts → values_from 0 (set ts v (Some t)) rs ≡ set (values_from 0 ts rs) v (Known t)
    values_bound ts h = ext_get_or Unknown (values_from 0 (set ts v (Some t)) rs) (set (values_from 0 ts rs) v (Known t))
        (new_long ∙ sym (length-set (values_from 0 ts rs) v (Known t) ∙ values_long 0 ts rs))
        (λ i l. by i (let a = new_long in omega (arith, a, l)) (ℕ_discrete i v))
      where
        new_long : length (values_from 0 (set ts v (Some t)) rs) ≡ length ts
        new_long = values_long 0 (set ts v (Some t)) rs ∙ length-set ts v (Some t)

        by : (i : ℕ) → i < length ts → Dec (i ≡ v) → get_or (values_from 0 (set ts v (Some t)) rs) i Unknown ≡ get_or (set (values_from 0 ts rs) v (Known t)) i Unknown
        by i l (yes e) = ap (λ z. get_or (values_from 0 (set ts v (Some t)) rs) z Unknown) e
            ∙ value_from 0 (set ts v (Some t)) rs v v (let a = length-set ts v (Some t) in omega (arith, a, h)) (omega arith)
            ∙ value_root v (root_in rs v) (get_or (set ts v (Some t)) v None) own
            ∙ ap bound_value (get_or-set_same ts v (Some t) None h)
            ∙ sym (ap (λ z. get_or (set (values_from 0 ts rs) v (Known t)) z Unknown) e
            ∙ get_or-set_same (values_from 0 ts rs) v (Known t) Unknown (let a = values_long 0 ts rs in omega (arith, a, h)))
        by i l (no o) = value_from 0 (set ts v (Some t)) rs i i (let a = length-set ts v (Some t) in omega (arith, a, l)) (omega arith)
            ∙ ap (root_value i (root_in rs i)) (get_or-set_other ts v i (Some t) None o)
            ∙ sym (get_or-set_other (values_from 0 ts rs) v i (Known t) Unknown o ∙ value_from 0 ts rs i i l (omega arith))

    pub bound_values : values_of (variables_from 0 fs rs) ≡ set (values_of (variables_from 0 es rs)) v (Known t)
    bound_values = values_are 0 fs rs ∙ ap (λ ts. values_from 0 ts rs) terms
        ∙ values_bound (row_terms es) (let a = length-map es (λ e. e.term) in omega (arith, a, there))
        ∙ ap (λ vs. set vs v (Known t)) (sym (values_are 0 es rs))

    pub bound_universes : row_universes fs ≡ row_universes es → universes_of (variables_from 0 fs rs) ≡ universes_of (variables_from 0 es rs)
    bound_universes us = universes_are 0 fs rs ∙ us ∙ sym (universes_are 0 es rs)

  -- Variables, by the roots of each; and those of one more row.
  same_roots : (n : ℕ) (es : List (Row K)) (rs qs : List ℕ) → ((i : ℕ) → root_in qs i ≡ root_in rs i) → variables_from n es qs ≡ variables_from n es rs
  same_roots n [] rs qs h = refl
  same_roots n (e ∷ es) rs qs h = ap₂ (λ r vs. (record { key = e.key; value = root_value n r e.term; universe = e.universe }) ∷ vs) (h n) (same_roots (suc n) es rs qs h)

  last_row : (n m : ℕ) (es : List (Row K)) (e : Row K) (rs : List ℕ) → n + length es ≡ m → root_in rs m ≡ m → e.term ≡ None →
      variables_from n (es ++ e ∷ []) rs ≡ variables_from n es rs ++ free_variable e.key e.universe ∷ []
  last_row n m [] e rs q own free =
      let r : n ≡ m = omega (arith, q) in
      ap (λ v. (record { key = e.key; value = v; universe = e.universe }) ∷ []) (value_root n (root_in rs n) e.term (ap (root_in rs) r ∙ own ∙ sym r) ∙ ap bound_value free)
  last_row n m (x ∷ es) e rs q own free =
      ap (λ vs. (record { key = x.key; value = root_value n (root_in rs n) x.term; universe = x.universe }) ∷ vs) (last_row (suc n) m es e rs (omega (arith, q)) own free)

  module _ (es fs : List (Row K)) (rs qs : List ℕ) (e : Row K) (more : fs ≡ es ++ e ∷ []) (roots : qs ≡ rs ++ length rs ∷ []) (long : length rs ≡ length es) (free : e.term ≡ None) where
    pub grown : variables_from 0 fs qs ≡ variables_from 0 es rs ++ free_variable e.key e.universe ∷ []
    grown = ap₂ (variables_from 0) more roots
        ∙ same_roots 0 (es ++ e ∷ []) rs (rs ++ length rs ∷ []) (root_more rs)
        ∙ last_row 0 (length es) es e rs (omega arith) (get_or_past rs (length es) (length es) (omega (arith, long))) free

    pub grown_long : length qs ≡ length fs
    grown_long = let a = ap length roots in let b = ap length more in let c = length-append rs (length rs ∷ []) in let d = length-append es (e ∷ []) in omega (arith, a, b, c, d, long)
