-- Roots, once one is led to another, and with those of one more number.
use Rattle.std.proofs.Common.{◌≡◌, ◌≢◌, ℕ, suc, ◌<◌, ◌≤◌, sym, ap, ◌∙◌, subst, arith, List, [], ◌∷◌, ◌++◌, length, length-append, map}
use Rattle.std.proofs.Common.{le_refl}
use Rattle.std.proofs.lemmas.List.{get_or-map, get_or_past, get_or_append_left, length-map}
use Rattle.std.proofs.Math.Seq.{get_or-append_seam}
use native.Mathlib.Decide.{ℕ_discrete, dec_le}
use Rattle.variable_classes.specs.Roots.{root_in, led_root, IsRootTable}
use Rattle.variable_classes.proofs.Leading.{led_child, led_other}

-- The root is led, wherever the child has an entry.
module _ (rs : List ℕ) (child root : ℕ) (there : child < length rs) where
  abbrev after : List ℕ
  after = map (led_root child root) rs

  pub root_led : (n : ℕ) → root_in after n ≡ led_root child root (root_in rs n)
  root_led n = go (dec_le (suc n) (length rs))
    where
      go : Dec (suc n ≤ length rs) → root_in after n ≡ led_root child root (root_in rs n)
      go (yes h) = get_or-map (led_root child root) rs n n n (omega (arith, h))
      go (no o) =
          let past : length rs ≤ n = omega (arith, o) in
          let long = length-map rs (led_root child root) in
          get_or_past after n n (omega (arith, past, long))
          ∙ sym (led_other child root n (λ e. omega (arith, e, there, past)))
          ∙ ap (led_root child root) (sym (get_or_past rs n n past))

  -- Of a class whose root leads to another.
  module _ (t : IsRootTable rs) (root_own : root_in rs root ≡ root) (smaller : root ≤ child) where
    pub at_child : (n : ℕ) → root_in rs n ≡ child → root_in after n ≡ root
    at_child n e = root_led n ∙ led_child child root (root_in rs n) e

    pub at_other : (n : ℕ) → root_in rs n ≢ child → root_in after n ≡ root_in rs n
    at_other n o = root_led n ∙ led_other child root (root_in rs n) o

    pub at_root : (n : ℕ) → root_in rs n ≡ root → root_in after n ≡ root
    at_root n e = go (ℕ_discrete (root_in rs n) child)
      where
        go : Dec (root_in rs n ≡ child) → root_in after n ≡ root
        go (yes q) = at_child n q
        go (no o) = at_other n o ∙ e

    pub led_table : IsRootTable after
    led_table = record {
      own = λ n. own n (ℕ_discrete (root_in rs n) child);
      below = λ n. below n (ℕ_discrete (root_in rs n) child);
    }
      where
        own : (n : ℕ) → Dec (root_in rs n ≡ child) → root_in after (root_in after n) ≡ root_in after n
        own n (yes q) = ap (root_in after) (at_child n q) ∙ at_root root root_own ∙ sym (at_child n q)
        own n (no o) = ap (root_in after) (at_other n o) ∙ at_other (root_in rs n) (λ e. o (sym (t.own n) ∙ e))
            ∙ t.own n ∙ sym (at_other n o)

        below : (n : ℕ) → Dec (root_in rs n ≡ child) → root_in after n ≤ n
        below n (yes q) = let e = at_child n q in let b = t.below n in omega (arith, e, b, q, smaller)
        below n (no o) = let e = at_other n o in let b = t.below n in omega (arith, e, b)

-- One more number, which is its own root, changes no root.
pub root_more : (rs : List ℕ) (k : ℕ) → root_in (rs ++ length rs ∷ []) k ≡ root_in rs k
root_more rs k = go (dec_le (suc k) (length rs)) (ℕ_discrete k (length rs))
  where
    go : Dec (suc k ≤ length rs) → Dec (k ≡ length rs) → root_in (rs ++ length rs ∷ []) k ≡ root_in rs k
    go (yes h) d = get_or_append_left rs (length rs ∷ []) k k (omega (arith, h))
    go (no o) (yes e) = subst (λ i. root_in (rs ++ length rs ∷ []) i ≡ root_in rs i) (sym e)
        (get_or-append_seam rs (length rs) [] (length rs)
        ∙ sym (get_or_past rs (length rs) (length rs) (le_refl (length rs))))
    go (no o) (no d) = let long = length-append rs (length rs ∷ []) in
        get_or_past (rs ++ length rs ∷ []) k k (omega (arith, o, d, long)) ∙ sym (get_or_past rs k k (omega (arith, o)))

pub more_table : (rs : List ℕ) → IsRootTable rs → IsRootTable (rs ++ length rs ∷ [])
more_table rs t = record {
  own = λ n. ap (root_in (rs ++ length rs ∷ [])) (root_more rs n) ∙ root_more rs (root_in rs n) ∙ t.own n
      ∙ sym (root_more rs n);
  below = λ n. subst (λ z. z ≤ n) (sym (root_more rs n)) (t.below n);
}
