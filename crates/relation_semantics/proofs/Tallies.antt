-- Counting entries.
use Rattle.std.proofs.Common.{◌≡◌, ℕ, zero, suc, ◌+◌, ◌<◌, refl, ap, arith, List, [], ◌∷◌, ◌++◌, length, get_or}
use Rattle.relation_terms.specs.Heads.{VarKind, type_var, int_var, float_var, const_var, region_var}
use Rattle.relation_semantics.specs.Stores.{Store, Entry, unbound, sum_over, all_sum_over, counts_bound, all_bound}
use Rattle.relation_semantics.specs.ErasureLaws.{IsTypeOrConst}

pub sum_over_alike : (f : Entry → ℕ) (es fs : List Entry) → length fs ≡ length es → ((m : ℕ) → f (get_or fs m unbound) ≡ f (get_or es m unbound)) → sum_over f fs ≡ sum_over f es
sum_over_alike f [] [] l h = refl
sum_over_alike f [] (y ∷ fs) l h = absurd (omega arith)
sum_over_alike f (x ∷ es) [] l h = absurd (omega arith)
sum_over_alike f (x ∷ es) (y ∷ fs) l h = let p = h 0 in let q = sum_over_alike f es fs (omega arith) (λ m. h (suc m)) in omega (arith, p, q)

pub sum_over_written : (f : Entry → ℕ) (es fs : List Entry) (n : ℕ) → f unbound ≡ 0 → length fs ≡ length es → n < length es → get_or es n unbound ≡ unbound → ((m : ℕ) → (m ≡ n → ⊥) → f (get_or fs m unbound) ≡ f (get_or es m unbound)) → sum_over f fs ≡ f (get_or fs n unbound) + sum_over f es
sum_over_written f [] fs n z l h e o = absurd (omega arith)
sum_over_written f (x ∷ es) [] n z l h e o = absurd (omega arith)
sum_over_written f (x ∷ es) (y ∷ fs) zero z l h e o =
    let q = sum_over_alike f es fs (omega arith) (λ m. o (suc m) (λ b. omega arith)) in
    let p = ap f e in omega (arith, p, q, z)
sum_over_written f (x ∷ es) (y ∷ fs) (suc n) z l h e o =
    let q = sum_over_written f es fs n z (omega arith) (omega arith) e (λ m d. o (suc m) (λ b. d (omega arith))) in
    let p = o 0 (λ b. omega arith) in omega (arith, p, q)

pub sum_over_append : (f : Entry → ℕ) (es : List Entry) (x : Entry) → sum_over f (es ++ x ∷ []) ≡ sum_over f es + f x
sum_over_append f [] x = omega arith
sum_over_append f (e ∷ es) x = let q = sum_over_append f es x in omega (arith, q)

-- Over a store, where one kind's count grows.
module _ (f : Entry → ℕ) (before after : Store) (c : ℕ) where
  pub all_more : (k : VarKind) → sum_over f (after.entries k) ≡ c + sum_over f (before.entries k) → ((j : VarKind) → (j ≡ k → ⊥) → sum_over f (after.entries j) ≡ sum_over f (before.entries j)) → all_sum_over f after ≡ c + all_sum_over f before
  all_more type_var h o = let a = o int_var (λ q. cc) in let b = o float_var (λ q. cc) in let d = o const_var (λ q. cc) in let e = o region_var (λ q. cc) in omega (arith, h, a, b, d, e)
  all_more int_var h o = let a = o type_var (λ q. cc) in let b = o float_var (λ q. cc) in let d = o const_var (λ q. cc) in let e = o region_var (λ q. cc) in omega (arith, h, a, b, d, e)
  all_more float_var h o = let a = o type_var (λ q. cc) in let b = o int_var (λ q. cc) in let d = o const_var (λ q. cc) in let e = o region_var (λ q. cc) in omega (arith, h, a, b, d, e)
  all_more const_var h o = let a = o type_var (λ q. cc) in let b = o int_var (λ q. cc) in let d = o float_var (λ q. cc) in let e = o region_var (λ q. cc) in omega (arith, h, a, b, d, e)
  all_more region_var h o = let a = o type_var (λ q. cc) in let b = o int_var (λ q. cc) in let d = o float_var (λ q. cc) in let e = o const_var (λ q. cc) in omega (arith, h, a, b, d, e)

pub all_alike : (f : Entry → ℕ) (before after : Store) → ((j : VarKind) → after.entries j ≡ before.entries j) → all_sum_over f after ≡ all_sum_over f before
all_alike f before after h = let a = ap (sum_over f) (h type_var) in let b = ap (sum_over f) (h int_var) in let c = ap (sum_over f) (h float_var) in let d = ap (sum_over f) (h const_var) in let e = ap (sum_over f) (h region_var) in omega (arith, a, b, c, d, e)

-- Of type and constant variables alone.
module _ (before after : Store) where
  pub bound_more : (c : ℕ) (k : VarKind) → IsTypeOrConst k → sum_over counts_bound (after.entries k) ≡ c + sum_over counts_bound (before.entries k) →
      ((j : VarKind) → (j ≡ k → ⊥) → sum_over counts_bound (after.entries j) ≡ sum_over counts_bound (before.entries j)) → all_bound after ≡ c + all_bound before
  bound_more c type_var i h o = let b = o const_var (λ q. cc) in omega (arith, h, b)
  bound_more c const_var i h o = let b = o type_var (λ q. cc) in omega (arith, h, b)
  bound_more c int_var i h o = absurd i
  bound_more c float_var i h o = absurd i
  bound_more c region_var i h o = absurd i

  pub bound_alike : ((j : VarKind) → sum_over counts_bound (after.entries j) ≡ sum_over counts_bound (before.entries j)) → all_bound after ≡ all_bound before
  bound_alike o = let a = o type_var in let b = o const_var in omega (arith, a, b)
