-- The numbers that do not stand in a list in ascending order.
use Rattle.std.proofs.Common.{ℕ, suc, ◌+◌, List, [], ◌∷◌, ◌≤◌, ◌<◌, ◌≡◌, arith, cond, nat_lt, true, false, Bool, refl, ap, sym, ◌∙◌}
use Rattle.std.proofs.Common.{Less, Equal, Greater}
use Rattle.std.specs.List.{Contains, AllByRecursion}
use Rattle.std.specs.List.Sorted.{IsStrictlySortedBy}
use Rattle.std.specs.Ordering.{nat_cmp, ordering_index}
use Rattle.std.proofs.lemmas.Map.Keys.{sorted_tail, sorted_head}
use Rattle.std.proofs.lemmas.Map.Made.{Contains-tail}
use Rattle.std.proofs.lemmas.Bool.{ltb-true, ltb-false, lt-ltb, le-ltb}
use Rattle.text_terms.specs.Letters.{skipping}

less_if : (b c : Bool) → cond b Less (cond c Equal Greater) ≡ Less → b ≡ true
less_if true c e = refl
less_if false true e = absurd (omega (arith, ap ordering_index e))
less_if false false e = absurd (omega (arith, ap ordering_index e))

below_if_less : (x y : ℕ) → nat_cmp x y ≡ Less → x < y
below_if_less x y e = ltb-true x y (less_if _ _ e)

-- What is below the first of an ascending list does not stand in it.
below_all : (x : ℕ) (xs : List ℕ) (n : ℕ) → n < x → AllByRecursion (λ y. nat_cmp x y ≡ Less) xs → Contains xs n → ⊥
below_all x [] n h a (k, l, e) = omega (arith, l)
below_all x (y ∷ ys) n h a c =
    let b = below_if_less x y a.0 in
    below_all x ys n h a.1 (Contains-tail y ys n (λ e. omega (arith, b, h, e)) c)

skips_up_if : (b : Bool) (n r : ℕ) → suc n ≤ r → n ≤ cond b n r
skips_up_if true n r h = omega arith
skips_up_if false n r h = omega (arith, h)

skips_up : (xs : List ℕ) (n : ℕ) → n ≤ skipping xs n
skips_up [] n = omega arith
skips_up (x ∷ xs) n = skips_up_if (nat_lt n x) n (skipping xs (suc n)) (skips_up xs (suc n))

skipped_if : (b : Bool) (x : ℕ) (xs : List ℕ) (n r : ℕ) → nat_lt n x ≡ b → IsStrictlySortedBy nat_cmp (x ∷ xs) →
    suc n ≤ r → (Contains xs r → ⊥) → Contains (x ∷ xs) (cond b n r) → ⊥
skipped_if true x xs n r e s up k c =
    let h : n < x = ltb-true n x e in
    below_all x xs n h (sorted_head nat_cmp x xs s) (Contains-tail x xs n (λ q. omega (arith, h, q)) c)
skipped_if false x xs n r e s up k c =
    let ge : x ≤ n = ltb-false n x e in
    k (Contains-tail x xs r (λ q. omega (arith, up, ge, q)) c)

-- What is skipped to does not stand in the list.
pub skipped_over : (xs : List ℕ) (n : ℕ) → IsStrictlySortedBy nat_cmp xs → Contains xs (skipping xs n) → ⊥
skipped_over [] n s (k, l, e) = omega (arith, l)
skipped_over (x ∷ xs) n s c =
    skipped_if (nat_lt n x) x xs n (skipping xs (suc n)) refl s (skips_up xs (suc n))
    (skipped_over xs (suc n) (sorted_tail nat_cmp x xs s)) c

-- What is skipped to from a list: nothing of it left, its first above the place, and its first not.
pub skips_none : (xs : List ℕ) (n t : ℕ) → xs ≡ [] → skipping xs n ≡ t → n ≡ t
skips_none xs n t e q = ap (λ ys. skipping ys n) (sym e) ∙ q

above : (b : Bool) (n m : ℕ) → b ≡ true → cond b n m ≡ n
above b n m e = ap (λ c. cond c n m) e

below : (b : Bool) (n m : ℕ) → b ≡ false → cond b n m ≡ m
below b n m e = ap (λ c. cond c n m) e

pub stops : (xs ys : List ℕ) (x n t : ℕ) → xs ≡ x ∷ ys → n < x → skipping xs n ≡ t → n ≡ t
stops xs ys x n t e h q = sym (above (nat_lt n x) n (skipping ys (suc n)) (lt-ltb n x h)) ∙ ap (λ zs. skipping zs n) (sym e) ∙ q

pub skips_one : (xs ys : List ℕ) (x n m t : ℕ) → xs ≡ x ∷ ys → x ≤ n → m ≡ n + 1 → skipping xs n ≡ t →
    skipping ys m ≡ t
skips_one xs ys x n m t e h s q =
    let not : nat_lt n x ≡ false = le-ltb n x h in
    let up : m ≡ suc n = omega (arith, s) in
    ap (skipping ys) up ∙ sym (below (nat_lt n x) n (skipping ys (suc n)) not) ∙ ap (λ zs. skipping zs n) (sym e) ∙ q
