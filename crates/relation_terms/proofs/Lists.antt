-- A list and one more element.
use Rattle.std.proofs.Common.{ℕ, suc, ◌+◌, ◌<◌, ◌≤◌, ◌≡◌, List, [], ◌∷◌, ◌++◌, length, arith, length-append}

-- A total that counts the element on either side.
pub length_after : {A : Type 0} (xs : List A) (x : A) (rest total : ℕ) → total ≡ length (xs ++ x ∷ []) + rest →
    total ≡ length xs + suc rest
length_after xs x rest total e = let l = length-append xs (x ∷ []) in omega (arith, l)

-- The place past the others is the new element's.
pub last_place : {A : Type 0} (xs : List A) (x : A) (i : ℕ) → i < length (xs ++ x ∷ []) → length xs ≤ i → i ≡ length xs
last_place xs x i h k = let l = length-append xs (x ∷ []) in omega (arith, l)
