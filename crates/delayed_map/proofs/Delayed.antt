-- What a delayed set keeps: after an insertion the new value and what was kept before; what is found equals a member.
use Rattle.std.proofs.Common.{◌≡◌, ◌<◌, ◌⊎◌, ℕ, zero, suc, Bool, true, false, List, ◌∷◌, length, slice_index_or, sym, inl, inr, arith, Contains}
use Rattle.std.specs.HashSet.{HashSet, PutsKey}
use Rattle.std.specs.List.{list_any}
use Rattle.std.specs.List.Sorted.{IsPermutation}
use Rattle.std.proofs.lemmas.List.Folds.{Any-from_list_any}
use Rattle.std.proofs.lemmas.List.Sorted.{Contains-permutation, IsPermutation-sym}

at_place : {X : Type 0} (y : X) (xs : List X) (x : X) (k : ℕ) → k < length (y ∷ xs) → slice_index_or (y ∷ xs) k x ≡ x → (x ≡ y) ⊎ Contains xs x
at_place y xs x zero lt e = inl (sym e)
at_place y xs x (suc k) lt e = inr (k, omega arith, e)

pub Contains-cons : {X : Type 0} (y : X) (xs : List X) (x : X) → Contains (y ∷ xs) x → (x ≡ y) ⊎ Contains xs x
Contains-cons y xs x c = at_place y xs x c.0 c.1 c.2

pub Contains-put : {X : Type 0} (y : X) (xs ys : List X) → IsPermutation (y ∷ xs) ys → (x : X) → Contains ys x → (x ≡ y) ⊎ Contains xs x
Contains-put y xs ys p x c =
    Contains-cons y xs x (Contains-permutation ys (y ∷ xs) x (IsPermutation-sym (y ∷ xs) ys p) c)

-- An element after an insertion is the key or an old element.
pub Contains-puts : {T S : Type 0} (s n : HashSet T S) (k : T) (b : Bool) → PutsKey s n k b → (x : T) → Contains n.keys x → (x ≡ k) ⊎ Contains s.keys x
Contains-puts s n k true p x c = Contains-put k s.keys n.keys p x c
Contains-puts s n k false p x c = inr (rw p at c)

-- What is found equals an element.
pub Contains-found : {T : Type 0} (eq : T → T → Bool) (k : T) (xs : List T) → list_any (eq k) xs ≡ true → (e : T) × Contains xs e × (eq k e ≡ true)
Contains-found eq k xs found =
    let a = Any-from_list_any (eq k) xs found in (a.1, (a.0, a.2, a.3), a.4)
