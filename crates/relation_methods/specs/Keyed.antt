-- Entries that are found by a key that they have, or by any where they have none, and the numbers of entries.
use Rattle.std.specs.Prelude.{◌≡◌, ℕ, Bool, true, false, cond, ◌||◌, List, [], ◌∷◌, ◌++◌, Option, Some, None, map}
use Rattle.std.specs.Prelude.{get_or, nat_lt, suc}
use Rattle.std.specs.Global.{Vec}
use Rattle.std.specs.HashMap.{HashMap, get}
use Rattle.relation_methods.specs.declared.keyed.Entry.{Entry}

-- Two lists of numbers as one: of the first of each the smaller one comes first. `merge_front` is the merge of a list
-- that begins with a number, where the merge of its rest is given.
abbrev pub merge_front : ℕ → (List ℕ → List ℕ) → List ℕ → List ℕ
merge_front x rest [] = x ∷ rest []
merge_front x rest (y ∷ ys) = cond (nat_lt y x) (y ∷ merge_front x rest ys) (x ∷ rest (y ∷ ys))

abbrev pub merge : List ℕ → List ℕ → List ℕ
merge [] ys = ys
merge (x ∷ xs) ys = merge_front x (merge xs) ys

-- Which elements pass a test, by their numbers, the first of which is given.
abbrev pub numbers_from : {T : Type 0} → (T → Bool) → ℕ → List T → List ℕ
numbers_from test n [] = []
numbers_from test n (x ∷ xs) = cond (test x) (n ∷ numbers_from test (suc n) xs) (numbers_from test (suc n) xs)

-- The elements of these numbers.
abbrev pub Picks : {T : Type 0} → List T → List ℕ → List T → Type 0
Picks {T} xs ns ys = (d : T) → ys ≡ map (λ n. get_or xs n d) ns

-- There is no key.
abbrev pub has_none : {K : Type 0} → Option K → Bool
has_none None = true
has_none (Some k) = false

-- There is a key, and it is equal to this one.
abbrev pub has_key : {K : Type 0} → (K → K → Bool) → K → Option K → Bool
has_key eq q None = false
has_key eq q (Some k) = eq k q

-- What is found by a key, or by none: by a key what has it, and what has none; by none all.
abbrev pub is_found : {K : Type 0} → (K → K → Bool) → Option K → Option K → Bool
is_found eq None k = true
is_found eq (Some q) k = has_none k || has_key eq q k

-- The numbers that a map has for a key.
abbrev pub items_of : Option (Vec ℕ) → List ℕ
items_of None = []
items_of (Some v) = v.items

module _ {K S : Type 0} (eq : K → K → Bool) where
  abbrev pub numbers_at : HashMap K (Vec ℕ) S → K → List ℕ
  numbers_at m q = items_of (get eq m q)

  -- The second map has the numbers of the first.
  abbrev pub KeepsNumbers : HashMap K (Vec ℕ) S → HashMap K (Vec ℕ) S → Type 0
  KeepsNumbers m n = (q : K) → numbers_at n q ≡ numbers_at m q

  -- The second has one more for a key.
  abbrev pub PutsNumber : K → ℕ → HashMap K (Vec ℕ) S → HashMap K (Vec ℕ) S → Type 0
  PutsNumber k number m n = (q : K) → numbers_at n q ≡ numbers_at m q ++ cond (eq k q) (number ∷ []) []

  -- One more stands for the key of a entry, or among those without one.
  pub record PlacesNumber (key : Option K) (number : ℕ) (m n : HashMap K (Vec ℕ) S) (old new : List ℕ) : Type 0 where
    pub keyed : (q : K) → numbers_at n q ≡ numbers_at m q ++ cond (has_key eq q key) (number ∷ []) []
    pub blankets : new ≡ old ++ cond (has_none key) (number ∷ []) []

  -- The numbers of the entries of each key, and of those that have none.
  pub record IsIndexed {T E : Type 0} (by_key : HashMap K (Vec ℕ) S) (blanket : List ℕ) (entries : List (Entry K T E)) : Type 0 where
    pub keyed : (q : K) → numbers_at by_key q ≡ numbers_from (λ r. has_key eq q r.key) 0 entries
    pub blankets : blanket ≡ numbers_from (λ r. has_none r.key) 0 entries
