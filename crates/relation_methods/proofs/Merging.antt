-- The numbers of what passes either of two tests, merged of the numbers of what passes each.
use Rattle.std.proofs.Common.{◌≡◌, ◌<◌, ◌≤◌, ◌+◌, ℕ, suc, Bool, true, false, cond, ◌||◌, List, [], ◌∷◌, ◌++◌}
use Rattle.std.proofs.Common.{map, get_or, refl, sym, ap, ◌∙◌, arith, length, All, nat_lt, subst}
use Rattle.std.proofs.lemmas.Bool.Decides.{nat_tests}
use Rattle.std.proofs.lemmas.List.Elements.{All-cons}
use Rattle.std.specs.List.{filter}
use Rattle.relation_methods.specs.Keyed.{merge, merge_front, numbers_from, Picks}

-- All of them are above a number, or the list is empty.
abbrev pub StartsAbove : ℕ → List ℕ → Type 0
StartsAbove n [] = Unit {0}
StartsAbove n (x ∷ xs) = n < x

pub above : {T : Type 0} → (test : T → Bool) (n m : ℕ) (xs : List T) → m < n → StartsAbove m (numbers_from test n xs)
above test n m [] l = tt
above test n m (x ∷ xs) l = elim (test x) as (λ b. StartsAbove m (cond b (n ∷ numbers_from test (suc n) xs) (numbers_from test (suc n) xs)))
    [ true ↦ l | false ↦ above test (suc n) m xs (omega arith) ]

lt_false : (x y : ℕ) → x < y → nat_lt y x ≡ false
lt_false x y h = grind (arith, nat_tests)

lt_true : (x y : ℕ) → x < y → nat_lt x y ≡ true
lt_true x y h = grind (arith, nat_tests)

-- A number that is below the first of the other list comes first.
pub left_first : (x : ℕ) (xs ys : List ℕ) → StartsAbove x ys → merge (x ∷ xs) ys ≡ x ∷ merge xs ys
left_first x xs [] h = refl
left_first x xs (y ∷ ys) h = ap (λ b. cond b (y ∷ merge_front x (merge xs) ys) (x ∷ merge xs (y ∷ ys))) (lt_false x y h)

pub right_first : (y : ℕ) (xs ys : List ℕ) → StartsAbove y xs → merge xs (y ∷ ys) ≡ y ∷ merge xs ys
right_first y [] ys h = refl
right_first y (x ∷ xs) ys h = ap (λ b. cond b (y ∷ merge_front x (merge xs) ys) (x ∷ merge xs (y ∷ ys))) (lt_true y x h)

pub merged_numbers : {T : Type 0} → (p q : T → Bool) → ((x : T) → p x ≡ true → q x ≡ false) → (n : ℕ) (xs : List T) →
    merge (numbers_from p n xs) (numbers_from q n xs) ≡ numbers_from (λ x. p x || q x) n xs
merged_numbers p q apart n [] = refl
merged_numbers {T} p q apart n (x ∷ xs) =
    let ih = merged_numbers p q apart (suc n) xs in
    let ps = numbers_from p (suc n) xs in
    let qs = numbers_from q (suc n) xs in
    let rs = numbers_from (λ (z : T). p z || q z) (suc n) xs in
    let G : Bool → Bool → Type 0 = λ b c. merge (cond b (n ∷ ps) ps) (cond c (n ∷ qs) qs) ≡ cond (b || c) (n ∷ rs) rs in
    let at : (b c : Bool) → p x ≡ b → q x ≡ c → G b c = λ b c.
    elim b as (λ b. p x ≡ b → q x ≡ c → G b c) [
      | true ↦ elim c as (λ c. p x ≡ true → q x ≡ c → G true c) [
        | true ↦ λ e f. let none : q x ≡ false = apart x e in absurd cc
        | false ↦ λ e f. left_first n ps qs (above q (suc n) n xs (omega arith)) ∙ ap (λ z. n ∷ z) ih
      ]
      | false ↦ elim c as (λ c. p x ≡ false → q x ≡ c → G false c) [
        | true ↦ λ e f. right_first n ps qs (above p (suc n) n xs (omega arith)) ∙ ap (λ z. n ∷ z) ih
        | false ↦ λ e f. ih
      ]
    ] in
    at (p x) (q x) refl refl

-- One more element.
pub numbers_after : {T : Type 0} → (test : T → Bool) (n : ℕ) (xs : List T) (x : T) →
    numbers_from test n (xs ++ x ∷ []) ≡ numbers_from test n xs ++ cond (test x) ((n + length xs) ∷ []) []
numbers_after test n [] x = let e : n ≡ n + 0 = omega arith in ap (λ z. cond (test x) (z ∷ []) []) e
numbers_after test n (y ∷ ys) x =
    let one = cond (test x) ((n + suc (length ys)) ∷ []) [] in
    let e : suc n + length ys ≡ n + suc (length ys) = omega arith in
    let ih : numbers_from test (suc n) (ys ++ x ∷ []) ≡ numbers_from test (suc n) ys ++ one =
    numbers_after test (suc n) ys x ∙ ap (λ z. numbers_from test (suc n) ys ++ cond (test x) (z ∷ []) []) e in
    elim (test y) as (λ b. cond b (n ∷ numbers_from test (suc n) (ys ++ x ∷ [])) (numbers_from test (suc n) (ys ++ x ∷ [])) ≡
    cond b (n ∷ numbers_from test (suc n) ys) (numbers_from test (suc n) ys) ++ one)
    [ true ↦ ap (λ z. n ∷ z) ih | false ↦ ih ]

pub numbers_alike : {T : Type 0} → (p q : T → Bool) → ((x : T) → p x ≡ q x) → (n : ℕ) (xs : List T) →
    numbers_from p n xs ≡ numbers_from q n xs
numbers_alike p q same n [] = refl
numbers_alike p q same n (x ∷ xs) = ap (λ b. cond b (n ∷ numbers_from p (suc n) xs) (numbers_from p (suc n) xs)) (same x) ∙
    ap (λ l. cond (q x) (n ∷ l) l) (numbers_alike p q same (suc n) xs)

-- The numbers are of elements.
pub numbers_below : {T : Type 0} → (test : T → Bool) (n m : ℕ) (xs : List T) → n + length xs ≤ m →
    All (λ i. i < m) (numbers_from test n xs)
numbers_below test n m [] h = λ k d l. absurd (omega arith)
numbers_below test n m (x ∷ xs) h =
    let ih : All (λ i. i < m) (numbers_from test (suc n) xs) = numbers_below test (suc n) m xs (omega arith) in
    elim (test x) as (λ b. All (λ i. i < m) (cond b (n ∷ numbers_from test (suc n) xs) (numbers_from test (suc n) xs)))
    [ true ↦ All-cons (λ i. i < m) n (numbers_from test (suc n) xs) (omega arith) ih | false ↦ ih ]

-- What is picked of a list by the numbers of what stands from a number on.
picked_from : {T : Type 0} → (test : T → Bool) (n : ℕ) (xs all : List T) (d : T) →
    ((i : ℕ) → get_or all (n + i) d ≡ get_or xs i d) → map (λ k. get_or all k d) (numbers_from test n xs) ≡ filter test xs
picked_from test n [] all d at = refl
picked_from {T} test n (x ∷ xs) all d at =
    let e : n + 0 ≡ n = omega arith in
    let here : get_or all n d ≡ x = sym (ap (λ k. get_or all k d) e) ∙ at 0 in
    let ih : map (λ k. get_or all k d) (numbers_from test (suc n) xs) ≡ filter test xs = picked_from test (suc n) xs all d
    (λ i. let f : suc n + i ≡ n + suc i = omega arith in ap (λ k. get_or all k d) f ∙ at (suc i)) in
    elim (test x) as (λ b. map (λ k. get_or all k d) (cond b (n ∷ numbers_from test (suc n) xs) (numbers_from test (suc n) xs)) ≡
    cond b (x ∷ filter test xs) (filter test xs))
    [ true ↦ ap (λ z. z ∷ map (λ k. get_or all k d) (numbers_from test (suc n) xs)) here ∙ ap (λ l. x ∷ l) ih | false ↦ ih ]

-- What is picked by the numbers is what passes the test.
pub picked_filter : {T : Type 0} → (test : T → Bool) (xs : List T) (d : T) →
    map (λ n. get_or xs n d) (numbers_from test 0 xs) ≡ filter test xs
picked_filter test xs d = picked_from test 0 xs xs d (λ i. let e : 0 + i ≡ i = omega arith in ap (λ k. get_or xs k d) e)

-- What was picked is what passes the test.
pub found_entries : {T : Type 0} → (test : T → Bool) (xs ys : List T) (ns : List ℕ) → ns ≡ numbers_from test 0 xs →
    Picks xs ns ys → ys ≡ filter test xs
found_entries test [] [] ns e p = refl
found_entries {T} test [] (y ∷ ys) ns e p = p y ∙ ap (λ l. map (λ n. get_or {A = T} [] n y) l) e
found_entries {T} test (x ∷ xs) ys ns e p = p x ∙ (ap (λ l. map (λ n. get_or (x ∷ xs) n x) l) e ∙ picked_filter test (x ∷ xs) x)

pub found_below : {T : Type 0} → (test : T → Bool) (xs : List T) (ns : List ℕ) → ns ≡ numbers_from test 0 xs →
    All (λ n. n < length xs) ns
found_below test xs ns e = let P : List ℕ → Type 0 = λ l. All (λ n. n < length xs) l in
    let le : 0 + length xs ≤ length xs = omega arith in subst P (sym e) (numbers_below test 0 (length xs) xs le)
