-- Laws of the places that are filled.
use Rattle.std.proofs.Common.{◌≡◌, ◌<◌, ◌≤◌, ◌-◌, ℕ, List, [], ◌∷◌, ◌++◌, length, take, drop, Option, Some, None, refl, sym, ap, ◌∙◌, arith, true, false, append-nil, reverse, MatchOption, IsSome}
use Rattle.std.proofs.lemmas.List.{reverse-append, length-reverse, take-append-drop, length-append, length-drop}
use Rattle.std.proofs.Math.Seq.{drop-append_seam}
use Rattle.std.specs.Option.{option_to_list, option_flatten}
use Rattle.traversal.specs.Stacks.{present, IsFilled}

pub present_append : {T : Type 0} (xs ys : List (Option T)) → present (xs ++ ys) ≡ present xs ++ present ys
present_append [] ys = refl
present_append (None ∷ xs) ys = present_append xs ys
present_append (Some x ∷ xs) ys = ap (λ zs. x ∷ zs) (present_append xs ys)

pub present_le : {T : Type 0} (xs : List (Option T)) → length (present xs) ≤ length xs
present_le [] = omega arith
present_le (None ∷ xs) = omega (arith, present_le xs)
present_le (Some x ∷ xs) = omega (arith, present_le xs)

-- both parts of a filled list are filled
pub filled_front : {T : Type 0} (xs ys : List (Option T)) → IsFilled (xs ++ ys) → IsFilled xs
filled_front xs ys h =
    omega (arith, h, present_le xs, present_le ys, length-append xs ys, length-append (present xs) (present ys), ap length (present_append xs ys))

pub filled_back : {T : Type 0} (xs ys : List (Option T)) → IsFilled (xs ++ ys) → IsFilled ys
filled_back xs ys h =
    omega (arith, h, present_le xs, present_le ys, length-append xs ys, length-append (present xs) (present ys), ap length (present_append xs ys))

pub filled_push : {T : Type 0} (xs : List (Option T)) (x : T) → IsFilled xs → IsFilled (xs ++ Some x ∷ [])
filled_push xs x h =
    omega (arith, h, length-append xs (Some x ∷ []), length-append (present xs) (x ∷ []), ap length (present_append xs (Some x ∷ [])))

-- the top of a stack
pub top_push : {T : Type 0} (xs : List (Option T)) (x : T) → reverse (present (xs ++ Some x ∷ [])) ≡ x ∷ reverse (present xs)
top_push xs x = ap reverse (present_append xs (Some x ∷ [])) ∙ reverse-append (present xs) (x ∷ [])

-- what is left below
pub below_is : {T : Type 0} (xs ys : List (Option T)) → IsFilled (xs ++ ys) → reverse (present xs) ≡ drop (length ys) (reverse (present (xs ++ ys)))
below_is xs ys h =
    let e : reverse (present (xs ++ ys)) ≡ reverse (present ys) ++ reverse (present xs) = ap reverse (present_append xs ys) ∙ reverse-append (present xs) (present ys) in
    let n : length (reverse (present ys)) ≡ length ys = length-reverse (present ys) ∙ filled_back xs ys h in
    rw e (rw (← n) (sym (drop-append_seam (reverse (present ys)) (reverse (present xs)))))

pub cut : {T : Type 0} (xs : List (Option T)) (n : ℕ) → IsFilled xs → reverse (present (take n xs)) ≡ drop (length (reverse (present xs)) - n) (reverse (present xs))
cut xs n h =
    let e : take n xs ++ drop n xs ≡ xs = take-append-drop n xs in
    let f : IsFilled (take n xs ++ drop n xs) = rw e h in
    let m : length (drop n xs) ≡ length (reverse (present xs)) - n = omega (arith, length-drop n xs, length-reverse (present xs), h) in
    let b = below_is (take n xs) (drop n xs) f in
    rw (← m) (b ∙ ap (λ zs. drop (length (drop n xs)) (reverse (present zs))) e)

pub filled_cut : {T : Type 0} (xs : List (Option T)) (n : ℕ) → IsFilled xs → IsFilled (take n xs)
filled_cut xs n h = filled_front (take n xs) (drop n xs) (rw take-append-drop h)

none_left : {T : Type 0} (ys : List (Option T)) → (0 < length ys → ⊥) → present ys ≡ []
none_left [] h = refl
none_left (y ∷ ys) h = absurd (h (omega arith))

-- what a pop leaves
pub pop_top : {T : Type 0} (xs ys : List (Option T)) (r : Option (Option T)) → IsFilled xs → xs ≡ ys ++ option_to_list r → (0 < length xs → IsSome r) → MatchOption (option_flatten r) ((reverse (present xs) ≡ []) × (reverse (present ys) ≡ [])) (λ x. reverse (present xs) ≡ x ∷ reverse (present ys))
pop_top xs ys None h e v =
    let f : xs ≡ ys = e ∙ append-nil ys in
    let n : present xs ≡ [] = none_left xs (λ p. let q : false ≡ true = v p in cc) in
    (ap reverse n, ap reverse (ap present (sym f) ∙ n))
pop_top xs ys (Some None) h e v = absurd (let k : 0 ≡ 1 = filled_back ys (None ∷ []) (rw e at h) in omega arith)
pop_top xs ys (Some (Some x)) h e v = rw e (top_push ys x)
