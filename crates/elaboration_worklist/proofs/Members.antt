-- Members of lists.
use Rattle.std.proofs.Common.{◌≡◌, ◌⊎◌, refl, ap, ap₂, subst, inl, inr, suc, ◌<◌, arith, false, IsTrue, List, [], ◌∷◌, ◌++◌, map, length}
use Rattle.std.proofs.lemmas.Bool.{false≢true}
use Rattle.std.proofs.lemmas.List.Elements.{All-head, All-tail, Contains-append_cases}
use Rattle.std.proofs.lemmas.List.Elements.{Contains-append_right, Contains-push_cases}
use Rattle.std.specs.List.{All, Contains}
use Rattle.relation_terms.specs.Trees.{Tree}
use Rattle.relation_folds.proofs.Lists.{first_in}

-- No list of none has a member.
pub none_in : {A : Type 0} (x : A) → Contains [] x → ⊥
none_in x h = omega (arith, h.1)

-- Members of a list that begins with one.
pub later_in : {A : Type 0} (x : A) (xs : List A) (y : A) → Contains xs y → Contains (x ∷ xs) y
later_in x xs y h = Contains-append_right (x ∷ []) xs y h

pub in_cases : {A : Type 0} (x : A) (xs : List A) (y : A) → Contains (x ∷ xs) y → (x ≡ y) ⊎ Contains xs y
in_cases x xs y h = elim (Contains-append_cases (x ∷ []) xs y h) [
  | inl a ↦ elim (Contains-push_cases [] x y a) [ inl n ↦ absurd (none_in y n) | inr e ↦ inl e ]
  | inr b ↦ inr b
]

module _ {A B : Type 0} (f : A → B) where
  pub map_in : (xs : List A) (x : A) → Contains xs x → Contains (map f xs) (f x)
  map_in [] x h = absurd (none_in x h)
  map_in (y ∷ ys) x h = elim (in_cases y ys x h) [
    | inl e ↦ subst (λ z. Contains (f y ∷ map f ys) (f z)) e (first_in (f y) (map f ys))
    | inr b ↦ later_in (f y) (map f ys) (f x) (map_in ys x b)
  ]

  pub from_map : (xs : List A) (y : B) → Contains (map f xs) y → (x : A) × Contains xs x × (f x ≡ y)
  from_map [] y h = absurd (none_in y h)
  from_map (x ∷ xs) y h = elim (in_cases (f x) (map f xs) y h) [
    | inl e ↦ (x, first_in x xs, e)
    | inr b ↦ (let r = from_map xs y b in (r.0, later_in x xs r.0 r.1, r.2))
  ]

  pub map_both : (xs ys : List A) → map f (xs ++ ys) ≡ map f xs ++ map f ys
  map_both [] ys = refl
  map_both (x ∷ xs) ys = ap (λ z. f x ∷ z) (map_both xs ys)

  pub map_length : (xs : List A) → length (map f xs) ≡ length xs
  map_length [] = refl
  map_length (x ∷ xs) = ap suc (map_length xs)

-- A list that has no first member has none.
pub none_left : {A : Type 0} (xs : List A) → (0 < length xs → IsTrue false) → xs ≡ []
none_left [] h = refl
none_left (x ∷ xs) h = absurd (false≢true (h (omega arith)))

-- Functions that agree at what a list has make one list of it.
pub map_alike : {A : Type 0} (P : A → Type 0) (f g : A → Tree) → ((x : A) → P x → g x ≡ f x) → (xs : List A) →
    All P xs → map g xs ≡ map f xs
map_alike P f g h [] a = refl
map_alike P f g h (x ∷ xs) a =
    ap₂ (λ y z. y ∷ z) (h x (All-head P x xs a)) (map_alike P f g h xs (All-tail P x xs a))
