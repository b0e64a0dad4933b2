-- Lists in which no member stands twice.
use Rattle.std.proofs.Common.{◌≤◌, ◌≡◌, sym, ap, subst, arith, inl, inr, List, [], ◌∷◌, ◌++◌, length, length-append}
use Rattle.std.proofs.lemmas.List.Elements.{Contains-append_cases, Contains-append_left, Contains-append_right}
use Rattle.std.specs.List.{Contains}
use Rattle.elaboration_worklist.specs.Pushes.{IsDistinct}
use Rattle.elaboration_worklist.proofs.Members.{none_in, later_in, in_cases}
use Rattle.relation_folds.proofs.Lists.{first_in}

-- Two lists have no member in common.
abbrev pub Apart : {A : Type 0} → List A → List A → Type 0
Apart {A} xs ys = (q : A) → Contains xs q → Contains ys q → ⊥

pub distinct_both : {A : Type 0} (xs ys : List A) → IsDistinct xs → IsDistinct ys → Apart xs ys → IsDistinct (xs ++ ys)
distinct_both [] ys d e a = e
distinct_both (x ∷ xs) ys d e a = (
  λ h. elim (Contains-append_cases xs ys x h) [ inl b ↦ d.0 b | inr b ↦ a x (first_in x xs) b ],
  distinct_both xs ys d.1 e (λ q h k. a q (later_in x xs q h) k),
)

pub distinct_left : {A : Type 0} (xs ys : List A) → IsDistinct (xs ++ ys) → IsDistinct xs
distinct_left [] ys d = tt
distinct_left (x ∷ xs) ys d = (λ h. d.0 (Contains-append_left xs ys x h), distinct_left xs ys d.1)

pub distinct_apart : {A : Type 0} (xs ys : List A) → IsDistinct (xs ++ ys) → Apart xs ys
distinct_apart [] ys d q h k = none_in q h
distinct_apart (x ∷ xs) ys d q h k = elim (in_cases x xs q h) [
  | inl e ↦ d.0 (subst (λ z. Contains (xs ++ ys) z) (sym e) (Contains-append_right xs ys q k))
  | inr b ↦ distinct_apart xs ys d.1 q b k
]

-- A list split where a member stands.
split : {A : Type 0} (cs : List A) (x : A) → Contains cs x → (front : List A) × (back : List A) × (cs ≡ front ++ x ∷
    back)
split [] x h = absurd (none_in x h)
split (c ∷ cs) x h = elim (in_cases c cs x h) [
  | inl e ↦ ([], cs, ap (λ z. z ∷ cs) e)
  | inr b ↦ (let r = split cs x b in (c ∷ r.0, r.1, ap (λ z. c ∷ z) r.2))
]

-- Different members of a list are no more than it has.
pub no_more : {A : Type 0} (xs cs : List A) → IsDistinct xs → ((x : A) → Contains xs x → Contains cs x) →
    length xs ≤ length cs
no_more [] cs d h = omega arith
no_more (x ∷ xs) cs d h =
    let r = split cs x (h x (first_in x xs)) in
    let others = no_more xs (r.0 ++ r.1) d.1 (λ y k.
    let at = subst (λ z. Contains z y) r.2 (h y (later_in x xs y k)) in
    elim (Contains-append_cases r.0 (x ∷ r.1) y at) [
      | inl a ↦ Contains-append_left r.0 r.1 y a
      | inr b ↦ elim (in_cases x r.1 y b) [
        | inl e ↦ absurd (d.0 (subst (λ z. Contains xs z) (sym e) k))
        | inr c ↦ Contains-append_right r.0 r.1 y c
      ]
    ]) in
    let l = length-append r.0 r.1 in
    let m = length-append r.0 (x ∷ r.1) in
    let n = ap length r.2 in
    omega (arith, others, l, m, n)
