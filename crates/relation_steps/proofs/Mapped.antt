-- Lists that are mapped, item after item.
use Rattle.std.proofs.Common.{◌≡◌, ℕ, zero, suc, ◌<◌, refl, ap, ◌∙◌, arith}
use Rattle.std.proofs.Common.{List, [], ◌∷◌, ◌++◌, ◌+◌, length, get_or, map}

-- What the first items of a list are mapped to, and one more.
abbrev pub first_mapped : {K P : Type 0} → (K → P) → ℕ → List K → List P
first_mapped h zero xs = []
first_mapped h (suc i) (x ∷ xs) = h x ∷ first_mapped h i xs
first_mapped h (suc i) [] = []

mapped_pushed : {K P : Type 0} (h : K → P) (i : ℕ) (xs : List K) (d : K) → i < length xs →
    first_mapped h i xs ++ h (get_or xs i d) ∷ [] ≡ first_mapped h (suc i) xs
mapped_pushed h i [] d l = absurd (omega arith)
mapped_pushed h zero (x ∷ xs) d l = refl
mapped_pushed h (suc i) (x ∷ xs) d l = ap (λ ys. h x ∷ ys) (mapped_pushed h i xs d (omega arith))

pub mapped_more : {K P : Type 0} (h : K → P) (xs : List K) (i : ℕ) (d x : K) (p : P) (ys zs : List P) →
    ys ≡ first_mapped h i xs → i < length xs → x ≡ get_or xs i d → p ≡ h x → zs ≡ ys ++ p ∷ [] →
    zs ≡ first_mapped h (i + 1) xs
mapped_more h xs i d x p ys zs before l at made pushed =
    let next : suc i ≡ i + 1 = omega arith in
    pushed ∙ ap (λ q. ys ++ q ∷ []) (made ∙ ap h at) ∙ ap (λ a. a ++ h (get_or xs i d) ∷ []) before
    ∙ mapped_pushed h i xs d l ∙ ap (λ j. first_mapped h j xs) next

all_mapped : {K P : Type 0} (h : K → P) (xs : List K) → first_mapped h (length xs) xs ≡ map h xs
all_mapped h [] = refl
all_mapped h (x ∷ xs) = ap (λ ys. h x ∷ ys) (all_mapped h xs)

pub mapped_end : {K P : Type 0} (h : K → P) (xs : List K) (i : ℕ) (ys : List P) → ys ≡ first_mapped h i xs →
    i ≡ length xs → ys ≡ map h xs
mapped_end h xs i ys before e = before ∙ ap (λ j. first_mapped h j xs) e ∙ all_mapped h xs
