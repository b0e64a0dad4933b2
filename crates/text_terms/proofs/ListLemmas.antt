-- Lists that loops make, one member at a time.
use Rattle.std.proofs.Common.{◌≡◌, ℕ, ◌+◌, ◌<◌, List, [], ◌∷◌, ◌++◌, length, map, get_or, take, sym, ◌∙◌, ap, ap₂}
use Rattle.std.proofs.lemmas.List.{map-append, take_more}

-- One more member, which is made to that of another list at its place.
pub each_more : {A B : Type 0} (f : A → B) (xs : List A) (ys : List B) (x : A) (y : B) (i : ℕ) (zs : List A) → map f xs ≡ take i ys →
    f x ≡ y → y ≡ get_or ys i y → i < length ys → zs ≡ xs ++ x ∷ [] → map f zs ≡ take (i + 1) ys
each_more f xs ys x y i zs h e g l p =
    ap (map f) p ∙ (map-append f xs (x ∷ []) ∙ (ap₂ (λ a b. a ++ b ∷ []) h (e ∙ g) ∙ sym (take_more ys i y l)))

-- One more member, which is the same as that of another list at its place.
pub found_more : {A B : Type 0} (f : ℕ → B) (g : A → B) (ns : List ℕ) (xs : List A) (x : A) (i : ℕ) (zs : List A) →
    map f (take i ns) ≡ map g xs → f (get_or ns i 0) ≡ g x → i < length ns → zs ≡ xs ++ x ∷ [] → map f (take (i + 1) ns) ≡ map g zs
found_more f g ns xs x i zs h e l p =
    ap (map f) (take_more ns i 0 l) ∙ (map-append f (take i ns) (get_or ns i 0 ∷ [])
    ∙ (ap₂ (λ a b. a ++ b ∷ []) h e ∙ (sym (map-append g xs (x ∷ [])) ∙ sym (ap (map g) p))))
