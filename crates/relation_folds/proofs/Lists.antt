-- Parts of lists, of which something holds or which are equal.
use Rattle.std.proofs.Common.{◌≡◌, length, refl, arith, List, [], ◌∷◌, ◌++◌, All, Contains}
use Rattle.std.proofs.lemmas.List.Elements.{All-nil, All-cons, All-head, All-tail}

-- What holds of all of two lists holds of all of each.
pub All_front : {X : Type 0} (P : X → Type 0) (xs ys : List X) → All P (xs ++ ys) → All P xs
All_front P [] ys h = All-nil P
All_front P (x ∷ xs) ys h = All-cons P x xs (All-head P x (xs ++ ys) h) (All_front P xs ys (All-tail P x (xs ++ ys) h))

pub All_back : {X : Type 0} (P : X → Type 0) (xs ys : List X) → All P (xs ++ ys) → All P ys
All_back P [] ys h = h
All_back P (x ∷ xs) ys h = All_back P xs ys (All-tail P x (xs ++ ys) h)

-- The first member is one.
pub first_in : {X : Type 0} (x : X) (xs : List X) → Contains (x ∷ xs) x
first_in x xs = (0, omega arith, refl)

-- A list of no length has no member.
pub no_member : {X : Type 0} (xs : List X) → length xs ≡ 0 → xs ≡ []
no_member [] e = refl
no_member (x ∷ xs) e = absurd (omega (arith, e))

-- Of equal lists the first members are equal, and the others.
pub list_first : {X : Type 0} {x y : X} {xs ys : List X} → x ∷ xs ≡ y ∷ ys → x ≡ y
list_first e = cc

pub list_others : {X : Type 0} {x y : X} {xs ys : List X} → x ∷ xs ≡ y ∷ ys → xs ≡ ys
list_others e = cc
