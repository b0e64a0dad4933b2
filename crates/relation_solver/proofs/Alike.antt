-- Lists of terms that are one up to erasure, place by place, and lists without one of their elements.
use Rattle.std.proofs.Common.{◌≡◌, List, [], ◌∷◌, sym, ◌∙◌, map, All}
use Rattle.std.specs.List.{AllZip}
use Rattle.std.proofs.lemmas.List.Elements.{All-head, All-tail, All-cons, All-weaker}
use Rattle.relation_terms.specs.Trees.{Tree, Assign, apply}
use Rattle.relation_terms.specs.Erasure.{erase}
use Rattle.relation_semantics.specs.Stores.{Store, InContext}
use Rattle.relation_semantics.specs.Steps.{AgreeErased, IsLater}
use Rattle.relation_semantics.proofs.Exactness.{same_erased}
use Rattle.relation_semantics.proofs.Standing.{later_context}
use Rattle.relation_solver.specs.Traces.{Without, first, later}

abbrev pub AreAlike : List Tree → List Tree → Type 0
AreAlike ts us = AllZip (λ t u. erase t ≡ erase u) ts us

pub alike_sym : (ts us : List Tree) → AreAlike ts us → AreAlike us ts
alike_sym [] [] h = tt
alike_sym (t ∷ ts) (u ∷ us) h = (sym h.0, alike_sym ts us h.1)
alike_sym [] (u ∷ us) h = absurd h
alike_sym (t ∷ ts) [] h = absurd h

pub alike_trans : (ts us vs : List Tree) → AreAlike ts us → AreAlike us vs → AreAlike ts vs
alike_trans [] [] [] h k = tt
alike_trans (t ∷ ts) (u ∷ us) (v ∷ vs) h k = (h.0 ∙ k.0, alike_trans ts us vs h.1 k.1)
alike_trans [] [] (v ∷ vs) h k = absurd k
alike_trans [] (u ∷ us) vs h k = absurd h
alike_trans (t ∷ ts) [] vs h k = absurd h
alike_trans (t ∷ ts) (u ∷ us) [] h k = absurd k

-- Values under assignments that agree are.
pub alike_values : (st : Store) (s s' : Assign) (ts : List Tree) → AgreeErased st s s' → All (InContext st) ts →
    AreAlike (map (apply s) ts) (map (apply s') ts)
alike_values st s s' [] h i = tt
alike_values st s s' (t ∷ ts) h i =
    (same_erased st s s' t h (All-head (InContext st) t ts i), alike_values st s s' ts h (All-tail (InContext st) t ts i))

-- A later store has what an earlier one had.
pub all_later : (before after : Store) → IsLater before after → (ts : List Tree) → All (InContext before) ts →
    All (InContext after) ts
all_later before after l ts i = All-weaker (InContext before) (InContext after) (later_context before after l.grows) ts i

-- Of a list that is a context's each element is, and so is what is left without one.
pub one_in : (st : Store) {t : Tree} {ts us : List Tree} → Without t ts us → All (InContext st) ts → InContext st t
one_in st {t = t} (first {xs = xs}) i = All-head (InContext st) t xs i
one_in st (later {y = y} {xs = xs} w) i = one_in st w (All-tail (InContext st) y xs i)

pub rest_in : (st : Store) {t : Tree} {ts us : List Tree} → Without t ts us → All (InContext st) ts → All (InContext st) us
rest_in st {t = t} (first {xs = xs}) i = All-tail (InContext st) t xs i
rest_in st (later {y = y} {xs = xs} {ys = ys} w) i =
    All-cons (InContext st) y ys (All-head (InContext st) y xs i) (rest_in st w (All-tail (InContext st) y xs i))

-- The images of a list and of the same without one.
pub images_without : (f : Tree → Tree) {t : Tree} {ts us : List Tree} → Without t ts us →
    Without (f t) (map f ts) (map f us)
images_without f first = first
images_without f (later w) = later (images_without f w)

-- Of two lists that are alike an element of the one is like one of the other, and so are the rests.
pub alike_one : (f g : Tree → Tree) {t : Tree} {ts us : List Tree} → Without t ts us →
    AreAlike (map f ts) (map g ts) → erase (f t) ≡ erase (g t)
alike_one f g first h = h.0
alike_one f g (later w) h = alike_one f g w h.1

pub alike_rest : (f g : Tree → Tree) {t : Tree} {ts us : List Tree} → Without t ts us →
    AreAlike (map f ts) (map g ts) → AreAlike (map f us) (map g us)
alike_rest f g first h = h.1
alike_rest f g (later w) h = (h.0, alike_rest f g w h.1)
