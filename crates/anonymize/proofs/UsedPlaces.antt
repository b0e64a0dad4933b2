-- The place of a variable in a list, one after another.
use Rattle.std.proofs.Common.{◌≡◌, ℕ, zero, suc, ◌+◌, ◌<◌, refl, sym, ap, ◌∙◌, Bool, true, false, cond, arith}
use Rattle.std.proofs.Common.{List, [], ◌∷◌, length, get_or, Option, Some, None, option_map}
use Rattle.anonymize.specs.Anonymous.{place_in, same_var}
use Rattle.anonymize.specs.declared.used.UsedVar.{UsedVar}

-- What is left of a list from a place on, and a place there as one of the whole.
abbrev pub from : ℕ → List UsedVar → List UsedVar
from zero us = us
from (suc i) (u ∷ us) = from i us
from (suc i) [] = []

abbrev pub later_by : ℕ → Option ℕ → Option ℕ
later_by i o = option_map (λ j. j + i) o

from_next : (i : ℕ) (us : List UsedVar) (v d : UsedVar) → i < length us → v ≡ get_or us i d →
    from i us ≡ v ∷ from (suc i) us
from_next zero (u ∷ us) v d h e = ap (λ z. z ∷ us) (sym e)
from_next (suc i) (u ∷ us) v d h e = from_next i us v d (omega arith) e
from_next i [] v d h e = absurd (omega arith)

from_end : (i : ℕ) (us : List UsedVar) → i ≡ length us → from i us ≡ []
from_end zero [] e = refl
from_end (suc i) [] e = refl
from_end zero (u ∷ us) e = absurd (omega arith)
from_end (suc i) (u ∷ us) e = from_end i us (omega arith)

pub place_first : (us : List UsedVar) (u : UsedVar) → place_in us u ≡ later_by 0 (place_in us u)
place_first us u = first (place_in us u)
  where
    first : (o : Option ℕ) → o ≡ later_by 0 o
    first None = refl
    first (Some j) = let e : j ≡ j + 0 = omega arith in ap (λ z. Some z) e

later_suc : (i : ℕ) (o : Option ℕ) → later_by i (option_map suc o) ≡ later_by (suc i) o
later_suc i None = refl
later_suc i (Some j) = let e : suc j + i ≡ j + suc i = omega arith in ap (λ z. Some z) e

module _ (us : List UsedVar) (u v d : UsedVar) (i j : ℕ) (b : Bool) (below : i < length us) (is : v ≡ get_or us i d)
    (same : b ≡ same_var v u) (before : place_in us u ≡ later_by i (place_in (from i us) u)) where
  pub place_next : b ≡ false → j ≡ suc i → place_in us u ≡ later_by j (place_in (from j us) u)
  place_next n e =
      before ∙ ap (λ z. later_by i (place_in z u)) (from_next i us v d below is)
      ∙ ap (λ c. later_by i (cond c (Some 0) (option_map suc (place_in (from (suc i) us) u)))) (sym same ∙ n)
      ∙ later_suc i (place_in (from (suc i) us) u) ∙ ap (λ k. later_by k (place_in (from k us) u)) (sym e)

  pub place_here : b ≡ true → Some i ≡ place_in us u
  place_here t =
      sym (before ∙ ap (λ z. later_by i (place_in z u)) (from_next i us v d below is)
      ∙ ap (λ c. later_by i (cond c (Some 0) (option_map suc (place_in (from (suc i) us) u)))) (sym same ∙ t) ∙ (let e : 0 + i ≡ i = omega arith in ap (λ z. Some z) e))

pub place_nowhere : (us : List UsedVar) (u : UsedVar) (i : ℕ) → i ≡ length us →
    place_in us u ≡ later_by i (place_in (from i us) u) → None ≡ place_in us u
place_nowhere us u i e b = sym (b ∙ ap (λ z. later_by i (place_in z u)) (from_end i us e))
