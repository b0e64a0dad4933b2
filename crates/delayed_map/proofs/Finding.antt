-- What is found in a map stands among what was kept.
use Rattle.std.proofs.Common.{◌≡◌, ◌∙◌, ℕ, zero, suc, Bool, true, false, ◌||◌, IsTrue, refl, sym, ap, subst, arith}
use Rattle.std.proofs.Common.{List, [], ◌∷◌, slice_index_or}
use Rattle.std.specs.List.{list_any}
use Rattle.std.specs.Map.{keys_of}
use Rattle.delayed_map.specs.Kept.{IsKeptAt, Finds}

or_true : (b : Bool) → (b || true) ≡ true
or_true true = refl
or_true false = refl

-- An equal key stands among the keys.
pub any_key : {K V : Type 0} (eq : K → K → Bool) (q : K) (es : List (K × V)) (n : ℕ) → IsKeptAt eq q es n →
    list_any (eq q) (keys_of es) ≡ true
any_key eq q [] n k = absurd (let l = k.below in omega (arith, l))
any_key eq q (e ∷ es) zero k = ap (λ b. b || list_any (eq q) (keys_of es)) (k.same e)
any_key eq q (e ∷ es) (suc n) k =
    let l = k.below in
    let rest : IsKeptAt eq q es n = record { below = omega (arith, l); same = λ d. k.same d } in
    ap (λ b. eq q e.0 || b) (any_key eq q es n rest) ∙ or_true (eq q e.0)

-- The value of that entry is found.
pub finds_at : {K V : Type 0} (eq : K → K → Bool) (q : K) (es : List (K × V)) (n : ℕ) (e : K × V) →
    IsKeptAt eq q es n → e ≡ slice_index_or es n e → Finds eq q e.1 es
finds_at eq q es n e k h = record {
  key = e.0;
  is_in = (n, k.below, sym h);
  same = subst (λ z. IsTrue (eq q z.0)) (sym h) (k.same e);
}
