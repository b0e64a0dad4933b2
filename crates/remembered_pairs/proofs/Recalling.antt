-- What is found among pairs that are remembered.
use Rattle.std.proofs.Common.{◌≡◌, ◌⊎◌, inl, inr, sym, Bool, true, ◌&&◌, List, [], ◌∷◌, ◌++◌, Contains, rules}
use Rattle.std.specs.List.{list_any}
use Rattle.std.proofs.lemmas.Bool.{and_parts}
use Rattle.std.proofs.lemmas.List.Elements.{Contains-push_cases}
use Rattle.std.proofs.lemmas.List.Folds.{Any-from_list_any}
use Rattle.term_enums.specs.declared.Variance.{Variance}
use Rattle.term_enums.specs.contracts.VariancePartialEq.TheImpl.{ghosts}

-- Equal variances are one.
variance_is : (v w : Variance) → ghosts.eq v w ≡ true → w ≡ v
variance_is v w = search rules

-- What is found among pairs with their variances by equalities of their parts.
pub found_pair : {T : Type 0} (v : Variance) (g h : T → Bool) (ps : List (Variance × T × T)) →
    list_any (λ y. (ghosts.eq v y.0 && g y.1) && h y.2) ps ≡ true →
    (p : Variance × T × T) × Contains ps p × (p.0 ≡ v) × (g p.1 ≡ true) × (h p.2 ≡ true)
found_pair v g h ps found =
    let a = Any-from_list_any (λ y. (ghosts.eq v y.0 && g y.1) && h y.2) ps found in
    let both = and_parts (ghosts.eq v (a.1).0 && g (a.1).1) (h (a.1).2) a.4 in
    let first = and_parts (ghosts.eq v (a.1).0) (g (a.1).1) both.0 in
    (a.1, (a.0, a.2, a.3), variance_is v (a.1).0 first.0, first.1, both.1)

-- A member of a list with one more is that one, or one of the others.
pub newest : {T : Type 0} (xs : List T) (x y : T) → Contains (xs ++ x ∷ []) y → (y ≡ x) ⊎ Contains xs y
newest xs x y h = elim (Contains-push_cases xs x y h) [
  | inl k ↦ inr k
  | inr e ↦ inl (sym e)
]
