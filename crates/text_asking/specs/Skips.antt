-- After which pulls a walk skips, and what it yields.
use Rattle.std.specs.Prelude.{◌≡◌, ℕ, suc, Bool, false, List, [], map}
use Rattle.std.specs.List.{list_any}
use Rattle.std.specs.Prelude.{◌==◌}
use Rattle.relation_terms.specs.Meaning.{Meaning, arg_tree}
use Rattle.relation_terms.specs.declared.terms.generic_arg.GenericArgKind.{GenericArgKind}
use Rattle.walk.specs.Positions.{yields, ByPlaces}
use Rattle.walk.specs.Walking.{Walk}

-- A number stands among others.
abbrev pub stands_in : List ℕ → ℕ → Bool
stands_in ns n = list_any (λ k. k == n) ns

-- What is under an argument is skipped, by its number among what is yielded, counted from 0: the pull that yields it is
-- one further.
abbrev pub skipped_in : List ℕ → ℕ → Bool
skipped_in ns n = stands_in ns (suc n)

-- These are what a walk yields of an argument that skips after the pulls of these numbers.
abbrev pub AreYielded : {Key Id Name : Type 0} → Meaning Key Id Name → GenericArgKind Key → List ℕ →
    List (GenericArgKind Key) → Type 0
AreYielded m root skips xs =
    map (arg_tree m) xs ≡ yields (skipped_in skips) false [] (arg_tree m root)

-- A walk has an argument to go over, which it does by places.
abbrev pub GoesOver : {I Key Id Name : Type 0} → Meaning Key Id Name →
    (GenericArgKind Key → GenericArgKind Key → Bool) → Walk I (GenericArgKind Key) → GenericArgKind Key → Type 0
GoesOver m eq w root = ByPlaces m eq w (arg_tree m root)
