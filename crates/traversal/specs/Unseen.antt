-- What comes next of a stack: the first element that was not seen.
use Rattle.std.specs.Prelude.{◌≡◌, Bool, cond, List, [], ◌∷◌, Option, Some, None}
use Rattle.std.specs.List.{list_any}
use Rattle.traversal.specs.Keeping.{Adds}

-- The first that was not seen, and what comes after it.
abbrev pub first_unseen : {T : Type 0} → (T → Bool) → List T → Option (T × List T)
first_unseen seen [] = None
first_unseen seen (x ∷ xs) = cond (seen x) (first_unseen seen xs) (Some (x, xs))

-- What was popped of a stack: its first that was not seen, which was seen from then on. From what was seen and the
-- stack, to the stack and what was seen.
abbrev pub Pops : {T : Type 0} → (T → T → Bool) → List T → List T → Option T → List T → List T → Type 0
Pops eq xs s None t ys = (first_unseen (λ q. list_any (eq q) xs) s ≡ None) × (t ≡ []) × (ys ≡ xs)
Pops eq xs s (Some x) t ys = (first_unseen (λ q. list_any (eq q) xs) s ≡ Some (x, t)) × Adds eq xs x ys
