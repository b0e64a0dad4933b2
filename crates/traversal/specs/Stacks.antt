-- The elements of a stack whose unused places are blank.
use Rattle.std.specs.Prelude.{◌≡◌, List, [], ◌∷◌, Some, None, Option, length}

-- The elements that are there.
abbrev pub present : {T : Type 0} → List (Option T) → List T
present [] = []
present (None ∷ xs) = present xs
present (Some x ∷ xs) = x ∷ present xs

-- No place is blank.
abbrev pub IsFilled : {T : Type 0} → List (Option T) → Type 0
IsFilled {T} xs = length (present xs) ≡ length xs
