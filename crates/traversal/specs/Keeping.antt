-- What a set has that gained an element.
use Rattle.std.specs.Prelude.{◌≡◌, Bool, true, cond, List}
use Rattle.std.specs.List.{list_any}

-- The second has what the first has, and one more.
abbrev pub Adds : {T : Type 0} → (T → T → Bool) → List T → T → List T → Type 0
Adds {T} eq xs x ys = (q : T) → list_any (eq q) ys ≡ cond (eq x q) true (list_any (eq q) xs)
