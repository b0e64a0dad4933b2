-- Which row has a name.
use Rattle.std.specs.Prelude.{ℕ, List, [], ◌∷◌, Option, Some, None, cond, IsSome}
use Rattle.std.specs.Str.{bytes_eq}
use Rattle.relation_rows.specs.declared.rows.Row.{Row}

-- The first row of that name, if there is one.
abbrev pub row_named : List Row → List ℕ → Option Row
row_named [] name = None
row_named (r ∷ rs) name = cond (bytes_eq r.name.now name) (Some r) (row_named rs name)

-- One of the rows has that name.
abbrev pub IsRow : List Row → List ℕ → Type 0
IsRow rows name = IsSome (row_named rows name)
