-- How many there are, and how many different ones, as an answer writes it.
use Rattle.std.specs.Prelude.{ℕ, List, ◌++◌, codes}
use Rattle.std.specs.Fmt.{decimal}

-- Both numbers, with a bar between them.
abbrev pub counts_text : ℕ → ℕ → List ℕ
counts_text all different = decimal all ++ (codes " | " ++ decimal different)
