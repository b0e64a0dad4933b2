-- Rows and their pieces.
use Rattle.std.specs.Prelude.{ℕ, List, [], ◌∷◌, length, max, map}
use Rattle.std.specs.Borrow.{Bor}
use Rattle.text_reading.specs.declared.reading.shapes.Makes.{Makes}
use Rattle.text_reading.specs.declared.reading.shapes.Piece.{Piece}

-- a row: what it makes, and the pieces that it is written as; and one as the code has it
abbrev pub Row : Type 0
Row = Makes × List Piece

abbrev pub Shape : Type 0
Shape = Makes × Bor (List Piece)

-- the rows that the code has
abbrev pub rows_in : List Shape → List Row
rows_in rs = map (λ (r : Shape). (r.0, r.1.now)) rs

-- the most pieces that a row has
abbrev pub most : List Shape → ℕ
most [] = 0
most (r ∷ rs) = max (length r.1.now) (most rs)
