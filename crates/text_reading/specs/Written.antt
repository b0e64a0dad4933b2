-- What a row says stands in the text.
use Rattle.std.specs.Prelude.{zero, ◌≡◌, ℕ, ◌<◌, ◌≤◌, Bool, true, false, List, [], ◌∷◌, Option, Some, None, IsSomeAnd, length, take, suc}
use Rattle.std.specs.List.{slice_get}
use Rattle.term_enums.specs.declared.Safety.{Safety}
use Rattle.term_enums.specs.declared.ExternAbi.{ExternAbi}
use Rattle.text_reading.specs.Words.{StandsAt, IsLeafAt}
use Rattle.text_reading.specs.Signs.{header_signs, StandFrom}
use Rattle.text_reading.specs.declared.reading.words.Word.{Word}
use Rattle.text_reading.specs.declared.reading.shapes.Makes.{Makes}
use Rattle.text_reading.specs.Shapes.{Row, Shape}
use Rattle.text_reading.specs.declared.reading.shapes.Piece.{Piece}
use Rattle.text_reading.specs.declared.reading.shapes.Piece.TheVariants as piece

-- what is written from the word `from` on and before the word `to` is that piece: its sign, a leaf, or what a function
-- pointer begins with. Of what has parts, and of what has only to be next, no more is said
abbrev pub IsWritten : List Word → Piece → ℕ → ℕ → Type 0
IsWritten ws (piece.Mark s) from to = StandsAt ws from s × (to ≡ suc from)
IsWritten ws (piece.OneOf s e) from to = StandsAt ws from s × (to ≡ suc from)
IsWritten ws (piece.Further s) from to = StandsAt ws from s × (to ≡ suc from)
IsWritten ws (piece.Leaf e) from to = IsLeafAt ws from × (to ≡ suc from)
IsWritten ws piece.Header from to =
    (s : Safety) × (a : ExternAbi) × StandFrom ws from (header_signs s a) × (from < to)
IsWritten ws _ from to = from ≤ to

-- what is written from the word `from` on and before the word `to` are those pieces, one behind the other
abbrev pub AreWritten : List Word → List Piece → ℕ → ℕ → Type 0
AreWritten ws [] from to = from ≡ to
AreWritten ws (p ∷ ps) from to = (k : ℕ) × IsWritten ws p from k × AreWritten ws ps k to

-- a form ends at the word `to` before that piece: its sign does not stand there
abbrev pub Stops : List Word → Piece → ℕ → Type 0
Stops ws (piece.Further s) to = StandsAt ws to s → ⊥
Stops ws _ to = ⊥

-- what was read of a piece is written so, and where the form does not go on behind it, it ends before it
abbrev pub HasRead : List Word → Piece → ℕ → ℕ → Bool → Type 0
HasRead ws p from to true = IsWritten ws p from to
HasRead ws p from to false = Stops ws p to × (to ≡ from)

-- a form ends at the word `to` before that piece, or behind its last
abbrev pub EndsBefore : List Word → Option Piece → ℕ → Type 0
EndsBefore ws None to = Unit {0}
EndsBefore ws (Some p) to = Stops ws p to

-- the pieces of the row of that number
abbrev pub pieces_at : List Shape → ℕ → List Piece
pieces_at [] k = []
pieces_at (r ∷ rs) zero = r.1.now
pieces_at (r ∷ rs) (suc k) = pieces_at rs k

-- both rows are written alike before that piece
abbrev pub AreAlike : List Shape → ℕ → ℕ → ℕ → Type 0
AreAlike rows at k j = (take at (pieces_at rows k) ≡ take at (pieces_at rows j)) × (at ≤ length (pieces_at rows j))

-- what is written from the word `from` on and before the word `to` is what that row says, up to where a form may end
abbrev pub IsOfRow : List Word → ℕ → ℕ → Row → Type 0
IsOfRow ws from to r =
    (n : ℕ) × AreWritten ws (take n r.1) from to × EndsBefore ws (slice_get r.1 n) to

-- the same of one of the rows, which makes that
abbrev pub IsOfRows : List Word → List Row → ℕ → ℕ → Makes → Type 0
IsOfRows ws rows from to m =
    (k : ℕ) × IsSomeAnd (slice_get rows k) (λ (r : Row). (r.0 ≡ m) × IsOfRow ws from to r)
