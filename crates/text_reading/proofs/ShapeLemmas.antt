-- Rows and their pieces.
use Rattle.std.proofs.Common.{zero, ◌≡◌, ℕ, ◌<◌, List, [], ◌∷◌, Option, Some, None, IfSome, length, get_or, suc, sym, arith}
use Rattle.std.specs.List.{slice_get}
use Rattle.std.specs.Prelude.{IsSomeAnd}
use Rattle.text_reading.specs.declared.reading.shapes.Piece.{Piece}
use Rattle.text_reading.specs.Shapes.{Shape, most}

-- what is there has a number below the length
pub get_below : {X : Type 0} (xs : List X) (k : ℕ) (x : X) → slice_get xs k ≡ Some x → k < length xs
get_below [] k x e = absurd cc
get_below (y ∷ ys) zero x e = omega arith
get_below (y ∷ ys) (suc k) x e = let p = get_below ys k x e in omega (arith, p)

-- the row of that number has that piece there
abbrev pub HasPiece : List Shape → ℕ → ℕ → Piece → Type 0
HasPiece rows row at p = IsSomeAnd (slice_get rows row) (λ (r : Shape). slice_get r.1.now at ≡ Some p)

-- a piece of a row has a number below the most that there are
pub most_piece : (rs : List Shape) (k at : ℕ) (p : Piece) → HasPiece rs k at p → at < most rs
most_piece [] k at p h = absurd h
most_piece (s ∷ ss) zero at p h = let b = get_below s.1.now at p h in omega (arith, b)
most_piece (s ∷ ss) (suc k) at p h = let b = most_piece ss k at p h in omega (arith, b)

-- what a piece of a row is, if it has one there
pub piece_if : (rs : List Shape) (d : Shape) (k at : ℕ) (o : Option Piece) → k < length rs → o ≡ slice_get (get_or rs k d).1.now at → IfSome o (λ p. HasPiece rs k at p)
piece_if rs d k at None b e = tt
piece_if [] d k at (Some p) b e = absurd (omega (arith, b))
piece_if (s ∷ ss) d zero at (Some p) b e = sym e
piece_if (s ∷ ss) d (suc k) at (Some p) b e = piece_if ss d k at (Some p) (omega (arith, b)) e

pub most_if : (rs : List Shape) (k at : ℕ) (o : Option Piece) → IfSome o (λ p. HasPiece rs k at p) → IfSome o (λ p. at < most rs)
most_if rs k at None h = tt
most_if rs k at (Some p) h = most_piece rs k at p h
