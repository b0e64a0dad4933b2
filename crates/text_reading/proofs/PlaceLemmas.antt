-- Lines and columns, byte by byte.
use Rattle.std.proofs.Common.{zero, ◌≡◌, ℕ, ◌<◌, List, [], ◌∷◌, length, get_or, drop, suc, ap, arith}
use Rattle.text_reading.specs.Places.{line_from, line_behind, column_from, column_behind}

-- one more byte of the line
pub line_more : (xs : List ℕ) (i line next : ℕ) → i < length xs → next ≡ line_behind line (get_or xs i 0) → line_from next (drop (suc i) xs) ≡ line_from line (drop i xs)
line_more [] i line next h e = absurd (omega (arith, h))
line_more (x ∷ xs) zero line next h e = ap (λ n. line_from n xs) e
line_more (x ∷ xs) (suc i) line next h e = line_more xs i line next (omega (arith, h)) e

-- one more byte of the column
pub column_more : (xs : List ℕ) (i column next : ℕ) → i < length xs → next ≡ column_behind column (get_or xs i 0) → column_from next (drop (suc i) xs) ≡ column_from column (drop i xs)
column_more [] i column next h e = absurd (omega (arith, h))
column_more (x ∷ xs) zero column next h e = ap (λ n. column_from n xs) e
column_more (x ∷ xs) (suc i) column next h e = column_more xs i column next (omega (arith, h)) e
