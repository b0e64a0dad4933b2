-- Lines and columns.
use Rattle.std.specs.Prelude.{ℕ, ◌+◌, List, [], ◌∷◌, if◌then◌else◌, ◌==◌, nat_lt, ◌||◌}

-- the line of what stands behind a byte
abbrev pub line_behind : ℕ → ℕ → ℕ
line_behind line b = if b == 10 then line + 1 else line

-- the line behind a text that begins at that line
abbrev pub line_from : ℕ → List ℕ → ℕ
line_from line [] = line
line_from line (b ∷ bs) = line_from (line_behind line b) bs

-- the column of what stands behind a byte: each byte that begins a character counts
abbrev pub column_behind : ℕ → ℕ → ℕ
column_behind column b =
    if b == 10 then 1 else (if nat_lt b 0x80 || nat_lt 0xbf b then column + 1 else column)

-- the column behind a text that begins at that column
abbrev pub column_from : ℕ → List ℕ → ℕ
column_from column [] = column
column_from column (b ∷ bs) = column_from (column_behind column b) bs

-- the line of what stands behind a text
abbrev pub line_of : List ℕ → ℕ
line_of bs = line_from 1 bs

-- the column of what stands behind a text
abbrev pub column_of : List ℕ → ℕ
column_of bs = column_from 1 bs
