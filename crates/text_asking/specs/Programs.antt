-- The words that programs are asked by.
use Rattle.std.specs.Prelude.{◌≡◌, ℕ, List, codes}

-- A word asks how the program is used.
abbrev pub IsHelp : List ℕ → Type 0
IsHelp word = word ≡ codes "--help"
