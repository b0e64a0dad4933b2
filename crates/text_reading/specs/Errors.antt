-- Errors of reading, and how they are written.
use Rattle.std.specs.Prelude.{◌≡◌, ℕ, ◌≤◌, ◌≢◌, ◌⊎◌, List, [], ◌∷◌, ◌++◌, codes, slice_range}
use Rattle.std.specs.Prelude.{Option, Some, None, IfSome}
use Rattle.std.specs.Fmt.{WritesInCalls}
use Rattle.text_reading.specs.declared.reading.error.Expected.{Expected}
use Rattle.text_reading.specs.declared.reading.error.Expected.TheVariants as expected
use Rattle.text_reading.specs.declared.reading.error.ReadError.{ReadError}
use Rattle.text_reading.specs.declared.reading.error.ReadError.TheVariants.{Memory, TooLong, NoWord, TooLarge, TooDeep, Unexpected}
use Rattle.text_reading.specs.Signs.{spelling}

-- the bytes of a text that the error is about, if it is about some
abbrev pub span_of : ReadError → Option (ℕ × ℕ)
span_of Memory = None
span_of TooLong = None
span_of (NoWord at) = Some (at, at)
span_of (TooLarge at) = Some (at, at)
span_of (TooDeep at) = Some (at, at)
span_of (Unexpected at end expected) = Some (at, end)

-- the error is not that the text is too long, and what it is about lies in a text of that length
abbrev pub LiesIn : ℕ → ReadError → Type 0
LiesIn n e = (e ≢ TooLong) × IfSome (span_of e) (λ s. (s.0 ≤ s.1) × (s.1 ≤ n))

-- what was expected
abbrev pub expected_text : Expected → List ℕ
expected_text expected.Statement = codes "a statement"
expected_text expected.Term = codes "a term"
expected_text expected.Region = codes "a region"
expected_text expected.Name = codes "a name"
expected_text expected.Number = codes "a number"
expected_text expected.Variable = codes "a variable"
expected_text expected.AnyVariable = codes "a variable of any kind"
expected_text expected.Parameter = codes "a parameter"
expected_text expected.Bound = codes "a variable of a binder"
expected_text expected.BoundConst = codes "a constant of a binder"
expected_text expected.Const = codes "a placeholder or `{error}`"
expected_text expected.Relation = codes "`<:`, `:>`, `==` or `===`"
expected_text (expected.Sign s) = codes "`" ++ (spelling s ++ codes "`")
expected_text (expected.CommaOr s) = codes "`,` or `" ++ (spelling s ++ codes "`")
expected_text (expected.Either s t) = codes "`" ++ (spelling s ++ (codes "` or `" ++ (spelling t ++ codes "`")))

-- what was found, which is the end where it is empty
abbrev pub found_text : List ℕ → List ℕ
found_text [] = codes ", found the end"
found_text (b ∷ bs) = codes ", found `" ++ ((b ∷ bs) ++ codes "`")

-- what stands between two places of a text, or nothing
abbrev pub IsFound : List ℕ → ℕ → ℕ → List ℕ → Type 0
IsFound text at end found = (found ≡ slice_range text at end) ⊎ (found ≡ [])

-- why a text was not read was written, where something else was expected with what was found
abbrev pub WritesError : {W : Type 0} → (W → List ℕ → W → Type 0) → List ℕ → ReadError → W → W → Type 0
WritesError took text Memory old new = WritesInCalls took old (codes "memory") new
WritesError took text TooLong old new = WritesInCalls took old (codes "the text is longer than 1 MiB") new
WritesError took text (NoWord at) old new = WritesInCalls took old (codes "no word begins here") new
WritesError took text (TooLarge at) old new = WritesInCalls took old (codes "the number is too large") new
WritesError took text (TooDeep at) old new = WritesInCalls took old (codes "the term has more than 1024 levels") new
WritesError took text (Unexpected at end e) old new = (found : List ℕ) × IsFound text at end found
    × WritesInCalls took old (codes "expected " ++ (expected_text e ++ found_text found)) new
