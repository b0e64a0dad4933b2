-- Words of a text.
use Rattle.std.specs.Prelude.{◌≡◌, ℕ, ◌<◌, ◌≤◌, Bool, true, false, if◌then◌else◌, ◌==◌, ◌&&◌, List, [], ◌∷◌, Some}
use Rattle.std.specs.Prelude.{length, drop, slice_index, IsSomeAnd}
use Rattle.std.specs.Char.{is_ascii_whitespace}
use Rattle.std.specs.List.{slice_get, flat_map}
use Rattle.text_reading.specs.declared.reading.signs.Sign as sign
use Rattle.text_reading.specs.declared.reading.words.Word.{Word}
use Rattle.text_reading.specs.declared.reading.words.WordKind.{WordKind}
use Rattle.text_reading.specs.declared.reading.words.WordKind.TheVariants.{Leaf, Sign}

-- what is left of a text, that begins inside a comment or not, behind the blanks and comments at its beginning
abbrev pub skip : Bool → List ℕ → List ℕ
skip comment [] = []
skip true (b ∷ bs) = if b == 10 then skip false bs else skip true bs
skip false (b ∷ bs) =
    if is_ascii_whitespace b then skip false bs
    else (if b == 47 && slice_index bs 0 == 47 then skip true bs else b ∷ bs)

-- the words stand one behind another from the byte `from` on and up to `to`, each with at least one byte and right
-- behind blanks and comments
abbrev pub LieBetween : List ℕ → List Word → ℕ → ℕ → Type 0
LieBetween text [] from to = from ≡ to
LieBetween text (w ∷ ws) from to =
    (drop w.start text ≡ skip false (drop from text)) × (from ≤ w.start) × (w.start < w.end)
    × LieBetween text ws w.end to

-- the words are those of the text: between them, before and behind them stand blanks and comments alone
abbrev pub AreWordsOf : List ℕ → List Word → Type 0
AreWordsOf text ws =
    (to : ℕ) × LieBetween text ws 0 to × (to ≤ length text) × (skip false (drop to text) ≡ [])

-- each word stands in a text of that length
abbrev pub EachLies : List Word → ℕ → Type 0
EachLies ws n = (k : ℕ) (w : Word) → slice_get ws k ≡ Some w → (w.start ≤ w.end) × (w.end ≤ n)

-- the word itself if it is a leaf
abbrev pub leaf_as : WordKind → Word → List Word
leaf_as (Leaf l) w = w ∷ []
leaf_as (Sign s) w = []

-- the words that are leaves
abbrev pub leaves : List Word → List Word
leaves ws = flat_map (λ (w : Word). leaf_as w.kind w) ws

-- the word of that number is that sign
abbrev pub StandsAt : List Word → ℕ → sign.Sign → Type 0
StandsAt ws k s = IsSomeAnd (slice_get ws k) (λ (w : Word). w.kind ≡ Sign s)

-- a word is a leaf
abbrev pub IsLeaf : WordKind → Type 0
IsLeaf (Leaf l) = Unit {0}
IsLeaf (Sign s) = ⊥

-- the word of that number is a leaf
abbrev pub IsLeafAt : List Word → ℕ → Type 0
IsLeafAt ws k = IsSomeAnd (slice_get ws k) (λ (w : Word). IsLeaf w.kind)
