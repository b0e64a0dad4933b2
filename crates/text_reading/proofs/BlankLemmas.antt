-- Blanks and comments, byte by byte.
use Rattle.std.proofs.Common.{zero, ◌≡◌, ℕ, ◌<◌, ◌≤◌, Bool, true, false, ◌&&◌, ◌==◌, List, [], ◌∷◌, length, get_or, drop, suc, refl, sym, ◌∙◌, ap, arith}
use Rattle.std.specs.Prelude.{if◌then◌else◌}
use Rattle.std.specs.Char.{is_ascii_whitespace}
use Rattle.text_reading.specs.Words.{skip}

-- a byte of a comment
pub skip_comment : (xs : List ℕ) (i : ℕ) → i < length xs → (get_or xs i 0 == 10) ≡ false → skip true (drop i xs) ≡ skip true (drop (suc i) xs)
skip_comment [] i h e = absurd (omega (arith, h))
skip_comment (x ∷ xs) zero h e = ap (λ b. if b then skip false xs else skip true xs) e
skip_comment (x ∷ xs) (suc i) h e = skip_comment xs i (omega (arith, h)) e

-- the end of a line ends a comment
pub skip_line : (xs : List ℕ) (i : ℕ) → i < length xs → get_or xs i 0 ≡ 10 → skip true (drop i xs) ≡ skip false (drop i xs)
skip_line [] i h e = absurd (omega (arith, h))
skip_line (x ∷ xs) zero h e = ap (λ b. skip true (b ∷ xs)) e ∙ sym (ap (λ b. skip false (b ∷ xs)) e)
skip_line (x ∷ xs) (suc i) h e = skip_line xs i (omega (arith, h)) e

-- so does the end of the text
pub skip_end : (xs : List ℕ) (i : ℕ) (a b : Bool) → length xs ≤ i → skip a (drop i xs) ≡ skip b (drop i xs)
skip_end [] zero a b h = refl
skip_end [] (suc i) a b h = refl
skip_end (x ∷ xs) zero a b h = absurd (omega (arith, h))
skip_end (x ∷ xs) (suc i) a b h = skip_end xs i a b (omega (arith, h))

-- nothing is left at the end of the text
pub skip_nothing : (xs : List ℕ) (i : ℕ) (a : Bool) → length xs ≤ i → drop i xs ≡ skip a (drop i xs)
skip_nothing [] zero a h = refl
skip_nothing [] (suc i) a h = refl
skip_nothing (x ∷ xs) zero a h = absurd (omega (arith, h))
skip_nothing (x ∷ xs) (suc i) a h = skip_nothing xs i a (omega (arith, h))

-- a blank
pub skip_blank : (xs : List ℕ) (i : ℕ) → i < length xs → is_ascii_whitespace (get_or xs i 0) ≡ true → skip false (drop i xs) ≡ skip false (drop (suc i) xs)
skip_blank [] i h e = absurd (omega (arith, h))
skip_blank (x ∷ xs) zero h e =
    ap (λ b. if b then skip false xs else (if x == 47 && get_or xs 0 0 == 47 then skip true xs else x ∷ xs)) e
skip_blank (x ∷ xs) (suc i) h e = skip_blank xs i (omega (arith, h)) e

-- the beginning of a comment
pub skip_slashes : (xs : List ℕ) (i : ℕ) → i < length xs → is_ascii_whitespace (get_or xs i 0) ≡ false → (get_or xs i 0 == 47 && get_or xs (suc i) 0 == 47) ≡ true → skip false (drop i xs) ≡ skip true (drop (suc i) xs)
skip_slashes [] i h e f = absurd (omega (arith, h))
skip_slashes (x ∷ xs) zero h e f =
    ap (λ b. if b then skip false xs else (if x == 47 && get_or xs 0 0 == 47 then skip true xs else x ∷ xs)) e
    ∙ ap (λ b. if b then skip true xs else x ∷ xs) f
skip_slashes (x ∷ xs) (suc i) h e f = skip_slashes xs i (omega (arith, h)) e f

-- what is neither
pub skip_none : (xs : List ℕ) (i : ℕ) → i < length xs → is_ascii_whitespace (get_or xs i 0) ≡ false → (get_or xs i 0 == 47 && get_or xs (suc i) 0 == 47) ≡ false → drop i xs ≡ skip false (drop i xs)
skip_none [] i h e f = absurd (omega (arith, h))
skip_none (x ∷ xs) zero h e f =
    sym (ap (λ b. if b then skip false xs else (if x == 47 && get_or xs 0 0 == 47 then skip true xs else x ∷ xs)) e
    ∙ ap (λ b. if b then skip true xs else x ∷ xs) f)
skip_none (x ∷ xs) (suc i) h e f = skip_none xs i (omega (arith, h)) e f
