-- How keys are hashed.
use Rattle.std.specs.Prelude.{ℕ, List, ◌*◌, ◌+◌, ◌%◌, ◌^◌, ◌-◌, ◌/◌, bit_xor, bit_and, fold, cond, nat_le, length, take, drop}
use Rattle.term_enums.specs.declared.hashing.KeyHasher.{KeyHasher}

-- The two halves of a product, joined.
unfoldable pub folded_product : ℕ → ℕ → ℕ
folded_product a b = bit_xor (bit_and (a * b) (2 ^ 64 - 1)) (a * b / 2 ^ 64)

-- The number of bytes, with one more behind them.
abbrev pub word_step : ℕ → ℕ → ℕ
word_step n byte = ((n * 256) % 2 ^ 64 + byte) % 2 ^ 64

-- The number of these bytes, the first the highest.
abbrev pub word : List ℕ → ℕ
word bytes = fold word_step 0 bytes

-- The state after a number.
abbrev pub after : ℕ → ℕ → ℕ
after state n = folded_product (bit_xor state n) 0x9e3779b97f4a7c15

-- The state after these bytes were written: as one number, or, where they are more than eight, as two.
abbrev pub write_words : KeyHasher → List ℕ → KeyHasher
write_words s bytes = record {
  state = cond (nat_le (length bytes) 8) (after s.state (word bytes))
      (after (after s.state (word (take 8 bytes))) (word (drop 8 bytes)));
}
