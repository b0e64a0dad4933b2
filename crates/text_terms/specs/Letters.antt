-- The letters that regions print by, as numbers.
use Rattle.std.specs.Prelude.{ℕ, suc, List, [], ◌∷◌, cond, nat_lt}

-- The number at that place among those that do not stand in a list, which is in ascending order.
abbrev pub skipping : List ℕ → ℕ → ℕ
skipping [] n = n
skipping (x ∷ xs) n = cond (nat_lt n x) n (skipping xs (suc n))
