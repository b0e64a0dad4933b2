-- Goals of which the depth was spent, each with how many levels were left then.
--
--   IsSpent eq g n kept           one that equals this goal was spent with so many levels or more
--   KeepsSpent eq g n kept more   what is found since was kept before, or is this goal with so many levels
use Rattle.std.specs.Prelude.{◌≡◌, ◌⊎◌, ℕ, ◌≤◌, Bool, List, Option, Some, None, IsTrue}
use Rattle.std.specs.Map.{lookup}

module _ {T : Type 0} (eq : T → T → Bool) where
  abbrev pub IsSpent : Option T → ℕ → List (T × ℕ) → Type 0
  IsSpent (Some g) n kept = (m : ℕ) × (lookup (eq g) kept ≡ Some m) × (n ≤ m)
  IsSpent None n kept = ⊥

  abbrev pub IsThis : Option T → ℕ → T → ℕ → Type 0
  IsThis (Some g) n k m = IsTrue (eq g k) × (m ≡ n)
  IsThis None n k m = ⊥

  abbrev pub KeepsSpent : Option T → ℕ → List (T × ℕ) → List (T × ℕ) → Type 0
  KeepsSpent g n kept more = (k : T) (m : ℕ) → lookup (eq k) more ≡ Some m →
      (lookup (eq k) kept ≡ Some m) ⊎ IsThis g n k m
