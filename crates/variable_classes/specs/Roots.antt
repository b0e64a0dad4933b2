-- The roots of numbers: the smallest member of each one's class.
use Rattle.std.specs.Prelude.{◌≡◌, ℕ, ◌≤◌, List, get_or, eqb, cond, map, max, min}

-- A table of classes as contracts see it: the roots of its numbers, and how many more it has room for.
pub record Roots : Type 0 where
  pub items : List ℕ
  pub spare : ℕ

-- The root of a number, which beyond the table is its own.
abbrev pub root_in : List ℕ → ℕ → ℕ
root_in rs n = get_or rs n n

-- A root that is led from the child to the other root.
abbrev pub led_root : ℕ → ℕ → ℕ → ℕ
led_root child root r = cond (eqb r child) root r

-- The roots once two classes are one, whose roots are these: the smaller is that of all members.
abbrev pub lowered_roots : ℕ → ℕ → List ℕ → List ℕ
lowered_roots r s rs = map (led_root (max r s) (min r s)) rs

-- The same of the classes of two numbers.
abbrev pub joined_roots : ℕ → ℕ → List ℕ → List ℕ
joined_roots a b rs = lowered_roots (root_in rs a) (root_in rs b) rs

-- Each names a root, of no larger number.
pub record IsRootTable (rs : List ℕ) : Type 0 where
  pub own : (n : ℕ) → root_in rs (root_in rs n) ≡ root_in rs n
  pub below : (n : ℕ) → root_in rs n ≤ n
