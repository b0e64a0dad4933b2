-- What is pushed of predicates of which each counts once, up to renaming.
use Rattle.std.specs.Prelude.{◌≡◌, ◌≤◌, ◌<◌, ◌+◌, ◌⊎◌, ℕ, List, [], ◌∷◌, ◌++◌, length, map}
use Rattle.std.specs.List.{Contains}
use Rattle.relation_terms.specs.Trees.{Tree}
use Rattle.anonymize.specs.Anonymous.{anonymized}

-- No member stands in the list twice.
abbrev pub IsDistinct : {A : Type 0} → List A → Type 0
IsDistinct [] = Unit {0}
IsDistinct (x ∷ xs) = (Contains xs x → ⊥) × IsDistinct xs

-- By the name that what is anonymised goes by.
module _ (name : ℕ) where
  -- What stands for all renamings of a predicate.
  abbrev pub anon : Tree → Tree
  anon t = anonymized name t

  -- From one stack and set to others, by predicates of which those that were not visited are put there, each once.
  pub record Pushes (cs stack visited stack' visited' : List Tree) (limit : ℕ) : Type 0 where
    pub new : List Tree
    pub stack_is : stack' ≡ stack ++ new
    pub of_them : (x : Tree) → Contains new x → Contains cs x
    pub fresh : (x : Tree) → Contains (map anon new) x → Contains visited x → ⊥
    pub once : IsDistinct (map anon new)
    pub all : (c : Tree) → Contains cs c → Contains visited' (anon c)
    pub old : (q : Tree) → Contains visited q → Contains visited' q
    pub only : (q : Tree) → Contains visited' q → Contains visited q ⊎ Contains (map anon new) q
    pub added : length visited' ≡ length visited + length new
    pub fits : length visited' ≤ limit

  -- Of these predicates more were not visited than there is room for.
  pub record IsFull (cs visited : List Tree) (limit : ℕ) : Type 0 where
    pub more : List Tree
    pub of_them : (x : Tree) → Contains more x → Contains cs x
    pub fresh : (x : Tree) → Contains (map anon more) x → Contains visited x → ⊥
    pub once : IsDistinct (map anon more)
    pub too_many : limit < length visited + length more
