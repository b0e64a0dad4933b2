-- How far sizes may grow while instantiations are made.
use Rattle.std.specs.Prelude.{◌≡◌, ℕ, zero, suc, ◌+◌, ◌*◌, ◌≤◌}
use Rattle.relation_terms.specs.Trees.{Tree}
use Rattle.relation_semantics.specs.Stores.{Store, weight, all_bound}
use Rattle.relation_semantics.specs.Steps.{IsLater, MakesNoNumber}

-- The bound on sizes after `j` instantiations, each of which squares it at most.
abbrev pub grown : ℕ → ℕ → ℕ
grown zero n = n
grown (suc j) n = grown j (n * n)

-- Between two states a pair of size `n` was related, or a part of the work for it done: the later one is later, each
-- root that was bound to a term took one from the budget, and each of these squared sizes at most; no variable of a
-- number was made.
pub record Goes (n : ℕ) (before after : Store) : Type 0 where
  pub later : IsLater before after
  pub made : MakesNoNumber before after
  pub spent : ℕ
  pub counts : before.budget ≡ spent + after.budget
  pub binds : all_bound after ≡ spent + all_bound before
  pub grows : (m : ℕ) (t : Tree) → n ≤ m → weight before t ≤ m → weight after t ≤ grown spent m
