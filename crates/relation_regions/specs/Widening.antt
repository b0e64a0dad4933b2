-- Why variables have to outlive 'static, and the graph with the edges that say so.
use Rattle.std.specs.Prelude.{◌≡◌, ℕ, ◌<◌, ◌≤◌, List, length, get_or, Option, Some, None, IsSome}
use Rattle.relation_regions.specs.declared.graph.Graph.{Graph}
use Rattle.relation_regions.specs.declared.standing.Standing.{Standing}
use Rattle.relation_regions.specs.Graphs.{IsGraph, Reaches}
use Rattle.relation_regions.specs.Standings.{IsBeyond}

-- Each reason of a variable is a placeholder that it reaches and can't name.
pub record AreReasons (g : Graph) (standings : List Standing) (reasons : List (Option ℕ)) : Type 0 where
  pub one_each : length reasons ≡ length standings
  pub in_graph : (a p : ℕ) → get_or reasons a None ≡ Some p → p < length standings
  pub beyond : (a p : ℕ) → get_or reasons a None ≡ Some p → IsBeyond standings a p
  pub reaches : (a p : ℕ) → get_or reasons a None ≡ Some p → Reaches g a p

-- Each variable has one that reaches such a placeholder below a bound.
abbrev pub HaveReasons : Graph → List Standing → ℕ → List (Option ℕ) → Type 0
HaveReasons g standings bound reasons = (a p : ℕ) → p < bound → IsBeyond standings a p → Reaches g a p →
    IsSome (get_or reasons a None)

-- The graph with an edge to the node 0 from each node below a bound that has a reason.
pub record IsWidened (g : Graph) (reasons : List (Option ℕ)) (bound : ℕ) (w : Graph) : Type 0 where
  pub graph : IsGraph w
  pub nodes : length w.latest.items ≡ length g.latest.items
  pub longer : length g.to.items ≤ length w.to.items
  pub same_from : (i : ℕ) → i < length g.to.items → get_or w.from.items i 0 ≡ get_or g.from.items i 0
  pub same_to : (i : ℕ) → i < length g.to.items → get_or w.to.items i 0 ≡ get_or g.to.items i 0
  pub to_static : (i : ℕ) → length g.to.items ≤ i → i < length w.to.items → get_or w.to.items i 0 ≡ 0
  pub for_reasons : (i : ℕ) → length g.to.items ≤ i → i < length w.to.items →
      IsSome (get_or reasons (get_or w.from.items i 0) None)
  pub each : (a : ℕ) → a < bound → IsSome (get_or reasons a None) → (i : ℕ) × (length g.to.items ≤ i) ×
      (i < length w.to.items) × (get_or w.from.items i 0 ≡ a)
