-- Graphs built of pairs of nodes.
use Rattle.std.specs.Prelude.{◌≡◌, ℕ, ◌+◌, ◌<◌, length, get_or}
use Rattle.relation_regions.specs.declared.graph.Graph.{Graph}
use Rattle.relation_regions.specs.declared.building.Pairs.{Pairs}
use Rattle.relation_regions.specs.Graphs.{IsGraph}

-- The columns belong together, and the pairs are of so many nodes.
pub record ArePairs (nodes : ℕ) (p : Pairs) : Type 0 where
  pub each_longer : length p.longer.items ≡ length p.shorter.items
  pub longer_in : (k : ℕ) → k < length p.shorter.items → get_or p.longer.items k 0 < nodes
  pub shorter_in : (k : ℕ) → k < length p.shorter.items → get_or p.shorter.items k 0 < nodes

-- All edges stand, and so many were added.
pub record Extends (g : Graph) (added : ℕ) (h : Graph) : Type 0 where
  pub graph : IsGraph h
  pub nodes : length h.latest.items ≡ length g.latest.items
  pub count : length h.to.items ≡ length g.to.items + added
  pub same_from : (i : ℕ) → i < length g.to.items → get_or h.from.items i 0 ≡ get_or g.from.items i 0
  pub same_to : (i : ℕ) → i < length g.to.items → get_or h.to.items i 0 ≡ get_or g.to.items i 0

-- The edges behind the first ones are those of the first pairs.
pub record HasPairs (first : ℕ) (p : Pairs) (bound : ℕ) (g : Graph) : Type 0 where
  pub longer : (k : ℕ) → k < bound → get_or g.from.items (first + k) 0 ≡ get_or p.longer.items k 0
  pub shorter : (k : ℕ) → k < bound → get_or g.to.items (first + k) 0 ≡ get_or p.shorter.items k 0

-- The edges behind the first ones are those from the node 0 to the nodes below a bound.
pub record HasStatic (first bound : ℕ) (g : Graph) : Type 0 where
  pub from_static : (k : ℕ) → k < bound → get_or g.from.items (first + k) 0 ≡ 0
  pub to_each : (k : ℕ) → k < bound → get_or g.to.items (first + k) 0 ≡ k

-- The first pairs were added.
pub record AddsPairs (g : Graph) (p : Pairs) (bound : ℕ) (h : Graph) : Type 0 where
  pub extends : Extends g bound h
  pub has : HasPairs (length g.to.items) p bound h

-- Edges from the node 0 to the nodes below a bound were added.
pub record AddsStatic (g : Graph) (bound : ℕ) (h : Graph) : Type 0 where
  pub extends : Extends g bound h
  pub has : HasStatic (length g.to.items) bound h

-- The edges of a graph are those that are asked for, then those that are known, then those from the node 0.
pub record IsBuilt (nodes : ℕ) (asked known : Pairs) (g : Graph) : Type 0 where
  pub graph : IsGraph g
  pub nodes_are : length g.latest.items ≡ nodes
  pub count : length g.to.items ≡ length asked.shorter.items + length known.shorter.items + nodes
  pub has_asked : HasPairs 0 asked (length asked.shorter.items) g
  pub has_known : HasPairs (length asked.shorter.items) known (length known.shorter.items) g
  pub has_static : HasStatic (length asked.shorter.items + length known.shorter.items) nodes g

-- The edges of a graph are those that are known, and those from the node 0.
pub record IsBuiltAlone (nodes : ℕ) (known : Pairs) (g : Graph) : Type 0 where
  pub none : Pairs
  pub empty : length none.shorter.items ≡ 0
  pub built : IsBuilt nodes none known g
