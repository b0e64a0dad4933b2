-- Graphs of numbered nodes, and paths in them.
use Rattle.std.specs.Prelude.{◌≡◌, ◌≢◌, ℕ, ◌<◌, ◌≤◌, ◌-◌, List, [], ◌∷◌, length, get_or}
use Rattle.relation_regions.specs.declared.graph.Graph.{Graph}

-- Of the first `bound` edges the latest that leads to a node, counted from 1, or 0 where there is none.
pub record IsLatest (to : List ℕ) (bound node latest : ℕ) : Type 0 where
  pub within : latest ≤ bound
  pub leads : 0 < latest → get_or to (latest - 1) 0 ≡ node
  pub none_later : (j : ℕ) → latest ≤ j → j < bound → get_or to j 0 ≢ node

-- The columns of a graph belong together.
pub record AreColumns (from to earlier latest : List ℕ) : Type 0 where
  pub same_length : length from ≡ length to
  pub each_earlier : length earlier ≡ length to
  pub from_nodes : (i : ℕ) → i < length from → get_or from i 0 < length latest
  pub to_nodes : (i : ℕ) → i < length to → get_or to i 0 < length latest
  pub latest_ones : (n : ℕ) → n < length latest → IsLatest to (length to) n (get_or latest n 0)
  pub earlier_ones : (i : ℕ) → i < length to → IsLatest to i (get_or to i 0) (get_or earlier i 0)

abbrev pub IsGraph : Graph → Type 0
IsGraph g = AreColumns g.from.items g.to.items g.earlier.items g.latest.items

-- Edges, by their indices, lead one after another from a node to another.
abbrev pub IsPath : List ℕ → List ℕ → List ℕ → ℕ → ℕ → Type 0
IsPath from to [] a b = a ≡ b
IsPath from to (i ∷ path) a b = (i < length to) × (get_or from i 0 ≡ a) × IsPath from to path (get_or to i 0) b

-- A path leads from a node to another.
abbrev pub Reaches : Graph → ℕ → ℕ → Type 0
Reaches g a b = (path : List ℕ) × IsPath g.from.items g.to.items path a b

-- Two graphs have as many nodes and the same edges.
pub record HasSameEdges (g h : Graph) : Type 0 where
  pub nodes : length h.latest.items ≡ length g.latest.items
  pub count : length h.to.items ≡ length g.to.items
  pub same_from : (i : ℕ) → i < length g.to.items → get_or h.from.items i 0 ≡ get_or g.from.items i 0
  pub same_to : (i : ℕ) → i < length g.to.items → get_or h.to.items i 0 ≡ get_or g.to.items i 0
