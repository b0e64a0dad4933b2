-- What a search of a graph has found.
use Rattle.std.specs.Prelude.{◌≡◌, ℕ, ◌<◌, ◌≤◌, List, length, get_or, Option, Some, None, IsSome, is_some}
use Rattle.std.specs.List.{count_by}
use Rattle.relation_regions.specs.declared.graph.Graph.{Graph}
use Rattle.relation_regions.specs.declared.search.Search.{Search}
use Rattle.relation_regions.specs.Graphs.{Reaches}

-- What was found at a place but the first: by an edge that leads from it to what was found at an earlier place.
pub record IsStep (from to nodes : List ℕ) (place by next : ℕ) : Type 0 where
  pub back : next < place
  pub edge : by < length to
  pub leads_from : get_or from by 0 ≡ get_or nodes place 0
  pub leads_to : get_or to by 0 ≡ get_or nodes next 0

-- A search among so many nodes for a target: the columns belong together, and each found node has a way to the target.
pub record HasFound (from to : List ℕ) (count target : ℕ) (places : List (Option ℕ)) (nodes edges onward : List ℕ) :
    Type 0 where
  pub all_nodes : length places ≡ count
  pub each_edge : length edges ≡ length nodes
  pub each_onward : length onward ≡ length nodes
  pub some_found : 0 < length nodes
  pub target_first : get_or nodes 0 0 ≡ target
  pub in_graph : (k : ℕ) → k < length nodes → get_or nodes k 0 < count
  pub steps : (k : ℕ) → 0 < k → k < length nodes → IsStep from to nodes k (get_or edges k 0) (get_or onward k 0)
  pub placed : (x k : ℕ) → get_or places x None ≡ Some k → (k < length nodes) × (get_or nodes k 0 ≡ x)
  pub target_placed : IsSome (get_or places target None)
  pub counted : length nodes ≡ count_by is_some places

abbrev pub IsSearch : Graph → ℕ → Search → Type 0
IsSearch g target s =
    HasFound g.from.items g.to.items (length g.latest.items) target s.places.items s.nodes.items s.edges.items s.onward.items

-- Whatever was found stays found, at its place.
pub record Keeps (s t : Search) : Type 0 where
  pub longer : length s.nodes.items ≤ length t.nodes.items
  pub nodes : (k : ℕ) → k < length s.nodes.items → get_or t.nodes.items k 0 ≡ get_or s.nodes.items k 0
  pub places : (x : ℕ) → IsSome (get_or s.places.items x None) → IsSome (get_or t.places.items x None)

-- A node was found.
abbrev pub IsFound : Search → ℕ → Type 0
IsFound s x = IsSome (get_or s.places.items x None)

-- Of the edges from one on, which lead to a node, all are found from which these lead.
abbrev pub HasPredecessors : Graph → Search → ℕ → ℕ → Type 0
HasPredecessors g s first node = (i : ℕ) → first ≤ i → i < length g.to.items → get_or g.to.items i 0 ≡ node →
    IsFound s (get_or g.from.items i 0)

-- All nodes are found from which the target is reached.
abbrev pub FindsAll : Graph → ℕ → Search → Type 0
FindsAll g target s = (x : ℕ) → Reaches g x target → IsFound s x
