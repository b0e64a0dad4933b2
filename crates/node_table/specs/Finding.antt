-- How nodes are found, by an equality of nodes.
use Rattle.std.specs.Prelude.{ℕ, ◌≡◌, ◌<◌, Bool, IsTrue, length, List, slice_index_or}

module _ {N : Type 0} (eq : N → N → Bool) where
  -- No node of the list equals the node.
  abbrev pub Lacks : List N → N → Type 0
  Lacks ns n = (k : ℕ) (d : N) → k < length ns → IsTrue (eq (slice_index_or ns k d) n) → ⊥

  -- The list has a node that equals the node at the place.
  abbrev pub HasAt : List N → N → ℕ → Type 0
  HasAt ns n i = (i < length ns) × ((d : N) → IsTrue (eq (slice_index_or ns i d) n))

  -- No two nodes of the list are equal.
  abbrev pub AllUnequal : List N → Type 0
  AllUnequal ns = (i j : ℕ) (d : N) → i < length ns → j < length ns →
      IsTrue (eq (slice_index_or ns i d) (slice_index_or ns j d)) → i ≡ j
