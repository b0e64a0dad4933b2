-- Whatever leads from the node at the place to the target, behind what is followed yet, leads from the first node.
use Rattle.std.proofs.Common.{ℕ, ◌<◌, List, ◌++◌, length, get_or}
use Rattle.relation_regions.specs.Graphs.{IsPath}
use Rattle.relation_regions.proofs.search.Search.path.Given as goal

abbrev pub invariant-loop-place : goal.invariant-loop-place
invariant-loop-place l = record {
  within : l.place < length l.self.nodes.items;
  leads : (rest : List ℕ) → IsPath l.graph.from.items l.graph.to.items rest (get_or l.self.nodes.items l.place 0) l.target →
      IsPath l.graph.from.items l.graph.to.items (l.path.items ++ rest) l.node l.target;
}

abbrev pub decreases-loop-place : goal.decreases-loop-place
decreases-loop-place l = l.place
