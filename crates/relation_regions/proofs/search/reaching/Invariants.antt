-- The nodes at the first places are done: all from which an edge leads to one of them are found.
use Rattle.std.proofs.Common.{ℕ, ◌<◌, ◌≤◌, length, get_or, ◌-◌}
use Rattle.relation_regions.specs.Searches.{IsSearch, HasPredecessors}
use Rattle.relation_regions.proofs.search.reaching.Given as goal

abbrev pub invariant-loop-done : goal.invariant-loop-done
invariant-loop-done l = record {
  search : IsSearch l.graph l.target l.found;
  within : l.done ≤ length l.found.nodes.items;
  closed : (k : ℕ) → k < l.done → HasPredecessors l.graph l.found 0 (get_or l.found.nodes.items k 0);
}

abbrev pub decreases-loop-done : goal.decreases-loop-done
decreases-loop-done l = length l.graph.latest.items - l.done
