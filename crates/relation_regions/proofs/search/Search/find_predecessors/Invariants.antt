-- All edges that lead to the node are done but for those that are left.
use Rattle.std.proofs.Common.{◌≤◌, length}
use Rattle.relation_regions.specs.Graphs.{IsLatest}
use Rattle.relation_regions.specs.Searches.{IsSearch, Keeps, HasPredecessors}
use Rattle.relation_regions.proofs.search.Search.find_predecessors.Given as goal

abbrev pub invariant-loop-left : goal.invariant-loop-left
invariant-loop-left l = record {
  search : IsSearch l.graph l.target l.self;
  keeps : Keeps l.fn.self l.self;
  latest : IsLatest l.graph.to.items l.left l.node l.left;
  within : l.left ≤ length l.graph.to.items;
  found : HasPredecessors l.graph l.self l.left l.node;
}

abbrev pub decreases-loop-left : goal.decreases-loop-left
decreases-loop-left l = l.left
