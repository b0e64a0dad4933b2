-- The edges below the index are forced by what was added.
use Rattle.std.proofs.Common.{ℕ, ◌<◌, get_or, All}
use Rattle.relation_regions.specs.Standings.{Among}
use Rattle.relation_regions.specs.Deciding.{EdgeIsForced}
use Rattle.relation_regions.proofs.unsatisfiable.causes_of.Given as goal

abbrev pub invariant-loop-edge : goal.invariant-loop-edge
invariant-loop-edge l = record {
  asked_for : All (λ i. i < l.asked) l.by.items;
  forced : (k : ℕ) → k < l.edge-index →
      EdgeIsForced l.graph l.wide l.asked l.standings (Among l.by.items) (get_or l.path k 0);
}
