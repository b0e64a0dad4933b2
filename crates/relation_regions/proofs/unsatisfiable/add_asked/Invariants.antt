-- The edges below the index are looked at.
use Rattle.relation_regions.specs.Deciding.{Adds, HasAsked}
use Rattle.relation_regions.proofs.unsatisfiable.add_asked.Given as goal

abbrev pub invariant-loop-edge : goal.invariant-loop-edge
invariant-loop-edge l = record {
  adds : Adds l.asked l.fn.by.items l.by.items;
  has : HasAsked l.asked l.path l.edge-index l.by.items;
}
