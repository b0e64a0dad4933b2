-- The constraints below the counter are read.
use Rattle.relation_regions.specs.Reading.{ReadsConstraints}
use Rattle.relation_regions.proofs.reading.read_constraints.Given as goal

abbrev pub invariant-loop-index : goal.invariant-loop-index
invariant-loop-index g l = ReadsConstraints (λ a b. g.X.PartialEq.eq a.0 b.0) l.constraints l.index l.fn.table l.table
    l.pairs.pairs l.pairs.asked_by.items
