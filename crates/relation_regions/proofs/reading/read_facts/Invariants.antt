-- The facts below the counter are read.
use Rattle.relation_regions.specs.Reading.{ReadsFacts}
use Rattle.relation_regions.proofs.reading.read_facts.Given as goal

abbrev pub invariant-loop-index : goal.invariant-loop-index
invariant-loop-index g l = ReadsFacts (λ a b. g.X.PartialEq.eq a.0 b.0) l.facts l.index l.fn.table l.table l.pairs.pairs
    l.pairs.asked_by.items
