use Rattle.std.specs.List.{All}
use Rattle.relation_terms.specs.Meaning.{Meaning}
use Rattle.outlives_assumptions.specs.Assumptions.{IsKnown}
use Rattle.text_asking.specs.Meets.{AllKnown}
use Rattle.text_asking.proofs.outliving.assumptions_of.Given as goal

-- what was put into the list is known
abbrev pub invariant-loop-place : goal.invariant-loop-place
invariant-loop-place g l =
    (m : Meaning g.row.I-Key.Denot g.row.I-Id.Denot g.row.I-Name.Denot) → AllKnown m l.terms →
    AllKnown m l.regions → All (IsKnown m) l.all.items
