use Rattle.std.proofs.Common.{[], take}
use Rattle.relation_terms.specs.Meaning.{Extends}
use Rattle.outlives_assumptions.specs.Assumptions.{all_elaborated}
use Rattle.outlives_assumptions.specs.Assuming.{Gains}
use Rattle.outlives_assumptions.proofs.elaborate_outlives_assumptions.Given as goal

-- What follows from the assumptions so far, and nothing else, was collected.
abbrev pub invariant-loop-assumption : goal.invariant-loop-assumption
invariant-loop-assumption g l =
    let m = g.I.Interner.meaning l.fn.cx in
    let n = g.I.Interner.meaning l.cx in
    record {
      grown : Extends m n;
      gains : Gains m n [] l.collected.keys (all_elaborated m (take l.assumption-index l.assumptions));
    }
