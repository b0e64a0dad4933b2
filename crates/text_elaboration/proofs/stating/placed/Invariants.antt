use Rattle.std.proofs.Common.{◌≡◌, take}
use Rattle.std.specs.List.{All}
use Rattle.relation_terms.specs.Owned.{IsStated}
use Rattle.reference_interner.specs.Adding.{meaning_in}
use Rattle.reference_interner.specs.Items.{clauses_in}
use Rattle.text_elaboration.proofs.stating.placed.Given as goal

-- what stands in the list are the first clauses, and may be stated
abbrev pub invariant-loop-clause : goal.invariant-loop-clause
invariant-loop-clause l =
    record {
      sure : All (IsStated (meaning_in l.cx)) (clauses_in l.all);
      same : clauses_in l.all ≡ take l.clause-index l.clauses;
    }
