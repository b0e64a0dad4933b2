use Rattle.std.proofs.Common.{◌≡◌, length}
use Rattle.std.specs.List.{All}
use Rattle.relation_terms.specs.Meaning.{Meaning}
use Rattle.text_elaboration.specs.Pulls.{KnowsPulled}
use Rattle.text_elaboration.proofs.ReachLemmas.{StillReaches}
use Rattle.text_elaboration.proofs.pulls.supertrait_ids_of.Given as goal

-- what was pulled so far is known, and is reached
abbrev pub invariant-loop : goal.invariant-loop
invariant-loop g l =
    record {
      sure : (m : Meaning g.row.I-Key.Denot g.row.I-Id.Denot g.row.I-Name.Denot) → All (KnowsPulled m) l.all.items;
      reaches : let m = g.I.Interner.meaning l.fn.cx in
          StillReaches g.I.Interner.meaning m (m.id l.fn.of) l.all.items l.ids;
      count : length l.all.items ≡ l.counter;
    }
