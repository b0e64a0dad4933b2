use Rattle.std.proofs.Common.{◌≡◌, length}
use Rattle.std.specs.List.{All}
use Rattle.relation_terms.specs.Meaning.{Extends}
use Rattle.text_elaboration.specs.Pulls.{KnowsPulled, FindsEach}
use Rattle.text_elaboration.proofs.pulls.pull_traits.Given as goal

-- what was pulled so far is known and was found in order, and the elaboration is the same one
abbrev pub invariant-loop : goal.invariant-loop
invariant-loop g l =
    record {
      same_reference : l.traits.reference ≡ l.fn.traits.reference;
      grown : Extends (g.I.Interner.meaning l.fn.traits.cx) (g.I.Interner.meaning l.traits.cx);
      sure : All (KnowsPulled (g.I.Interner.meaning l.traits.cx)) l.all.items;
      finds : FindsEach g.I.Interner.meaning l.fn.traits l.all.items l.traits;
      count : length l.all.items ≡ l.counter;
    }
