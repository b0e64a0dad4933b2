use Rattle.std.proofs.Common.{◌≡◌}
use Rattle.std.specs.List.{All}
use Rattle.relation_terms.specs.Meaning.{Extends}
use Rattle.text_elaboration.specs.Pulls.{KnowsPulled, Answers}
use Rattle.text_elaboration.proofs.pulls.pull_all.Given as goal

-- what was pulled so far is known, and the elaboration is the same one
abbrev pub invariant-loop : goal.invariant-loop
invariant-loop g l =
    record {
      same_reference : l.elaborator.reference ≡ l.fn.elaborator.reference;
      grown : Extends (g.I.Interner.meaning l.fn.elaborator.cx) (g.I.Interner.meaning l.elaborator.cx);
      sure : All (KnowsPulled (g.I.Interner.meaning l.elaborator.cx)) l.all.items;
      answers : Answers g.I.Interner.meaning l.fn.elaborator l.all.items l.elaborator;
    }
