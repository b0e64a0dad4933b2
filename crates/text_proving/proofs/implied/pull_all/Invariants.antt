use Rattle.std.proofs.Common.{◌≡◌}
use Rattle.std.specs.List.{All}
use Rattle.relation_terms.specs.Meaning.{Extends}
use Rattle.relation_elaboration.specs.Pulling.{RunsTo}
use Rattle.text_proving.specs.Made.{KnowsClause}
use Rattle.text_proving.proofs.implied.pull_all.Given as goal

-- the clauses so far are those that were pulled
abbrev pub invariant-loop : goal.invariant-loop
invariant-loop g l =
    let meaning = g.I.Interner.meaning in
    record {
      same_reference : l.elaborator.reference ≡ l.fn.elaborator.reference;
      grown : Extends (meaning l.fn.elaborator.cx) (meaning l.elaborator.cx);
      sure : All (KnowsClause (meaning l.elaborator.cx)) l.all.items;
      runs : RunsTo meaning (λ m k. m.clause k) l.fn.elaborator l.all.items l.elaborator;
    }
