use Rattle.std.proofs.Common.{◌≡◌, List, map, take}
use Rattle.std.specs.List.{All}
use Rattle.relation_terms.specs.Trees.{Tree}
use Rattle.relation_terms.specs.Meaning.{Extends}
use Rattle.relation_terms.specs.Owned.{IsStatedBound, bound_tree}
use Rattle.reference_interner.specs.Adding.{meaning_in}
use Rattle.text_terms.specs.Built.{AreBuilt}
use Rattle.text_clauses.specs.Clauses.{bound_clause_tree}
use Rattle.text_elaboration.proofs.stating.bounds_of.Given as goal

-- what was built so far may be stated, and is what the first predicates say
abbrev pub invariant-loop-one : goal.invariant-loop-one
invariant-loop-one l =
    let m = meaning_in l.fn.cx in
    let n = meaning_in l.cx in
    record {
      grown : Extends m n;
      sure : All (IsStatedBound n) l.bounds.items;
      made : (ts : List Tree) → AreBuilt m ts l.built →
          map (bound_tree n) l.bounds.items ≡ map (bound_clause_tree (map m.id l.ids) l.parts ts) (take l.one-index l.said);
    }
