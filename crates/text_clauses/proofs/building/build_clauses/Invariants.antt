use Rattle.std.proofs.Common.{◌≡◌, IsTrue, List, map, take}
use Rattle.std.specs.List.{All}
use Rattle.relation_terms.specs.Trees.{Tree, known}
use Rattle.relation_terms.specs.Meaning.{Extends}
use Rattle.text_terms.specs.Built.{AreBuilt}
use Rattle.text_clauses.specs.Clauses.{clause_tree}
use Rattle.text_clauses.proofs.building.build_clauses.Given as goal

-- the clauses so far are those of the first predicates
abbrev pub invariant-loop-clause : goal.invariant-loop-clause
invariant-loop-clause g l =
    let m = g.I.Interner.meaning l.fn.cx in
    let n = g.I.Interner.meaning l.cx in
    let tree = clause_tree (map m.id l.ids) (map m.name l.names) l.numbers in
    record {
      grown : Extends m n;
      sure : All (λ k. IsTrue (known (n.clause k))) l.made.items;
      made : (ts : List Tree) → AreBuilt m ts l.built →
          map n.clause l.made.items ≡ map (tree ts) (take l.clause-index l.said);
    }
