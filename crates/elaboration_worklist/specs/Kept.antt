-- How a worklist stands, and what a push does to it.
use Rattle.std.specs.Prelude.{◌≡◌, ◌≤◌, ℕ, IsTrue, List, [], ◌∷◌, length, map, Result, Err, OnOk}
use Rattle.std.specs.List.{All}
use Rattle.relation_terms.specs.Trees.{Tree, known}
use Rattle.relation_terms.specs.Meaning.{Meaning, Extends}
use Rattle.relation_terms.specs.declared.terms.keys.PredicateKey.{PredicateKey}
use Rattle.elaboration_worklist.specs.declared.faults.ElabFault.{ElabFault}
use Rattle.elaboration_worklist.specs.declared.faults.ElabFault.TheVariants.{Limit}
use Rattle.elaboration_worklist.specs.declared.worklist.Worklist.{Worklist}
use Rattle.elaboration_worklist.specs.Pushes.{Pushes, IsFull}

-- By the trees of obligations.
module _ {Key Id Name O : Type 0} (tree : Meaning Key Id Name → O → Tree) where
  -- All that is still to come and all that was visited is known, and no more was visited than there is room for.
  pub record AreKept (m : Meaning Key Id Name) (stack : List O) (visited : List (PredicateKey Key)) (limit : ℕ) :
      Type 0 where
    pub stacked : All (λ o. IsTrue (known (tree m o))) stack
    pub seen : All (λ k. IsTrue (known (m.predicate k))) visited
    pub room : length visited ≤ limit

  -- The same of a worklist.
  abbrev pub IsKept : Meaning Key Id Name → Worklist Key O Name → Type 0
  IsKept m w = AreKept m w.stack.items w.visited.keys w.limit

  -- From one worklist to another by predicates that were to be pushed, while the interner grew; after a fault some of
  -- them were.
  pub record Pushed {T : Type 0} (m n : Meaning Key Id Name) (cs : List Tree) (w v : Worklist Key O Name)
      (result : Result T ElabFault) : Type 0 where
    pub grown : Extends m n
    pub kept : IsKept n v
    pub limit : v.limit ≡ w.limit
    pub name : v.name ≡ w.name
    pub all : OnOk result (Pushes (m.name w.name) cs (map (tree m) w.stack.items) (map m.predicate w.visited.keys)
        (map (tree n) v.stack.items) (map n.predicate v.visited.keys) v.limit)
    pub full : result ≡ Err Limit → IsFull (m.name w.name) cs (map m.predicate w.visited.keys) w.limit

module _ {I Key Id Name O : Type 0} (meaning : I → Meaning Key Id Name) (tree : Meaning Key Id Name → O → Tree) where
  -- Between what an interner is before a call and after it: a predicate was to be pushed.
  abbrev pub PushedOne : {T : Type 0} → I → I → O → Worklist Key O Name → Worklist Key O Name → Result T ElabFault →
      Type 0
  PushedOne before after o w v result =
      Pushed tree (meaning before) (meaning after) (tree (meaning before) o ∷ []) w v result
