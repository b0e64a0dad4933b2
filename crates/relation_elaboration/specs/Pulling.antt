-- What a pull does to an elaboration, and what an elaboration yields.
use Rattle.std.specs.Prelude.{◌≡◌, ◌≢◌, ◌≤◌, ℕ, Bool, false, IsTrue, List, [], ◌∷◌, ◌++◌, length, map}
use Rattle.std.specs.Prelude.{Option, Some, None, Result, Ok, Err, OnOk}
use Rattle.std.specs.List.{All}
use Rattle.relation_terms.specs.Trees.{Tree, known}
use Rattle.relation_terms.specs.Meaning.{Meaning, Extends}
use Rattle.relation_terms.specs.declared.terms.keys.PredicateKey.{PredicateKey}
use Rattle.elaboration_worklist.specs.declared.faults.ElabFault.{ElabFault}
use Rattle.elaboration_worklist.specs.declared.faults.ElabFault.TheVariants.{Limit}
use Rattle.elaboration_worklist.specs.declared.worklist.Worklist.{Worklist}
use Rattle.relation_statements.specs.Children.{Mode, mode_of, children}
use Rattle.relation_statements.specs.Statements.{statements}
use Rattle.relation_statements.specs.Runs.{Standing, Yields, Closes}
use Rattle.elaboration_worklist.specs.Pushes.{Pushes, IsFull}

-- How an elaboration stands: the name of its reference, its interner, what is still to come, what stands for all that
-- was ever pushed, the limit, the name of what is anonymised, the mode, and the fault that was met.
pub record Elaboration (I O Key Name : Type 0) : Type 0 where
  pub reference : ℕ
  pub cx : I
  pub stack : List O
  pub visited : List (PredicateKey Key)
  pub limit : ℕ
  pub name : Name
  pub mode : Mode
  pub fault : Option ElabFault

module _ {I Key Id Name O : Type 0} (meaning : I → Meaning Key Id Name) (tree : Meaning Key Id Name → O → Tree) where
  -- The trees of what is still to come and of what was visited.
  abbrev pub standing : Elaboration I O Key Name → Standing
  standing e = record {
    stack = map (tree (meaning e.cx)) e.stack;
    visited = map (meaning e.cx).predicate e.visited;
    limit = e.limit;
  }

  -- The number of the name of what is anonymised.
  abbrev pub named : Elaboration I O Key Name → ℕ
  named e = (meaning e.cx).name e.name

  -- The interner grew, and the rest of how it is set up stayed.
  pub record Keeps (s t : Elaboration I O Key Name) : Type 0 where
    pub reference : t.reference ≡ s.reference
    pub grown : Extends (meaning s.cx) (meaning t.cx)
    pub limit : t.limit ≡ s.limit
    pub name : t.name ≡ s.name
    pub mode : t.mode ≡ s.mode

  -- Of these predicates, those of which no renaming was ever there were put there, each once.
  abbrev pub Takes : List O → Elaboration I O Key Name → Elaboration I O Key Name → Type 0
  Takes given s t = Pushes (named s) (map (tree (meaning s.cx)) given) (standing s).stack (standing s).visited
      (standing t).stack (standing t).visited t.limit

  -- More of these predicates were never there than there is room for, if no fault was met before.
  abbrev pub HasNoRoom : List O → Elaboration I O Key Name → Type 0
  HasNoRoom given s = s.fault ≡ None → IsFull (named s) (map (tree (meaning s.cx)) given) (standing s).visited s.limit

  -- A fault: the one that was met before, and nothing changes; or a new one, where something was left, and it is that
  -- of the limit only where what the last predicate of the stack implies does not fit.
  abbrev pub Faults : Option ElabFault → Elaboration I O Key Name → ElabFault → Elaboration I O Key Name → Type 0
  Faults (Some g) s f t = (f ≡ g) × (t ≡ s)
  Faults None s f t = (s.stack ≢ []) × (f ≡ Limit → (rest : List O) (x : O) → s.stack ≡ rest ++ x ∷ [] →
      IsFull (named s) (children (statements (meaning s.cx)) s.mode (tree (meaning s.cx) x))
      (map (meaning s.cx).predicate s.visited) s.limit)

  -- A pull: at the end nothing; else the last predicate of the stack, and what it implies was pushed; or a fault, which
  -- is kept.
  abbrev pub Pulls : Elaboration I O Key Name → Option (Result O ElabFault) → Elaboration I O Key Name → Type 0
  Pulls s None t = (s.fault ≡ None) × (s.stack ≡ []) × (t ≡ s)
  Pulls s (Some (Ok x)) t = (s.fault ≡ None) × (t.fault ≡ None) × Keeps s t × IsTrue (known (tree (meaning s.cx) x)) ×
      Yields (named s) (statements (meaning s.cx)) s.mode (standing s) (tree (meaning s.cx) x) (standing t)
  Pulls s (Some (Err f)) t = (t.fault ≡ Some f) × Keeps s t × Faults s.fault s f t

  -- From one elaboration to another by pulls that yield these, in order.
  abbrev pub RunsTo : Elaboration I O Key Name → List O → Elaboration I O Key Name → Type 0
  RunsTo e [] f = f ≡ e
  RunsTo e (y ∷ ys) f = (g : Elaboration I O Key Name) × Pulls e (Some (Ok y)) g × RunsTo g ys f

  -- It begins with these predicates, of each the first up to renaming, in a mode of its own.
  pub record BeginsWith (m : Meaning Key Id Name) (given : List O) (most : ℕ) (e : Elaboration I O Key Name) :
      Type 0 where
    pub pushes : Pushes (named e) (map (tree m) given) [] [] (standing e).stack (standing e).visited most
    pub limit : e.limit ≡ most
    pub mode : e.mode ≡ mode_of false false
    pub fault : e.fault ≡ None

  -- Whatever it yields, in whatever mode, is the closure of these predicates.
  abbrev pub ByClosure : Meaning Key Id Name → List O → Elaboration I O Key Name → Type 0
  ByClosure m given e = (mode : Mode) (ys : List O) (f : Elaboration I O Key Name) →
      RunsTo (record e { mode = mode }) ys f →
      Closes (named e) (statements m) mode (map (tree m) given) (map (tree (meaning f.cx)) ys) (standing f)

  -- The same where no predicate was ever there before these.
  abbrev pub BeginsClosure : List O → Elaboration I O Key Name → Elaboration I O Key Name → Type 0
  BeginsClosure given s t = s.stack ≡ [] → s.visited ≡ [] → ByClosure (meaning s.cx) given t
