-- Which traits are reached from one by super-predicates, and how they are gone through.
use Rattle.std.specs.Prelude.{◌≡◌, ◌≤◌, ◌+◌, ◌⊎◌, ℕ, Bool, true, false, List, [], ◌∷◌, ◌++◌, map, length}
use Rattle.std.specs.Prelude.{Option, Some, None, Result, Ok, Err}
use Rattle.std.specs.List.{Contains, filter_map}
use Rattle.relation_terms.specs.Meaning.{Meaning}
use Rattle.relation_terms.specs.declared.terms.ids.TraitId.{TraitId}
use Rattle.term_enums.specs.declared.memory.OutOfMemory.{OutOfMemory}
use Rattle.relation_statements.specs.Children.{Statements}
use Rattle.elaboration_worklist.specs.Pushes.{IsDistinct}
use Rattle.relation_statements.specs.Statements.{statements}
use Rattle.relation_statements.specs.TraitClauses.{trait_named}

-- The traits that a trait's super-predicates are of, in any polarity.
abbrev pub supers_named : Statements → ℕ → List ℕ
supers_named s d = filter_map trait_named (s.supers d)

-- A trait is reached from itself, and what the super-predicates of each trait that is reached are of.
pub data Reaches (s : Statements) (d : ℕ) : ℕ → Type 0 where
  itself : Reaches s d d
  by_super : (e f : ℕ) → Reaches s d e → Contains (supers_named s e) f → Reaches s d f

-- From a list and a set to others, by traits of which those that were not in the set are put there, each once.
pub record Spreads (ds stack seen stack' seen' : List ℕ) : Type 0 where
  pub new : List ℕ
  pub stack_is : stack' ≡ stack ++ new
  pub of_them : (e : ℕ) → Contains new e → Contains ds e
  pub fresh : (e : ℕ) → Contains new e → Contains seen e → ⊥
  pub once : IsDistinct new
  pub all : (e : ℕ) → Contains ds e → Contains seen' e
  pub old : (e : ℕ) → Contains seen e → Contains seen' e
  pub only : (e : ℕ) → Contains seen' e → Contains seen e ⊎ Contains new e

-- How far traits are gone through: the interner, what is still to come, the last one next, what was ever put there, and
-- whether a growth was refused.
pub record Reaching (I : Type 0) : Type 0 where
  pub cx : I
  pub stack : List ℕ
  pub reached : List ℕ
  pub failed : Bool

-- The numbers of traits.
module _ {Key Id Name : Type 0} (m : Meaning Key Id Name) where
  abbrev pub number : TraitId Id → ℕ
  number d = m.id d.0

  abbrev pub numbers : List (TraitId Id) → List ℕ
  numbers ds = map number ds

-- What was yielded from a trait on: traits that are reached, no two the same; all of them once nothing is left; and
-- never more than any list that has all of them.
pub record ReachesAll {I : Type 0} (s : Statements) (d : ℕ) (ds : List ℕ) (t : Reaching I) : Type 0 where
  pub sound : (e : ℕ) → Contains ds e → Reaches s d e
  pub once : IsDistinct ds
  pub all : t.stack ≡ [] → (e : ℕ) → Reaches s d e → Contains ds e
  pub small : (es : List ℕ) → ((e : ℕ) → Reaches s d e → Contains es e) → length ds + length t.stack ≤ length es

module _ {I Key Id Name : Type 0} (meaning : I → Meaning Key Id Name) where
  -- A trait is yielded: the last of the stack, and what its super-predicates are of is put there.
  pub record Yields (s : Reaching I) (d : ℕ) (t : Reaching I) : Type 0 where
    pub rest : List ℕ
    pub top : s.stack ≡ rest ++ d ∷ []
    pub spreads : Spreads (supers_named (statements (meaning s.cx)) d) rest s.reached t.stack t.reached
    pub cx : t.cx ≡ s.cx

  -- A call: at the end nothing; else the next trait; or that a growth was refused, then and at each later call.
  abbrev pub Goes : Reaching I → Option (Result (TraitId Id) OutOfMemory) → Reaching I → Type 0
  Goes s None t = (s.failed ≡ false) × (s.stack ≡ []) × (t ≡ s)
  Goes s (Some (Ok d)) t = (s.failed ≡ false) × (t.failed ≡ false) × Yields s (number (meaning s.cx) d) t
  Goes s (Some (Err e)) t = (t.failed ≡ true) × (t.cx ≡ s.cx) × (s.failed ≡ true → t ≡ s)

  -- From one state to another by calls that yield these, in order.
  abbrev pub GoesBy : Reaching I → List (TraitId Id) → Reaching I → Type 0
  GoesBy s [] t = t ≡ s
  GoesBy s (d ∷ ds) t = (u : Reaching I) × Goes s (Some (Ok d)) u × GoesBy u ds t

  -- Whatever is yielded is so, and finitely many traits are reached.
  pub record ByReach (d : ℕ) (s : Reaching I) : Type 0 where
    pub runs : (ds : List (TraitId Id)) (t : Reaching I) → GoesBy s ds t →
        ReachesAll (statements (meaning s.cx)) d (numbers (meaning s.cx) ds) t
    pub ends : (es : List ℕ) × ((e : ℕ) → Reaches (statements (meaning s.cx)) d e → Contains es e)
