-- What the pulls of an elaboration answered.
use Rattle.std.specs.Prelude.{◌≡◌, ◌≤◌, ◌⊎◌, ℕ, Bool, true, false, IsTrue, List, [], ◌∷◌, ◌++◌}
use Rattle.std.specs.Prelude.{map, length, codes, Option, Some, None, Result, Ok, Err, unwrap_or}
use Rattle.std.specs.List.{Contains, filter_map}
use Rattle.term_enums.specs.declared.PredicatePolarity.TheVariants.{Positive}
use Rattle.relation_terms.specs.Trees.{Tree, known}
use Rattle.relation_terms.specs.Meaning.{Meaning}
use Rattle.relation_terms.specs.Owned.{bound_tree}
use Rattle.relation_terms.specs.Conversions.{trait_clause_tree}
use Rattle.relation_terms.specs.declared.predicate.trait_ref.TraitRef.{TraitRef}
use Rattle.relation_terms.specs.declared.terms.binder.Binder.{Binder}
use Rattle.relation_terms.specs.declared.terms.ids.TraitId.{TraitId}
use Rattle.term_enums.specs.declared.memory.OutOfMemory.{OutOfMemory}
use Rattle.relation_terms.specs.declared.terms.keys.ClauseKey.{ClauseKey}
use Rattle.elaboration_worklist.specs.declared.faults.ElabFault.{ElabFault}
use Rattle.elaboration_worklist.specs.declared.faults.ElabFault.TheVariants as fault
use Rattle.relation_statements.specs.Runs.{Standing, AreTooMany}
use Rattle.elaboration_worklist.specs.Pushes.{IsDistinct}
use Rattle.relation_statements.specs.Statements.{statements}
use Rattle.relation_statements.specs.Children.{mode_of}
use Rattle.relation_elaboration.specs.Pulling.{Elaboration, Pulls, BeginsWith}
use Rattle.relation_elaboration.specs.Finding.{FindsNext, FindsAll, FindsClosed}
use Rattle.relation_statements.specs.Reach.{Reaching, Reaches, Goes, numbers}
use Rattle.text_elaboration.specs.declared.pulls.Pulled.{Pulled}
use Rattle.text_elaboration.specs.declared.pulls.Pulled.TheVariants as pulled
use Rattle.text_elaboration.specs.declared.pulls.Manner.{Manner}

-- What a pull answered is known.
abbrev pub KnowsPulled : {Key Id Name : Type 0} → Meaning Key Id Name → Pulled Key Id → Type 0
KnowsPulled m (pulled.Clause k) = IsTrue (known (m.clause k))
KnowsPulled m (pulled.Bound b) = IsTrue (known (bound_tree m b))
KnowsPulled m (pulled.Trait d) = Unit {0}
KnowsPulled m pulled.Limit = Unit {0}
KnowsPulled m pulled.End = Unit {0}

-- How many different predicates there may be, where nothing is said 100.
abbrev pub most : Manner → ℕ
most m = unwrap_or m.limit 100

-- Whether no more is pulled behind it: nothing is left, or the limit is met, if that is an end.
abbrev pub is_last : {Key Id : Type 0} → Bool → Pulled Key Id → Bool
is_last at_limit pulled.End = true
is_last at_limit pulled.Limit = at_limit
is_last at_limit p = false

-- How an answer is written that is neither a predicate, nor a trait reference, nor a trait.
abbrev pub sign_text : {Key Id : Type 0} → Pulled Key Id → Option (List ℕ)
sign_text pulled.Limit = Some (codes "limit")
sign_text pulled.End = Some (codes "end")
sign_text p = None

-- What is told of what a pull answers, of what it yields as that: nothing where a growth was refused.
abbrev pub told : {Key Id T : Type 0} → (T → Pulled Key Id) → Option (Result T ElabFault) → Option (Pulled Key Id)
told f None = Some pulled.End
told f (Some (Ok x)) = Some (f x)
told f (Some (Err fault.Limit)) = Some pulled.Limit
told f (Some (Err fault.Memory)) = None

-- The same of traits, of which there is no limit.
abbrev pub told_trait : {Key Id : Type 0} → Option (Result (TraitId Id) OutOfMemory) → Option (Pulled Key Id)
told_trait None = Some pulled.End
told_trait (Some (Ok d)) = Some (pulled.Trait d)
told_trait (Some (Err e)) = None

-- The trait reference, or the trait, that a pull answered.
abbrev pub bound_in : {Key Id : Type 0} → Pulled Key Id → Option (Binder Key (TraitRef Key Id))
bound_in (pulled.Bound b) = Some b
bound_in p = None

abbrev pub trait_in : {Key Id : Type 0} → Pulled Key Id → Option (TraitId Id)
trait_in (pulled.Trait d) = Some d
trait_in p = None

-- The pulls went on to an end, to a limit, or up to so many.
abbrev pub WentOn : {Key Id : Type 0} → ℕ → List (Pulled Key Id) → Type 0
WentOn n ps = Contains ps pulled.End ⊎ (Contains ps pulled.Limit ⊎ (n ≤ length ps))

module _ {Key Id Name : Type 0} (m : Meaning Key Id Name) where
  -- The trees of the trait references that pulls answered, and the numbers of the traits.
  abbrev pub bounds_answered : List (Pulled Key Id) → List Tree
  bounds_answered ps = map (bound_tree m) (filter_map bound_in ps)

  abbrev pub traits_answered : List (Pulled Key Id) → List ℕ
  traits_answered ps = numbers m (filter_map trait_in ps)

  -- What pulls answer from a trait on: traits that are reached, no two the same, and all of them before the end.
  pub record AreReached (d most : ℕ) (ps : List (Pulled Key Id)) : Type 0 where
    pub sound : (e : ℕ) → Contains (traits_answered ps) e → Reaches (statements m) d e
    pub once : IsDistinct (traits_answered ps)
    pub all : Contains ps pulled.End → (e : ℕ) → Reaches (statements m) d e → Contains (traits_answered ps) e
    pub went_on : WentOn most ps

-- What pulls answer of the supertraits of a trait reference: in order, by the meaning at the end, the trait references
-- of the trait clauses that follow from it by super-predicates, and all of them before the end.
pub record AreSupertraits {Key Id Name : Type 0} (m n : Meaning Key Id Name) (b : Binder Key (TraitRef Key Id))
    (limit : ℕ) (ps : List (Pulled Key Id)) : Type 0 where
  pub name : ℕ
  pub left : Standing
  pub found : FindsClosed name (statements m) (trait_clause_tree m Positive b ∷ []) (bounds_answered n ps) left
  pub room : left.limit ≡ limit
  pub all : Contains ps pulled.End → left.stack ≡ []
  pub went_on : WentOn limit ps

-- The same, or that the limit is met where that is none.
abbrev pub AnswersSupertraits : {Key Id Name : Type 0} → Meaning Key Id Name → Meaning Key Id Name →
    Binder Key (TraitRef Key Id) → ℕ → List (Pulled Key Id) → Type 0
AnswersSupertraits m n b limit ps = AreSupertraits m n b limit ps ⊎ ((limit ≡ 0) × (ps ≡ pulled.Limit ∷ []))

module _ {I Key Id Name : Type 0} (meaning : I → Meaning Key Id Name) where
  -- From one elaboration to another by a pull of which that is told.
  abbrev pub AnswersOne : Elaboration I (ClauseKey Key) Key Name → Pulled Key Id →
      Elaboration I (ClauseKey Key) Key Name → Type 0
  AnswersOne s p t = (r : Option (Result (ClauseKey Key) ElabFault)) × Pulls meaning (λ m c. m.clause c) s r t ×
      (told (λ k. pulled.Clause k) r ≡ Some p)

  -- The same of pulls in order.
  abbrev pub Answers : Elaboration I (ClauseKey Key) Key Name → List (Pulled Key Id) →
      Elaboration I (ClauseKey Key) Key Name → Type 0
  Answers s [] t = t ≡ s
  Answers s (p ∷ ps) t = (u : Elaboration I (ClauseKey Key) Key Name) × AnswersOne s p u × Answers u ps t

  -- The same of an elaboration that took up what it was to; else that the limit is met.
  abbrev pub AnswersBegun : {T : Type 0} → Result T ElabFault → Elaboration I (ClauseKey Key) Key Name →
      List (Pulled Key Id) → Elaboration I (ClauseKey Key) Key Name → Type 0
  AnswersBegun (Ok a) s ps t = Answers s ps t
  AnswersBegun (Err f) s ps t = (f ≡ fault.Limit) × (ps ≡ pulled.Limit ∷ [])

  -- What the pulls of an elaboration of these predicates answer that begins with them, in a manner.
  pub record IsElaborated (first : I) (given : List (ClauseKey Key)) (manner : Manner) (ps : List (Pulled Key Id)) :
      Type 0 where
    pub begun : Elaboration I (ClauseKey Key) Key Name
    pub ended : Elaboration I (ClauseKey Key) Key Name
    pub begins : BeginsWith meaning (λ m c. m.clause c) (meaning first) given (most manner) begun
    pub answers : Answers (record begun { mode = mode_of manner.only_self manner.sized }) ps ended

  -- The same, or that the limit is met where more of them are different.
  abbrev pub Elaborates : I → List (ClauseKey Key) → Manner → List (Pulled Key Id) → Type 0
  Elaborates first given manner ps = IsElaborated first given manner ps ⊎
      (AreTooMany (map (meaning first).clause given) (most manner) × (ps ≡ pulled.Limit ∷ []))

  -- From one elaboration to another by a call that finds the next trait clause, of which that is told.
  abbrev pub FindsOne : Elaboration I (ClauseKey Key) Key Name → Pulled Key Id →
      Elaboration I (ClauseKey Key) Key Name → Type 0
  FindsOne s p t = (r : Option (Result (Binder Key (TraitRef Key Id)) ElabFault)) × FindsNext meaning s r t ×
      (told (λ b. pulled.Bound b) r ≡ Some p)

  -- The same of calls in order that each find one.
  abbrev pub FindsEach : Elaboration I (ClauseKey Key) Key Name → List (Pulled Key Id) →
      Elaboration I (ClauseKey Key) Key Name → Type 0
  FindsEach s ps t = (bs : List (Binder Key (TraitRef Key Id))) × (ps ≡ map (λ b. pulled.Bound b) bs) ×
      FindsAll meaning s bs t

  -- The same of such calls, and of one behind them that finds none.
  pub record FindsToEnd (s : Elaboration I (ClauseKey Key) Key Name) (ps : List (Pulled Key Id))
      (t : Elaboration I (ClauseKey Key) Key Name) : Type 0 where
    pub before : List (Pulled Key Id)
    pub last : Pulled Key Id
    pub between : Elaboration I (ClauseKey Key) Key Name
    pub is : ps ≡ before ++ last ∷ []
    pub ends : is_last true last ≡ true
    pub finds : FindsEach s before between
    pub stops : FindsOne between last t

  abbrev pub FindsUpTo : Elaboration I (ClauseKey Key) Key Name → List (Pulled Key Id) →
      Elaboration I (ClauseKey Key) Key Name → Type 0
  FindsUpTo s ps t = FindsEach s ps t ⊎ FindsToEnd s ps t

  -- From one state of going through traits to another by a call of which that is told.
  abbrev pub ReachesOne : Reaching I → Pulled Key Id → Reaching I → Type 0
  ReachesOne s p t = (r : Option (Result (TraitId Id) OutOfMemory)) × Goes meaning s r t × (told_trait r ≡ Some p)
