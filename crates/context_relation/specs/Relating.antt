-- What relating two values in a context asks and promises, by what is related of them: of a value that is `over` no form
-- its tree, of another that form over its tree.
--
-- Below `..` stands for `state old new over tree`: what a context is before a call and after it, and what of two
-- values is related.
--
--   term_in c over tree x                    what is related of x in the context c
--   KnowsTerm c over tree x                  it is known
--   Idle state old new result                no goal is answered, and nothing is recorded
--   AnswersOnly state old new g e v result   only goals that relating registers are answered
--   AnswersTerms .. e v a b result           sound: what satisfies the record after and makes the goals true relates a
--                                            and b at v in e
--   KeepsEqual .. a b result                 no equal pair is lost, unless a type error says that there is none
--   TellsApart .. a b result                 a type error says that no assignment made the two one
--   AnswersError .. g v a b result           and which error it is, aliases being related as g says
--   RelatesAgreeing .. g v a b result        where the two are related nothing in what they came to before clashes
--   AnswersExactly .. v a b result           exact at invariance, of first-order terms and records
--   ProvesApart .. v a b result              and then a type error says that nothing unified the two
--   SpendsNoMore .. v a b result             and how much of the budget that takes in one universe
--   MakesToRelate .. a b                     which variables and universes are made
--   BuildsNoMore .. a b result               of what all is built that is bound and registered
--   AnswersAsked .. g e v a b result         two types of which one goal is asked are related by just that goal
--   TaintsForError .. a b result             of an error with another type that is recorded, and nothing else
--   AsksIfOpen .. e v a b result             two types over one item are asked about where an argument is left open
use Rattle.std.specs.Prelude.{◌≡◌, ◌≢◌, ◌⊎◌, ◌+◌, ◌<◌, ◌≤◌, ℕ, List, [], ◌∷◌, Contains, Option, IsTrue, IfOk, Result, Ok, Err}
use Rattle.std.specs.Global.{Vec}
use Rattle.term_enums.specs.declared.Variance.{Variance}
use Rattle.term_enums.specs.declared.Variance.TheVariants.{Invariant}
use Rattle.relation_terms.specs.declared.terms.goal.Goal.{Goal}
use Rattle.relation_terms.specs.declared.terms.keys.PredicateKey.{PredicateKey}
use Rattle.relation_terms.specs.declared.terms.keys.ParamEnvKey.{ParamEnvKey}
use Rattle.relation_terms.specs.Heads.{Head}
use Rattle.relation_terms.specs.Trees.{Tree, known}
use Rattle.relation_terms.specs.Meaning.{Meaning}
use Rattle.relation_folds.specs.declared.error.RelateFault.{RelateFault}
use Rattle.relation_folds.specs.declared.error.RelateFault.TheVariants.{Memory, Unrelated}
use Rattle.relation_folds.specs.Faults.{IfUnrelated, IfSpent}
use Rattle.relation_semantics.specs.Goals.{Goal as GoalOf, goals_of, goal_of, well_formed_predicate}
use Rattle.relation_semantics.specs.Steps.{MakesToInstantiate, Taints}
use Rattle.relation_semantics.specs.Alphabets.{StaysBuilt}
use Rattle.relation_semantics.specs.FirstOrder.{IsFirstOrderStore}
use Rattle.relation_semantics.specs.Outcomes.{NoEqualTerms, Exact, NoUnifier, KeepsUnified}
use Rattle.relation_semantics.specs.Headline.{AnswersGoals, KeepsEqualTerms, IsFirstOrderPair}
use Rattle.relation_semantics.specs.OneUniverse.{IsPairOf, KeepsUniverseOf, all_unbound}
use Rattle.relation_semantics.specs.Relation.{at}
use Rattle.relation_semantics.specs.Errors.{ErrorOf}
use Rattle.relation_semantics.specs.Agreeing.{AgreeIn}
use Rattle.relation_semantics.specs.Lawful.{items_of}
use Rattle.relation_steps.specs.Arguments.{related_tree}
use Rattle.relation_semantics.specs.Contexts.{Context, DoesNothing, RegistersGoals}
use Rattle.term_enums.specs.declared.StructurallyRelateAliases.{StructurallyRelateAliases}
use Rattle.relation_combining.specs.Solving.{solver_settings}
use Rattle.relation_steps.specs.Alone.{OfTypes, OfAlone, OfError}
use Rattle.relation_steps.specs.Arguments.{AreOverItem}
use Rattle.relation_steps.specs.Bivariance.{HasOpenArgument}

-- What is related of a value in a context.
abbrev pub term_in : {Key Id Name A : Type 0} → Context Key Id Name → Option Head → (Meaning Key Id Name → A → Tree) →
    A → Tree
term_in c over tree x = related_tree over (tree c.meaning x)

-- In a context.
module _ {Key Id Name A : Type 0} (c : Context Key Id Name) (over : Option Head) (tree : Meaning Key Id Name → A → Tree)
  where
    -- The interner knows the value.
    abbrev pub KnowsTerm : A → Type 0
    KnowsTerm x = IsTrue (known (term_in c over tree x))

-- Between what a context is before the call and after it, which `state` shows.
module _ {S Key Id Name : Type 0} (state : S → Context Key Id Name) (old new : S) where
  -- No goal is answered, and nothing is recorded.
  abbrev pub Idle : Result (Vec (Goal Key (PredicateKey Key))) (RelateFault Key Id Name) → Type 0
  Idle result = DoesNothing (state old) (state new) result

  -- The goals that are answered are known, and only such as relating registers, as it is set up.
  abbrev pub AnswersOnly : StructurallyRelateAliases → ParamEnvKey Key → Variance →
      Result (Vec (Goal Key (PredicateKey Key))) (RelateFault Key Id Name) → Type 0
  AnswersOnly g e v result =
      RegistersGoals (state old) (state new) (solver_settings g (state old).setup) e v result

-- The same of two values.
module _ {S Key Id Name A : Type 0} (state : S → Context Key Id Name) (old new : S) (over : Option Head)
    (tree : Meaning Key Id Name → A → Tree) where
  -- What is related of a value, as the context stood before.
  abbrev term : A → Tree
  term x = term_in (state old) over tree x

  -- Sound: what satisfies the record after and makes the goals true relates the two, and satisfied the record before.
  abbrev pub AnswersTerms : ParamEnvKey Key → Variance → A → A →
      Result (Vec (Goal Key (PredicateKey Key))) (RelateFault Key Id Name) → Type 0
  AnswersTerms e v a b result = IfOk result (λ goals. AnswersGoals (items_of (state old).meaning) (state old).store
      (state new).store (goals_of (state new).meaning goals.items) (((state old).meaning).param_env e) v (term a) (term b))

  -- No equal pair is lost, where the two are related, and where relating them stopped for want of memory or of
  -- instantiations.
  abbrev pub KeepsEqual : A → A → Result (Vec (Goal Key (PredicateKey Key))) (RelateFault Key Id Name) → Type 0
  KeepsEqual a b (Ok goals) = KeepsEqualTerms (state old).store (state new).store
      (goals_of (state new).meaning goals.items) (term a) (term b)
  KeepsEqual a b (Err (Unrelated e)) = Unit {0}
  KeepsEqual a b (Err f) = KeepsEqualTerms (state old).store (state new).store [] (term a) (term b)

  -- No assignment made the two one, where they are not related.
  abbrev pub TellsApart : {X : Type 0} → A → A → Result X (RelateFault Key Id Name) → Type 0
  TellsApart a b result = IfUnrelated result (λ e. NoEqualTerms (state old).store (term a) (term b))

  -- No variable of a number was made; and where no binder stands in either value or in what a variable was bound to, no
  -- universe was, nor any variable if nothing could be instantiated.
  abbrev pub MakesToRelate : A → A → Type 0
  MakesToRelate a b = MakesToInstantiate (state old).store (state new).store (term a) (term b)

  -- The goals that were answered, as the context knows them then.
  abbrev pub answered_goals : Result (Vec (Goal Key (PredicateKey Key))) (RelateFault Key Id Name) → List GoalOf
  answered_goals (Ok goals) = goals_of (state new).meaning goals.items
  answered_goals (Err f) = []

  -- Of whatever forms, atoms and binders the two and all that was bound are built, so is all that is bound then, and what
  -- each goal speaks of; and without binders no universe was made.
  abbrev pub BuildsNoMore : A → A → Result (Vec (Goal Key (PredicateKey Key))) (RelateFault Key Id Name) → Type 0
  BuildsNoMore a b result =
      StaysBuilt (state old).store (state new).store (answered_goals result) (term a) (term b)

  -- Which error comes, where they are not related.
  abbrev pub AnswersError : {X : Type 0} → StructurallyRelateAliases → Variance → A → A →
      Result X (RelateFault Key Id Name) → Type 0
  AnswersError g v a b result = IfUnrelated result (λ e. ErrorOf (state new).meaning
      (solver_settings g (state new).setup) (items_of (state new).meaning) (state new).store v e (term a) (term b))

  -- What clashes is refused: the two agree, by what they came to before, where they are related.
  abbrev pub RelatesAgreeing : {X : Type 0} → StructurallyRelateAliases → Variance → A → A →
      Result X (RelateFault Key Id Name) → Type 0
  RelatesAgreeing g v a b result = IfOk result (λ goals. AgreeIn (solver_settings g (state old).setup)
      (items_of (state old).meaning) (state old).store (at v) (term a) (term b))

  -- Exact, of first-order terms in a first-order record at invariance: just the solutions that unify them stay, up to
  -- erasure, the record stays first-order, and in one universe what was in one, with no more variables; and no goal is
  -- answered. Where it stopped for want of memory or of instantiations, none of these solutions is lost.
  abbrev pub AnswersExactly : Variance → A → A → Result (Vec (Goal Key (PredicateKey Key))) (RelateFault Key Id Name) →
      Type 0
  AnswersExactly v a b (Ok goals) = v ≡ Invariant → IsFirstOrderPair (state old).store (term a) (term b) →
      Exact (state old).store (state new).store (term a) (term b) × IsFirstOrderStore (state new).store ×
      KeepsUniverseOf (state old).store (state new).store (term a) (term b) × (goals.items ≡ [])
  AnswersExactly v a b (Err (Unrelated e)) = Unit {0}
  AnswersExactly v a b (Err f) = v ≡ Invariant → IsFirstOrderPair (state old).store (term a) (term b) →
      KeepsUnified (state old).store (state new).store (term a) (term b)

  -- A type error of such terms says that nothing unified them, up to erasure.
  abbrev pub ProvesApart : {X : Type 0} → Variance → A → A → Result X (RelateFault Key Id Name) → Type 0
  ProvesApart v a b result = IfUnrelated result (λ e. v ≡ Invariant →
      IsFirstOrderPair (state old).store (term a) (term b) → NoUnifier (state old).store (term a) (term b))

  -- Of first-order terms in a first-order record, in one universe, at invariance: at most as many instantiations are
  -- made as there were unresolved type and constant variables, and only where fewer could be made nothing is left of
  -- them.
  abbrev pub SpendsNoMore : {X : Type 0} → Variance → A → A → Result X (RelateFault Key Id Name) → Type 0
  SpendsNoMore v a b result = v ≡ Invariant → IsFirstOrderPair (state old).store (term a) (term b) →
      (u : ℕ) → IsPairOf u (state old).store (term a) (term b) →
      (((state old).store).budget ≤ ((state new).store).budget + all_unbound (state old).store) ×
      IfSpent result (((state old).store).budget < all_unbound (state old).store)

  -- One goal is answered, of this predicate in the environment, and nothing is recorded; or a growth was refused, and
  -- nothing is recorded either.
  abbrev pub AnswersAlone : ParamEnvKey Key → Tree →
      Result (Vec (Goal Key (PredicateKey Key))) (RelateFault Key Id Name) → Type 0
  AnswersAlone e p (Ok goals) = ((state new).store ≡ (state old).store) ×
      (goals_of (state new).meaning goals.items ≡ goal_of (((state old).meaning).param_env e) p ∷ [])
  AnswersAlone e p (Err Memory) = (state new).store ≡ (state old).store
  AnswersAlone e p (Err f) = ⊥

  -- Two different types of which one goal is asked are related by just that: two unresolved type variables at covariance or
  -- contravariance, and an alias with another type where aliases are left to goals.
  abbrev pub AnswersAsked : StructurallyRelateAliases → ParamEnvKey Key → Variance → A → A →
      Result (Vec (Goal Key (PredicateKey Key))) (RelateFault Key Id Name) → Type 0
  AnswersAsked g e v a b result = OfAlone (solver_settings g (state old).setup) (state old).store v (term a) (term b)
      (λ t p. AnswersAlone e p result)

  -- Of two different types of which one is an error and none a type variable, as they are read at once, it is recorded that
  -- an error was met, and nothing else, and no goal is answered. So it is where a growth was refused.
  abbrev pub TaintsForError : A → A → Result (Vec (Goal Key (PredicateKey Key))) (RelateFault Key Id Name) → Type 0
  TaintsForError a b result = OfError (state old).store (term a) (term b)
      (Taints (state old).store (state new).store × IfOk result (λ goals. goals.items ≡ []))

  -- Of two different types that are read as types over one item, related at covariance or contravariance, goals ask whether
  -- each is well formed, where an argument of either that the item declares bivariant is left open by what is recorded then.
  abbrev pub AsksIfOpen : ParamEnvKey Key → Variance → A → A →
      Result (Vec (Goal Key (PredicateKey Key))) (RelateFault Key Id Name) → Type 0
  AsksIfOpen e v a b result = OfTypes (state old).store (term a) (term b) (λ x y. IfOk result (λ goals.
      let c = items_of (state old).meaning in let st = (state new).store in
      let gs = goals_of (state new).meaning goals.items in let env = ((state old).meaning).param_env e in
      v ≢ Invariant → (d : ℕ) (ts us : Tree) → AreOverItem d x y ts us →
      HasOpenArgument c st d ts ⊎ HasOpenArgument c st d us →
      Contains gs (goal_of env (well_formed_predicate x)) × Contains gs (goal_of env (well_formed_predicate y))))
