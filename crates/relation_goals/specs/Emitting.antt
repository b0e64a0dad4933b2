-- What contracts see of a relation that registers goals, over a context.
use Rattle.std.specs.Prelude.{◌≡◌, List, [], ◌∷◌, ◌++◌, Some, map, IsTrue, IfSome, IfOk, Result, Ok, Err}
use Rattle.term_enums.specs.declared.Variance.{Variance}
use Rattle.relation_terms.specs.declared.terms.keys.PredicateKey.{PredicateKey}
use Rattle.relation_terms.specs.declared.terms.keys.RegionKey.{RegionKey}
use Rattle.relation_terms.specs.declared.terms.keys.TyKey.{TyKey}
use Rattle.relation_terms.specs.declared.predicate.kinds.PredicateKind.{PredicateKind}
use Rattle.relation_terms.specs.Meaning.{Meaning, Extends}
use Rattle.relation_terms.specs.Predicates.{predicate_kind_tree}
use Rattle.relation_terms.specs.Trees.{Tree, bind, known}
use Rattle.relation_semantics.specs.Contexts.{Context}
use Rattle.relation_semantics.specs.Constraints.{constraint_at, constraint_of}
use Rattle.relation_semantics.specs.AliasGoals.{alias_at}
use Rattle.relation_semantics.specs.AskedAlone.{subtype_at}
use Rattle.relation_semantics.specs.Alphabets.{StaysBuilt}
use Rattle.relation_semantics.specs.Goals.{Goal, goal_of}
use Rattle.relation_semantics.specs.Lawful.{State}
use Rattle.relation_semantics.specs.Settings.{in_coherence}
use Rattle.relation_semantics.specs.Steps.{AddsConstraint, IsLater}
use Rattle.relation_semantics.specs.ContextCalls.{Grows}

-- The goals that there are after others were put behind them, or were not, where a growth was refused.
abbrev pub with_goals : {A F : Type 0} → List Goal → List Goal → Result A F → List Goal
with_goals before goals (Ok x) = before ++ goals
with_goals before goals (Err f) = before

module _ {Key Id Name : Type 0} where
  -- An interner knows a predicate.
  abbrev pub KnowsPredicate : Meaning Key Id Name → PredicateKey Key → Type 0
  KnowsPredicate m p = IsTrue (known (m.predicate p))

  -- The predicate of a form under a binder of no variables.
  abbrev pub dummy_predicate : Meaning Key Id Name → PredicateKind Key Id Name → Tree
  dummy_predicate m k = bind [] (predicate_kind_tree m k)

  -- The goals of predicates in a relation's environment.
  abbrev pub goals_in : State Key Id Name → List (PredicateKey Key) → List Goal
  goals_in r ps = map (λ p. goal_of r.kept.environment ((r.meaning).predicate p)) ps

  -- A relation has recorded what a context has, over its keys, which is lawful while the relation is. It is set up for
  -- the context's solver and in its mode, and keeps the context's types that are to outlive regions.
  pub record IsOver (r : State Key Id Name) (c : Context Key Id Name) : Type 0 where
    pub meaning : r.meaning ≡ c.meaning
    pub store : r.store ≡ c.store
    pub solver : r.kept.settings.next_solver ≡ c.setup.is_next_solver
    pub coherence : r.kept.settings.coherence ≡ in_coherence c.setup.typing_mode
    pub mode : r.kept.mode ≡ c.setup.typing_mode
    pub outliving : r.kept.outliving ≡ c.outliving
    pub lawful : r.lawful → c.lawful

  -- A context took the place of a relation's: what keys mean and what is recorded is that context's, all else is as it
  -- was.
  pub record WithContext (r : State Key Id Name) (c : Context Key Id Name) (q : State Key Id Name) : Type 0 where
    pub meaning : q.meaning ≡ c.meaning
    pub store : q.store ≡ c.store
    pub goals : q.goals ≡ r.goals
    pub kept : q.kept ≡ r.kept
    pub ambient : q.ambient ≡ r.ambient
    pub remembered : q.remembered ≡ r.remembered
    pub lawful : r.lawful → q.lawful

  -- Goals were put behind those that there were, or were not, where a growth was refused. Nothing else was done.
  pub record AddsGoals {A F : Type 0} (r q : State Key Id Name) (added : List Goal) (result : Result A F) : Type 0 where
    pub meaning : q.meaning ≡ r.meaning
    pub store : q.store ≡ r.store
    pub goals : q.goals ≡ with_goals r.goals added result
    pub kept : q.kept ≡ r.kept
    pub ambient : q.ambient ≡ r.ambient
    pub remembered : q.remembered ≡ r.remembered
    pub lawful : r.lawful → q.lawful

  -- A predicate was registered in the relation's environment, behind the goals that there were; or it was not, where a
  -- growth was refused. Nothing was recorded, but keys may have been made.
  pub record RegistersGoal {A F : Type 0} (r q : State Key Id Name) (predicate : Tree) (result : Result A F) : Type 0 where
    pub extends : Extends r.meaning q.meaning
    pub store : q.store ≡ r.store
    pub goals : q.goals ≡ with_goals r.goals (goal_of r.kept.environment predicate ∷ []) result
    pub kept : q.kept ≡ r.kept
    pub ambient : q.ambient ≡ r.ambient
    pub remembered : q.remembered ≡ r.remembered
    pub lawful : r.lawful → q.lawful

  -- So was what is asked of two types, one an alias, at the ambient variance.
  abbrev pub RegistersAlias : {A F : Type 0} → State Key Id Name → State Key Id Name → TyKey Key → TyKey Key →
      Result A F → Type 0
  RegistersAlias r q a b result =
      IfSome (alias_at r.ambient ((r.meaning).ty a) ((r.meaning).ty b)) (λ p. RegistersGoal r q p result)

  -- So was what is asked of two type variables at the ambient variance.
  abbrev pub RegistersSubtype : {A F : Type 0} → State Key Id Name → State Key Id Name → TyKey Key → TyKey Key →
      Result A F → Type 0
  RegistersSubtype r q a b result =
      IfSome (subtype_at r.ambient ((r.meaning).ty a) ((r.meaning).ty b)) (λ p. RegistersGoal r q p result)

-- Between what a context is before a call and after it.
module _ {Key Id Name : Type 0} (c d : Context Key Id Name) where
  -- What two regions that are related at a variance are asked for was recorded.
  abbrev pub AddsAsked : Variance → RegionKey Key → RegionKey Key → Type 0
  AddsAsked v a b = IfSome (constraint_at v a b) (λ q. AddsConstraint c.store d.store (constraint_of c.meaning q))

  -- What is bound after is built as two regions are and what was bound before.
  abbrev pub RegionsStayBuilt : RegionKey Key → RegionKey Key → Type 0
  RegionsStayBuilt a b = StaysBuilt c.store d.store [] ((c.meaning).region a) ((c.meaning).region b)

  -- What is asked of two type variables at a variance was made, or was not.
  abbrev pub MakesSubtypeAt : {E : Type 0} → Variance → TyKey Key → TyKey Key → Result (PredicateKey Key) E → Type 0
  MakesSubtypeAt v a b result = IfOk result (λ p.
      subtype_at v ((c.meaning).ty a) ((c.meaning).ty b) ≡ Some ((d.meaning).predicate p))

  -- So it was of two types, one an alias.
  abbrev pub MakesAliasAt : {E : Type 0} → Variance → TyKey Key → TyKey Key → Result (PredicateKey Key) E → Type 0
  MakesAliasAt v a b result = IfOk result (λ p.
      alias_at v ((c.meaning).ty a) ((c.meaning).ty b) ≡ Some ((d.meaning).predicate p))

-- Whatever later context takes the place of a lawful relation's, nothing else of the relation changes.
abbrev pub FollowsContext : {Key Id Name S I : Type 0} → (I → Context Key Id Name) → (S → State Key Id Name) →
    (S → I) → (S → I → S) → S → Type 0
FollowsContext {I = I} context_state state context with_context r = (c : I) →
    Grows (context_state (context r)) (context_state c) →
    IsLater (context_state (context r)).store (context_state c).store → (state r).lawful →
    WithContext (state r) (context_state c) (state (with_context r c))
