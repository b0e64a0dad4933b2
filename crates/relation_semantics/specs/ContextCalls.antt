-- What each call of a lawful context does, over the keys of its terms.
use Rattle.std.specs.Prelude.{◌≡◌, ◌≢◌, ◌⊎◌, ℕ, ◌<◌, IsTrue, max, min, List, [], ◌∷◌, ◌++◌, length, Option, Some, None}
use Rattle.std.specs.Prelude.{Result, Ok, Err}
use Rattle.relation_terms.specs.declared.predicate.regions.OutlivesPredicate.{OutlivesPredicate}
use Rattle.term_enums.specs.declared.Variance.{Variance}
use Rattle.relation_terms.specs.declared.terms.keys.RegionKey.{RegionKey}
use Rattle.relation_terms.specs.declared.terms.keys.TyKey.{TyKey}
use Rattle.relation_terms.specs.declared.terms.numbers.UniverseIndex.{UniverseIndex}
use Rattle.relation_terms.specs.declared.terms.keys.ConstKey.{ConstKey}
use Rattle.term_enums.specs.declared.Variance.TheVariants.{Invariant}
use Rattle.relation_terms.specs.declared.terms.numbers.TyVid.{TyVid}
use Rattle.term_enums.specs.declared.StructurallyRelateAliases.{StructurallyRelateAliases}
use Rattle.relation_terms.specs.declared.terms.numbers.ConstVid.{ConstVid}
use Rattle.relation_terms.specs.Heads.{VarKind, type_var, const_var, variable}
use Rattle.relation_terms.specs.Trees.{Tree, leaf, known, apply}
use Rattle.relation_terms.specs.Meaning.{Meaning, Extends}
use Rattle.relation_folds.specs.declared.error.TypeError.{TypeError}
use Rattle.relation_folds.specs.declared.error.TypeError.TheVariants.{Mismatch, CyclicTy, CyclicConst}
use Rattle.relation_folds.specs.declared.error.RelateFault.{RelateFault}
use Rattle.relation_folds.specs.declared.error.RelateFault.TheVariants.{Memory, Budget, Unrelated}
use Rattle.relation_folds.specs.Faults.{KnowsError}
use Rattle.relation_semantics.specs.Contexts.{Context}
use Rattle.relation_semantics.specs.Bound.{IsWellBound}
use Rattle.relation_semantics.specs.Errors.{IsReadAs}
use Rattle.relation_semantics.specs.Generalising.{Obstacle, cycle, beyond, InstantiatesBy, RefusesByObstacle, MakesUnbound}
use Rattle.relation_semantics.specs.Lawful.{items_of}
use Rattle.relation_semantics.specs.Resolving.{IsRoot}
use Rattle.relation_semantics.specs.Steps.{Equates, InstantiatesNumber, MakesVariable, AddsConstraint, Resolves, LeadsTo}
use Rattle.relation_semantics.specs.Steps.{ChangesNothing}
use Rattle.relation_semantics.specs.Stores.{Store, Constraint, IsMade, unbound, bound_to, entry_of, universe_of, resolved}
use Rattle.relation_semantics.specs.Stores.{equal_constraint, outlives_constraint}

-- In what variables are bound to, binders bind by their lists.
abbrev pub BindingsAreWellBound : Store → Type 0
BindingsAreWellBound st = (k : VarKind) (n : ℕ) (t : Tree) → entry_of st k n ≡ bound_to t → IsWellBound t

-- A term is no variable of a kind.
abbrev pub IsNotVariable : VarKind → Tree → Type 0
IsNotVariable k t = (n : ℕ) → t ≢ leaf (variable k n)

-- The error that an obstacle makes: a variable that stands in what its source comes to names that.
abbrev pub ObstacleError : {Key Id Name K : Type 0} → (K → Tree) → (K → TypeError Key Id Name) → Tree →
    TypeError Key Id Name → Obstacle → Type 0
ObstacleError {K = K} tree cyclic t e cycle = (x : K) × (tree x ≡ t) × (e ≡ cyclic x)
ObstacleError tree cyclic t e beyond = e ≡ Mismatch

-- Two classes of variables became one, with the smaller of both roots; all others' roots stand.
pub record JoinsRoots (before after : ℕ → ℕ) (a b : ℕ) : Type 0 where
  pub joined : (n : ℕ) → (before n ≡ before a) ⊎ (before n ≡ before b) → after n ≡ min (before a) (before b)
  pub others : (n : ℕ) → before n ≢ before a → before n ≢ before b → after n ≡ before n

-- A type and a region that it is to outlive were put behind those that there were; or nothing was.
abbrev pub Registers : {Key A F : Type 0} → List (OutlivesPredicate Key (TyKey Key)) →
    List (OutlivesPredicate Key (TyKey Key)) → TyKey Key → RegionKey Key → Result A F → Type 0
Registers before after t r (Ok x) = after ≡ before ++ record { 0 = t; 1 = r } ∷ []
Registers before after t r (Err f) = after ≡ before

module _ {Key Id Name : Type 0} (c : Context Key Id Name) where
  -- The variable is the context's, and nothing is recorded of it.
  abbrev pub IsUnresolved : VarKind → ℕ → Type 0
  IsUnresolved k n = IsMade c.store k n × (entry_of c.store k n ≡ unbound)

  -- The root of a variable's class: the entries lead to it, and from it to no other.
  pub record IsRootOf (k : VarKind) (n r : ℕ) : Type 0 where
    pub made : IsMade c.store k r
    pub leads : LeadsTo c.store k n r
    pub root : IsRoot c.store k r

  -- What the universe of a variable is answered to be: of an unresolved one its root's, of one with a term none.
  abbrev pub HasUniverse : VarKind → ℕ → Option UniverseIndex → Type 0
  HasUniverse k n (Some u) = (r : ℕ) × IsRootOf k n r × (entry_of c.store k r ≡ unbound) ×
      (u.0 ≡ universe_of c.store k r)
  HasUniverse k n None = (r : ℕ) × IsRootOf k n r × ((t : Tree) × (entry_of c.store k r ≡ bound_to t))

  -- A known term that another is read as by what is recorded, and so one of the same value.
  pub record Reads (t u : Tree) : Type 0 where
    pub sure : IsTrue (known u)
    pub reads : IsReadAs c.store t u
    pub resolves : Resolves c.store t u

-- Between a context before a call and after it.
module _ {Key Id Name : Type 0} (c d : Context Key Id Name) where
  -- How the context was made stands, the types that are to outlive regions do, or what is marked as related does.
  abbrev pub KeepsSetup : Type 0
  KeepsSetup = d.setup ≡ c.setup

  abbrev pub KeepsOutliving : Type 0
  KeepsOutliving = d.outliving ≡ c.outliving

  abbrev pub KeepsMarks : Type 0
  KeepsMarks = (n : ℕ) → d.sub_root n ≡ c.sub_root n

  -- All that there is beside variables and constraints on regions stands.
  pub record KeepsRest : Type 0 where
    pub setup : KeepsSetup
    pub outliving : KeepsOutliving
    pub marks : KeepsMarks

  -- All that but the marks of related variables stands.
  pub record KeepsBeside : Type 0 where
    pub setup : KeepsSetup
    pub outliving : KeepsOutliving

  -- All of it stands, but that each type variable that was made is marked as related to one that there was, or to none
  -- but itself, as one that took the place of an alias.
  pub record MarksNew : Type 0 where
    pub setup : KeepsSetup
    pub outliving : KeepsOutliving
    pub marks : (n : ℕ) → IsMade c.store type_var n → d.sub_root n ≡ c.sub_root n
    pub related : (n : ℕ) → IsMade d.store type_var n → IsMade c.store type_var (d.sub_root n) ⊎ (d.sub_root n ≡ n)

  -- What keys mean stands, how the context was made does, and so do the types that are to outlive regions; and the
  -- invariant holds.
  pub record Stands : Type 0 where
    pub meaning : d.meaning ≡ c.meaning
    pub lawful : d.lawful
    pub setup : KeepsSetup
    pub outliving : KeepsOutliving

  -- The same, but keys may have been added.
  pub record Grows : Type 0 where
    pub extends : Extends c.meaning d.meaning
    pub lawful : d.lawful
    pub setup : KeepsSetup
    pub outliving : KeepsOutliving

  -- What a term comes to at every depth was answered; or a growth was refused.
  abbrev pub ComesTo : {K F : Type 0} → (Meaning Key Id Name → K → Tree) → K → Result K F → Type 0
  ComesTo tree t (Ok x) = IsTrue (known (tree d.meaning x)) ×
      (tree d.meaning x ≡ apply (resolved c.store) (tree c.meaning t))
  ComesTo tree t (Err f) = Unit {0}

  -- A new variable of the current universe was made, and its key answered; or nothing was recorded.
  abbrev pub MakesNext : {K F : Type 0} → VarKind → (Meaning Key Id Name → K → Tree) → Result K F → Type 0
  MakesNext k tree (Ok t) = let n = length ((c.store).entries k) in IsTrue (known (tree d.meaning t)) ×
      (tree d.meaning t ≡ leaf (variable k n)) × MakesVariable c.store d.store k n (c.store).universe
  MakesNext k tree (Err f) = d.store ≡ c.store

  -- A universe was made, above that of each variable and the one that was current, and is the current one; or nothing
  -- was recorded.
  abbrev pub EntersNext : {F : Type 0} → Result UniverseIndex F → Type 0
  EntersNext (Ok u) = ChangesNothing c.store d.store × ((d.store).tainted ≡ (c.store).tainted) ×
      ((d.store).universe ≡ u.0) × ((c.store).universe < u.0) ×
      ((k : VarKind) (n : ℕ) → universe_of c.store k n < u.0)
  EntersNext (Err f) = d.store ≡ c.store

  -- Two variables were made one, the smaller number being the root; one with itself changes nothing.
  pub record EquatesTwo (k : VarKind) (a b : ℕ) : Type 0 where
    pub stands : Stands
    pub same : a ≡ b → d.store ≡ c.store
    pub equates : a ≢ b → Equates c.store d.store k (max a b) (min a b)

  -- A number variable was bound to a type.
  pub record BindsNumber (k : VarKind) (n : ℕ) (t : Tree) : Type 0 where
    pub stands : Stands
    pub binds : InstantiatesNumber c.store d.store k n t

  -- A constraint was recorded; or nothing was.
  abbrev pub Constrains : {A F : Type 0} → Constraint → Result A F → Type 0
  Constrains q (Ok x) = AddsConstraint c.store d.store q
  Constrains q (Err f) = d.store ≡ c.store

  -- The same of two regions: that the first outlives the second, and that they outlive each other.
  abbrev pub ConstrainsOutlives : {A F : Type 0} → RegionKey Key → RegionKey Key → Result A F → Type 0
  ConstrainsOutlives sup sub result =
      Constrains (outlives_constraint ((c.meaning).region sup) ((c.meaning).region sub)) result

  abbrev pub ConstrainsEqual : {A F : Type 0} → RegionKey Key → RegionKey Key → Result A F → Type 0
  ConstrainsEqual a b result = Constrains (equal_constraint ((c.meaning).region a) ((c.meaning).region b)) result

  -- What binding a variable, at a variance, to what a term comes to answers: the term that it was bound to by the
  -- rules, for one of the budget; or nothing was bound, since an obstacle stands in what the term comes to, or nothing
  -- is left of the budget, or a growth was refused. Variables that were made on the way stay unbound.
  abbrev pub Instantiated : {K : Type 0} → StructurallyRelateAliases → Variance → VarKind → ℕ → Tree →
      (Meaning Key Id Name → K → Tree) → (K → TypeError Key Id Name) → Result K (RelateFault Key Id Name) → Type 0
  Instantiated g v k n source tree cyclic (Ok t) = IsTrue (known (tree d.meaning t)) ×
      InstantiatesBy g (items_of c.meaning) c.store d.store v k n source (tree d.meaning t)
  Instantiated g v k n source tree cyclic (Err (Unrelated e)) = KnowsError d.meaning e ×
      ((o : Obstacle) × RefusesByObstacle g c.store d.store k n source o ×
      ObstacleError (tree d.meaning) cyclic (apply (resolved c.store) source) e o)
  Instantiated g v k n source tree cyclic (Err Budget) = ((c.store).budget ≡ 0) × (d.store ≡ c.store)
  Instantiated g v k n source tree cyclic (Err Memory) = ((c.store).budget ≢ 0) ×
      MakesUnbound (universe_of c.store k n) c.store d.store

-- Of a context only what its interner knows was added to.
pub record Knows {Key Id Name : Type 0} (c : Context Key Id Name) (m : Meaning Key Id Name)
    (d : Context Key Id Name) : Type 0 where
  pub meaning : d.meaning ≡ m
  pub store : d.store ≡ c.store
  pub lawful : d.lawful
  pub rest : KeepsRest c d

-- Whatever the interner of a lawful context may come to know by growing, nothing else of the context is added to.
abbrev pub OnlyLearns : {Key Id Name S I : Type 0} → (I → Meaning Key Id Name) → (S → Context Key Id Name) →
    (S → I → S) → S → Type 0
OnlyLearns {I = I} meaning state with_interner ctxt = (cx : I) → Extends (state ctxt).meaning (meaning cx) →
    (state ctxt).lawful → Knows (state ctxt) (meaning cx) (state (with_interner ctxt cx))

-- What binding a type variable to what a type comes to answers, and a constant variable to what a constant does.
abbrev pub BindsTy : {Key Id Name S : Type 0} → StructurallyRelateAliases → (S → Context Key Id Name) → S → S →
    Variance → TyVid → TyKey Key → Result (TyKey Key) (RelateFault Key Id Name) → Type 0
BindsTy g state before after v vid t result = Instantiated (state before) (state after) g v type_var vid.0
    (((state before).meaning).ty t) (λ m. m.ty) CyclicTy result

abbrev pub BindsConst : {Key Id Name S : Type 0} → StructurallyRelateAliases → (S → Context Key Id Name) → S → S →
    ConstVid → ConstKey Key → Result (ConstKey Key) (RelateFault Key Id Name) → Type 0
BindsConst g state before after vid t result = Instantiated (state before) (state after) g Invariant const_var vid.0
    (((state before).meaning).const_ t) (λ m. m.const_) CyclicConst result
