-- What relating does at once of two types: of such as are left to one goal, two type variables of which nothing is recorded
-- and an alias with another type, it registers that goal; of an error with another type it records that one was met; of two
-- over one item it asks whether they are well formed.
use Rattle.std.specs.Prelude.{◌≡◌, ◌≢◌, ◌⊎◌, ℕ, [], ◌∷◌, ◌++◌, Contains, Result, Ok, Err, IfOk}
use Rattle.term_enums.specs.declared.Variance.{Variance}
use Rattle.relation_terms.specs.Heads.{type_sort}
use Rattle.relation_terms.specs.Trees.{Tree}
use Rattle.relation_folds.specs.declared.error.RelateFault.{RelateFault}
use Rattle.relation_folds.specs.declared.error.RelateFault.TheVariants.{Memory}
use Rattle.relation_semantics.specs.declared.relate.Step.{Step}
use Rattle.relation_semantics.specs.declared.relate.Step.TheVariants.{Done, Parts}
use Rattle.relation_semantics.specs.AskedAlone.{AsksAlone, IsNoTyVar}
use Rattle.relation_semantics.specs.Errors.{IsReadAs}
use Rattle.relation_semantics.specs.Goals.{goal_of}
use Rattle.relation_semantics.specs.Lawful.{State, Manners}
use Rattle.relation_semantics.specs.Relation.{sort_of, IsError}
use Rattle.relation_semantics.specs.Resolving.{IsShallow}
use Rattle.relation_semantics.specs.Settings.{Settings}
use Rattle.relation_semantics.specs.Steps.{Taints}
use Rattle.relation_semantics.specs.Stores.{Store}
use Rattle.relation_steps.specs.Arguments.{AreOverItem}
use Rattle.relation_steps.specs.Bivariance.{HasAskedOpen}

-- By what is recorded a term is read at once as another.
pub record ReadsAtOnce (st : Store) (t x : Tree) : Type 0 where
  pub reads : IsReadAs st t x
  pub shallow : IsShallow st x

-- What is said of two different types, as they are read at once.
abbrev pub OfTypes : Store → Tree → Tree → (Tree → Tree → Type 0) → Type 0
OfTypes st a b P = a ≢ b → sort_of a ≡ type_sort → sort_of b ≡ type_sort → (x y : Tree) → ReadsAtOnce st a x →
    ReadsAtOnce st b y → P x y

-- What is said of two different types of which one goal is asked: of what the left one is read as, and of the predicate.
abbrev pub OfAlone : Settings → Store → Variance → Tree → Tree → (Tree → Tree → Type 0) → Type 0
OfAlone k st v a b P = a ≢ b → sort_of a ≡ type_sort → sort_of b ≡ type_sort → (x y p : Tree) → ReadsAtOnce st a x →
    ReadsAtOnce st b y → AsksAlone k v x y p → P x p

-- What is said of two different types of which one is an error and none a type variable, as they are read at once.
abbrev pub OfError : Store → Tree → Tree → Type 0 → Type 0
OfError st a b P = OfTypes st a b (λ x y. IsNoTyVar x → IsNoTyVar y → IsError x ⊎ IsError y → P)

module _ {Key Id Name : Type 0} where
  -- The predicate is registered, now or from before, and nothing else was, and nothing was recorded. Or a growth was
  -- refused, and nothing was recorded either.
  abbrev pub RegistersAlone : {X : Type 0} → State Key Id Name → State Key Id Name → Tree →
      Result X (RelateFault Key Id Name) → Type 0
  RegistersAlone r q p (Ok x) = (q.store ≡ r.store) × ((q.goals ≡ r.goals ++ goal_of r.kept.environment p ∷ []) ⊎
      (Contains r.goals (goal_of r.kept.environment p) × (q.goals ≡ r.goals)))
  RegistersAlone r q p (Err Memory) = q.store ≡ r.store
  RegistersAlone r q p (Err f) = ⊥

  -- The same by a step at once, with this term as its answer.
  abbrev pub StepRegistersAlone : {K : Type 0} → State Key Id Name → State Key Id Name → (K → Tree) → Tree → Tree →
      Result (Step K) (RelateFault Key Id Name) → Type 0
  StepRegistersAlone r q tree t p (Ok (Done x)) = (tree x ≡ t) × RegistersAlone r q p (Ok x)
  StepRegistersAlone {K} r q tree t p (Err f) = RegistersAlone {X = K} r q p (Err f)
  StepRegistersAlone r q tree t p (Ok x) = ⊥

  -- Where the relation promises it, two different types of which one goal is asked were related by registering that
  -- alone.
  abbrev pub RelatesAlone : {X : Type 0} → Manners → State Key Id Name → State Key Id Name → Variance → Tree →
      Tree → Result X (RelateFault Key Id Name) → Type 0
  RelatesAlone M r q v a b result = (M r.kept.settings).registers_alone →
      OfAlone r.kept.settings r.store v a b (λ t p. RegistersAlone r q p result)

  -- The same of a step.
  abbrev pub StepsAlone : {K : Type 0} → Manners → State Key Id Name → State Key Id Name → (K → Tree) →
      Tree → Tree → Result (Step K) (RelateFault Key Id Name) → Type 0
  StepsAlone M r q tree a b result = (M r.kept.settings).registers_alone →
      OfAlone r.kept.settings r.store r.ambient a b (λ t p. StepRegistersAlone r q tree t p result)

  -- That an error was met was recorded, and nothing else, and no goal was registered.
  abbrev pub RecordsError : State Key Id Name → State Key Id Name → Type 0
  RecordsError r q = Taints r.store q.store × (q.goals ≡ r.goals)

  -- Of a step's result: no pair is left.
  abbrev pub LeavesNoPair : {K : Type 0} → Result (Step K) (RelateFault Key Id Name) → Type 0
  LeavesNoPair (Ok (Done t)) = Unit {0}
  LeavesNoPair (Ok s) = ⊥
  LeavesNoPair (Err f) = Unit {0}

  -- Where the relation promises what it registers at once, and remembers nothing, just that was recorded of two types of
  -- which one is an error, whatever the result; and by a step, which leaves no pair.
  abbrev pub RelatesError : Manners → State Key Id Name → State Key Id Name → Tree → Tree → Type 0
  RelatesError M r q a b =
      (M r.kept.settings).registers_alone → r.remembered ≡ [] → OfError r.store a b (RecordsError r q)

  abbrev pub StepsError : {K : Type 0} → Manners → State Key Id Name → State Key Id Name → Tree → Tree →
      Result (Step K) (RelateFault Key Id Name) → Type 0
  StepsError M r q a b result = (M r.kept.settings).registers_alone → r.remembered ≡ [] →
      OfError r.store a b (RecordsError r q × LeavesNoPair result)

  -- Of two different types, where the relation promises what it registers at once and remembers nothing: as they are read
  -- it was asked that they are well formed, where both are over one item and an argument is left open. A step of two over
  -- one item leaves them to be related by their parts.
  abbrev pub RelatesOpen : {X : Type 0} → Manners → State Key Id Name → State Key Id Name → Tree → Tree →
      Result X (RelateFault Key Id Name) → Type 0
  RelatesOpen M r q a b result = (M r.kept.settings).registers_alone → r.remembered ≡ [] →
      OfTypes r.store a b (λ x y. IfOk result (λ _. HasAskedOpen r q x y))

  abbrev pub LeavesParts : {K : Type 0} → (K → Tree) → Tree → Tree → Result (Step K) (RelateFault Key Id Name) → Type 0
  LeavesParts tree x y (Ok (Parts k l)) = (tree k ≡ x) × (tree l ≡ y)
  LeavesParts tree x y (Ok s) = ⊥
  LeavesParts tree x y (Err f) = Unit {0}

  abbrev pub StepsOpen : {K : Type 0} → Manners → State Key Id Name → State Key Id Name → (K → Tree) → Tree → Tree →
      Result (Step K) (RelateFault Key Id Name) → Type 0
  StepsOpen M r q tree a b result = (M r.kept.settings).registers_alone → r.remembered ≡ [] →
      OfTypes r.store a b (λ x y. (d : ℕ) (ts us : Tree) → AreOverItem d x y ts us → LeavesParts tree x y result)

  -- What relating two types, and a step of two, does at once.
  abbrev pub RelatesAtOnce : {X : Type 0} → Manners → State Key Id Name → State Key Id Name → Variance → Tree → Tree →
      Result X (RelateFault Key Id Name) → Type 0
  RelatesAtOnce M r q v a b result =
      RelatesAlone M r q v a b result × RelatesError M r q a b × RelatesOpen M r q a b result

  abbrev pub StepsAtOnce : {K : Type 0} → Manners → State Key Id Name → State Key Id Name → (K → Tree) → Tree → Tree →
      Result (Step K) (RelateFault Key Id Name) → Type 0
  StepsAtOnce M r q tree a b result =
      StepsAlone M r q tree a b result × StepsError M r q a b result × StepsOpen M r q tree a b result
