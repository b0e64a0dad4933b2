-- What contracts see of a relation in steps, and what its steps and the calls over it do.
--
--   State                                 a relation as it stands
--   Kept                                  what no step of it changes
--   items_in r                            the variances that its items declare
--   Manner, Manners                       what a relation takes and promises; the same by how it is set up
--   Takes M v t                           it takes t at v
--   Turned v r q                          from r to q only the ambient variance was changed, to v
--   WithMeaning r m q                     only the interner's keys were added to
--   Passes n r q                          a pair of size n was related, or a part of that work done: what was stands
--   Asked M r v a b                       two known terms of the context that the relation takes at v
--   Related M r q v a b tree result       they were related, and what the result says of them, by its term
--   RelatedBy M r q way a b tree result   so was a pair that is met, by whatever way
--   Answers M r q gs v a b t              t is answered: a and b are related, by the goals gs besides, and no equal
--                                         pair is lost
--   Refuses r q v a b fault               what a fault says of a and b at v
--   ExactResult st st' a b result         what a result says besides, where exactness is promised
--   Stepped M F r q a b tree result       a step was taken: to an answer, to two forms that are F, or to another pair
--   Leads r q gs a b v x y                it led to x and y at v: what relates these relates a and b
--   Shown M r v a b                       what is known of two terms that were related
--   HasRelated M r p                      a pair of types was related
--   RemembersAtMost r q p result          at most that pair is remembered besides what was
--   Noted r q a b result                  something was noted of two terms, which asks nothing of them
--   Covers since r                        what it remembers asks for what stands among these constraints and its goals
--   RecordsJust A r q                     just what A says was recorded and registered
--   RecordsJustAsked, RecordsNoMore       of two bare terms just what they ask for was; of others no more than that
--   StepRecords M r q tree a b result     so it was by a step
use Rattle.std.specs.Prelude.{◌≡◌, ◌⊎◌, ℕ, suc, ◌+◌, ◌≤◌, List, [], ◌++◌, All, Contains, IsTrue, get_or}
use Rattle.std.specs.Prelude.{Option, Some, None, Result, Ok, Err, OnErr}
use Rattle.term_enums.specs.declared.Variance.{Variance}
use Rattle.term_enums.specs.declared.Variance.TheVariants.{Invariant}
use Rattle.relation_terms.specs.declared.predicate.regions.OutlivesPredicate.{OutlivesPredicate}
use Rattle.relation_terms.specs.declared.terms.keys.TyKey.{TyKey}
use Rattle.relation_terms.specs.Heads.{Head, Leaf}
use Rattle.relation_terms.specs.Trees.{Tree, Assign, Leaves, known}
use Rattle.relation_terms.specs.Meaning.{Meaning, Extends}
use Rattle.term_enums.specs.Variances.{xform}
use Rattle.relation_folds.specs.declared.error.TypeError.{TypeError}
use Rattle.relation_folds.specs.declared.error.RelateFault.{RelateFault}
use Rattle.relation_folds.specs.declared.error.RelateFault.TheVariants.{Memory, Budget, Unrelated}
use Rattle.relation_folds.specs.Faults.{KnowsError}
use Rattle.relation_semantics.specs.declared.infer_ctxt.TypingMode.{TypingMode}
use Rattle.relation_semantics.specs.declared.relate.Step.{Step}
use Rattle.relation_semantics.specs.declared.relate.Step.TheVariants.{Done, Parts, Again}
use Rattle.relation_semantics.specs.AskedAlone.{AsksAlone, AsksNoneAlone}
use Rattle.relation_semantics.specs.Relation.{Items, part_at, Way, at, parts, second_opened, first_opened}
use Rattle.relation_semantics.specs.Stores.{Store, Constraint, IsSound, IsTermIn, weight}
use Rattle.relation_semantics.specs.Goals.{Goal, goal_of, Registered, ByDeclared, IsQuiet, Relates}
use Rattle.relation_semantics.specs.Settings.{Settings}
use Rattle.relation_semantics.specs.Steps.{IsLater, InstantiatesNone, StaysFullFor}
use Rattle.relation_semantics.specs.Alphabets.{Alphabet, IsBuiltOf, BindsBuiltOf, IsGoalOf, StaysBuilt, BuiltFrom, NeedsVariable}
use Rattle.relation_semantics.specs.Outcomes.{Outcome, StepsTo, CarriesOver, NeverOne, Exact, ExactStep, NoUnifier}
use Rattle.relation_semantics.specs.Outcomes.{KeepsOne, KeepsUnified}
use Rattle.relation_semantics.specs.Headline.{IsFirstOrderPair}
use Rattle.relation_semantics.specs.OneUniverse.{KeepsUniverseOf, LeadsInUniverse, BindsNoMore, BindsFewer}
use Rattle.relation_semantics.specs.FirstOrder.{IsFirstOrderStore, Unifies, IsErasedSolution}
use Rattle.relation_semantics.specs.Errors.{ErrorOf, ErrorAs, Meeting, as_pair, as_forms, IsDeferred}
use Rattle.relation_semantics.specs.Agreeing.{AgreeIn}
use Rattle.relation_semantics.specs.Asking.{Wanted, a_constraint, a_goal, AsksFor, HaveAlias}
use Rattle.relation_semantics.specs.Recording.{AreBare, IsRecorded, AsksNoMore, LeadsAsking}
use Rattle.relation_semantics.specs.Measures.{Goes, grown}
use Rattle.relation_semantics.specs.Bound.{IsWellBound}

-- The variances of a list, by their places; past its end, invariance.
abbrev pub listed : List Variance → ℕ → Variance
listed vs i = get_or vs i Invariant

-- The same of a list that may not be there.
abbrev pub listed_if_any : Option (List Variance) → Option (ℕ → Variance)
listed_if_any None = None
listed_if_any (Some vs) = Some (listed vs)

-- The variances that two tables declare of items' parameters and of alias types, by the items' numbers.
abbrev pub declared_by : (ℕ → List Variance) → (ℕ → Option (List Variance)) → Items
declared_by table aliases = record { declared = λ d. listed (table d); of_alias = λ d. listed_if_any (aliases d) }

-- The variances that an interner declares of its items' parameters and of alias types.
abbrev pub items_of : {Key Id Name : Type 0} → Meaning Key Id Name → Items
items_of m = declared_by m.variances m.alias_variances

-- What no step of a relation changes: the environment in which its goals are to hold; how it was set up; the typing
-- mode; the reference that it holds, by its name, where it holds one; and the types that are to outlive regions.
pub record Kept (Key : Type 0) : Type 0 where
  pub environment : Tree
  pub settings : Settings
  pub mode : TypingMode Key
  pub reference : ℕ
  pub outliving : List (OutlivesPredicate Key (TyKey Key))

-- A pair that a relation remembers: the variance at which it has related two types, and their keys, the left one first.
abbrev pub Pair : Type 0 → Type 0
Pair Key = Variance × TyKey Key × TyKey Key

-- A relation as it stands: what the keys of its interner mean; what it has recorded; the goals that it has registered;
-- what no step changes; the variance at which it relates; the pairs that it remembers; and its own invariant.
pub record State (Key Id Name : Type 0) : Type 1 where
  pub meaning : Meaning Key Id Name
  pub store : Store
  pub goals : List Goal
  pub kept : Kept Key
  pub ambient : Variance
  pub remembered : List (Pair Key)
  pub lawful : Type 0

-- The declared variances of a relation's items.
abbrev pub items_in : {Key Id Name : Type 0} → State Key Id Name → Items
items_in r = items_of r.meaning

-- What a relation takes and gives, set up as it is: which leaves may stand in terms at a variance; whether it promises
-- to be exact; to record of two terms just what they ask for; to register of two unresolved type variables, at
-- covariance and contravariance, just that the one is a subtype of the other; and that what it relates agrees.
pub record Manner : Type 1 where
  pub takes : Variance → Leaf → Type 0
  pub is_exact : Type 0
  pub records_asked : Type 0
  pub registers_alone : Type 0
  pub relates_agreeing : Type 0

-- The same by how a relation is set up.
abbrev pub Manners : Type 1
Manners = Settings → Manner

-- A term is taken at a variance: its leaves may stand there, and its binders bind by their lists.
abbrev pub Takes : Manner → Variance → Tree → Type 0
Takes M v t = Leaves (M.takes v) t × IsWellBound t

-- What may stand in a form may stand in its parts, at their variances.
abbrev pub TakesParts : Manners → Type 0
TakesParts M = (k : Settings) (c : Items) (h : Head) (i : ℕ) (v : Variance) (l : Leaf) → (M k).takes v l →
    (M k).takes (part_at c h i v) l

-- What is known of two terms that were related at a variance: what is recorded and registered relates them; and where
-- promised, of first-order ones at invariance, each solution up to erasure unifies them.
pub record IsShown (M : Manner) (k : Settings) (c : Items) (st : Store) (goals : List Goal) (e : Tree) (v : Variance)
    (a b : Tree) : Type 0 where
  pub relates : Relates c st goals e v a b
  pub unifies : M.is_exact → v ≡ Invariant → IsFirstOrderPair st a b → (s : Assign) → IsErasedSolution st s → Unifies s a b

-- The variance at which two things are brought together.
abbrev pub seen_at : Way → Variance
seen_at (at v) = v
seen_at (parts h i v) = v
seen_at (second_opened ks ls v) = v
seen_at (first_opened ks ls v) = v

module _ {Key Id Name : Type 0} where
  -- The two of a pair, which are known, agree by what a record has.
  pub record HasAgreed (k : Settings) (m : Meaning Key Id Name) (st : Store) (p : Pair Key) : Type 0 where
    pub left_known : IsTrue (known (m.ty p.1))
    pub right_known : IsTrue (known (m.ty p.2))
    pub agree : AgreeIn k (items_of m) st (at p.0) (m.ty p.1) (m.ty p.2)

  -- Where these pairs are remembered, relating may have begun with a sound record: what is recorded now came of it, and
  -- each of the pairs agrees by it.
  pub record MayBegin (k : Settings) (m : Meaning Key Id Name) (now : Store) (ps : List (Pair Key)) (st : Store) :
      Type 0 where
    pub sound : IsSound st
    pub later : IsLater st now
    pub agree : (p : Pair Key) → Contains ps p → HasAgreed k m st p

  -- The same of a relation as it stands.
  abbrev pub BeganWith : State Key Id Name → Store → Type 0
  BeganWith r st = MayBegin r.kept.settings r.meaning r.store r.remembered st

  -- Two agree by a record, as a relation is set up.
  abbrev pub AgreesIn : State Key Id Name → Store → Way → Tree → Tree → Type 0
  AgreesIn r st way a b = AgreeIn r.kept.settings (items_in r) st way a b

  -- Only the variance at which a relation relates was changed.
  pub record Turned (v : Variance) (r q : State Key Id Name) : Type 0 where
    pub meaning : q.meaning ≡ r.meaning
    pub store : q.store ≡ r.store
    pub goals : q.goals ≡ r.goals
    pub kept : q.kept ≡ r.kept
    pub ambient : q.ambient ≡ v
    pub remembered : q.remembered ≡ r.remembered
    pub lawful : r.lawful → q.lawful

  -- Only the interner's keys were added to.
  pub record WithMeaning (r : State Key Id Name) (m : Meaning Key Id Name) (q : State Key Id Name) : Type 0 where
    pub meaning : q.meaning ≡ m
    pub store : q.store ≡ r.store
    pub goals : q.goals ≡ r.goals
    pub kept : q.kept ≡ r.kept
    pub ambient : q.ambient ≡ r.ambient
    pub remembered : q.remembered ≡ r.remembered
    pub lawful : r.lawful → q.lawful

  -- A goal that a relation registers, between where it stands and a later store.
  abbrev pub RegisteredIn : State Key Id Name → Store → Goal → Type 0
  RegisteredIn r now = Registered (items_in r) r.kept.settings r.ambient r.kept.environment r.store now

  -- Where it stands, a relation relates items' arguments at the variances that the items declare.
  abbrev pub RelatesByDeclared : State Key Id Name → Type 0
  RelatesByDeclared r = ByDeclared r.kept.settings.declared_at_invariance r.ambient

  -- A pair of size `n` was related, or a part of that work done: keys mean what they meant, what was recorded and
  -- registered stands, goals are registered in the environment, what no step changes and the variance are as before.
  pub record Passes (n : ℕ) (r q : State Key Id Name) : Type 0 where
    pub extends : Extends r.meaning q.meaning
    pub goes : Goes n r.store q.store
    pub added : List Goal
    pub lengthens : q.goals ≡ r.goals ++ added
    pub goals_in : All (RegisteredIn r q.store) added
    pub kept : q.kept ≡ r.kept
    pub ambient : q.ambient ≡ r.ambient
    pub lawful : r.lawful → q.lawful

  -- Two known terms of the relation's context that it takes at a variance.
  pub record Asked (M : Manners) (r : State Key Id Name) (v : Variance) (a b : Tree) : Type 0 where
    pub left_known : IsTrue (known a)
    pub right_known : IsTrue (known b)
    pub left_in : IsTermIn r.store a
    pub right_in : IsTermIn r.store b
    pub left_taken : Takes (M r.kept.settings) v a
    pub right_taken : Takes (M r.kept.settings) v b

  -- What may be answered for the left term of a pair at a variance: one that it is related with there, under each
  -- assignment that satisfies what is recorded and makes all registered goals true.
  pub record MayAnswer (M : Manners) (q : State Key Id Name) (v : Variance) (t u : Tree) : Type 0 where
    pub related : Relates (items_in q) q.store q.goals q.kept.environment v t u

  -- The same of two things that are brought together. Only of terms the answer is looked at.
  abbrev pub MayAnswerBy : Manners → State Key Id Name → Way → Tree → Tree → Type 0
  MayAnswerBy M q (at v) t u = MayAnswer M q v t u
  MayAnswerBy M q way t u = Unit {0}

  -- What a fault says of two terms at a variance: a type error that no assignment makes them one, and which error it
  -- is, over known terms; a spent budget that nothing is left of it, and that a variable but of a region stands in one
  -- of them; and that and want of memory that no equal pair is lost.
  abbrev pub RefusesAs : Meeting → State Key Id Name → State Key Id Name → Way → Tree → Tree → RelateFault Key Id Name →
      Type 0
  RefusesAs x r q way a b (Unrelated e) = NeverOne way r.store a b ×
      ErrorAs q.meaning x q.kept.settings (items_in q) q.store (seen_at way) e a b × KnowsError q.meaning e
  RefusesAs x r q way a b Budget = ((q.store).budget ≡ 0) × NeedsVariable r.store a b × KeepsOne way r.store q.store a b
  RefusesAs x r q way a b Memory = KeepsOne way r.store q.store a b

  -- The same of a pair that is met, and of two terms at a variance.
  abbrev pub RefusesBy : State Key Id Name → State Key Id Name → Way → Tree → Tree → RelateFault Key Id Name → Type 0
  RefusesBy r q way a b fault = RefusesAs as_pair r q way a b fault

  abbrev pub Refuses : State Key Id Name → State Key Id Name → Variance → Tree → Tree → RelateFault Key Id Name → Type 0
  Refuses r q v = RefusesBy r q (at v)

  -- What an answer says of two things: they are related, no equal pair is lost, and a known term is answered; and where
  -- that is promised, they agree by whatever record relating may have begun with, which it still may.
  pub record AnswersBy (M : Manners) (r q : State Key Id Name) (added : List Goal) (way : Way)
      (a b t : Tree) : Type 0 where
    pub outcome : Outcome (items_in r) r.kept.environment way r.store q.store r.goals added a b
    pub answer : MayAnswerBy M q way a t
    pub known : IsTrue (known t)
    pub agrees : (M r.kept.settings).relates_agreeing → (st : Store) → BeganWith r st →
        AgreesIn r st way a b × BeganWith q st

  -- The same of two terms at a variance.
  abbrev pub Answers : Manners → State Key Id Name → State Key Id Name → List Goal → Variance → Tree → Tree → Tree →
      Type 0
  Answers M r q added v = AnswersBy M r q added (at v)

  -- What a result says of two things, as they are brought together; of a pair that is met; of two terms at a variance.
  abbrev pub VerdictAs : {X : Type 0} → Meeting → Manners → State Key Id Name → State Key Id Name → List Goal → Way →
      Tree → Tree → (X → Tree) → Result X (RelateFault Key Id Name) → Type 0
  VerdictAs y M r q added way a b tree (Ok x) = AnswersBy M r q added way a b (tree x)
  VerdictAs y M r q added way a b tree (Err f) = RefusesAs y r q way a b f

  -- What a result says besides where the relation promises to be exact, of first-order terms and records at
  -- invariance: the record stays first-order, and up to erasure just the solutions that unify the terms stay; a type
  -- error says that there was none, and another fault loses none. What stood in one universe does so still, and however
  -- it ends no more variables are bound than there were, and one is unresolved where nothing was left of the budget.
  abbrev pub ExactResult : {X : Type 0} → Store → Store → Tree → Tree → Result X (RelateFault Key Id Name) → Type 0
  ExactResult before after a b (Ok x) = IsFirstOrderStore after × Exact before after a b × KeepsUniverseOf before after a b
  ExactResult before after a b (Err (Unrelated e)) = NoUnifier before a b × BindsNoMore before after a b
  ExactResult before after a b (Err Budget) = BindsFewer before after a b × KeepsUnified before after a b
  ExactResult before after a b (Err Memory) = BindsNoMore before after a b × KeepsUnified before after a b

  abbrev pub ExactlyRelated : {X : Type 0} → Manner → Store → Store → Variance → Tree → Tree →
      Result X (RelateFault Key Id Name) → Type 0
  ExactlyRelated M before after v a b result = M.is_exact → v ≡ Invariant → IsFirstOrderPair before a b →
      ExactResult before after a b result

  -- The same of two terms that are brought together as such, and not as parts or opened bodies.
  abbrev pub ExactlyBy : {X : Type 0} → Manner → Store → Store → Way → Tree → Tree →
      Result X (RelateFault Key Id Name) → Type 0
  ExactlyBy M before after (at v) a b result = ExactlyRelated M before after v a b result
  ExactlyBy M before after way a b result = Unit {0}

  -- A pair is known, and what it asks for, if it is bare, stands among these constraints and the goals; so do all that
  -- are remembered.
  abbrev pub IsCovered : List Constraint → State Key Id Name → Pair Key → Type 0
  IsCovered since r p = IsTrue (known ((r.meaning).ty p.1)) × IsTrue (known ((r.meaning).ty p.2)) ×
      (AreBare r.kept.settings ((r.meaning).ty p.1) ((r.meaning).ty p.2) → (z : Wanted) → AsksFor (items_in r) z p.0
      ((r.meaning).ty p.1) ((r.meaning).ty p.2) → IsRecorded r.kept.environment since r.goals z)

  abbrev pub Covers : List Constraint → State Key Id Name → Type 0
  Covers since r = (p : Pair Key) → Contains r.remembered p → IsCovered since r p

  -- From one state to another just what is asked for was recorded and registered. What was added is asked for. What is
  -- asked for stands among what was added, or among the constraints since a moment from which on all stands there that
  -- the remembered pairs ask for; and these are covered from then on too.
  pub record RecordsJust (Asks : Wanted → Type 0) (r q : State Key Id Name) : Type 0 where
    pub constraints : List Constraint
    pub goals : List Goal
    pub recorded : (q.store).constraints ≡ (r.store).constraints ++ constraints
    pub registered : q.goals ≡ r.goals ++ goals
    pub constraints_asked : All (λ k. Asks (a_constraint k)) constraints
    pub goals_asked : All (λ g. Asks (a_goal g.predicate)) goals
    pub covers : (since : List Constraint) → Covers since r → Covers (since ++ constraints) q
    pub all : (since : List Constraint) → Covers since r → (z : Wanted) → Asks z →
        IsRecorded q.kept.environment (since ++ constraints) q.goals z

  -- Two bare terms were related, and just what they ask for was recorded.
  abbrev pub RecordsJustAsked : Manners → State Key Id Name → State Key Id Name → Variance → Tree → Tree → Type 0
  RecordsJustAsked M r q v a b = (M r.kept.settings).records_asked → AreBare r.kept.settings a b →
      RecordsJust (λ z. AsksFor (items_in r) z v a b) r q

  -- No constraint was recorded of two terms that are gone into but what they ask for, by what they come to then.
  abbrev pub RecordsNoMore : Manners → State Key Id Name → State Key Id Name → Variance → Tree → Tree → Type 0
  RecordsNoMore M r q v a b = (M r.kept.settings).records_asked →
      AsksNoMore r.kept.settings (items_in r) r.store q.store v a b

  -- The same by how they are brought together: of two forms, if none is an alias. It is said of terms alone.
  abbrev pub RecordsAs : Meeting → Manners → State Key Id Name → State Key Id Name → Way → Tree → Tree → Type 0
  RecordsAs as_pair M r q (at v) a b = RecordsJustAsked M r q v a b × RecordsNoMore M r q v a b
  RecordsAs as_forms M r q (at v) a b = (HaveAlias a b → ⊥) → RecordsJustAsked M r q v a b × RecordsNoMore M r q v a b
  RecordsAs y M r q way a b = Unit {0}

  -- And by what came of it.
  abbrev pub RecordsOf : {X : Type 0} → Meeting → Manners → State Key Id Name → State Key Id Name → Way → Tree → Tree →
      Result X (RelateFault Key Id Name) → Type 0
  RecordsOf y M r q way a b (Ok x) = RecordsAs y M r q way a b
  RecordsOf y M r q way a b (Err f) = Unit {0}

  -- Two things were related. Where no variable could be made of terms without binders, and they are such, none was.
  -- What was bound and registered is built of what they and the bindings before were built of; what was recorded is just
  -- what is asked for, where that is promised.
  pub record RelatedAs {X : Type 0} (y : Meeting) (M : Manners) (r q : State Key Id Name) (way : Way) (a b : Tree)
      (tree : X → Tree) (result : Result X (RelateFault Key Id Name)) : Type 0 where
    pub passes : Passes (weight r.store a + weight r.store b) r q
    pub verdict : VerdictAs y M r q passes.added way a b tree result
    pub exact : ExactlyBy (M r.kept.settings) r.store q.store way a b result
    pub full : StaysFullFor r.store q.store a b
    pub built : StaysBuilt r.store q.store passes.added a b
    pub records : RecordsOf y M r q way a b result

  -- A pair that is met was related, by whatever way; two terms were at a variance; and two were as forms.
  abbrev pub RelatedBy : {X : Type 0} → Manners → State Key Id Name → State Key Id Name → Way → Tree → Tree →
      (X → Tree) → Result X (RelateFault Key Id Name) → Type 0
  RelatedBy M r q way a b tree result = RelatedAs as_pair M r q way a b tree result

  abbrev pub Related : {X : Type 0} → Manners → State Key Id Name → State Key Id Name → Variance → Tree →
      Tree → (X → Tree) → Result X (RelateFault Key Id Name) → Type 0
  Related M r q v = RelatedBy M r q (at v)

  abbrev pub RelatedForms : {X : Type 0} → Manners → State Key Id Name → State Key Id Name → Variance → Tree →
      Tree → (X → Tree) → Result X (RelateFault Key Id Name) → Type 0
  RelatedForms M r q v = RelatedAs as_forms M r q (at v)

  -- A step led from one pair to another, at a variance: what relates the second relates the first, no equal pair is
  -- lost, an error of the second at its variance is one of the first at the ambient one, and if the second agrees by a
  -- record that relating may have begun with, as it still may, so does the first.
  pub record LeadsBy (r q : State Key Id Name) (added : List Goal) (way : Way) (a b : Tree) (way' : Way)
      (x y : Tree) : Type 0 where
    pub steps : StepsTo (items_in r) r.kept.environment r.store q.store r.goals added way a b way' x y
    pub errors : (m : Meaning Key Id Name) (k : Settings) (c : Items) (st : Store) (e : TypeError Key Id Name) →
        IsLater q.store st → IsSound st → ErrorOf m k c st (seen_at way') e x y → ErrorOf m k c st (seen_at way) e a b
    pub agrees : (st : Store) → BeganWith r st → (AgreesIn r st way' x y → AgreesIn r st way a b) × BeganWith q st

  -- The same of terms: of the first two at the ambient variance.
  abbrev pub Leads : State Key Id Name → State Key Id Name → List Goal → Tree → Tree → Variance → Tree → Tree → Type 0
  Leads r q added a b v x y = LeadsBy r q added (at r.ambient) a b (at v) x y

  -- A step to two forms that are to be related by their parts and aren't left to a goal, which costs nothing of the
  -- budget. Whatever the left form is related with, the left term is. The forms are built of what the terms and the
  -- bindings are built of.
  pub record LeadsToParts (M : Manners) (IsForm : Tree → Type 0) (r q : State Key Id Name)
      (added : List Goal) (a b x y : Tree) : Type 0 where
    pub leads : Leads r q added a b r.ambient x y
    pub asked : Asked M q r.ambient x y
    pub left_form : IsForm x
    pub right_form : IsForm y
    pub not_left : IsDeferred q.kept.settings x y → ⊥
    pub answers : (t : Tree) → CarriesOver (items_in q) q.kept.environment q.store q.goals (at r.ambient) x t
        (at r.ambient) a t
    pub built : BuiltFrom r.store a b x y
    pub same_budget : (q.store).budget ≡ (r.store).budget
    pub not_larger : weight q.store x + weight q.store y ≤ weight r.store a + weight r.store b

  -- A step to another pair that is to be related at a variance, for one of the budget, where something could be
  -- instantiated. What was asked about is read as two terms; where exactness is promised, these lose and gain no
  -- solution either, and no goal is asked of them alone. When the pair is related, the left term is related with the
  -- answer. That pair and what was read are built of what the terms and the bindings were built of.
  pub record LeadsAgain (M : Manners) (r q : State Key Id Name) (added : List Goal)
      (a b read_left read_right : Tree) (v : Variance) (x y answer : Tree) : Type 0 where
    pub leads : Leads r q added a b (xform r.ambient v) x y
    pub read_leads : Leads r q added read_left read_right (xform r.ambient v) x y
    pub read_exactly : (M r.kept.settings).is_exact → r.ambient ≡ Invariant →
        IsFirstOrderPair r.store read_left read_right → IsFirstOrderPair q.store x y ×
        ExactStep r.store q.store read_left read_right x y
    pub asks_none : AsksNoneAlone r.kept.settings r.ambient read_left read_right
    pub read_asked : Asked M q r.ambient read_left read_right
    pub asked : Asked M q (xform r.ambient v) x y
    pub answers : CarriesOver (items_in q) q.kept.environment q.store q.goals (at (xform r.ambient v)) x y
        (at r.ambient) a answer
    pub answer_known : IsTrue (known answer)
    pub falls : (r.store).budget ≡ suc (q.store).budget
    pub may_instantiate : InstantiatesNone r.store → ⊥
    pub built : BuiltFrom r.store a b x y
    pub read_built : BuiltFrom r.store a b read_left read_right
    pub not_larger : weight q.store x + weight q.store y ≤ grown 1 (weight r.store a + weight r.store b)

  -- What a step's result says of two terms.
  abbrev pub StepVerdict : {K : Type 0} → Manners → (Tree → Type 0) → State Key Id Name →
      State Key Id Name → List Goal → Tree → Tree → (K → Tree) → Result (Step K) (RelateFault Key Id Name) → Type 0
  StepVerdict M F r q added a b tree (Ok (Done t)) = Answers M r q added r.ambient a b (tree t)
  StepVerdict M F r q added a b tree (Ok (Parts x y)) = LeadsToParts M F r q added a b (tree x) (tree y)
  StepVerdict M F r q added a b tree (Ok (Again k l x y v u)) =
      LeadsAgain M r q added a b (tree k) (tree l) v (tree x) (tree y) (tree u)
  StepVerdict M F r q added a b tree (Err f) = Refuses r q r.ambient a b f

  -- Of a step's result the same: of the terms, or of the pair that is left.
  abbrev pub ExactVerdict : {K : Type 0} → State Key Id Name → State Key Id Name → Tree → Tree → (K → Tree) →
      Result (Step K) (RelateFault Key Id Name) → Type 0
  ExactVerdict {K} r q a b tree (Ok (Done t)) = ExactResult {X = K} r.store q.store a b (Ok t)
  ExactVerdict r q a b tree (Ok (Parts x y)) = IsFirstOrderPair q.store (tree x) (tree y) ×
      ExactStep r.store q.store a b (tree x) (tree y) × LeadsInUniverse r.store q.store a b (tree x) (tree y)
  ExactVerdict r q a b tree (Ok (Again k l x y v u)) = IsFirstOrderPair q.store (tree x) (tree y) ×
      ExactStep r.store q.store a b (tree x) (tree y) × LeadsInUniverse r.store q.store a b (tree x) (tree y)
  ExactVerdict {K} r q a b tree (Err f) = ExactResult {X = K} r.store q.store a b (Err f)

  -- A step was taken. Where no variable could be made of terms without binders, and they are such, none was. What was
  -- bound and registered is built of what they and the bindings before were built of.
  pub record Stepped {K : Type 0} (M : Manners) (F : Tree → Type 0) (r q : State Key Id Name)
      (a b : Tree) (tree : K → Tree) (result : Result (Step K) (RelateFault Key Id Name)) : Type 0 where
    pub passes : Passes (weight r.store a + weight r.store b) r q
    pub verdict : StepVerdict M F r q passes.added a b tree result
    pub exact : (M r.kept.settings).is_exact → r.ambient ≡ Invariant → IsFirstOrderPair r.store a b →
        ExactVerdict r q a b tree result
    pub full : StaysFullFor r.store q.store a b
    pub built : StaysBuilt r.store q.store passes.added a b

  -- A step records of two bare terms just what they ask for: all of it where it answers, nothing where the two are left
  -- as forms; it leaves no other pair of them. Of others no more, and none where a pair is left that asks for no more.
  abbrev pub StepRecords : {K : Type 0} → Manners → State Key Id Name → State Key Id Name → (K → Tree) → Tree → Tree →
      Result (Step K) (RelateFault Key Id Name) → Type 0
  StepRecords M r q tree a b (Ok (Done t)) = RecordsJustAsked M r q r.ambient a b × RecordsNoMore M r q r.ambient a b
  StepRecords M r q tree a b (Ok (Parts x y)) = ((M r.kept.settings).records_asked → AreBare r.kept.settings a b →
      (tree x ≡ a) × (tree y ≡ b) × RecordsJust (λ z. ⊥) r q) × ((M r.kept.settings).records_asked →
      LeadsAsking r.kept.settings (items_in r) r.store q.store r.ambient a b r.ambient (tree x) (tree y))
  StepRecords M r q tree a b (Ok (Again k l x y v u)) =
      ((M r.kept.settings).records_asked → AreBare r.kept.settings a b → ⊥) × ((M r.kept.settings).records_asked →
      LeadsAsking r.kept.settings (items_in r) r.store q.store r.ambient a b (xform r.ambient v) (tree x) (tree y))
  StepRecords M r q tree a b (Err f) = Unit {0}

  -- What is known of two terms that were related at a variance, where a relation stands.
  abbrev pub Shown : Manners → State Key Id Name → Variance → Tree → Tree → Type 0
  Shown M r v a b = IsShown (M r.kept.settings) r.kept.settings (items_in r) r.store r.goals r.kept.environment v a b

  -- A pair of known types that were related; and where the relation promises it, the goal is registered that is asked of
  -- two types alone.
  pub record WasRelated (M : Manner) (k : Settings) (m : Meaning Key Id Name) (st : Store) (goals : List Goal) (e : Tree)
      (p : Pair Key) : Type 0 where
    pub left_known : IsTrue (known (m.ty p.1))
    pub right_known : IsTrue (known (m.ty p.2))
    pub shown : IsShown M k (items_of m) st goals e p.0 (m.ty p.1) (m.ty p.2)
    pub registered : M.registers_alone → (g : Tree) → AsksAlone k p.0 (m.ty p.1) (m.ty p.2) g → Contains goals (goal_of e g)

  -- Each of a list of pairs was related.
  abbrev pub WereRelated : Manner → Settings → Meaning Key Id Name → Store → List Goal → Tree → List (Pair Key) → Type 0
  WereRelated M k m st goals e ps = (p : Pair Key) → Contains ps p → WasRelated M k m st goals e p

  -- The same of a pair, where a relation stands.
  abbrev pub HasRelated : Manners → State Key Id Name → Pair Key → Type 0
  HasRelated M r p = WasRelated (M r.kept.settings) r.kept.settings r.meaning r.store r.goals r.kept.environment p

  -- What a relation remembers was related.
  abbrev pub RemembersRelated : Manners → State Key Id Name → Type 0
  RemembersRelated M r =
      WereRelated (M r.kept.settings) r.kept.settings r.meaning r.store r.goals r.kept.environment r.remembered

  -- At most this pair is remembered besides what was; where a growth was refused, what was. Nothing else was done.
  pub record RemembersAtMost {A F : Type 0} (r q : State Key Id Name) (p : Pair Key) (result : Result A F) :
      Type 0 where
    pub meaning : q.meaning ≡ r.meaning
    pub store : q.store ≡ r.store
    pub goals : q.goals ≡ r.goals
    pub kept : q.kept ≡ r.kept
    pub ambient : q.ambient ≡ r.ambient
    pub no_more : (x : Pair Key) → Contains q.remembered x → (x ≡ p) ⊎ Contains r.remembered x
    pub refused : OnErr result (q.remembered ≡ r.remembered)
    pub lawful : r.lawful → q.lawful

  -- A fault is want of memory.
  abbrev pub OnlyMemory : {X : Type 0} → Result X (RelateFault Key Id Name) → Type 0
  OnlyMemory (Ok x) = Unit {0}
  OnlyMemory (Err Memory) = Unit {0}
  OnlyMemory (Err f) = ⊥

  -- A pair is of these two known terms, at the ambient variance.
  abbrev pub MeansPair : State Key Id Name → Pair Key → Tree → Tree → Type 0
  MeansPair r p a b = (p.0 ≡ r.ambient) × ((r.meaning).ty p.1 ≡ a) × ((r.meaning).ty p.2 ≡ b) × IsTrue (known a) ×
      IsTrue (known b)

  -- Something was noted of two terms: what is recorded stands; no goal that was added asks anything of two terms, and
  -- each is built of what they and the bindings are built of; of two bare ones none is added; at most the two are
  -- remembered besides what was; and a fault is want of memory.
  pub record Noted {X : Type 0} (r q : State Key Id Name) (a b : Tree) (result : Result X (RelateFault Key Id Name)) :
      Type 0 where
    pub passes : Passes 0 r q
    pub store : q.store ≡ r.store
    pub quiet : All IsQuiet passes.added
    pub built : (k : Alphabet) → IsBuiltOf k a → IsBuiltOf k b → BindsBuiltOf k r.store → All (IsGoalOf k) passes.added
    pub none : AreBare r.kept.settings a b → passes.added ≡ []
    pub remembers : (p : Pair Key) → Contains q.remembered p → MeansPair q p a b ⊎ Contains r.remembered p
    pub fault : OnlyMemory result
