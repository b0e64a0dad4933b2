-- What comes of two types, and of two constants, before their parts are related: case by case.
use Rattle.std.specs.Prelude.{◌≡◌, ◌≢◌, ◌⊎◌, ℕ, true, IsTrue, max, min, [], ◌∷◌, ◌++◌, Some, None, Result, Ok, Err}
use Rattle.term_enums.specs.declared.Variance.TheVariants.{Invariant, Bivariant}
use Rattle.relation_terms.specs.declared.terms.keys.TyKey.{TyKey}
use Rattle.relation_terms.specs.declared.terms.keys.ConstKey.{ConstKey}
use Rattle.relation_terms.specs.Heads.{VarKind, const_var, variable}
use Rattle.relation_terms.specs.Trees.{Tree, leaf, known}
use Rattle.relation_terms.specs.Meaning.{Meaning}
use Rattle.relation_folds.specs.declared.error.TypeError.TheVariants.{Sorts, CyclicConst}
use Rattle.relation_folds.specs.declared.error.RelateFault.{RelateFault}
use Rattle.term_enums.specs.declared.AliasRelationDirection.TheVariants.{Equate}
use Rattle.relation_folds.specs.declared.error.RelateFault.TheVariants.{Memory, Unrelated}
use Rattle.relation_semantics.specs.declared.infer_ctxt.TypingMode.TheVariants.{PostAnalysis}
use Rattle.relation_semantics.specs.declared.relate.Step.{Step}
use Rattle.relation_semantics.specs.declared.relate.Step.TheVariants.{Done, Parts, Again}
use Rattle.term_enums.specs.declared.StructurallyRelateAliases.{StructurallyRelateAliases}
use Rattle.relation_semantics.specs.Bound.{IsWellBound}
use Rattle.relation_semantics.specs.Contexts.{Context}
use Rattle.relation_semantics.specs.ContextCalls.{Instantiated, Reads}
use Rattle.relation_semantics.specs.AliasGoals.{alias_at}
use Rattle.relation_semantics.specs.AskedAlone.{IsTyVar, IsNoTyVar}
use Rattle.relation_semantics.specs.Errors.{HaveNoError, IsOpaqueBeside, IsDeferred}
use Rattle.relation_semantics.specs.Goals.{goal_of, alias_relate_predicate, ambiguous_predicate}
use Rattle.relation_semantics.specs.Lawful.{State}
use Rattle.relation_semantics.specs.Relation.{IsError, IsAlias}
use Rattle.relation_semantics.specs.Settings.{DefersAliases, LeavesOpaque}
use Rattle.relation_combining.specs.NumberVars.{IsNoNumberVar}
use Rattle.relation_semantics.specs.Parts.{IsFormedConst}
use Rattle.relation_semantics.specs.Resolving.{IsShallowConst}
use Rattle.relation_semantics.specs.Steps.{IsNumberKind, Equates, InstantiatesNumber, Taints}
use Rattle.relation_semantics.specs.Stores.{Store, MayStandFor, IsTermIn}
use Rattle.relation_steps.specs.Keyed.{SteppedTys}
use Rattle.relation_steps.specs.Terms.{AskedTerms}
use Rattle.relation_combining.specs.Solving.{solver_manner}

-- Two variables of a kind were made one, the smaller number being the root; one with itself changes nothing.
pub record Joins (before after : Store) (k : VarKind) (a b : ℕ) : Type 0 where
  pub same : a ≡ b → after ≡ before
  pub equates : a ≢ b → Equates before after k (max a b) (min a b)

-- What combining two asks that were resolved shallowly, of which `tree` says what they mean, and `IsShallow` that they are.
pub record CanCombine {Key Id Name A : Type 0} (tree : Meaning Key Id Name → A → Tree) (IsShallow : Store → Tree → Type 0)
    (r : State Key Id Name) (a b : A) : Type 0 where
  pub lawful : r.lawful
  pub decides : r.ambient ≢ Bivariant
  pub asked : AskedTerms solver_manner None tree r a b
  pub a_shallow : IsShallow r.store (tree r.meaning a)
  pub b_shallow : IsShallow r.store (tree r.meaning b)

-- What meeting asks of two in a context, likewise.
pub record CanMeet {Key Id Name A : Type 0} (tree : Meaning Key Id Name → A → Tree) (IsShallow : Store → Tree → Type 0)
    (c : Context Key Id Name) (a b : A) : Type 0 where
  pub lawful : c.lawful
  pub a_known : IsTrue (known (tree c.meaning a))
  pub b_known : IsTrue (known (tree c.meaning b))
  pub a_in : IsTermIn c.store (tree c.meaning a)
  pub b_in : IsTermIn c.store (tree c.meaning b)
  pub a_taken : IsWellBound (tree c.meaning a)
  pub b_taken : IsWellBound (tree c.meaning b)
  pub a_shallow : IsShallow c.store (tree c.meaning a)
  pub b_shallow : IsShallow c.store (tree c.meaning b)

-- No variable of types at all.
abbrev pub IsNoVariable : Tree → Type 0
IsNoVariable t = IsNoTyVar t × IsNoNumberVar t

-- The first type is a number variable, which may not stand for the second.
pub record IsUnlike (t u : Tree) : Type 0 where
  pub kind : VarKind
  pub number : ℕ
  pub is : t ≡ leaf (variable kind number)
  pub of_numbers : IsNumberKind kind
  pub unlike : MayStandFor kind u → ⊥

module _ {Key Id Name : Type 0} where
  -- What keys mean and what is recorded, as a context of which nothing else is looked at.
  abbrev pub seen : Meaning Key Id Name → Store → Context Key Id Name
  seen m st = record {
    meaning = m;
    store = st;
    lawful = Unit {0};
    setup = record { is_next_solver = true; typing_mode = PostAnalysis };
    outliving = [];
    sub_root = λ n. n;
  }

  -- What comes of two types that aren't left to a goal, and neither of which is an error: two number variables of one
  -- kind are made one, and the left one is the answer; a number variable is bound to a type of its kind, which is the
  -- answer; of a number variable and another type, and of a type variable, the error names both; two types of which none
  -- is a variable are left to be related by their parts.
  pub data MeetsTys (m : Meaning Key Id Name) (before after : Store) (a b : TyKey Key)
      (result : Result (Step (TyKey Key)) (RelateFault Key Id Name)) : Type 0 where
    equated : (k : VarKind) (i j : ℕ) → IsNumberKind k → m.ty a ≡ leaf (variable k i) → m.ty b ≡ leaf (variable k j) →
        Joins before after k i j → result ≡ Ok (Done a) → MeetsTys m before after a b result
    left_bound : (k : VarKind) (i : ℕ) → m.ty a ≡ leaf (variable k i) → InstantiatesNumber before after k i (m.ty b) →
        result ≡ Ok (Done b) → MeetsTys m before after a b result
    right_bound : (k : VarKind) (i : ℕ) → m.ty b ≡ leaf (variable k i) → InstantiatesNumber before after k i (m.ty a) →
        result ≡ Ok (Done a) → MeetsTys m before after a b result
    left_unlike : IsUnlike (m.ty a) (m.ty b) → after ≡ before →
        result ≡ Err (Unrelated (Sorts (record { expected = a; found = b }))) → MeetsTys m before after a b result
    right_unlike : IsUnlike (m.ty b) (m.ty a) → after ≡ before →
        result ≡ Err (Unrelated (Sorts (record { expected = a; found = b }))) → MeetsTys m before after a b result
    ty_variable : IsTyVar (m.ty a) ⊎ IsTyVar (m.ty b) → after ≡ before →
        result ≡ Err (Unrelated (Sorts (record { expected = a; found = b }))) → MeetsTys m before after a b result
    by_parts : IsNoVariable (m.ty a) → IsNoVariable (m.ty b) → after ≡ before → result ≡ Ok (Parts a b) →
        MeetsTys m before after a b result

  module _ (m n : Meaning Key Id Name) (before after : Store) where
    -- What binding a variable of constants to what a constant comes to answers, by how aliases are related.
    abbrev pub Binds : StructurallyRelateAliases → ℕ → ConstKey Key →
        Result (ConstKey Key) (RelateFault Key Id Name) → Type 0
    Binds g i a answer = Instantiated (seen m before) (seen n after) g Invariant const_var i (m.const_ a)
        (λ m. m.const_) CyclicConst answer

    -- What comes of two constants that were resolved shallowly and aren't left to a goal, by how aliases are related:
    -- two variables are made one, and the left one is the answer; a variable is bound to what the other side comes to, and
    -- the bound constant is to be related with that side, which is the answer, at invariance; or nothing is bound, and the
    -- fault is that of binding; two constants with outermost forms are left to be related by their parts.
    pub data MeetsConsts (g : StructurallyRelateAliases) (a b : ConstKey Key)
        (result : Result (Step (ConstKey Key)) (RelateFault Key Id Name)) : Type 0 where
      roots_equated : (i j : ℕ) → m.const_ a ≡ leaf (variable const_var i) → m.const_ b ≡ leaf (variable const_var j) →
          Joins before after const_var i j → n ≡ m → result ≡ Ok (Done a) → MeetsConsts g a b result
      left_root_bound : (i : ℕ) (x : ConstKey Key) → m.const_ a ≡ leaf (variable const_var i) →
          IsFormedConst (m.const_ b) → Binds g i b (Ok x) → result ≡ Ok (Again a b x b Invariant b) →
          MeetsConsts g a b result
      left_root_refused : (i : ℕ) (f : RelateFault Key Id Name) → m.const_ a ≡ leaf (variable const_var i) →
          IsFormedConst (m.const_ b) → Binds g i b (Err f) → result ≡ Err f → MeetsConsts g a b result
      right_root_bound : (i : ℕ) (x : ConstKey Key) → m.const_ b ≡ leaf (variable const_var i) →
          IsFormedConst (m.const_ a) → Binds g i a (Ok x) → result ≡ Ok (Again a b a x Invariant a) →
          MeetsConsts g a b result
      right_root_refused : (i : ℕ) (f : RelateFault Key Id Name) → m.const_ b ≡ leaf (variable const_var i) →
          IsFormedConst (m.const_ a) → Binds g i a (Err f) → result ≡ Err f → MeetsConsts g a b result
      formed_by_parts : IsFormedConst (m.const_ a) → IsFormedConst (m.const_ b) → n ≡ m → after ≡ before →
          result ≡ Ok (Parts a b) → MeetsConsts g a b result

  -- Two constants have outermost forms.
  abbrev pub AreFormedConsts : Meaning Key Id Name → ConstKey Key → ConstKey Key → Type 0
  AreFormedConsts m a b = IsFormedConst (m.const_ a) × IsFormedConst (m.const_ b)

  module _ (m : Meaning Key Id Name) (before : Store) where
    -- A constant is read as one that was resolved shallowly.
    pub record ReadsShallow (a x : ConstKey Key) : Type 0 where
      pub reads : Reads (seen m before) (m.const_ a) (m.const_ x)
      pub shallow : IsShallowConst before (m.const_ x)

-- Between what a context is before a call and after it.
module _ {Key Id Name : Type 0} (c d : Context Key Id Name) where
  -- What comes of two types there, and of two constants that were resolved shallowly, where aliases are related so.
  abbrev pub TysMeet : TyKey Key → TyKey Key → Result (Step (TyKey Key)) (RelateFault Key Id Name) → Type 0
  TysMeet a b result = MeetsTys c.meaning c.store d.store a b result

  abbrev pub ConstsMeet : StructurallyRelateAliases → ConstKey Key → ConstKey Key →
      Result (Step (ConstKey Key)) (RelateFault Key Id Name) → Type 0
  ConstsMeet g a b result = MeetsConsts c.meaning d.meaning c.store d.store g a b result

-- The same between two states of a relation.
module _ {Key Id Name : Type 0} (r q : State Key Id Name) where
  -- A goal was registered in the relation's environment, behind those that there were. Nothing was recorded.
  pub record RegistersOne (predicate : Tree) : Type 0 where
    pub store : q.store ≡ r.store
    pub goals : q.goals ≡ r.goals ++ goal_of r.kept.environment predicate ∷ []

  -- It was not, since a growth was refused.
  pub record RegistersNone : Type 0 where
    pub store : q.store ≡ r.store
    pub goals : q.goals ≡ r.goals

  -- That an error was met was recorded, and nothing else; no key was made, and no goal registered.
  pub record TaintsAlone : Type 0 where
    pub meaning : q.meaning ≡ r.meaning
    pub taints : Taints r.store q.store
    pub goals : q.goals ≡ r.goals

  -- What no step changes is as it was, and the relation is lawful still.
  pub record KeepsKept : Type 0 where
    pub kept : q.kept ≡ r.kept
    pub ambient : q.ambient ≡ r.ambient
    pub remembered : q.remembered ≡ r.remembered
    pub lawful : r.lawful → q.lawful

  -- What comes of two types, in this order. An error taints, and is the answer, the left one first. Where aliases are left
  -- to goals, one is registered of an alias and another type, as their variance asks; where opaque types are left open,
  -- one beside no variable registers that too much was met; the left type is the answer, or a growth was refused. Of all
  -- others no goal is registered, and it is said of them what meeting says.
  pub data TysCombine (a b : TyKey Key) (result : Result (Step (TyKey Key)) (RelateFault Key Id Name)) : Type 0 where
    left_error : IsError ((r.meaning).ty a) → TaintsAlone → result ≡ Ok (Done a) → TysCombine a b result
    right_error : (IsError ((r.meaning).ty a) → ⊥) → IsError ((r.meaning).ty b) → TaintsAlone → result ≡ Ok (Done b) →
        TysCombine a b result
    is_deferred : (p : Tree) → HaveNoError ((r.meaning).ty a) ((r.meaning).ty b) → DefersAliases r.kept.settings →
        IsAlias ((r.meaning).ty a) ⊎ IsAlias ((r.meaning).ty b) →
        alias_at r.ambient ((r.meaning).ty a) ((r.meaning).ty b) ≡ Some p → RegistersOne p → result ≡ Ok (Done a) →
        TysCombine a b result
    left_open : HaveNoError ((r.meaning).ty a) ((r.meaning).ty b) → LeavesOpaque r.kept.settings →
        IsOpaqueBeside ((r.meaning).ty a) ((r.meaning).ty b) ⊎ IsOpaqueBeside ((r.meaning).ty b) ((r.meaning).ty a) →
        RegistersOne ambiguous_predicate → result ≡ Ok (Done a) → TysCombine a b result
    not_registered : HaveNoError ((r.meaning).ty a) ((r.meaning).ty b) →
        IsDeferred r.kept.settings ((r.meaning).ty a) ((r.meaning).ty b) → RegistersNone → result ≡ Err Memory →
        TysCombine a b result
    not_left : HaveNoError ((r.meaning).ty a) ((r.meaning).ty b) →
        (IsDeferred r.kept.settings ((r.meaning).ty a) ((r.meaning).ty b) → ⊥) → q.goals ≡ r.goals →
        MeetsTys r.meaning r.store q.store a b result → TysCombine a b result

  -- What comes of two constants that were resolved shallowly. Where aliases are left to goals, one is registered of an
  -- unevaluated constant and another one with an outermost form, that both are one, whatever the variance, and the right
  -- one is the answer; or a growth was refused. Of all others no goal is registered, and it is said of them what meeting
  -- says.
  pub data CombinesShallow (a b : ConstKey Key) (result : Result (Step (ConstKey Key)) (RelateFault Key Id Name)) :
      Type 0 where
    const_is_deferred : IsFormedConst ((r.meaning).const_ a) → IsFormedConst ((r.meaning).const_ b) →
        DefersAliases r.kept.settings → IsAlias ((r.meaning).const_ a) ⊎ IsAlias ((r.meaning).const_ b) →
        RegistersOne (alias_relate_predicate Equate ((r.meaning).const_ a) ((r.meaning).const_ b)) →
        result ≡ Ok (Done b) → CombinesShallow a b result
    const_not_registered : IsDeferred r.kept.settings ((r.meaning).const_ a) ((r.meaning).const_ b) →
        RegistersNone → result ≡ Err Memory → CombinesShallow a b result
    const_not_left : (IsFormedConst ((r.meaning).const_ a) → IsFormedConst ((r.meaning).const_ b) →
        IsDeferred r.kept.settings ((r.meaning).const_ a) ((r.meaning).const_ b) → ⊥) → q.goals ≡ r.goals →
        MeetsConsts r.meaning q.meaning r.store q.store r.kept.settings.structurally_relate_aliases a b result →
        CombinesShallow a b result

  -- What comes of two constants: of one and the same it is the answer; else what comes of both, resolved shallowly.
  pub data ConstsCombine (a b : ConstKey Key) (result : Result (Step (ConstKey Key)) (RelateFault Key Id Name)) :
      Type 0 where
    one_constant : (r.meaning).const_ a ≡ (r.meaning).const_ b → q.meaning ≡ r.meaning → q.store ≡ r.store →
        q.goals ≡ r.goals → result ≡ Ok (Done a) → ConstsCombine a b result
    resolved_first : (x y : ConstKey Key) → (r.meaning).const_ a ≢ (r.meaning).const_ b →
        ReadsShallow r.meaning r.store a x → ReadsShallow r.meaning r.store b y →
        CombinesShallow x y result → ConstsCombine a b result

-- Of two types that are no type variables a step was taken.
abbrev pub StepsUnlessVars : {Key Id Name : Type 0} → State Key Id Name → State Key Id Name → TyKey Key → TyKey Key →
    Result (Step (TyKey Key)) (RelateFault Key Id Name) → Type 0
StepsUnlessVars r q a b result = IsNoTyVar ((r.meaning).ty a) → IsNoTyVar ((r.meaning).ty b) →
    SteppedTys solver_manner r q a b result
