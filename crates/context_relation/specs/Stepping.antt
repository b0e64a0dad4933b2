-- What each step of the relation of a context does, case by case, between how the relation stands before and after.
use Rattle.std.specs.Prelude.{◌≡◌, ◌≢◌, ◌⊎◌, ℕ, true, false, IsTrue, [], ◌∷◌, ◌++◌}
use Rattle.std.specs.Prelude.{Option, Some, None, Contains, Result, Ok, Err}
use Rattle.term_enums.specs.declared.Variance.{Variance}
use Rattle.term_enums.specs.declared.Variance.TheVariants.{Covariant, Contravariant, Invariant}
use Rattle.term_enums.specs.Variances.{xform}
use Rattle.relation_terms.specs.declared.terms.binder.Binder.{Binder}
use Rattle.relation_terms.specs.declared.terms.keys.TyKey.{TyKey}
use Rattle.relation_terms.specs.declared.terms.keys.RegionKey.{RegionKey}
use Rattle.relation_terms.specs.Heads.{type_var, variable}
use Rattle.relation_terms.specs.Trees.{Tree, leaf}
use Rattle.relation_terms.specs.Meaning.{Meaning}
use Rattle.relation_folds.specs.declared.error.TypeError.TheVariants.{CyclicTy}
use Rattle.relation_folds.specs.declared.error.RelateFault.{RelateFault}
use Rattle.relation_folds.specs.declared.error.RelateFault.TheVariants.{Memory}
use Rattle.relation_semantics.specs.declared.relate.Step.{Step}
use Rattle.relation_semantics.specs.declared.relate.Step.TheVariants.{Done, Again}
use Rattle.relation_semantics.specs.ContextCalls.{Instantiated, Reads}
use Rattle.relation_semantics.specs.Goals.{goal_of, subtype_predicate}
use Rattle.relation_semantics.specs.Lawful.{State, Pair}
use Rattle.relation_semantics.specs.Resolving.{IsShallow}
use Rattle.relation_semantics.specs.Steps.{AddsConstraint}
use Rattle.relation_semantics.specs.Stores.{outlives_constraint, equal_constraint}
use Rattle.relation_semantics.specs.AliasGoals.{alias_at}
use Rattle.relation_semantics.specs.AskedAlone.{IsTyVar, IsNoTyVar}
use Rattle.relation_combining.specs.Combining.{Joins, RegistersOne, RegistersNone, TysCombine, seen}
use Rattle.relation_steps.specs.Rounds.{Opens, one_uses_bound}
use Rattle.relation_combining.specs.Variables.{one_has_variable}

-- A pair is remembered at the ambient variance, by keys that mean the same.
pub record IsRemembered {Key Id Name : Type 0} (r : State Key Id Name) (a b : TyKey Key) : Type 0 where
  pub pair : Pair Key
  pub is_in : Contains r.remembered pair
  pub variance : pair.0 ≡ r.ambient
  pub left : (r.meaning).ty pair.1 ≡ (r.meaning).ty a
  pub right : (r.meaning).ty pair.2 ≡ (r.meaning).ty b

module _ {Key Id Name : Type 0} (r q : State Key Id Name) where
  -- Nothing was done: no key was made, nothing was recorded, and no goal was registered.
  pub record LeavesAll : Type 0 where
    pub meaning : q.meaning ≡ r.meaning
    pub store : q.store ≡ r.store
    pub goals : q.goals ≡ r.goals

  -- No goal was registered; what is remembered is what was; the environment is the same.
  abbrev pub SameGoals : Type 0
  SameGoals = q.goals ≡ r.goals

  abbrev pub SameMemory : Type 0
  SameMemory = q.remembered ≡ r.remembered

  abbrev pub SameEnvironment : Type 0
  SameEnvironment = q.kept.environment ≡ r.kept.environment

  -- What comes of two type variables of which nothing is recorded. At invariance they are made one. At covariance a
  -- goal asks that the left one is a subtype of the right one, and at contravariance that the right one is one of the
  -- left one, which is the expected one of both; or a growth was refused, and no goal was registered.
  pub data CombinesTyVars (a b : TyKey Key) (result : Result (Step (TyKey Key)) (RelateFault Key Id Name)) :
      Type 0 where
    made_one : (i j : ℕ) → r.ambient ≡ Invariant → (r.meaning).ty a ≡ leaf (variable type_var i) →
        (r.meaning).ty b ≡ leaf (variable type_var j) → Joins r.store q.store type_var i j → q.meaning ≡ r.meaning →
        q.goals ≡ r.goals → result ≡ Ok (Done a) → CombinesTyVars a b result
    left_subtype : r.ambient ≡ Covariant →
        RegistersOne r q (subtype_predicate true ((r.meaning).ty a) ((r.meaning).ty b)) → result ≡ Ok (Done a) →
        CombinesTyVars a b result
    right_subtype : r.ambient ≡ Contravariant →
        RegistersOne r q (subtype_predicate false ((r.meaning).ty b) ((r.meaning).ty a)) → result ≡ Ok (Done a) →
        CombinesTyVars a b result
    goal_refused : r.ambient ≢ Invariant → RegistersNone r q → result ≡ Err Memory → CombinesTyVars a b result

  -- What binding a type variable, at a variance, to what a type comes to answers.
  abbrev pub InstantiatesTyVar : Variance → ℕ → TyKey Key → Result (TyKey Key) (RelateFault Key Id Name) → Type 0
  InstantiatesTyVar v i t answer = Instantiated (seen r.meaning r.store) (seen q.meaning q.store)
      r.kept.settings.structurally_relate_aliases v type_var i ((r.meaning).ty t) (λ m. m.ty) CyclicTy answer

  -- The same, and no goal is registered.
  pub record BindsTyVar (v : Variance) (i : ℕ) (t : TyKey Key) (answer : Result (TyKey Key) (RelateFault Key Id Name)) :
      Type 0 where
    pub instantiated : InstantiatesTyVar v i t answer
    pub goals : q.goals ≡ r.goals

  -- It was bound to a type variable, in the place of an alias, and what is asked of that one and the alias is registered;
  -- or it is not, since a growth was refused.
  pub record BindsAsking (v : Variance) (i : ℕ) (t x : TyKey Key) (predicate : Tree) : Type 0 where
    pub instantiated : InstantiatesTyVar v i t (Ok x)
    pub is_variable : IsTyVar ((q.meaning).ty x)
    pub goals : q.goals ≡ r.goals ++ goal_of r.kept.environment predicate ∷ []

  pub record BindsUnasked (v : Variance) (i : ℕ) (t x : TyKey Key) : Type 0 where
    pub instantiated : InstantiatesTyVar v i t (Ok x)
    pub is_variable : IsTyVar ((q.meaning).ty x)
    pub goals : q.goals ≡ r.goals

  -- What comes of two types that were resolved shallowly. Of two type variables what is said above. A type variable on
  -- the left is bound at the ambient variance to what the right type comes to, and the bound type is to be related with
  -- the right one, at covariance seen from the ambient variance; one on the right is bound at the variance seen from
  -- the other side, and the left type is to be related with the bound one. Where it was bound to a type variable, in the
  -- place of an alias, a goal asks in the place of that what their variance does of that one and the alias, on the same
  -- sides. The left type is the answer. Or nothing is bound, and the fault is that of binding. Of all others it is said
  -- what combining says.
  pub data CombinesShallowTys (a b : TyKey Key) (result : Result (Step (TyKey Key)) (RelateFault Key Id Name)) :
      Type 0 where
    two_variables : (i j : ℕ) → (r.meaning).ty a ≡ leaf (variable type_var i) →
        (r.meaning).ty b ≡ leaf (variable type_var j) → CombinesTyVars a b result → CombinesShallowTys a b result
    left_bound : (i : ℕ) (x : TyKey Key) → (r.meaning).ty a ≡ leaf (variable type_var i) →
        IsNoTyVar ((r.meaning).ty b) → BindsTyVar r.ambient i b (Ok x) → IsNoTyVar ((q.meaning).ty x) →
        result ≡ Ok (Again a b x b Covariant a) → CombinesShallowTys a b result
    left_asked : (i : ℕ) (x : TyKey Key) (p : Tree) → (r.meaning).ty a ≡ leaf (variable type_var i) →
        IsNoTyVar ((r.meaning).ty b) → alias_at r.ambient ((q.meaning).ty x) ((r.meaning).ty b) ≡ Some p →
        BindsAsking r.ambient i b x p → result ≡ Ok (Done a) → CombinesShallowTys a b result
    left_unasked : (i : ℕ) (x : TyKey Key) → (r.meaning).ty a ≡ leaf (variable type_var i) →
        IsNoTyVar ((r.meaning).ty b) → BindsUnasked r.ambient i b x → result ≡ Err Memory →
        CombinesShallowTys a b result
    left_refused : (i : ℕ) (f : RelateFault Key Id Name) → (r.meaning).ty a ≡ leaf (variable type_var i) →
        IsNoTyVar ((r.meaning).ty b) → BindsTyVar r.ambient i b (Err f) → result ≡ Err f → CombinesShallowTys a b result
    right_bound : (i : ℕ) (x : TyKey Key) → (r.meaning).ty b ≡ leaf (variable type_var i) →
        IsNoTyVar ((r.meaning).ty a) → BindsTyVar (xform r.ambient Contravariant) i a (Ok x) →
        IsNoTyVar ((q.meaning).ty x) → result ≡ Ok (Again a b a x Covariant a) → CombinesShallowTys a b result
    right_asked : (i : ℕ) (x : TyKey Key) (p : Tree) → (r.meaning).ty b ≡ leaf (variable type_var i) →
        IsNoTyVar ((r.meaning).ty a) → alias_at r.ambient ((r.meaning).ty a) ((q.meaning).ty x) ≡ Some p →
        BindsAsking (xform r.ambient Contravariant) i a x p → result ≡ Ok (Done a) → CombinesShallowTys a b result
    right_unasked : (i : ℕ) (x : TyKey Key) → (r.meaning).ty b ≡ leaf (variable type_var i) →
        IsNoTyVar ((r.meaning).ty a) → BindsUnasked (xform r.ambient Contravariant) i a x → result ≡ Err Memory →
        CombinesShallowTys a b result
    right_refused : (i : ℕ) (f : RelateFault Key Id Name) → (r.meaning).ty b ≡ leaf (variable type_var i) →
        IsNoTyVar ((r.meaning).ty a) → BindsTyVar (xform r.ambient Contravariant) i a (Err f) → result ≡ Err f →
        CombinesShallowTys a b result
    no_ty_variables : IsNoTyVar ((r.meaning).ty a) → IsNoTyVar ((r.meaning).ty b) → TysCombine r q a b result →
        CombinesShallowTys a b result

  -- A type is read as one that was resolved shallowly.
  pub record ReadsTy (a x : TyKey Key) : Type 0 where
    pub reads : Reads (seen r.meaning r.store) ((r.meaning).ty a) ((r.meaning).ty x)
    pub shallow : IsShallow r.store ((r.meaning).ty x)

  -- What comes of two types as they are read, of which this comes by combining: of a pair that is remembered the left
  -- one is the answer, and nothing is done; of another that; but where it is an answer, the growth may be refused that
  -- remembering asks for.
  pub data StepsRead (a b : TyKey Key) (Combines : Result (Step (TyKey Key)) (RelateFault Key Id Name) → Type 0)
      (result : Result (Step (TyKey Key)) (RelateFault Key Id Name)) : Type 0 where
    met_again : IsRemembered r a b → LeavesAll → result ≡ Ok (Done a) → StepsRead a b Combines result
    combined : Combines result → StepsRead a b Combines result
    not_remembered : (t : TyKey Key) → Combines (Ok (Done t)) → result ≡ Err Memory → StepsRead a b Combines result

  -- The same of two that were resolved shallowly.
  abbrev pub StepsShallowTys : TyKey Key → TyKey Key → Result (Step (TyKey Key)) (RelateFault Key Id Name) → Type 0
  StepsShallowTys a b result = StepsRead a b (CombinesShallowTys a b) result

  -- At most these two types are remembered besides what was, and only where there is an answer.
  abbrev pub RemembersAnswered : TyKey Key → TyKey Key → Result (Step (TyKey Key)) (RelateFault Key Id Name) → Type 0
  RemembersAnswered a b (Ok (Done t)) =
      (p : Pair Key) → Contains q.remembered p → (p ≡ (r.ambient, a, b)) ⊎ Contains r.remembered p
  RemembersAnswered a b (Ok step) = q.remembered ≡ r.remembered
  RemembersAnswered a b (Err f) = Unit {0}

  -- It is said of two that are no type variables, or in which no variable stands, but of regions; and of the first that
  -- nothing is remembered besides.
  abbrev pub RemembersRead : TyKey Key → TyKey Key → Result (Step (TyKey Key)) (RelateFault Key Id Name) → Type 0
  RemembersRead a b result =
      IsNoTyVar ((r.meaning).ty a) → IsNoTyVar ((r.meaning).ty b) → RemembersAnswered a b result

  abbrev pub RemembersTys : TyKey Key → TyKey Key → Result (Step (TyKey Key)) (RelateFault Key Id Name) → Type 0
  RemembersTys a b result = one_has_variable r.meaning a b ≡ false → RemembersAnswered a b result

  abbrev pub KeepsMemory : TyKey Key → TyKey Key → Type 0
  KeepsMemory a b = IsNoTyVar ((r.meaning).ty a) → IsNoTyVar ((r.meaning).ty b) → q.remembered ≡ r.remembered

  -- What comes of two types: of one and the same it is the answer; of two in which no variable stands, but of regions,
  -- what comes of both as they are read, by combining; of all others the same of both, resolved shallowly.
  pub data StepsTys (a b : TyKey Key) (result : Result (Step (TyKey Key)) (RelateFault Key Id Name)) : Type 0 where
    one_type : (r.meaning).ty a ≡ (r.meaning).ty b → LeavesAll → result ≡ Ok (Done a) → StepsTys a b result
    without_variables : (r.meaning).ty a ≢ (r.meaning).ty b → one_has_variable r.meaning a b ≡ false →
        StepsRead a b (TysCombine r q a b) result → StepsTys a b result
    resolved_first : (x y : TyKey Key) → (r.meaning).ty a ≢ (r.meaning).ty b → IsTrue (one_has_variable r.meaning a b) →
        ReadsTy a x → ReadsTy b y → StepsRead x y (CombinesShallowTys x y) result → StepsTys a b result

  -- What is recorded of two regions: at covariance that the left one outlives the right one, at contravariance that the
  -- right one outlives the left one, at invariance that both outlive each other. The left one is the answer. Or a
  -- growth was refused, and nothing was recorded.
  pub data StepsRegions (a b : RegionKey Key) (result : Result (RegionKey Key) (RelateFault Key Id Name)) : Type 0 where
    left_outlives : r.ambient ≡ Covariant →
        AddsConstraint r.store q.store (outlives_constraint ((r.meaning).region a) ((r.meaning).region b)) →
        result ≡ Ok a → StepsRegions a b result
    right_outlives : r.ambient ≡ Contravariant →
        AddsConstraint r.store q.store (outlives_constraint ((r.meaning).region b) ((r.meaning).region a)) →
        result ≡ Ok a → StepsRegions a b result
    both_outlive : r.ambient ≡ Invariant →
        AddsConstraint r.store q.store (equal_constraint ((r.meaning).region a) ((r.meaning).region b)) →
        result ≡ Ok a → StepsRegions a b result
    constraint_refused : q.store ≡ r.store → result ≡ Err Memory → StepsRegions a b result

  -- In a round placeholders stand for what the right binder binds, and new variables for what the left one does; or the
  -- other way round.
  abbrev pub EntersRight : ℕ → Type 0
  EntersRight round = (round ≡ 0) × ((r.ambient ≡ Covariant) ⊎ (r.ambient ≡ Invariant))

  abbrev pub EntersLeft : ℕ → Type 0
  EntersLeft round = ((round ≡ 0) × (r.ambient ≡ Contravariant)) ⊎ ((round ≡ 1) × (r.ambient ≡ Invariant))

  -- Of binders whose bodies have these trees.
  module _ {T : Type 0} (tree : Meaning Key Id Name → T → Tree) where
    -- Of two the first was entered, and then the second instantiated; or a growth was refused.
    abbrev pub OpensBinders : Binder Key T → Binder Key T → Result (T × T) (RelateFault Key Id Name) → Type 0
    OpensBinders a b result = Opens tree (seen r.meaning r.store) (seen q.meaning q.store) a b result

    -- What a round of two binders leads to, the left body first. Where neither body uses what its binder binds, round 0
    -- leads to the bodies as they stand. Else, at covariance and in round 0 of invariance, the right binder is entered
    -- and the left one instantiated; at contravariance and in round 1 of invariance it is the other way round. Nothing
    -- is left in any other round 1.
    pub data StepsBinders (round : ℕ) (a b : Binder Key T)
        (result : Result (Option (T × T)) (RelateFault Key Id Name)) : Type 0 where
      as_they_stand : round ≡ 0 → one_uses_bound tree r.meaning a b ≡ false → LeavesAll →
          result ≡ Ok (Some (a.value, b.value)) → StepsBinders round a b result
      right_entered : (x y : T) → EntersRight round → IsTrue (one_uses_bound tree r.meaning a b) →
          OpensBinders b a (Ok (y, x)) → result ≡ Ok (Some (x, y)) → StepsBinders round a b result
      right_not_entered : EntersRight round → IsTrue (one_uses_bound tree r.meaning a b) →
          OpensBinders b a (Err Memory) → result ≡ Err Memory → StepsBinders round a b result
      left_entered : (x y : T) → EntersLeft round → IsTrue (one_uses_bound tree r.meaning a b) →
          OpensBinders a b (Ok (x, y)) → result ≡ Ok (Some (x, y)) → StepsBinders round a b result
      left_not_entered : EntersLeft round → IsTrue (one_uses_bound tree r.meaning a b) →
          OpensBinders a b (Err Memory) → result ≡ Err Memory → StepsBinders round a b result
      none_left : round ≡ 1 → (r.ambient ≢ Invariant) ⊎ (one_uses_bound tree r.meaning a b ≡ false) → LeavesAll →
          result ≡ Ok None → StepsBinders round a b result
