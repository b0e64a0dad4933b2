-- What making and reading keys promise, sort by sort.
use Rattle.std.specs.Prelude.{◌≡◌, ◌↔◌, Bool, IsTrue, IsOk, IfOk, Result, List, [], ℕ, Option, Some, IsSome, MatchOption}
use Rattle.relation_terms.specs.Trees.{Tree, node, nil, known, list_tree, Fits, IsTerm, AreTerms, IsBinder}
use Rattle.relation_terms.specs.Heads.{Sort, type_sort, region_sort, const_sort, value_sort, argument_sort, pattern_sort}
use Rattle.relation_terms.specs.Heads.{existential_sort, predicate_sort, clause_sort, environment_sort, environment}
use Rattle.relation_terms.specs.Heads.{BoundKind, row, binder_of}
use Rattle.relation_terms.specs.Meaning.{Meaning, kind_tree, region_tree, const_tree, valtree_tree, arg_tree}
use Rattle.relation_terms.specs.Meaning.{pattern_tree, object_predicate_tree, bound_kinds}
use Rattle.relation_terms.specs.Predicates.{predicate_tree, clause_tree}
use Rattle.relation_terms.specs.declared.predicate.existential.ExistentialPredicate.{ExistentialPredicate}
use Rattle.relation_terms.specs.declared.predicate.kinds.ClauseKind.{ClauseKind}
use Rattle.relation_terms.specs.declared.predicate.kinds.PredicateKind.{PredicateKind}
use Rattle.relation_terms.specs.declared.terms.binder.Binder.{Binder}
use Rattle.relation_terms.specs.declared.terms.binder.BoundVariableKind.{BoundVariableKind}
use Rattle.relation_terms.specs.declared.terms.keys.ExistentialPredicatesKey.{ExistentialPredicatesKey}
use Rattle.relation_terms.specs.declared.terms.keys.BoundVarsKey.{BoundVarsKey}
use Rattle.relation_terms.specs.declared.terms.keys.TyKey.{TyKey}
use Rattle.relation_terms.specs.declared.terms.keys.RegionKey.{RegionKey}
use Rattle.relation_terms.specs.declared.terms.keys.ConstKey.{ConstKey}
use Rattle.relation_terms.specs.declared.terms.keys.ArgsKey.{ArgsKey}
use Rattle.relation_terms.specs.declared.terms.keys.TysKey.{TysKey}
use Rattle.relation_terms.specs.declared.terms.keys.ValTreeKey.{ValTreeKey}
use Rattle.relation_terms.specs.declared.terms.keys.BranchesKey.{BranchesKey}
use Rattle.relation_terms.specs.declared.terms.keys.PatKey.{PatKey}
use Rattle.relation_terms.specs.declared.terms.keys.AlternativesKey.{AlternativesKey}
use Rattle.relation_terms.specs.declared.terms.keys.PredicateKey.{PredicateKey}
use Rattle.relation_terms.specs.declared.terms.keys.ClauseKey.{ClauseKey}
use Rattle.relation_terms.specs.declared.terms.keys.ClausesKey.{ClausesKey}
use Rattle.relation_terms.specs.declared.terms.keys.ParamEnvKey.{ParamEnvKey}
use Rattle.relation_terms.specs.declared.terms.pattern_kind.PatternKind.{PatternKind}
use Rattle.relation_terms.specs.declared.terms.ty_kind.TyKind.{TyKind}
use Rattle.relation_terms.specs.declared.terms.region_kind.RegionKind.{RegionKind}
use Rattle.relation_terms.specs.declared.terms.const_kind.ConstKind.{ConstKind}
use Rattle.relation_terms.specs.declared.terms.const_kind.ValTreeKind.{ValTreeKind}
use Rattle.relation_terms.specs.declared.terms.generic_arg.GenericArgKind.{GenericArgKind}

-- Known keys are equal exactly where their trees are.
abbrev pub AreEqualAsTrees : {K : Type 0} → (K → Tree) → (K → K → Bool) → Type 0
AreEqualAsTrees {K} tree eq = (k l : K) → IsTrue (known (tree k)) → IsTrue (known (tree l)) →
    (IsTrue (eq k l) ↔ (tree k ≡ tree l))

-- Known keys of lists of bound variables are equal exactly where the lists are.
abbrev pub AreEqualAsKinds : {K : Type 0} → (K → Option (List BoundKind)) → (K → K → Bool) → Type 0
AreEqualAsKinds {K} kinds eq = (k l : K) → IsSome (kinds k) → IsSome (kinds l) → (IsTrue (eq k l) ↔ (kinds k ≡ kinds l))

-- The tree of a known key is a term of a sort.
abbrev pub IsOfSort : {K : Type 0} → (K → Tree) → Sort → Type 0
IsOfSort {K} tree sort = (k : K) → IsTrue (known (tree k)) → IsTerm sort (tree k)

-- The list of a known key is one of terms of a sort.
abbrev pub AreOfSort : {K : Type 0} → (K → Tree) → Sort → Type 0
AreOfSort {K} tree sort = (k : K) → IsTrue (known (tree k)) → AreTerms sort (tree k)

-- The tree of a known key is a binder over a term of a sort.
abbrev pub IsBinderOf : {K : Type 0} → (K → Tree) → Sort → Type 0
IsBinderOf {K} tree sort = (k : K) → IsTrue (known (tree k)) → IsBinder sort (tree k)

-- The list of a known key is one of binders over terms of a sort.
abbrev pub AreBindersOf : {K : Type 0} → (K → Tree) → Sort → Type 0
AreBindersOf {K} tree sort = (k : K) → IsTrue (known (tree k)) → Fits (row [] (Some (binder_of sort))) (tree k)

-- The tree of each known key is a term of its sort, or a list of such terms, or a binder over one.
pub record Sorted {Key Id Name : Type 0} (m : Meaning Key Id Name) : Type 0 where
  pub ty : IsOfSort m.ty type_sort
  pub region : IsOfSort m.region region_sort
  pub tys : AreOfSort m.tys type_sort
  pub const_ : IsOfSort m.const_ const_sort
  pub valtree : IsOfSort m.valtree value_sort
  pub args : AreOfSort m.args argument_sort
  pub branches : AreOfSort m.branches const_sort
  pub pat : IsOfSort m.pat pattern_sort
  pub alternatives : AreOfSort m.alternatives pattern_sort
  pub existential_predicates : AreBindersOf m.existential_predicates existential_sort
  pub predicate : IsBinderOf m.predicate predicate_sort
  pub clause : IsBinderOf m.clause clause_sort
  pub clauses : AreBindersOf m.clauses clause_sort
  pub param_env : IsOfSort m.param_env environment_sort

-- Ids and names are equal exactly where their numbers are.
abbrev pub AreEqualAsNumbers : {N : Type 0} → (N → ℕ) → (N → N → Bool) → Type 0
AreEqualAsNumbers {N} number eq = (x y : N) → (IsTrue (eq x y) ↔ (number x ≡ number y))

-- What is found of a predicate is the clause that it is, and nothing where it is none.
abbrev pub FindsClause : {Key Id Name : Type 0} → Meaning Key Id Name → PredicateKey Key → Option (ClauseKey Key) →
    Type 0
FindsClause m p found = MatchOption found (IsBinder clause_sort (m.predicate p) → ⊥) (λ c. m.clause c ≡ m.predicate p)

-- What is read of a trait object's list is its predicates.
abbrev pub ReadsPredicates : {Key Id Name : Type 0} → Meaning Key Id Name → ExistentialPredicatesKey Key →
    List (Binder Key (ExistentialPredicate Key Id)) → Type 0
ReadsPredicates m k list = m.existential_predicates k ≡ list_tree (object_predicate_tree m) list

-- An environment is that of a list of clauses.
abbrev pub IsEnvironmentOf : {Key Id Name : Type 0} → Meaning Key Id Name → ParamEnvKey Key → ClausesKey Key → Type 0
IsEnvironmentOf m env list = m.param_env env ≡ node environment (m.clauses list)

-- Where a key of a tree is there already, it is made again, without growth and without fail.
abbrev pub IsMadeAgain : {Key Id Name K X E : Type 0} → Meaning Key Id Name → Meaning Key Id Name → (K → Tree) → Tree →
    Result X E → Type 0
IsMadeAgain {K = K} before after tree t result = (k : K) → tree k ≡ t → IsOk result × (after ≡ before)

-- Where the key of a list is there already, nothing grows. (The list is copied first, which may fail.)
abbrev pub IsNotMadeAgain : {Key Id Name K : Type 0} → Meaning Key Id Name → Meaning Key Id Name → (K → Tree) → Tree →
    Type 0
IsNotMadeAgain {K = K} before after tree t = (k : K) → tree k ≡ t → after ≡ before

module _ {Key Id Name E : Type 0} (before after : Meaning Key Id Name) where
  -- The same of types, regions, constants, value trees and patterns, by their forms.
  abbrev pub RemakesTy : TyKind Key Id Name → Result (TyKey Key) E → Type 0
  RemakesTy form result = IsMadeAgain before after before.ty (kind_tree before form) result

  abbrev pub RemakesRegion : RegionKind Name → Result (RegionKey Key) E → Type 0
  RemakesRegion form result = IsMadeAgain before after before.region (region_tree before form) result

  abbrev pub RemakesConst : ConstKind Key Id Name → Result (ConstKey Key) E → Type 0
  RemakesConst form result = IsMadeAgain before after before.const_ (const_tree before form) result

  abbrev pub RemakesValTree : ValTreeKind Key → Result (ValTreeKey Key) E → Type 0
  RemakesValTree form result = IsMadeAgain before after before.valtree (valtree_tree before form) result

  abbrev pub RemakesPat : PatternKind Key → Result (PatKey Key) E → Type 0
  RemakesPat form result = IsMadeAgain before after before.pat (pattern_tree before form) result

  -- The same of predicates and clauses, by their forms, and of an environment by the list of its clauses.
  abbrev pub RemakesPredicate : Binder Key (PredicateKind Key Id Name) → Result (PredicateKey Key) E → Type 0
  RemakesPredicate form result = IsMadeAgain before after before.predicate (predicate_tree before form) result

  abbrev pub RemakesClause : Binder Key (ClauseKind Key Id Name) → Result (ClauseKey Key) E → Type 0
  RemakesClause form result = IsMadeAgain before after before.clause (clause_tree before form) result

  abbrev pub RemakesEnv : ClausesKey Key → Result (ParamEnvKey Key) E → Type 0
  RemakesEnv list result = IsMadeAgain before after before.param_env (node environment (before.clauses list)) result

  -- The same of the environment without clauses.
  abbrev pub RemakesEmptyEnv : Result (ParamEnvKey Key) E → Type 0
  RemakesEmptyEnv result = IsMadeAgain before after before.param_env (node environment nil) result

  -- What is made of elements is their list: of types, arguments, branches and alternatives.
  abbrev pub MakesTys : List (TyKey Key) → Result (TysKey Key) E → Type 0
  MakesTys list result = IfOk result (λ k. after.tys k ≡ list_tree before.ty list)

  abbrev pub MakesArgs : List (GenericArgKind Key) → Result (ArgsKey Key) E → Type 0
  MakesArgs list result = IfOk result (λ k. after.args k ≡ list_tree (arg_tree before) list)

  abbrev pub MakesBranches : List (ConstKey Key) → Result (BranchesKey Key) E → Type 0
  MakesBranches list result = IfOk result (λ k. after.branches k ≡ list_tree before.const_ list)

  abbrev pub MakesAlternatives : List (PatKey Key) → Result (AlternativesKey Key) E → Type 0
  MakesAlternatives list result = IfOk result (λ k. after.alternatives k ≡ list_tree before.pat list)

  abbrev pub MakesPredicates : List (Binder Key (ExistentialPredicate Key Id)) →
      Result (ExistentialPredicatesKey Key) E → Type 0
  MakesPredicates list result =
      IfOk result (λ k. after.existential_predicates k ≡ list_tree (object_predicate_tree before) list)

  abbrev pub MakesClauses : List (ClauseKey Key) → Result (ClausesKey Key) E → Type 0
  MakesClauses list result = IfOk result (λ k. after.clauses k ≡ list_tree before.clause list)

  abbrev pub MakesBoundVars : List (BoundVariableKind Name) → Result (BoundVarsKey Key) E → Type 0
  MakesBoundVars list result = IfOk result (λ k. after.bound_vars k ≡ Some (bound_kinds before list))

  -- What is made of a form under a binder is its predicate.
  abbrev pub MakesPredicate : Binder Key (PredicateKind Key Id Name) → Result (PredicateKey Key) E → Type 0
  MakesPredicate form result = IfOk result (λ k. after.predicate k ≡ predicate_tree before form)

  -- What is made of a list of clauses is their environment.
  abbrev pub MakesEnv : ClausesKey Key → Result (ParamEnvKey Key) E → Type 0
  MakesEnv list result = IfOk result (λ k. after.param_env k ≡ node environment (before.clauses list))

module _ {Key Id Name : Type 0} (before after : Meaning Key Id Name) where
  -- Where it is there already nothing grows: lists of types, arguments, branches, alternatives, by their elements.
  abbrev pub KeepsTys : List (TyKey Key) → Type 0
  KeepsTys list = IsNotMadeAgain before after before.tys (list_tree before.ty list)

  abbrev pub KeepsArgs : List (GenericArgKind Key) → Type 0
  KeepsArgs list = IsNotMadeAgain before after before.args (list_tree (arg_tree before) list)

  abbrev pub KeepsBranches : List (ConstKey Key) → Type 0
  KeepsBranches list = IsNotMadeAgain before after before.branches (list_tree before.const_ list)

  abbrev pub KeepsAlternatives : List (PatKey Key) → Type 0
  KeepsAlternatives list = IsNotMadeAgain before after before.alternatives (list_tree before.pat list)

  abbrev pub KeepsPredicates : List (Binder Key (ExistentialPredicate Key Id)) → Type 0
  KeepsPredicates list =
      IsNotMadeAgain before after before.existential_predicates (list_tree (object_predicate_tree before) list)

  abbrev pub KeepsClauses : List (ClauseKey Key) → Type 0
  KeepsClauses list = IsNotMadeAgain before after before.clauses (list_tree before.clause list)

  abbrev pub KeepsBoundVars : List (BoundVariableKind Name) → Type 0
  KeepsBoundVars list = (k : BoundVarsKey Key) → before.bound_vars k ≡ Some (bound_kinds before list) → after ≡ before
