-- Completeness of terms without variables: where relating answers `Ok` such are related, all regions outliving each
-- other and what is asked of aliases being so, and where a type error comes they are not.
use Rattle.std.specs.Prelude.{◌≡◌, ◌↔◌, Option, None, Result, Ok, Err, IfOk}
use Rattle.std.specs.Global.{Vec}
use Rattle.term_enums.specs.declared.Variance.{Variance}
use Rattle.relation_terms.specs.declared.terms.goal.Goal.{Goal}
use Rattle.relation_terms.specs.declared.terms.keys.PredicateKey.{PredicateKey}
use Rattle.relation_terms.specs.declared.terms.keys.ParamEnvKey.{ParamEnvKey}
use Rattle.relation_terms.specs.Heads.{Sort, Head}
use Rattle.relation_terms.specs.Trees.{Tree, Assign, Leaves}
use Rattle.relation_terms.specs.Erasure.{erase}
use Rattle.relation_terms.specs.Meaning.{Meaning}
use Rattle.relation_terms.specs.Interning.{Sorted}
use Rattle.relation_folds.specs.declared.error.TypeError.{TypeError}
use Rattle.relation_folds.specs.declared.error.RelateFault.{RelateFault}
use Rattle.relation_folds.specs.declared.error.RelateFault.TheVariants.{Memory, Budget, Unrelated}
use Rattle.term_enums.specs.declared.StructurallyRelateAliases.{StructurallyRelateAliases}
use Rattle.relation_semantics.specs.Relation.{Items, Interpretation, Rel, at, IsValue, IsValueLeaf}
use Rattle.relation_semantics.specs.Settings.{Settings}
use Rattle.relation_semantics.specs.Stores.{Store, IsSound, ConstraintHolds}
use Rattle.relation_semantics.specs.Goals.{goal_of, goals_of, Holds}
use Rattle.relation_semantics.specs.Errors.{ErrorOf}
use Rattle.relation_semantics.specs.Agreeing.{Agree}
use Rattle.relation_semantics.specs.Lawful.{items_of}
use Rattle.relation_semantics.specs.Contexts.{Context}
use Rattle.relation_semantics.specs.Asking.{Wanted, a_constraint, a_goal, AsksFor, IsPlainTerm, HasNoAlias, ArePlain}
use Rattle.relation_semantics.specs.Recording.{AreBare, IsJustAsked, AsksNoMore}
use Rattle.relation_semantics.specs.Steps.{HasNoBinder}
use Rattle.relation_combining.specs.Solving.{solver_settings}
use Rattle.context_relation.specs.Relating.{term_in}

-- What relating two terms asks of aliases is so under an interpretation.
abbrev pub AskedHolds : Items → Interpretation → Tree → Variance → Tree → Tree → Type 0
AskedHolds c w e v a b = (p : Tree) → AsksFor c (a_goal p) v a b → (s : Assign) → Holds c w s (goal_of e p)

-- What is wanted is so: a constraint holds, and a goal does.
abbrev pub IsSoWanted : Items → Interpretation → Tree → Assign → Wanted → Type 0
IsSoWanted c w e s (a_constraint q) = ConstraintHolds w s q
IsSoWanted c w e s (a_goal p) = Holds c w s (goal_of e p)

-- All that relating two terms asks for is so under an interpretation.
abbrev pub AskedIsSo : Items → Interpretation → Tree → Variance → Tree → Tree → Type 0
AskedIsSo c w e v a b = (z : Wanted) → AsksFor c z v a b → (s : Assign) → IsSoWanted c w e s z

-- Two terms are related under just those interpretations under which all that they ask for is so.
abbrev pub AreRelatedWhereAsked : Items → Tree → Variance → Tree → Tree → Type 0
AreRelatedWhereAsked c e v a b = (w : Interpretation) → Rel c w e (at v) a b ↔ AskedIsSo c w e v a b

-- Two terms are related wherever all regions outlive each other and what is asked of aliases is so.
abbrev pub AreRelatedAsAsked : Items → Tree → Variance → Tree → Tree → Type 0
AreRelatedAsAsked c e v a b = (w : Interpretation) → w.outlives ≡ None → AskedHolds c w e v a b → Rel c w e (at v) a b

-- Two terms are related under no interpretation.
abbrev pub AreNeverRelated : Items → Tree → Variance → Tree → Tree → Type 0
AreNeverRelated c e v a b = (w : Interpretation) → Rel c w e (at v) a b → ⊥

-- What an answer says of two terms: which they are, and that no instantiation was wanting.
abbrev pub CompletelyAnswered : {X Key Id Name : Type 0} → Items → Tree → Variance → Tree → Tree →
    Result X (RelateFault Key Id Name) → Type 0
CompletelyAnswered c e v a b (Ok x) = AreRelatedAsAsked c e v a b
CompletelyAnswered c e v a b (Err (Unrelated x)) = AreNeverRelated c e v a b
CompletelyAnswered c e v a b (Err Budget) = ⊥
CompletelyAnswered c e v a b (Err Memory) = Unit {0}

-- In a sound store no error comes of plain terms whose erasures agree.
abbrev pub ErrorsDisagree : (Key Id Name : Type 0) → Type 0
ErrorsDisagree Key Id Name = (m : Meaning Key Id Name) → Sorted m → (k : Settings) (c : Items) (st : Store) →
    IsSound st → (v : Variance) (x : TypeError Key Id Name) (a b : Tree) → ArePlain k a b → ErrorOf m k c st v x a b →
    Agree k c (at v) (erase a) (erase b) → ⊥

-- So plain terms without variables of which an error comes are related under no interpretation.
abbrev pub ErrorsAreUnrelated : (Key Id Name : Type 0) → Type 0
ErrorsAreUnrelated Key Id Name = (m : Meaning Key Id Name) → Sorted m → (k : Settings) (c : Items) (st : Store) →
    IsSound st → (v : Variance) (x : TypeError Key Id Name) (a b : Tree) → ArePlain k a b → Leaves IsValueLeaf a →
    Leaves IsValueLeaf b → ErrorOf m k c st v x a b → (e : Tree) → AreNeverRelated c e v a b

-- Plain terms without variables that agree are related, where all regions outlive each other and what is asked of
-- aliases is so.
abbrev pub AgreeingAreRelated : Type 0
AgreeingAreRelated = (k : Settings) (c : Items) (e : Tree) (v : Variance) (s : Sort) (a b : Tree) → IsValue s a →
    IsValue s b → ArePlain k a b → Agree k c (at v) a b → AreRelatedAsAsked c e v a b

-- A plain term without aliases and binders.
abbrev pub IsBareTerm : Tree → Type 0
IsBareTerm t = IsPlainTerm t × HasNoAlias t × HasNoBinder t

-- Between what a context is before the call and after it, which `state` shows.
module _ {S Key Id Name A : Type 0} (state : S → Context Key Id Name) (old new : S) (over : Option Head)
    (tree : Meaning Key Id Name → A → Tree) where
  abbrev term : A → Tree
  term x = term_in (state old) over tree x

  -- Of terms without variables: related where the answer is `Ok`, all regions outliving each other and what is asked of
  -- aliases being so; related under no interpretation where it is a type error; and it fails for want of memory alone.
  abbrev pub Complete : {X : Type 0} → StructurallyRelateAliases → ParamEnvKey Key → Variance → A → A →
      Result X (RelateFault Key Id Name) → Type 0
  Complete g e v a b result = (s : Sort) → IsValue s (term a) → IsValue s (term b) →
      ArePlain (solver_settings g (state old).setup) (term a) (term b) → CompletelyAnswered
      (items_of (state old).meaning) (((state old).meaning).param_env e) v (term a) (term b) result

  -- Of two bare terms, where the answer is `Ok`: just the constraints that they ask for were recorded, that of a region
  -- with itself aside, and just the goals that they ask for are answered.
  abbrev pub JustAsked : StructurallyRelateAliases → ParamEnvKey Key → Variance → A → A →
      Result (Vec (Goal Key (PredicateKey Key))) (RelateFault Key Id Name) → Type 0
  JustAsked g e v a b result = AreBare (solver_settings g (state old).setup) (term a) (term b) →
      IfOk result (λ goals. IsJustAsked (items_of (state old).meaning) (((state old).meaning).param_env e) v (term a)
      (term b) (state old).store.constraints (state new).store.constraints (goals_of (state new).meaning goals.items))

  -- Of two without binders, and without aliases or where these are left to goals, as is all that was bound: where the
  -- answer is `Ok`, each constraint that was added is one that they ask for, by what they come to then and later.
  abbrev pub OnlyAsked : {X : Type 0} → StructurallyRelateAliases → Variance → A → A →
      Result X (RelateFault Key Id Name) → Type 0
  OnlyAsked g v a b result = IfOk result (λ x. AsksNoMore (solver_settings g (state old).setup)
      (items_of (state old).meaning) (state old).store (state new).store v (term a) (term b))

  -- Of terms without variables, binders and aliases: where the answer is `Ok`, they are related under just those
  -- interpretations under which the constraints that they ask for hold.
  abbrev pub RelatesWhereAsked : {X : Type 0} → ParamEnvKey Key → Variance → A → A →
      Result X (RelateFault Key Id Name) → Type 0
  RelatesWhereAsked e v a b result = (s : Sort) → IsValue s (term a) → IsValue s (term b) → IsBareTerm (term a) →
      IsBareTerm (term b) → IfOk result (λ x. AreRelatedWhereAsked (items_of (state old).meaning)
      (((state old).meaning).param_env e) v (term a) (term b))
