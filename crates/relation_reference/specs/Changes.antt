-- What calls change in a context, between what it was before and what it is after.
use Rattle.std.specs.Prelude.{◌≡◌, ℕ, min, max, List, length, Result, IfOk}
use Rattle.relation_terms.specs.declared.terms.binder.Binder.{Binder}
use Rattle.term_enums.specs.declared.Variance.{Variance}
use Rattle.term_enums.specs.declared.Variance.TheVariants.{Invariant}
use Rattle.relation_terms.specs.declared.terms.keys.TyKey.{TyKey}
use Rattle.relation_terms.specs.declared.terms.keys.RegionKey.{RegionKey}
use Rattle.relation_terms.specs.declared.terms.keys.ConstKey.{ConstKey}
use Rattle.relation_terms.specs.declared.terms.keys.BoundVarsKey.{BoundVarsKey}
use Rattle.relation_terms.specs.Heads.{VarKind, type_var, int_var, float_var, const_var, region_var, variable}
use Rattle.relation_terms.specs.Trees.{Tree, leaf}
use Rattle.relation_terms.specs.Meaning.{Meaning}
use Rattle.relation_folds.specs.declared.error.TypeError.TheVariants.{CyclicTy, CyclicConst}
use Rattle.relation_folds.specs.declared.error.RelateFault.{RelateFault}
use Rattle.term_enums.specs.declared.StructurallyRelateAliases.{StructurallyRelateAliases}
use Rattle.relation_semantics.specs.Binders.{kinds_in, MakesFirst}
use Rattle.relation_semantics.specs.Binders.{binder_tree, EntersAs, EntersBinder, InstantiatesAs, InstantiatesWithInfer}
use Rattle.relation_semantics.specs.ContextCalls.{Instantiated}
use Rattle.relation_semantics.specs.Steps.{Equates, InstantiatesNumber, MakesVariable, AddsConstraint}
use Rattle.relation_semantics.specs.Stores.{Store, equal_constraint, outlives_constraint}
use Rattle.relation_reference.specs.declared.context.variables.RefCtxt.{RefCtxt}
use Rattle.variable_tables.specs.declared.inner.InferCtxtInner.{InferCtxtInner}
use Rattle.relation_reference.specs.RefCtxt.{store_in, context_in, resolved_in, ty_term, const_term}
use Rattle.variable_classes.specs.Roots.{root_in}
use Rattle.variable_tables.specs.Tables.{store_of}

-- The key of the variable that comes next in a table was answered.
abbrev pub MeansNext : {K V E : Type 0} → (K → Tree) → VarKind → List V → Result K E → Type 0
MeansNext tree k vs result = IfOk result (λ x. tree x ≡ leaf (variable k (length vs)))

-- The next type variable was marked as related to another.
abbrev pub MarksNext : {Key : Type 0} → InferCtxtInner Key → InferCtxtInner Key → ℕ → Type 0
MarksNext before after n =
    root_in after.sub_roots.items (length before.types.items) ≡ root_in before.sub_roots.items n

module _ {I Key Id Name Span : Type 0} (meaning : I → Meaning Key Id Name)
    (before after : RefCtxt I Key Id Name Span) where
  -- The store that the tables record afterwards, by what keys meant before.
  abbrev pub store_after : Store
  store_after = store_of (meaning before.interner) after.inner

  -- Two variables of a kind were made one, the smaller number being the root.
  abbrev pub EquatesVids : VarKind → ℕ → ℕ → Type 0
  EquatesVids k a b = Equates (store_in meaning before) store_after k (max a b) (min a b)

  -- A number variable was bound to a type.
  abbrev pub BindsVid : VarKind → ℕ → Tree → Type 0
  BindsVid k n t = InstantiatesNumber (store_in meaning before) store_after k n t

  -- It was recorded that two regions are equal, or that the first outlives the second.
  abbrev pub AddsEqual : RegionKey Key → RegionKey Key → Type 0
  AddsEqual a b = AddsConstraint (store_in meaning before) store_after
      (equal_constraint ((meaning before.interner).region a) ((meaning before.interner).region b))

  abbrev pub AddsOutlives : RegionKey Key → RegionKey Key → Type 0
  AddsOutlives a b = AddsConstraint (store_in meaning before) store_after
      (outlives_constraint ((meaning before.interner).region a) ((meaning before.interner).region b))

  -- The next variable of a kind was made, in a universe: for types, integers, floats, constants and regions.
  abbrev pub MakesTyVar : ℕ → Type 0
  MakesTyVar u =
      MakesVariable (store_in meaning before) (store_in meaning after) type_var (length before.inner.types.items) u

  abbrev pub MakesIntVar : ℕ → Type 0
  MakesIntVar u =
      MakesVariable (store_in meaning before) (store_in meaning after) int_var (length before.inner.ints.items) u

  abbrev pub MakesFloatVar : ℕ → Type 0
  MakesFloatVar u =
      MakesVariable (store_in meaning before) (store_in meaning after) float_var (length before.inner.floats.items) u

  abbrev pub MakesConstVar : ℕ → Type 0
  MakesConstVar u =
      MakesVariable (store_in meaning before) (store_in meaning after) const_var (length before.inner.consts.items) u

  abbrev pub MakesRegionVar : ℕ → Type 0
  MakesRegionVar u =
      MakesVariable (store_in meaning before) (store_in meaning after) region_var (length before.inner.regions.items) u

  -- Variables of the current universe were made for the first places of a list, which stay unbound.
  abbrev pub MakesFirstNow : BoundVarsKey Key → Type 0
  MakesFirstNow k = MakesFirst (before.inner.universe).0 (store_in meaning before)
      (kinds_in ((meaning before.interner).bound_vars k)) (store_in meaning after)

  -- What is answered is what a term comes to at every depth.
  abbrev pub IsResolved : {K : Type 0} → (Meaning Key Id Name → K → Tree) → K → K → Type 0
  IsResolved tree t x = tree (meaning after.interner) x ≡ resolved_in meaning before (tree (meaning before.interner) t)

  -- What is answered is a binder's body as it was entered, or instantiated.
  abbrev pub EntersBody : {K : Type 0} → (Meaning Key Id Name → K → Tree) → Binder Key K → K → Type 0
  EntersBody tree b x = EntersAs (context_in meaning before) (context_in meaning after)
      (binder_tree tree (meaning before.interner) b) (tree (meaning after.interner) x)

  abbrev pub InstantiatesBody : {K : Type 0} → (Meaning Key Id Name → K → Tree) → Binder Key K → K → Type 0
  InstantiatesBody tree b x = InstantiatesAs (context_in meaning before) (context_in meaning after)
      (binder_tree tree (meaning before.interner) b) (tree (meaning after.interner) x)

  -- A binder was entered, or instantiated, and its body answered; or a growth was refused.
  abbrev pub EntersValue : {K F : Type 0} → (Meaning Key Id Name → K → Tree) → Binder Key K → Result K F → Type 0
  EntersValue tree b result = EntersBinder (context_in meaning before) (context_in meaning after) tree
      (binder_tree tree (context_in meaning before).meaning b) result

  abbrev pub InstantiatesValue : {K F : Type 0} → (Meaning Key Id Name → K → Tree) → Binder Key K → Result K F → Type 0
  InstantiatesValue tree b result = InstantiatesWithInfer (context_in meaning before) (context_in meaning after) tree
      (binder_tree tree (context_in meaning before).meaning b) result

  -- What binding a type variable, at a variance, to a type answers. The same of a constant variable and a constant.
  abbrev pub InstantiatedTy : StructurallyRelateAliases → Variance → ℕ → TyKey Key →
      Result (TyKey Key) (RelateFault Key Id Name) → Type 0
  InstantiatedTy g v n t result = Instantiated (context_in meaning before) (context_in meaning after) g v type_var n
      (ty_term meaning before t) (λ m. m.ty) CyclicTy result

  abbrev pub InstantiatedConst : StructurallyRelateAliases → ℕ → ConstKey Key →
      Result (ConstKey Key) (RelateFault Key Id Name) → Type 0
  InstantiatedConst g n t result = Instantiated (context_in meaning before) (context_in meaning after) g Invariant
      const_var n (const_term meaning before t) (λ m. m.const_) CyclicConst result
