-- What is said of an item by how its kind was made.
use Rattle.std.proofs.Common.{◌≡◌, ◌⊎◌, inl, inr, List, Some, None, refl, ap}
use Rattle.term_enums.specs.declared.Variance.{Variance}
use Rattle.term_enums.specs.declared.SolverTraitLangItem.{SolverTraitLangItem}
use Rattle.term_enums.specs.declared.SolverTraitLangItem.TheVariants.{Sized}
use Rattle.relation_terms.specs.declared.terms.ids.TraitId.{TraitId}
use Rattle.reference_interner.specs.declared.keys.ItemId.{ItemId}
use Rattle.reference_interner.specs.declared.items.Item.{Item}
use Rattle.reference_interner.specs.declared.items.DefKind.{DefKind}
use Rattle.reference_interner.specs.declared.items.DefKind.TheVariants.{Adt, Fn, Closure, CoroutineClosure, Coroutine}
use Rattle.reference_interner.specs.declared.items.DefKind.TheVariants.{Foreign, Trait, AssocTy, AssocConst, OpaqueTy}
use Rattle.reference_interner.specs.declared.items.DefKind.TheVariants.{InherentAssocTy, InherentAssocConst}
use Rattle.reference_interner.specs.declared.items.DefKind.TheVariants.{FreeTyAlias, FreeConstAlias, AnonConst}
use Rattle.reference_interner.specs.Items.{alias_variances_of, parent_of, is_lang}

-- An alias type of what is no opaque type has no variances.
pub no_alias_variances : (k : DefKind) (vs : List Variance) → (k ≡ OpaqueTy → ⊥) → alias_variances_of k vs ≡ None
no_alias_variances OpaqueTy vs u = absurd (u refl)
no_alias_variances Adt vs u = refl
no_alias_variances Fn vs u = refl
no_alias_variances Closure vs u = refl
no_alias_variances CoroutineClosure vs u = refl
no_alias_variances Coroutine vs u = refl
no_alias_variances Foreign vs u = refl
no_alias_variances Trait vs u = refl
no_alias_variances (AssocTy t) vs u = refl
no_alias_variances (AssocConst t) vs u = refl
no_alias_variances InherentAssocTy vs u = refl
no_alias_variances InherentAssocConst vs u = refl
no_alias_variances FreeTyAlias vs u = refl
no_alias_variances FreeConstAlias vs u = refl
no_alias_variances AnonConst vs u = refl

-- What is no type and no constant of a trait is declared by none.
pub no_parent : (k : DefKind) → ((t : TraitId ItemId) → k ≡ AssocTy t → ⊥) →
    ((t : TraitId ItemId) → k ≡ AssocConst t → ⊥) → parent_of k ≡ None
no_parent (AssocTy t) u v = absurd (u t refl)
no_parent (AssocConst t) u v = absurd (v t refl)
no_parent Adt u v = refl
no_parent Fn u v = refl
no_parent Closure u v = refl
no_parent CoroutineClosure u v = refl
no_parent Coroutine u v = refl
no_parent Foreign u v = refl
no_parent Trait u v = refl
no_parent InherentAssocTy u v = refl
no_parent InherentAssocConst u v = refl
no_parent OpaqueTy u v = refl
no_parent FreeTyAlias u v = refl
no_parent FreeConstAlias u v = refl
no_parent AnonConst u v = refl

-- A type or a constant of a trait is declared by that trait.
pub parent_known : (k : DefKind) (t : TraitId ItemId) → (k ≡ AssocTy t) ⊎ (k ≡ AssocConst t) → parent_of k ≡ Some (t.0).0
parent_known k t h = elim h [
  | inl e ↦ ap parent_of e
  | inr e ↦ ap parent_of e
]

-- The only trait that is told is the one that the language knows as `Sized`.
pub lang_sized : (i : SolverTraitLangItem) (x : Item) → x.is_sized ≡ is_lang i x
lang_sized Sized x = refl
