-- Pairs of types that are not over one item.
use Rattle.std.proofs.Common.{◌≡◌, ◌⊎◌, ℕ, inl, inr, refl, sym, ap, ◌∙◌, subst, subst₂}
use Rattle.relation_terms.specs.declared.terms.ids.AdtId.{AdtId}
use Rattle.relation_terms.specs.declared.terms.ids.FunctionId.{FunctionId}
use Rattle.relation_terms.specs.declared.terms.keys.ArgsKey.{ArgsKey}
use Rattle.relation_terms.specs.declared.terms.ty_kind.InferTy.{InferTy}
use Rattle.relation_terms.specs.declared.terms.ty_kind.InferTy.TheVariants.{TyVar, IntVar, FloatVar, FreshTy, FreshIntTy, FreshFloatTy}
use Rattle.relation_terms.specs.declared.terms.ty_kind.TyKind.{TyKind}
use Rattle.relation_terms.specs.declared.terms.ty_kind.TyKind.TheVariants.{Adt, FnDef, Infer}
use Rattle.relation_terms.specs.Heads.{adt, fn_def, Leaf}
use Rattle.relation_terms.specs.Trees.{Tree, leaf, node}
use Rattle.relation_terms.specs.Meaning.{Meaning, kind_tree, infer_tree}
use Rattle.relation_semantics.specs.Errors.{IsOpaqueBeside}
use Rattle.relation_semantics.specs.Parts.{IsByParts}
use Rattle.relation_semantics.specs.Relation.{IsError, IsAlias}
use Rattle.relation_steps.specs.Arguments.{AreOverItem, adts, functions}

module _ {d : ℕ} {a b ts us : Tree} where
  -- Errors, leaves, aliases, and types that are related by their parts as parts of terms.
  pub error_not_over : AreOverItem d a b ts us → IsError a ⊎ IsError b → ⊥
  error_not_over (adts p q) (inl e) = subst IsError p e
  error_not_over (adts p q) (inr e) = subst IsError q e
  error_not_over (functions p q) (inl e) = subst IsError p e
  error_not_over (functions p q) (inr e) = subst IsError q e

  pub left_no_leaf : (l : Leaf) → AreOverItem d a b ts us → a ≡ leaf l → ⊥
  left_no_leaf l (adts p q) e = absurd cc
  left_no_leaf l (functions p q) e = absurd cc

  pub right_no_leaf : (l : Leaf) → AreOverItem d a b ts us → b ≡ leaf l → ⊥
  right_no_leaf l (adts p q) e = absurd cc
  right_no_leaf l (functions p q) e = absurd cc

  pub alias_not_over : AreOverItem d a b ts us → IsAlias a ⊎ IsAlias b → ⊥
  alias_not_over (adts p q) (inl e) = subst IsAlias p e
  alias_not_over (adts p q) (inr e) = subst IsAlias q e
  alias_not_over (functions p q) (inl e) = subst IsAlias p e
  alias_not_over (functions p q) (inr e) = subst IsAlias q e

  pub opaque_not_over : AreOverItem d a b ts us → IsOpaqueBeside a b ⊎ IsOpaqueBeside b a → ⊥
  opaque_not_over (adts p q) (inl e) = subst₂ IsOpaqueBeside p q e
  opaque_not_over (adts p q) (inr e) = subst₂ IsOpaqueBeside q p e
  opaque_not_over (functions p q) (inl e) = subst₂ IsOpaqueBeside p q e
  opaque_not_over (functions p q) (inr e) = subst₂ IsOpaqueBeside q p e

  pub by_parts_not_over : AreOverItem d a b ts us → IsByParts a → ⊥
  by_parts_not_over (adts p q) h = subst IsByParts p h
  by_parts_not_over (functions p q) h = subst IsByParts p h

-- By the forms of the two.
abbrev IsAdtType : Tree → Type 0
IsAdtType (node (adt d) ts) = Unit {0}
IsAdtType t = ⊥

abbrev IsFnType : Tree → Type 0
IsFnType (node (fn_def d) ts) = Unit {0}
IsFnType t = ⊥

infer_no_adt : (i : InferTy) → IsAdtType (infer_tree i) → ⊥
infer_no_adt (TyVar v) o = o
infer_no_adt (IntVar v) o = o
infer_no_adt (FloatVar v) o = o
infer_no_adt (FreshTy k) o = o
infer_no_adt (FreshIntTy k) o = o
infer_no_adt (FreshFloatTy k) o = o

infer_no_fn : (i : InferTy) → IsFnType (infer_tree i) → ⊥
infer_no_fn (TyVar v) o = o
infer_no_fn (IntVar v) o = o
infer_no_fn (FloatVar v) o = o
infer_no_fn (FreshTy k) o = o
infer_no_fn (FreshIntTy k) o = o
infer_no_fn (FreshFloatTy k) o = o

module _ {Key Id Name : Type 0} (m : Meaning Key Id Name) where
  abbrev NoAdt : TyKind Key Id Name → Type 0
  NoAdt k = (d : AdtId Id) (a : ArgsKey Key) → k ≡ Adt d a → ⊥

  abbrev NoFn : TyKind Key Id Name → Type 0
  NoFn k = (d : FunctionId Id) (a : ArgsKey Key) → k ≡ FnDef d a → ⊥

  no_adt : (k : TyKind Key Id Name) → NoAdt k → IsAdtType (kind_tree m k) → ⊥
  no_adt (Adt d a) n o = n d a refl
  no_adt (Infer i) n o = infer_no_adt i o
  no_adt k n o = o

  no_fn : (k : TyKind Key Id Name) → NoFn k → IsFnType (kind_tree m k) → ⊥
  no_fn (FnDef d a) n o = n d a refl
  no_fn (Infer i) n o = infer_no_fn i o
  no_fn k n o = o

  module _ {d : ℕ} {a b ts us : Tree} (k l : TyKind Key Id Name) (is_k : a ≡ kind_tree m k) (is_l : b ≡ kind_tree m l)
    where
      pub adt_beside_other : (x : AdtId Id) (y : ArgsKey Key) → k ≡ Adt x y → NoAdt l → AreOverItem d a b ts us → ⊥
      adt_beside_other x y e n (adts p q) = no_adt l n (subst IsAdtType (sym q ∙ is_l) tt)
      adt_beside_other x y e n (functions p q) = subst IsFnType (sym p ∙ is_k ∙ ap (kind_tree m) e) tt

      pub fn_beside_other : (x : FunctionId Id) (y : ArgsKey Key) → k ≡ FnDef x y → NoFn l → AreOverItem d a b ts us → ⊥
      fn_beside_other x y e n (functions p q) = no_fn l n (subst IsFnType (sym q ∙ is_l) tt)
      fn_beside_other x y e n (adts p q) = subst IsAdtType (sym p ∙ is_k ∙ ap (kind_tree m) e) tt

  pub over_none : {d : ℕ} {a b ts us : Tree} (k : TyKind Key Id Name) → a ≡ kind_tree m k → NoAdt k → NoFn k →
      AreOverItem d a b ts us → ⊥
  over_none k is n o (adts p q) = no_adt k n (subst IsAdtType (sym p ∙ is) tt)
  over_none k is n o (functions p q) = no_fn k o (subst IsFnType (sym p ∙ is) tt)
