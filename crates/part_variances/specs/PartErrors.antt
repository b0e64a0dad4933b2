-- What an error of two parts is as the error of the two terms that they are parts of.
use Rattle.std.specs.Prelude.{◌≡◌, ◌⊎◌, ℕ, suc, Option, Some, None, Result, Ok, Err}
use Rattle.relation_terms.specs.Heads.{array, value, inputs, signature}
use Rattle.relation_terms.specs.Trees.{Tree, node, cons, count}
use Rattle.relation_terms.specs.declared.terms.keys.ConstKey.{ConstKey}
use Rattle.relation_terms.specs.declared.terms.generic_arg.GenericArgKind.{GenericArgKind}
use Rattle.relation_terms.specs.declared.terms.generic_arg.GenericArgKind.TheVariants.{Const}
use Rattle.relation_folds.specs.declared.error.ExpectedFound.{ExpectedFound}
use Rattle.relation_folds.specs.declared.error.TypeError.{TypeError}
use Rattle.relation_folds.specs.declared.error.TypeError.TheVariants.{ArraySize, ConstMismatch}
use Rattle.relation_folds.specs.declared.error.RelateFault.{RelateFault}
use Rattle.relation_folds.specs.declared.error.RelateFault.TheVariants.{Unrelated}
use Rattle.relation_semantics.specs.Errors.{IsPlaced, NamesNoPlace}

-- The fault of a part is the fault of the type that it is a part of: all but constants that differ as the lengths of
-- two arrays.
abbrev pub IsNoLength : {Key : Type 0} → Tree → GenericArgKind Key → GenericArgKind Key → Type 0
IsNoLength (node array ts) (Const c) (Const d) = ⊥
IsNoLength t x y = Unit {0}

abbrev pub IsPassedOn : {Key Id Name : Type 0} → RelateFault Key Id Name → Tree → GenericArgKind Key →
    GenericArgKind Key → Type 0
IsPassedOn (Unrelated (ConstMismatch p)) t x y = IsNoLength t x y
IsPassedOn f t x y = Unit {0}

-- What a fault of two parts of types is as the types' own.
pub data IsFaultOfTy {Key Id Name : Type 0} (t : Tree) (x y : GenericArgKind Key) (f r : RelateFault Key Id Name)
    : Type 0 where
  passed : r ≡ f → IsPassedOn f t x y → IsFaultOfTy t x y f r
  sized : {ts : Tree} (c d : ConstKey Key) (p : ExpectedFound (ConstKey Key)) → t ≡ node array ts → x ≡ Const c →
      y ≡ Const d → f ≡ Unrelated (ConstMismatch p) → r ≡ Unrelated (ArraySize (record { expected = c; found = d })) →
      IsFaultOfTy t x y f r

-- The fault of a part of a constant is the constant's, but that terms that differ make the whole values differ.
abbrev pub IsPassedOnConst : {Key Id Name : Type 0} → RelateFault Key Id Name → Tree → Type 0
IsPassedOnConst (Unrelated e) (node value ts) = ⊥
IsPassedOnConst f t = Unit {0}

-- What a fault of two parts of constants is as the constants' own.
pub data IsFaultOfConst {Key Id Name : Type 0} (t : Tree) (c d : ConstKey Key) (f r : RelateFault Key Id Name)
    : Type 0 where
  passed_const : r ≡ f → IsPassedOnConst f t → IsFaultOfConst t c d f r
  whole : {ts : Tree} (e : TypeError Key Id Name) → t ≡ node value ts → f ≡ Unrelated e →
      r ≡ Unrelated (ConstMismatch (record { expected = c; found = d })) → IsFaultOfConst t c d f r

-- The place that an error of two parts names: of a signature's inputs their own, of its output the number of inputs.
abbrev pub named_place : Tree → ℕ → Option ℕ
named_place (node inputs ts) i = Some i
named_place (node (signature x s k) (cons (node inputs ts) us)) (suc i) = Some (count ts)
named_place t i = None

-- What a fault of two parts is as the whole's own, where their errors name that place, or none: an error that can name
-- a place names it.
pub data IsFaultOfPart {Key Id Name : Type 0} (place : Option ℕ) (f r : RelateFault Key Id Name) : Type 0 where
  no_place : r ≡ f → place ≡ None → IsFaultOfPart place f r
  no_error : r ≡ f → ((e : TypeError Key Id Name) → f ≡ Unrelated e → ⊥) → IsFaultOfPart place f r
  unplaced : (e : TypeError Key Id Name) → f ≡ Unrelated e → NamesNoPlace e → r ≡ f → IsFaultOfPart place f r
  placed : {j : ℕ} (e d : TypeError Key Id Name) → place ≡ Some j → f ≡ Unrelated e → IsPlaced j e d →
      r ≡ Unrelated d → IsFaultOfPart place f r

-- An error that can name a place does; another is as it was.
abbrev pub IsPlacedOrNot : {Key Id Name : Type 0} → ℕ → TypeError Key Id Name → TypeError Key Id Name → Type 0
IsPlacedOrNot j e d = IsPlaced j e d ⊎ (NamesNoPlace e × (d ≡ e))

-- What two types answer by what two of their parts have answered.
abbrev pub IsResultOfTy : {A Key Id Name : Type 0} → Tree → GenericArgKind Key → GenericArgKind Key →
    Result A (RelateFault Key Id Name) → Result A (RelateFault Key Id Name) → Type 0
IsResultOfTy t x y (Ok u) (Ok v) = v ≡ u
IsResultOfTy t x y (Err f) (Err r) = IsFaultOfTy t x y f r
IsResultOfTy t x y a b = ⊥

-- What two constants answer by what two of their parts have answered.
abbrev pub IsResultOfConst : {A Key Id Name : Type 0} → Tree → ConstKey Key → ConstKey Key →
    Result A (RelateFault Key Id Name) → Result A (RelateFault Key Id Name) → Type 0
IsResultOfConst t c d (Ok u) (Ok v) = v ≡ u
IsResultOfConst t c d (Err f) (Err r) = IsFaultOfConst t c d f r
IsResultOfConst t c d a b = ⊥

-- What two terms answer by what two of their parts have answered, whose errors name that place, or none.
abbrev pub IsResultOfPart : {A Key Id Name : Type 0} → Option ℕ → Result A (RelateFault Key Id Name) →
    Result A (RelateFault Key Id Name) → Type 0
IsResultOfPart place (Ok u) (Ok v) = v ≡ u
IsResultOfPart place (Err f) (Err r) = IsFaultOfPart place f r
IsResultOfPart place a b = ⊥
