-- Integer and float variables together.
use Rattle.std.specs.Prelude.{◌≡◌, ◌≢◌, ℕ}
use Rattle.relation_terms.specs.declared.terms.keys.TyKey.{TyKey}
use Rattle.relation_terms.specs.Heads.{VarKind, int_var, float_var, variable}
use Rattle.relation_terms.specs.Trees.{Tree, leaf}
use Rattle.relation_terms.specs.declared.terms.ty_kind.TyKind.{TyKind}
use Rattle.relation_terms.specs.declared.terms.ty_kind.TyKind.TheVariants.{Int, Uint, Float}
use Rattle.relation_terms.specs.declared.terms.ty_kind.InferTy.{InferTy}
use Rattle.relation_terms.specs.declared.terms.ty_kind.InferTy.TheVariants.{IntVar, FloatVar}
use Rattle.relation_terms.specs.declared.terms.ty_kind.IntVarValue.{IntVarValue}
use Rattle.relation_terms.specs.declared.terms.ty_kind.IntVarValue.TheVariants.{Unknown, IntType, UintType}
use Rattle.relation_terms.specs.declared.terms.ty_kind.FloatVarValue.{FloatVarValue}
use Rattle.relation_terms.specs.declared.terms.ty_kind.FloatVarValue.TheVariants.{Unknown as UnknownFloat, Known}
use Rattle.relation_semantics.specs.Contexts.{Context}
use Rattle.relation_semantics.specs.ContextCalls.{EquatesTwo, BindsNumber}
use Rattle.relation_semantics.specs.Steps.{IsNumberFor}
use Rattle.relation_combining.specs.declared.number_vars.NumberVid.{NumberVid}
use Rattle.relation_combining.specs.declared.number_vars.NumberVid.TheVariants as vid

-- The kind of a number variable, its number, its form, and its tree.
abbrev pub number_kind : NumberVid → VarKind
number_kind (vid.Int v) = int_var
number_kind (vid.Float v) = float_var

abbrev pub number_of : NumberVid → ℕ
number_of (vid.Int v) = v.0
number_of (vid.Float v) = v.0

abbrev pub infer_of : NumberVid → InferTy
infer_of (vid.Int v) = IntVar v
infer_of (vid.Float v) = FloatVar v

abbrev pub number_tree : NumberVid → Tree
number_tree v = leaf (variable (number_kind v) (number_of v))

-- No number variable.
abbrev pub IsNoNumberVar : Tree → Type 0
IsNoNumberVar t = ((n : ℕ) → t ≢ leaf (variable int_var n)) × ((n : ℕ) → t ≢ leaf (variable float_var n))

-- The value that a form gives integer variables, or float variables.
abbrev pub IsIntValue : {Key Id Name : Type 0} → TyKind Key Id Name → IntVarValue → Type 0
IsIntValue k Unknown = ⊥
IsIntValue k (IntType w) = k ≡ Int w
IsIntValue k (UintType w) = k ≡ Uint w

abbrev pub IsFloatValue : {Key Id Name : Type 0} → TyKind Key Id Name → FloatVarValue → Type 0
IsFloatValue k UnknownFloat = ⊥
IsFloatValue k (Known w) = k ≡ Float w

module _ {Key Id Name : Type 0} where
  -- A number variable may stand for a type.
  abbrev pub FitsNumber : Context Key Id Name → NumberVid → TyKey Key → Type 0
  FitsNumber c v t = IsNumberFor (number_kind v) ((c.meaning).ty t)

  -- Two number variables, of the kind of the first, were made one; and one was bound to a type.
  abbrev pub EquatesNumbers : Context Key Id Name → Context Key Id Name → NumberVid → NumberVid → Type 0
  EquatesNumbers c d a b = EquatesTwo c d (number_kind a) (number_of a) (number_of b)

  abbrev pub BindsNumberTo : Context Key Id Name → Context Key Id Name → NumberVid → TyKey Key → Type 0
  BindsNumberTo c d v t = BindsNumber c d (number_kind v) (number_of v) ((c.meaning).ty t)
