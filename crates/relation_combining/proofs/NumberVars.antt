-- Number variables by their forms, and the types that they are bound to.
use Rattle.std.proofs.Common.{◌≡◌, ◌≢◌, ℕ, Bool, true, false, not, IsTrue, Option, Some, None, IfSome, IfNone, refl, sym, ap, ◌∙◌, subst}
use Rattle.std.proofs.lemmas.Bool.{false≢true}
use Rattle.relation_terms.specs.declared.terms.flags.TypeFlags.{TypeFlags}
use Rattle.relation_terms.specs.Flags.{flags_of, has_non_region_infer, is_non_region_variable}
use Rattle.relation_terms.specs.Heads.{Leaf, type_sort, VarKind, type_var, int_var, float_var, const_var, region_var, variable}
use Rattle.relation_terms.specs.Trees.{Tree, leaf, IsTerm}
use Rattle.relation_terms.specs.Meaning.{Meaning, kind_tree, infer_tree}
use Rattle.relation_terms.specs.declared.terms.ty_kind.TyKind.{TyKind}
use Rattle.relation_terms.specs.declared.terms.ty_kind.TyKind.TheVariants.{Infer, Int, Uint, Float}
use Rattle.relation_terms.specs.declared.terms.ty_kind.InferTy.{InferTy}
use Rattle.relation_terms.specs.declared.terms.ty_kind.InferTy.TheVariants.{TyVar, IntVar, FloatVar, FreshTy, FreshIntTy, FreshFloatTy}
use Rattle.relation_terms.specs.declared.terms.ty_kind.IntVarValue.{IntVarValue}
use Rattle.relation_terms.specs.declared.terms.ty_kind.IntVarValue.TheVariants.{Unknown, IntType, UintType}
use Rattle.relation_terms.specs.declared.terms.ty_kind.FloatVarValue.{FloatVarValue}
use Rattle.relation_terms.specs.declared.terms.ty_kind.FloatVarValue.TheVariants.{Unknown as UnknownFloat, Known}
use Rattle.relation_terms.specs.declared.terms.numbers.IntVid.{IntVid}
use Rattle.relation_terms.specs.declared.terms.numbers.FloatVid.{FloatVid}
use Rattle.term_enums.specs.declared.IntTy.{IntTy}
use Rattle.term_enums.specs.declared.UintTy.{UintTy}
use Rattle.term_enums.specs.declared.FloatTy.{FloatTy}
use Rattle.relation_semantics.specs.Relation.{StaysWithin}
use Rattle.relation_semantics.specs.Steps.{IsNumberFor, IsNumberKind}
use Rattle.relation_semantics.specs.Relation.{StaysWithin}
use Rattle.relation_semantics.specs.Parts.{IsRigid}
use Rattle.relation_semantics.proofs.Numbers.{type_is_formed}
use Rattle.relation_semantics.specs.NumberValues.{int_value_tree, float_value_tree}
use Rattle.relation_combining.specs.declared.number_vars.NumberVid.{NumberVid}
use Rattle.relation_combining.specs.declared.number_vars.NumberVid.TheVariants as vid
use Rattle.relation_combining.specs.NumberVars.{number_kind, infer_of, number_tree, IsNoNumberVar}
use Rattle.relation_combining.specs.NumberVars.{IsIntValue, IsFloatValue}

-- A type that is no type, integer or float variable is of a form.
pub type_formed : (t : Tree) → IsTerm type_sort t → StaysWithin 0 t →
    ((n : ℕ) → t ≢ leaf (variable type_var n)) → ((n : ℕ) → t ≢ leaf (variable int_var n)) →
    ((n : ℕ) → t ≢ leaf (variable float_var n)) → IsRigid t
type_formed t s w a i f = type_is_formed t s w apart
  where
    apart : (k : VarKind) (n : ℕ) → t ≢ leaf (variable k n)
    apart type_var n e = a n e
    apart int_var n e = i n e
    apart float_var n e = f n e
    apart const_var n e = subst (IsTerm type_sort) e s
    apart region_var n e = subst (IsTerm type_sort) e s

pub not_true : (b : Bool) → IsTrue (not b) → b ≡ false
not_true false h = refl
not_true true h = absurd (false≢true h)

-- So is a type in which no variable but of regions stands.
pub free_formed : (t : Tree) (f : TypeFlags) → f ≡ flags_of t → IsTrue (not f.has_non_region_infer) →
    IsTerm type_sort t → StaysWithin 0 t → IsRigid t
free_formed t f e without s w = type_formed t s w (λ n. apart (variable type_var n) refl) (λ n. apart (variable int_var n) refl)
    (λ n. apart (variable float_var n) refl)
  where
    free : has_non_region_infer t ≡ false
    free = sym (ap (λ g. g.has_non_region_infer) e) ∙ not_true f.has_non_region_infer without

    apart : (l : Leaf) → is_non_region_variable l ≡ true → t ≢ leaf l
    apart l y o = false≢true (sym free ∙ ap has_non_region_infer o ∙ y)

pub is_number : (v : NumberVid) → IsNumberKind (number_kind v)
is_number (vid.Int v) = tt
is_number (vid.Float v) = tt

pub none_of_kind : (v : NumberVid) (t : Tree) → IsNoNumberVar t → (n : ℕ) → t ≢ leaf (variable (number_kind v) n)
none_of_kind (vid.Int v) t h n e = h.0 n e
none_of_kind (vid.Float v) t h n e = h.1 n e

infer_number : (v : NumberVid) → infer_tree (infer_of v) ≡ number_tree v
infer_number (vid.Int v) = refl
infer_number (vid.Float v) = refl

infer_int : (i : InferTy) (n : ℕ) → ((v : IntVid) → i ≡ IntVar v → ⊥) → infer_tree i ≢ leaf (variable int_var n)
infer_int (TyVar v) n h e = cc
infer_int (IntVar v) n h e = h v refl
infer_int (FloatVar v) n h e = cc
infer_int (FreshTy k) n h e = cc
infer_int (FreshIntTy k) n h e = cc
infer_int (FreshFloatTy k) n h e = cc

infer_float : (i : InferTy) (n : ℕ) → ((v : FloatVid) → i ≡ FloatVar v → ⊥) → infer_tree i ≢ leaf (variable float_var n)
infer_float (TyVar v) n h e = cc
infer_float (IntVar v) n h e = cc
infer_float (FloatVar v) n h e = h v refl
infer_float (FreshTy k) n h e = cc
infer_float (FreshIntTy k) n h e = cc
infer_float (FreshFloatTy k) n h e = cc

no_int_type : (i : InferTy) → IsNumberFor int_var (infer_tree i) → ⊥
no_int_type (TyVar v) h = h
no_int_type (IntVar v) h = h
no_int_type (FloatVar v) h = h
no_int_type (FreshTy k) h = h
no_int_type (FreshIntTy k) h = h
no_int_type (FreshFloatTy k) h = h

no_float_type : (i : InferTy) → IsNumberFor float_var (infer_tree i) → ⊥
no_float_type (TyVar v) h = h
no_float_type (IntVar v) h = h
no_float_type (FloatVar v) h = h
no_float_type (FreshTy k) h = h
no_float_type (FreshIntTy k) h = h
no_float_type (FreshFloatTy k) h = h

module _ {Key Id Name : Type 0} (m : Meaning Key Id Name) where
  kind_int : (k : TyKind Key Id Name) (n : ℕ) → ((v : IntVid) → k ≡ Infer (IntVar v) → ⊥) →
      kind_tree m k ≢ leaf (variable int_var n)
  kind_int (Infer i) n h e = infer_int i n (λ v q. h v (ap Infer q)) e
  kind_int k n h e = cc

  kind_float : (k : TyKind Key Id Name) (n : ℕ) → ((v : FloatVid) → k ≡ Infer (FloatVar v) → ⊥) →
      kind_tree m k ≢ leaf (variable float_var n)
  kind_float (Infer i) n h e = infer_float i n (λ v q. h v (ap Infer q)) e
  kind_float k n h e = cc

  -- What a type is by whether its form is a number variable.
  module _ (k : TyKind Key Id Name) (t : Tree) (e : t ≡ kind_tree m k) where
    pub some_number : (o : Option NumberVid) → IfSome o (λ v. k ≡ Infer (infer_of v)) →
        IfSome o (λ v. t ≡ number_tree v)
    some_number (Some v) h = e ∙ ap (kind_tree m) h ∙ infer_number v
    some_number None h = h

    pub no_number_var : (o : Option NumberVid) → IfNone o ((v : IntVid) → k ≡ Infer (IntVar v) → ⊥) →
        IfNone o ((v : FloatVid) → k ≡ Infer (FloatVar v) → ⊥) → IfNone o (IsNoNumberVar t)
    no_number_var (Some v) a b = a
    no_number_var None a b = (λ n q. kind_int k n a (sym e ∙ q), λ n q. kind_float k n b (sym e ∙ q))

    -- What a type is by the value that its form gives number variables.
    pub int_is : (v : IntVarValue) → IsIntValue k v → int_value_tree v ≡ t
    int_is Unknown h = absurd h
    int_is (IntType w) h = sym (e ∙ ap (kind_tree m) h)
    int_is (UintType w) h = sym (e ∙ ap (kind_tree m) h)

    pub float_is : (v : FloatVarValue) → IsFloatValue k v → float_value_tree v ≡ t
    float_is UnknownFloat h = absurd h
    float_is (Known w) h = sym (e ∙ ap (kind_tree m) h)

    pub no_int : ((w : IntTy) → k ≡ Int w → ⊥) → ((w : UintTy) → k ≡ Uint w → ⊥) → IsNumberFor int_var t → ⊥
    no_int a b h = int_alone k a b (subst (IsNumberFor int_var) e h)
      where
        int_alone : (k : TyKind Key Id Name) → ((w : IntTy) → k ≡ Int w → ⊥) → ((w : UintTy) → k ≡ Uint w → ⊥) →
            IsNumberFor int_var (kind_tree m k) → ⊥
        int_alone (Int w) a b h = a w refl
        int_alone (Uint w) a b h = b w refl
        int_alone (Infer i) a b h = no_int_type i h
        int_alone k a b h = h

    pub no_float : ((w : FloatTy) → k ≡ Float w → ⊥) → IsNumberFor float_var t → ⊥
    no_float a h = float_alone k a (subst (IsNumberFor float_var) e h)
      where
        float_alone : (k : TyKind Key Id Name) → ((w : FloatTy) → k ≡ Float w → ⊥) →
            IsNumberFor float_var (kind_tree m k) → ⊥
        float_alone (Float w) a h = a w refl
        float_alone (Infer i) a h = no_float_type i h
        float_alone k a h = h

pub int_known : {Key Id Name : Type 0} (k : TyKind Key Id Name) (v : IntVarValue) → IsIntValue k v → v ≢ Unknown
int_known k v h e = subst (IsIntValue k) e h

pub float_known : {Key Id Name : Type 0} (k : TyKind Key Id Name) (v : FloatVarValue) → IsFloatValue k v →
    v ≢ UnknownFloat
float_known k v h e = subst (IsFloatValue k) e h
