-- What a visitor goes over that enters only what is fixed.
use Rattle.std.proofs.Common.{◌≡◌, ◌∙◌, ℕ, Bool, false, true, cond, refl, sym, ap, List, Option, Some, None}
use Rattle.relation_terms.specs.Heads.{type_var, int_var, float_var, const_var, region_var}
use Rattle.relation_terms.specs.Heads.{BoundKind, Leaf, variable, bound, placeholder, atom, unknown, Atom, bool_type, char_type}
use Rattle.relation_terms.specs.Heads.{str_type, never_type, type_error, int_type, uint_type, float_type, foreign}
use Rattle.relation_terms.specs.Heads.{fresh_type, fresh_int, fresh_float, type_param, static_region, early_region}
use Rattle.relation_terms.specs.Heads.{const_error, fresh_const, const_param, value_leaf, not_null_pattern}
use Rattle.relation_terms.specs.Heads.{existential_auto, unstable_feature, ambiguous}
use Rattle.relation_terms.specs.Trees.{Tree, leaf, node, bind, nil, cons, Leaves}
use Rattle.relation_terms.specs.declared.terms.ty_kind.TyKind.{TyKind}
use Rattle.relation_terms.specs.declared.terms.ty_kind.TyKind.TheVariants.{Infer, Param}
use Rattle.relation_terms.specs.declared.terms.ty_kind.InferTy.{InferTy}
use Rattle.relation_terms.specs.declared.terms.ty_kind.InferTy.TheVariants.{TyVar, IntVar, FloatVar}
use Rattle.relation_terms.specs.declared.terms.ty_kind.InferTy.TheVariants.{FreshTy, FreshIntTy, FreshFloatTy}
use Rattle.relation_terms.specs.declared.terms.ty_kind.ParamTy.{ParamTy}
use Rattle.relation_terms.specs.declared.terms.region_kind.RegionKind.{RegionKind}
use Rattle.relation_terms.specs.declared.terms.region_kind.RegionKind.TheVariants.{ReVar}
use Rattle.relation_terms.specs.declared.terms.numbers.RegionVid.{RegionVid}
use Rattle.relation_terms.specs.declared.terms.const_kind.ConstKind.{ConstKind}
use Rattle.relation_terms.specs.declared.terms.const_kind.ConstKind.TheVariants.{Infer as ConstInfer, Param as ConstParam}
use Rattle.relation_terms.specs.declared.terms.const_kind.InferConst.{InferConst}
use Rattle.relation_terms.specs.declared.terms.const_kind.InferConst.TheVariants.{Var, Fresh}
use Rattle.relation_terms.specs.declared.terms.const_kind.ParamConst.{ParamConst}
use Rattle.relation_folds.specs.declared.visit.Visit.TheVariants.{Enter, Stop}
use Rattle.relation_folds.specs.Visits.{is_visited, Flow, Walks}
use Rattle.relation_folds.proofs.Testing.{WentOn, walked_all}
use Rattle.fast_reject.specs.Instances.{IsNoVariable, IsNamed, AgreeOnNames}
use Rattle.relation_semantics.proofs.Trees.{Leaves_map}
use Rattle.relation_terms.specs.Meaning.{Meaning, under, infer_tree, infer_const_tree, kind_tree, region_tree, const_tree}
use Rattle.text_users.specs.Fixed.{is_fixed_atom, IsFixedLeaf, is_fixed, EntersFixed}

-- What no visitor is asked about is fixed.
passed_atom : (x : Atom) → is_visited (leaf (atom x)) ≡ false → is_fixed_atom x ≡ true
passed_atom bool_type e = refl
passed_atom char_type e = refl
passed_atom str_type e = refl
passed_atom never_type e = refl
passed_atom type_error e = refl
passed_atom (int_type w) e = refl
passed_atom (uint_type w) e = refl
passed_atom (float_type w) e = refl
passed_atom (foreign n) e = refl
passed_atom (fresh_type n) e = absurd (cc)
passed_atom (fresh_int n) e = absurd (cc)
passed_atom (fresh_float n) e = absurd (cc)
passed_atom (type_param i n) e = absurd (cc)
passed_atom static_region e = refl
passed_atom (early_region i n) e = refl
passed_atom const_error e = refl
passed_atom (fresh_const n) e = absurd (cc)
passed_atom (const_param i n) e = absurd (cc)
passed_atom (value_leaf i n) e = refl
passed_atom not_null_pattern e = refl
passed_atom (existential_auto n) e = refl
passed_atom (unstable_feature n) e = refl
passed_atom ambiguous e = refl

passed_fixed : (l : Leaf) → is_visited (leaf l) ≡ false → IsFixedLeaf l
passed_fixed (variable type_var n) e = absurd (cc)
passed_fixed (variable int_var n) e = absurd (cc)
passed_fixed (variable float_var n) e = absurd (cc)
passed_fixed (variable const_var n) e = absurd (cc)
passed_fixed (variable region_var n) e = absurd (cc)
passed_fixed (bound k d i) e = refl
passed_fixed (placeholder k u n) e = refl
passed_fixed (atom x) e = passed_atom x e
passed_fixed unknown e = refl

-- What such a visitor has gone over to the end is fixed.
pub walked_fixed : {V : Type 0} (d : ℕ) (v w : V) (t : Tree) (r : Flow) →
    Walks (λ v d t w a. EntersFixed t a) d v t w r → WentOn r → Leaves IsFixedLeaf t
walked_fixed d v w t r o g = walked_all IsFixedLeaf is_fixed (λ l e. e) passed_fixed d v w t r o g

-- No inference variable stands in what is fixed.
no_variable : (l : Leaf) → IsFixedLeaf l → IsNoVariable l
no_variable (variable k n) h = cc
no_variable (bound k d i) h = tt
no_variable (placeholder k u n) h = tt
no_variable (atom x) h = tt
no_variable unknown h = tt

pub under_closed : (o : Option (List BoundKind)) (t : Tree) → Leaves IsFixedLeaf t → Leaves IsNoVariable (under o t)
under_closed (Some ks) t h = Leaves_map IsFixedLeaf IsNoVariable no_variable t h
under_closed None t h = tt

-- No parameter does, so that any names are those of all.
named_atom : (x : Atom) → is_fixed_atom x ≡ true → IsNamed (λ i. i) (λ i. i) (atom x)
named_atom bool_type h = tt
named_atom char_type h = tt
named_atom str_type h = tt
named_atom never_type h = tt
named_atom type_error h = tt
named_atom (int_type w) h = tt
named_atom (uint_type w) h = tt
named_atom (float_type w) h = tt
named_atom (foreign n) h = tt
named_atom (fresh_type n) h = absurd (cc)
named_atom (fresh_int n) h = absurd (cc)
named_atom (fresh_float n) h = absurd (cc)
named_atom (type_param i n) h = absurd (cc)
named_atom static_region h = tt
named_atom (early_region i n) h = tt
named_atom const_error h = tt
named_atom (fresh_const n) h = absurd (cc)
named_atom (const_param i n) h = absurd (cc)
named_atom (value_leaf i n) h = tt
named_atom not_null_pattern h = tt
named_atom (existential_auto n) h = tt
named_atom (unstable_feature n) h = tt
named_atom ambiguous h = tt

named : (l : Leaf) → IsFixedLeaf l → IsNamed (λ i. i) (λ i. i) l
named (variable k n) h = tt
named (bound k d i) h = tt
named (placeholder k u n) h = tt
named (atom x) h = named_atom x h
named unknown h = tt

pub names_agree : (a b : Tree) → Leaves IsFixedLeaf a → Leaves IsFixedLeaf b → AgreeOnNames a b
names_agree a b h k = record {
  types = λ i. i;
  consts = λ i. i;
  left = Leaves_map IsFixedLeaf (IsNamed (λ i. i) (λ i. i)) named a h;
  right = Leaves_map IsFixedLeaf (IsNamed (λ i. i) (λ i. i)) named b k;
}

-- What a visitor answers by the form that is read, whose tree is the one that it is asked about.
pub stops : (t u : Tree) → t ≡ u → is_fixed u ≡ false → EntersFixed t Stop
stops t u e f = sym (ap (λ b. cond b Enter Stop) (ap is_fixed e ∙ f))

pub enters : (t u : Tree) → t ≡ u → is_fixed u ≡ true → EntersFixed t Enter
enters t u e f = sym (ap (λ b. cond b Enter Stop) (ap is_fixed e ∙ f))

pub infer_unfixed : (i : InferTy) → is_fixed (infer_tree i) ≡ false
infer_unfixed (TyVar v) = refl
infer_unfixed (IntVar v) = refl
infer_unfixed (FloatVar v) = refl
infer_unfixed (FreshTy n) = refl
infer_unfixed (FreshIntTy n) = refl
infer_unfixed (FreshFloatTy n) = refl

pub infer_const_unfixed : (i : InferConst) → is_fixed (infer_const_tree i) ≡ false
infer_const_unfixed (Var v) = refl
infer_const_unfixed (Fresh n) = refl

module _ {Key Id Name : Type 0} (m : Meaning Key Id Name) where
  pub kind_fixed : (k : TyKind Key Id Name) → ((i : InferTy) → k ≡ Infer i → ⊥) →
      ((p : ParamTy Name) → k ≡ Param p → ⊥) → is_fixed (kind_tree m k) ≡ true
  kind_fixed (Infer i) f g = absurd (f i refl)
  kind_fixed (Param p) f g = absurd (g p refl)
  kind_fixed k f g = refl

  pub region_fixed : (k : RegionKind Name) → ((v : RegionVid) → k ≡ ReVar v → ⊥) → is_fixed (region_tree m k) ≡ true
  region_fixed (ReVar v) f = absurd (f v refl)
  region_fixed k f = refl

  pub const_fixed : (k : ConstKind Key Id Name) → ((i : InferConst) → k ≡ ConstInfer i → ⊥) →
      ((p : ParamConst Name) → k ≡ ConstParam p → ⊥) → is_fixed (const_tree m k) ≡ true
  const_fixed (ConstInfer i) f g = absurd (f i refl)
  const_fixed (ConstParam p) f g = absurd (g p refl)
  const_fixed k f g = refl
