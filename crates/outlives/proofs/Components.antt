-- The components of each form.
use Rattle.std.proofs.Common.{◌≡◌, ◌∙◌, ℕ, subst, false, cond, IsTrue, refl, sym, ap, append-nil, [], ◌∷◌}
use Rattle.relation_terms.specs.Heads.{region_kind, type_kind, const_kind, bound_kind, no_sort, leaf_sort, head_sort, type_sort, argument_sort}
use Rattle.relation_terms.specs.Heads.{type_var, int_var, float_var, const_var, region_var}
use Rattle.relation_terms.specs.Heads.{Leaf, variable, bound, placeholder, atom, unknown}
use Rattle.relation_terms.specs.Heads.{static_region, early_region, type_param, fresh_type, fresh_int, fresh_float}
use Rattle.relation_terms.specs.Heads.{Head, adt, fn_def, closure, coroutine_closure, coroutine, coroutine_witness}
use Rattle.relation_terms.specs.Heads.{array, slice, pattern_type, tuple, unsafe_binder, dynamic, fn_ptr, raw_ptr, ref, alias}
use Rattle.relation_terms.specs.Trees.{Tree, leaf, node, bind, nil, cons, known, IsList, IsTerm}
use Rattle.relation_terms.specs.Meaning.{Meaning, kind_tree, region_tree, infer_tree}
use Rattle.relation_terms.specs.Parts.{tree_sort, parts_of, part_tree, part_sort}
use Rattle.relation_terms.specs.Closures.{is_type_sort}
use Rattle.relation_terms.specs.declared.terms.ty_kind.TyKind.{TyKind}
use Rattle.relation_terms.specs.declared.terms.ty_kind.TyKind.TheVariants.{Bool, Char, Int, Uint, Float, Adt, Foreign}
use Rattle.relation_terms.specs.declared.terms.ty_kind.TyKind.TheVariants.{Str, Array, Slice, RawPtr, Ref, FnDef}
use Rattle.relation_terms.specs.declared.terms.ty_kind.TyKind.TheVariants.{Closure, CoroutineClosure, Coroutine}
use Rattle.relation_terms.specs.declared.terms.ty_kind.TyKind.TheVariants.{CoroutineWitness, Never, Tuple, Infer}
use Rattle.relation_terms.specs.declared.terms.ty_kind.TyKind.TheVariants.{FnPtr, UnsafeBinder, Dynamic}
use Rattle.relation_terms.specs.declared.terms.ty_kind.TyKind.TheVariants.{Param as TyParam, Bound as TyBound}
use Rattle.relation_terms.specs.declared.terms.ty_kind.TyKind.TheVariants.{Error as TyError, Alias, Pat}
use Rattle.relation_terms.specs.declared.terms.ty_kind.TyKind.TheVariants.{Placeholder as TyPlaceholder}
use Rattle.relation_terms.specs.declared.terms.ty_kind.ParamTy.{ParamTy}
use Rattle.relation_terms.specs.declared.terms.placeholder.Placeholder.{Placeholder}
use Rattle.relation_terms.specs.declared.terms.placeholder.BoundTy.{BoundTy}
use Rattle.relation_terms.specs.declared.terms.alias.AliasTy.{AliasTy}
use Rattle.relation_terms.specs.declared.terms.ty_kind.InferTy.{InferTy}
use Rattle.relation_terms.specs.declared.terms.ty_kind.InferTy.TheVariants.{TyVar, IntVar, FloatVar}
use Rattle.relation_terms.specs.declared.terms.ty_kind.InferTy.TheVariants.{FreshTy, FreshIntTy, FreshFloatTy}
use Rattle.relation_terms.specs.declared.terms.region_kind.RegionKind.{RegionKind}
use Rattle.relation_terms.specs.declared.terms.region_kind.RegionKind.TheVariants.{ReStatic, ReEarlyParam, ReBound}
use Rattle.relation_terms.specs.declared.terms.region_kind.RegionKind.TheVariants.{ReVar, RePlaceholder}
use Rattle.relation_terms.specs.declared.terms.region_kind.BoundRegion.{BoundRegion}
use Rattle.relation_terms.specs.declared.terms.numbers.DebruijnIndex.{DebruijnIndex}
use Rattle.relation_terms.specs.declared.terms.keys.RegionKey.{RegionKey}
use Rattle.relation_terms.specs.declared.terms.keys.TyKey.{TyKey}
use Rattle.relation_terms.specs.declared.terms.part_kind.Part.{Part}
use Rattle.relation_terms.specs.declared.terms.part_kind.Part.TheVariants.{Region, Ty, Const, ValTree, Pat as PatPart}
use Rattle.relation_terms.specs.declared.terms.part_kind.Part.TheVariants.{ValueType, Binder, Signature, Inputs}
use Rattle.relation_terms.specs.declared.terms.part_kind.Part.TheVariants.{Existential, Object}
use Rattle.relation_terms.specs.Interning.{Sorted}
use Rattle.relation_terms.proofs.Parts.{sort_known}
use Rattle.relation_folds.proofs.Visiting.{has_sort}
use Rattle.component_parts.specs.Components.{every, components, choice_of, is_alias, is_component, is_region_sort}
use Rattle.component_parts.specs.Choosing.{choice_in}

-- A leaf that is no region and no type is no component.
leaf_none : (l : Leaf) → is_region_sort (leaf_sort l) ≡ false → is_type_sort (leaf_sort l) ≡ false →
    is_component l ≡ false
leaf_none (variable const_var n) r t = refl
leaf_none (variable type_var n) r t = absurd (cc)
leaf_none (variable int_var n) r t = absurd (cc)
leaf_none (variable float_var n) r t = absurd (cc)
leaf_none (variable region_var n) r t = absurd (cc)
leaf_none (bound k d i) r t = refl
leaf_none (placeholder (bound_kind const_kind n) u i) r t = refl
leaf_none (placeholder (bound_kind region_kind n) u i) r t = absurd (cc)
leaf_none (placeholder (bound_kind type_kind n) u i) r t = absurd (cc)
leaf_none (atom static_region) r t = absurd (cc)
leaf_none (atom (early_region i n)) r t = absurd (cc)
leaf_none (atom (type_param i n)) r t = absurd (cc)
leaf_none (atom (fresh_type n)) r t = absurd (cc)
leaf_none (atom (fresh_int n)) r t = absurd (cc)
leaf_none (atom (fresh_float n)) r t = absurd (cc)
leaf_none (atom x) r t = refl
leaf_none unknown r t = refl

-- Of a form that is no type all parts count.
head_every : (h : Head) → is_type_sort (head_sort h) ≡ false → (is_alias h ≡ false) × (choice_of h ≡ every)
head_every (adt d) t = absurd (cc)
head_every (fn_def d) t = absurd (cc)
head_every (closure d) t = absurd (cc)
head_every (coroutine_closure d) t = absurd (cc)
head_every (coroutine d) t = absurd (cc)
head_every (coroutine_witness d) t = absurd (cc)
head_every array t = absurd (cc)
head_every slice t = absurd (cc)
head_every pattern_type t = absurd (cc)
head_every tuple t = absurd (cc)
head_every unsafe_binder t = absurd (cc)
head_every dynamic t = absurd (cc)
head_every fn_ptr t = absurd (cc)
head_every (raw_ptr m) t = absurd (cc)
head_every (ref m) t = absurd (cc)
head_every (alias k d) t = absurd (cc)
head_every h t = (refl, refl)

-- What is no region and no type has the components of its parts.
pub parts_have : (t : Tree) → (tree_sort t ≡ no_sort → ⊥) → is_region_sort (tree_sort t) ≡ false →
    is_type_sort (tree_sort t) ≡ false → components every (parts_of t) ≡ components every t
parts_have (leaf l) n r t = sym (ap (λ b. cond b (leaf l ∷ []) []) (leaf_none l r t))
parts_have (node h ts) n r t =
    let e = head_every h t in
    sym (ap (λ b. cond b (node h ts ∷ []) (components (choice_of h) ts)) e.0 ∙ ap (λ c. components c ts) e.1)
parts_have (bind ks t) n r s = append-nil (components every t)
parts_have nil n r t = absurd (n refl)
parts_have (cons t ts) n r s = absurd (n refl)

-- A part that is no region and no type has the components of its parts.
module _ {Key Id Name : Type 0} (m : Meaning Key Id Name) (o : Sorted m) where
  of_sort : (p : Part Key Id) → IsTrue (known (part_tree m p)) → is_region_sort (part_sort p) ≡ false →
      is_type_sort (part_sort p) ≡ false → components every (parts_of (part_tree m p)) ≡ components every (part_tree m p)
  of_sort p k r t =
      let s = sort_known m o p k in
      parts_have (part_tree m p) (λ e. has_sort p (sym s ∙ e)) (ap is_region_sort s ∙ r) (ap is_type_sort s ∙ t)

  pub part_has : (p : Part Key Id) → IsTrue (known (part_tree m p)) → ((r : RegionKey Key) → p ≡ Region r → ⊥) →
      ((t : TyKey Key) → p ≡ Ty t → ⊥) → components every (parts_of (part_tree m p)) ≡ components every (part_tree m p)
  part_has (Region r) k f g = absurd (f r refl)
  part_has (Ty t) k f g = absurd (g t refl)
  part_has (Const c) k f g = of_sort (Const c) k refl refl
  part_has (ValTree v) k f g = of_sort (ValTree v) k refl refl
  part_has (PatPart q) k f g = of_sort (PatPart q) k refl refl
  part_has (ValueType t) k f g = of_sort (ValueType t) k refl refl
  part_has (Binder vs b) k f g = of_sort (Binder vs b) k refl refl
  part_has (Signature s) k f g = of_sort (Signature s) k refl refl
  part_has (Inputs t) k f g = of_sort (Inputs t) k refl refl
  part_has (Existential p) k f g = of_sort (Existential p) k refl refl
  part_has (Object p) k f g = of_sort (Object p) k refl refl

-- A region that no binder binds is a component, and one that a binder binds has none.
pub region_is : {Key Id Name : Type 0} (m : Meaning Key Id Name) (k : RegionKind Name) →
    ((d : DebruijnIndex) (b : BoundRegion Name) → k ≡ ReBound d b → ⊥) →
    components every (region_tree m k) ≡ region_tree m k ∷ []
region_is m ReStatic n = refl
region_is m (ReEarlyParam p) n = refl
region_is m (ReBound d b) n = absurd (n d b refl)
region_is m (ReVar v) n = refl
region_is m (RePlaceholder p) n = refl

-- A variable, or a stand-in for one, is a component.
pub infer_is : (i : InferTy) → components every (infer_tree i) ≡ infer_tree i ∷ []
infer_is (TyVar v) = refl
infer_is (IntVar v) = refl
infer_is (FloatVar v) = refl
infer_is (FreshTy n) = refl
infer_is (FreshIntTy n) = refl
infer_is (FreshFloatTy n) = refl

-- The forms of types that are gone into part by part.
module _ {Key Id Name : Type 0} (m : Meaning Key Id Name) where
  pub form_parts : (k : TyKind Key Id Name) → ((p : ParamTy Name) → k ≡ TyParam p → ⊥) →
      ((p : Placeholder (BoundTy Name)) → k ≡ TyPlaceholder p → ⊥) → ((i : InferTy) → k ≡ Infer i → ⊥) →
      ((a : AliasTy Key Id) → k ≡ Alias a → ⊥) →
      components (choice_in (kind_tree m k)) (parts_of (kind_tree m k)) ≡ components every (kind_tree m k)
  form_parts Bool n1 n2 n3 n4 = refl
  form_parts Char n1 n2 n3 n4 = refl
  form_parts (Int w) n1 n2 n3 n4 = refl
  form_parts (Uint w) n1 n2 n3 n4 = refl
  form_parts (Float w) n1 n2 n3 n4 = refl
  form_parts (Adt d a) n1 n2 n3 n4 = refl
  form_parts (Foreign d) n1 n2 n3 n4 = refl
  form_parts Str n1 n2 n3 n4 = refl
  form_parts (Array t c) n1 n2 n3 n4 = refl
  form_parts (Pat t p) n1 n2 n3 n4 = refl
  form_parts (Slice t) n1 n2 n3 n4 = refl
  form_parts (RawPtr t u) n1 n2 n3 n4 = refl
  form_parts (Ref r t u) n1 n2 n3 n4 = refl
  form_parts (FnDef d a) n1 n2 n3 n4 = refl
  form_parts (FnPtr b h) n1 n2 n3 n4 = refl
  form_parts (UnsafeBinder b) n1 n2 n3 n4 = refl
  form_parts (Dynamic ps r) n1 n2 n3 n4 = refl
  form_parts (Closure d a) n1 n2 n3 n4 = refl
  form_parts (CoroutineClosure d a) n1 n2 n3 n4 = refl
  form_parts (Coroutine d a) n1 n2 n3 n4 = refl
  form_parts (CoroutineWitness d a) n1 n2 n3 n4 = refl
  form_parts Never n1 n2 n3 n4 = refl
  form_parts (Tuple ts) n1 n2 n3 n4 = refl
  form_parts (Alias a) n1 n2 n3 n4 = absurd (n4 a refl)
  form_parts (TyParam p) n1 n2 n3 n4 = absurd (n1 p refl)
  form_parts (TyBound d b) n1 n2 n3 n4 = refl
  form_parts (TyPlaceholder p) n1 n2 n3 n4 = absurd (n2 p refl)
  form_parts (Infer i) n1 n2 n3 n4 = absurd (n3 i refl)
  form_parts (TyError e) n1 n2 n3 n4 = refl
