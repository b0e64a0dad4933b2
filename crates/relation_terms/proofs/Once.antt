-- Forms of one tree are one form, where keys of one tree are one key.
use Rattle.std.proofs.Common.{ℕ, ◌≡◌, IsTrue, true, ◌&&◌, List, [], ◌∷◌, eqb, refl, ap, ap₂, sym, ◌∙◌, subst}
use Rattle.std.proofs.lemmas.Bool.{and_parts, eq-eqb, false≢true}
use Rattle.relation_terms.specs.Heads.{Sort, type_sort, region_sort, const_sort, Admits, leaf_sort, head_sort}
use Rattle.relation_terms.specs.Heads.{bool_type, char_type, str_type, never_type, type_error, int_type, uint_type}
use Rattle.relation_terms.specs.Heads.{float_type, foreign, type_param, adt, fn_def, closure, coroutine_closure}
use Rattle.relation_terms.specs.Heads.{coroutine, coroutine_witness, array, slice, pattern_type, tuple, raw_ptr, ref}
use Rattle.relation_terms.specs.Heads.{alias, bound, placeholder, atom}
use Rattle.relation_terms.specs.Trees.{Tree, leaf, node, known, list_tree, IsTerm}
use Rattle.relation_terms.specs.Meaning.{Meaning, kind_tree, region_tree, const_tree, valtree_tree, arg_tree}
use Rattle.relation_terms.specs.Meaning.{ty_placeholder_tree, const_placeholder_tree, region_placeholder_tree}
use Rattle.relation_terms.specs.Meaning.{bound_ty_tree, bound_const_tree, bound_region_tree, pattern_tree, alias_kind}
use Rattle.relation_terms.specs.Meaning.{alias_id}
use Rattle.relation_terms.specs.Meaning.{infer_tree, infer_const_tree}
use Rattle.relation_terms.specs.Interning.{Sorted}
use Rattle.relation_terms.proofs.Stays.{knows_as}
use Rattle.relation_terms.specs.declared.terms.keys.TyKey.{TyKey}
use Rattle.relation_terms.specs.declared.terms.keys.RegionKey.{RegionKey}
use Rattle.relation_terms.specs.declared.terms.keys.ConstKey.{ConstKey}
use Rattle.relation_terms.specs.declared.terms.keys.ArgsKey.{ArgsKey}
use Rattle.relation_terms.specs.declared.terms.keys.TysKey.{TysKey}
use Rattle.relation_terms.specs.declared.terms.keys.ValTreeKey.{ValTreeKey}
use Rattle.relation_terms.specs.declared.terms.keys.BranchesKey.{BranchesKey}
use Rattle.relation_terms.specs.declared.terms.keys.PatKey.{PatKey}
use Rattle.relation_terms.specs.declared.terms.keys.AlternativesKey.{AlternativesKey}
use Rattle.relation_terms.specs.declared.terms.numbers.DebruijnIndex.{DebruijnIndex}
use Rattle.relation_terms.specs.declared.terms.alias.AliasTyKind.{AliasTyKind}
use Rattle.relation_terms.specs.declared.terms.alias.AliasTyKind.TheVariants.{Projection, Inherent, Opaque, Free}
use Rattle.relation_terms.specs.declared.terms.generic_arg.GenericArgKind.{GenericArgKind}
use Rattle.relation_terms.specs.declared.terms.generic_arg.GenericArgKind.TheVariants.{Lifetime, Ty, Const}
use Rattle.relation_terms.specs.declared.terms.placeholder.Placeholder.{Placeholder}
use Rattle.relation_terms.specs.declared.terms.placeholder.BoundTy.{BoundTy}
use Rattle.relation_terms.specs.declared.terms.placeholder.BoundConst.{BoundConst}
use Rattle.relation_terms.specs.declared.terms.ty_kind.TyKind.{TyKind}
use Rattle.relation_terms.specs.declared.terms.ty_kind.TyKind.TheVariants.{Bool, Char, Int, Uint, Float, Adt, Foreign}
use Rattle.relation_terms.specs.declared.terms.ty_kind.TyKind.TheVariants.{Str, Array, Slice, RawPtr, Ref, FnDef}
use Rattle.relation_terms.specs.declared.terms.ty_kind.TyKind.TheVariants.{Closure, CoroutineClosure, Coroutine}
use Rattle.relation_terms.specs.declared.terms.ty_kind.TyKind.TheVariants.{CoroutineWitness, Never, Tuple, Infer}
use Rattle.relation_terms.specs.declared.terms.ty_kind.TyKind.TheVariants.{Param as TyParam, Bound as TyBound}
use Rattle.relation_terms.specs.declared.terms.ty_kind.TyKind.TheVariants.{Error as TyError, Alias, Pat}
use Rattle.relation_terms.specs.declared.terms.ty_kind.InferTy.{InferTy}
use Rattle.relation_terms.specs.declared.terms.ty_kind.TyKind.TheVariants.{Placeholder as TyPlaceholder}
use Rattle.relation_terms.specs.declared.terms.const_kind.ConstKind.{ConstKind}
use Rattle.relation_terms.specs.declared.terms.const_kind.ConstKind.TheVariants.{Param as ConstParam}
use Rattle.relation_terms.specs.declared.terms.const_kind.ConstKind.TheVariants.{Placeholder as ConstPlaceholder}
use Rattle.relation_terms.specs.declared.terms.const_kind.ConstKind.TheVariants.{Infer as ConstInfer, Bound as ConstBound}
use Rattle.relation_terms.specs.declared.terms.const_kind.ConstKind.TheVariants.{Unevaluated, Value, Error as ConstError, Expr}
use Rattle.relation_terms.specs.declared.terms.const_kind.InferConst.{InferConst}
use Rattle.relation_terms.specs.declared.terms.const_kind.InferConst.TheVariants.{Var, Fresh}
use Rattle.relation_terms.specs.declared.terms.pattern_kind.PatternKind.{PatternKind}
use Rattle.relation_terms.specs.declared.terms.pattern_kind.PatternKind.TheVariants.{Range, Or, NotNull}
use Rattle.relation_terms.specs.declared.terms.const_kind.ValTreeKind.{ValTreeKind}
use Rattle.relation_terms.specs.declared.terms.const_kind.ValTreeKind.TheVariants.{Leaf, Branch}
use Rattle.relation_terms.specs.declared.terms.ty_kind.InferTy.TheVariants.{TyVar, IntVar, FloatVar}
use Rattle.relation_terms.specs.declared.terms.ty_kind.InferTy.TheVariants.{FreshTy, FreshIntTy, FreshFloatTy}
use Rattle.relation_terms.specs.declared.terms.region_kind.RegionKind.{RegionKind}
use Rattle.relation_terms.specs.declared.terms.region_kind.RegionKind.TheVariants.{ReStatic, ReEarlyParam, ReBound}
use Rattle.relation_terms.specs.declared.terms.region_kind.RegionKind.TheVariants.{ReVar, RePlaceholder}
use Rattle.relation_terms.specs.declared.terms.region_kind.BoundRegion.{BoundRegion}
use Rattle.relation_terms.specs.Heads.{fn_ptr, unsafe_binder, dynamic}
use Rattle.term_enums.specs.declared.Safety.{Safety}
use Rattle.term_enums.specs.declared.ExternAbi.{ExternAbi}
use Rattle.relation_terms.specs.Trees.{front, last}
use Rattle.relation_terms.specs.Meaning.{under, sig_of, signature_tree, existential_tree, term_tree}
use Rattle.relation_terms.specs.Meaning.{object_predicate_tree, bound_kind_of, bound_kinds}
use Rattle.relation_terms.specs.Parts.{fn_ptr_of, unsafe_of}
use Rattle.relation_terms.specs.declared.terms.keys.ExistentialPredicatesKey.{ExistentialPredicatesKey}
use Rattle.relation_terms.specs.declared.terms.keys.BoundVarsKey.{BoundVarsKey}
use Rattle.relation_terms.specs.declared.terms.generic_arg.TermKind.{TermKind}
use Rattle.relation_terms.specs.declared.terms.generic_arg.TermKind.TheVariants.{Ty as TyTerm, Const as ConstTerm}
use Rattle.relation_terms.specs.declared.terms.fn_sig.FnSig.{FnSig}
use Rattle.relation_terms.specs.declared.predicate.existential.ExistentialPredicate.{ExistentialPredicate}
use Rattle.relation_terms.specs.declared.predicate.existential.ExistentialPredicate.TheVariants.{Trait, AutoTrait}
use Rattle.relation_terms.specs.declared.predicate.existential.ExistentialPredicate.TheVariants.{
  Projection as ProjectionPredicate,
}
use Rattle.relation_terms.specs.declared.terms.binder.BoundVariableKind.{BoundVariableKind}
use Rattle.relation_terms.specs.declared.terms.binder.BoundVariableKind.TheVariants.{Ty as TyVariable}
use Rattle.relation_terms.specs.declared.terms.binder.BoundVariableKind.TheVariants.{Region as RegionVariable}
use Rattle.relation_terms.specs.declared.terms.binder.BoundVariableKind.TheVariants.{Const as ConstVariable}
use Rattle.relation_terms.specs.declared.terms.ty_kind.TyKind.TheVariants.{FnPtr, UnsafeBinder, Dynamic}
use Rattle.relation_terms.specs.declared.terms.binder.Binder.{Binder}
use Rattle.std.proofs.Common.{IsSome}
use Rattle.relation_terms.proofs.Binders.{under_known, under_once, front_known, front_last_once}

-- Known keys of one tree are one key, and ids and names of one number are one.
pub record Injective {Key Id Name : Type 0} (m : Meaning Key Id Name) : Type 0 where
  pub ty : (k l : TyKey Key) → IsTrue (known (m.ty k)) → m.ty k ≡ m.ty l → k ≡ l
  pub region : (k l : RegionKey Key) → IsTrue (known (m.region k)) → m.region k ≡ m.region l → k ≡ l
  pub const_ : (k l : ConstKey Key) → IsTrue (known (m.const_ k)) → m.const_ k ≡ m.const_ l → k ≡ l
  pub args : (k l : ArgsKey Key) → IsTrue (known (m.args k)) → m.args k ≡ m.args l → k ≡ l
  pub tys : (k l : TysKey Key) → IsTrue (known (m.tys k)) → m.tys k ≡ m.tys l → k ≡ l
  pub valtree : (k l : ValTreeKey Key) → IsTrue (known (m.valtree k)) → m.valtree k ≡ m.valtree l → k ≡ l
  pub branches : (k l : BranchesKey Key) → IsTrue (known (m.branches k)) → m.branches k ≡ m.branches l → k ≡ l
  pub pat : (k l : PatKey Key) → IsTrue (known (m.pat k)) → m.pat k ≡ m.pat l → k ≡ l
  pub alternatives : (k l : AlternativesKey Key) → IsTrue (known (m.alternatives k)) →
      m.alternatives k ≡ m.alternatives l → k ≡ l
  pub existential_predicates : (k l : ExistentialPredicatesKey Key) → IsTrue (known (m.existential_predicates k)) →
      m.existential_predicates k ≡ m.existential_predicates l → k ≡ l
  pub bound_vars : (k l : BoundVarsKey Key) → IsSome (m.bound_vars k) → m.bound_vars k ≡ m.bound_vars l → k ≡ l
  pub id : (d e : Id) → m.id d ≡ m.id e → d ≡ e
  pub name : (x y : Name) → m.name x ≡ m.name y → x ≡ y

pub list_once : {A : Type 0} (f : A → Tree) → ((x y : A) → IsTrue (known (f x)) → f x ≡ f y → x ≡ y) →
    (xs ys : List A) → IsTrue (known (list_tree f xs)) → list_tree f xs ≡ list_tree f ys → xs ≡ ys
list_once f s [] [] k e = refl
list_once f s (x ∷ xs) (y ∷ ys) k e =
    let p = and_parts (known (f x)) (known (list_tree f xs)) k in
    let head : f x ≡ f y = cc in
    let tail : list_tree f xs ≡ list_tree f ys = cc in
    ap₂ (λ z zs. z ∷ zs) (s x y p.0 head) (list_once f s xs ys p.1 tail)
list_once f s xs ys k e = absurd (cc)

-- No tree is a term of two sorts that admit no common one.
pub apart : (s u : Sort) → ((x : Sort) → Admits s x → Admits u x → ⊥) → (t : Tree) → IsTerm s t → IsTerm u t → ⊥
apart s u f (leaf l) p q = f (leaf_sort l) p q
apart s u f (node h ts) p q = f (head_sort h) p.0 q.0
apart s u f t p q = absurd p

pub region_no_type : (x : Sort) → Admits region_sort x → Admits type_sort x → ⊥
region_no_type region_sort p q = q
region_no_type x p q = p

pub region_no_const : (x : Sort) → Admits region_sort x → Admits const_sort x → ⊥
region_no_const region_sort p q = q
region_no_const x p q = p

pub type_no_const : (x : Sort) → Admits type_sort x → Admits const_sort x → ⊥
type_no_const type_sort p q = q
type_no_const x p q = p

-- A number for each form of a type, and the same of its tree.
abbrev kind_tag : {Key Id Name : Type 0} → TyKind Key Id Name → ℕ
kind_tag Bool = 0
kind_tag Char = 1
kind_tag (Int w) = 2
kind_tag (Uint w) = 3
kind_tag (Float w) = 4
kind_tag (Adt d a) = 5
kind_tag (Foreign d) = 6
kind_tag Str = 7
kind_tag (Array t c) = 8
kind_tag (Pat t p) = 9
kind_tag (Slice t) = 10
kind_tag (RawPtr t u) = 11
kind_tag (Ref r t u) = 12
kind_tag (FnDef d a) = 13
kind_tag (Closure d a) = 14
kind_tag (CoroutineClosure d a) = 15
kind_tag (Coroutine d a) = 16
kind_tag (CoroutineWitness d a) = 17
kind_tag Never = 18
kind_tag (Tuple ts) = 19
kind_tag (Alias a) = 20
kind_tag (TyParam p) = 21
kind_tag (TyBound d b) = 22
kind_tag (TyPlaceholder p) = 23
kind_tag (Infer i) = 24
kind_tag (TyError e) = 25
kind_tag (FnPtr b h) = 26
kind_tag (UnsafeBinder b) = 27
kind_tag (Dynamic ps r) = 28

abbrev tree_tag : Tree → ℕ
tree_tag (leaf (atom bool_type)) = 0
tree_tag (leaf (atom char_type)) = 1
tree_tag (leaf (atom (int_type w))) = 2
tree_tag (leaf (atom (uint_type w))) = 3
tree_tag (leaf (atom (float_type w))) = 4
tree_tag (node (adt d) ts) = 5
tree_tag (leaf (atom (foreign d))) = 6
tree_tag (leaf (atom str_type)) = 7
tree_tag (node array ts) = 8
tree_tag (node pattern_type ts) = 9
tree_tag (node slice ts) = 10
tree_tag (node (raw_ptr u) ts) = 11
tree_tag (node (ref u) ts) = 12
tree_tag (node (fn_def d) ts) = 13
tree_tag (node (closure d) ts) = 14
tree_tag (node (coroutine_closure d) ts) = 15
tree_tag (node (coroutine d) ts) = 16
tree_tag (node (coroutine_witness d) ts) = 17
tree_tag (leaf (atom never_type)) = 18
tree_tag (node tuple ts) = 19
tree_tag (node (alias k d) ts) = 20
tree_tag (leaf (atom (type_param i n))) = 21
tree_tag (leaf (bound k d i)) = 22
tree_tag (leaf (placeholder k u n)) = 23
tree_tag (leaf (atom type_error)) = 25
tree_tag (node fn_ptr ts) = 26
tree_tag (node unsafe_binder ts) = 27
tree_tag (node dynamic ts) = 28
tree_tag t = 24

module _ {Key Id Name : Type 0} (m : Meaning Key Id Name) (j : Injective m) where
  ty_placeholder_once : (p q : Placeholder (BoundTy Name)) → ty_placeholder_tree m p ≡ ty_placeholder_tree m q → p ≡ q
  ty_placeholder_once p q e =
      let name : m.name (p.bound).name ≡ m.name (q.bound).name = cc in
      let universe : (p.universe).0 ≡ (q.universe).0 = cc in
      let var : ((p.bound).var).0 ≡ ((q.bound).var).0 = cc in
      let one : (p.bound).name ≡ (q.bound).name = j.name (p.bound).name (q.bound).name name in
      let bound : p.bound ≡ q.bound = ap₂ (λ v n. record { var = record { 0 = v }; name = n }) var one in
      ap₂ (λ u b. record { universe = record { 0 = u }; bound = b }) universe bound

  const_placeholder_once : (p q : Placeholder (BoundConst Name)) →
      const_placeholder_tree m p ≡ const_placeholder_tree m q → p ≡ q
  const_placeholder_once p q e =
      let name : m.name (p.bound).name ≡ m.name (q.bound).name = cc in
      let universe : (p.universe).0 ≡ (q.universe).0 = cc in
      let var : ((p.bound).var).0 ≡ ((q.bound).var).0 = cc in
      let one : (p.bound).name ≡ (q.bound).name = j.name (p.bound).name (q.bound).name name in
      let bound : p.bound ≡ q.bound = ap₂ (λ v n. record { var = record { 0 = v }; name = n }) var one in
      ap₂ (λ u b. record { universe = record { 0 = u }; bound = b }) universe bound

  region_placeholder_once : (p q : Placeholder (BoundRegion Name)) →
      region_placeholder_tree m p ≡ region_placeholder_tree m q → p ≡ q
  region_placeholder_once p q e =
      let name : m.name (p.bound).name ≡ m.name (q.bound).name = cc in
      let universe : (p.universe).0 ≡ (q.universe).0 = cc in
      let var : ((p.bound).var).0 ≡ ((q.bound).var).0 = cc in
      let one : (p.bound).name ≡ (q.bound).name = j.name (p.bound).name (q.bound).name name in
      let bound : p.bound ≡ q.bound = ap₂ (λ v n. record { var = record { 0 = v }; name = n }) var one in
      ap₂ (λ u b. record { universe = record { 0 = u }; bound = b }) universe bound

  bound_ty_once : (d e : DebruijnIndex) (b c : BoundTy Name) → bound_ty_tree m d b ≡ bound_ty_tree m e c →
      (d ≡ e) × (b ≡ c)
  bound_ty_once d e b c p =
      let name : m.name b.name ≡ m.name c.name = cc in
      let depth : d.0 ≡ e.0 = cc in
      let var : (b.var).0 ≡ (c.var).0 = cc in (
        ap (λ n. record { 0 = n }) depth,
        ap₂ (λ v n. record { var = record { 0 = v }; name = n }) var (j.name b.name c.name name),
      )

  bound_const_once : (d e : DebruijnIndex) (b c : BoundConst Name) → bound_const_tree m d b ≡ bound_const_tree m e c →
      (d ≡ e) × (b ≡ c)
  bound_const_once d e b c p =
      let name : m.name b.name ≡ m.name c.name = cc in
      let depth : d.0 ≡ e.0 = cc in
      let var : (b.var).0 ≡ (c.var).0 = cc in (
        ap (λ n. record { 0 = n }) depth,
        ap₂ (λ v n. record { var = record { 0 = v }; name = n }) var (j.name b.name c.name name),
      )

  bound_region_once : (d e : DebruijnIndex) (b c : BoundRegion Name) →
      bound_region_tree m d b ≡ bound_region_tree m e c → (d ≡ e) × (b ≡ c)
  bound_region_once d e b c p =
      let name : m.name b.name ≡ m.name c.name = cc in
      let depth : d.0 ≡ e.0 = cc in
      let var : (b.var).0 ≡ (c.var).0 = cc in (
        ap (λ n. record { 0 = n }) depth,
        ap₂ (λ v n. record { var = record { 0 = v }; name = n }) var (j.name b.name c.name name),
      )

  alias_once : (a b : AliasTyKind Id) → alias_kind a ≡ alias_kind b → m.id (alias_id a) ≡ m.id (alias_id b) → a ≡ b
  alias_once (Projection d) (Projection e) p q = ap (λ x. Projection (record { 0 = x })) (j.id d.0 e.0 q)
  alias_once (Inherent d) (Inherent e) p q = ap (λ x. Inherent (record { 0 = x })) (j.id d.0 e.0 q)
  alias_once (Opaque d) (Opaque e) p q = ap (λ x. Opaque (record { 0 = x })) (j.id d.0 e.0 q)
  alias_once (Free d) (Free e) p q = ap (λ x. Free (record { 0 = x })) (j.id d.0 e.0 q)
  alias_once a b p q = absurd (cc)

  infer_once : (i k : InferTy) → infer_tree i ≡ infer_tree k → i ≡ k
  infer_once (TyVar v) (TyVar w) e =
      let same : v.0 ≡ w.0 = cc in
      ap (λ n. TyVar (record { 0 = n })) same
  infer_once (IntVar v) (IntVar w) e =
      let same : v.0 ≡ w.0 = cc in
      ap (λ n. IntVar (record { 0 = n })) same
  infer_once (FloatVar v) (FloatVar w) e =
      let same : v.0 ≡ w.0 = cc in
      ap (λ n. FloatVar (record { 0 = n })) same
  infer_once (FreshTy n) (FreshTy o) e = cc
  infer_once (FreshIntTy n) (FreshIntTy o) e = cc
  infer_once (FreshFloatTy n) (FreshFloatTy o) e = cc
  infer_once i k e = absurd (cc)

  infer_const_once : (i k : InferConst) → infer_const_tree i ≡ infer_const_tree k → i ≡ k
  infer_const_once (Var v) (Var w) e =
      let same : v.0 ≡ w.0 = cc in
      ap (λ n. Var (record { 0 = n })) same
  infer_const_once (Fresh n) (Fresh o) e = cc
  infer_const_once i k e = absurd (cc)

  bound_kind_once : (a b : BoundVariableKind Name) → bound_kind_of m a ≡ bound_kind_of m b → a ≡ b
  bound_kind_once (TyVariable x) (TyVariable y) e =
      let same : m.name x ≡ m.name y = cc in
      ap (λ z. TyVariable z) (j.name x y same)
  bound_kind_once (RegionVariable x) (RegionVariable y) e =
      let same : m.name x ≡ m.name y = cc in
      ap (λ z. RegionVariable z) (j.name x y same)
  bound_kind_once (ConstVariable x) (ConstVariable y) e =
      let same : m.name x ≡ m.name y = cc in
      ap (λ z. ConstVariable z) (j.name x y same)
  bound_kind_once a b e = absurd (cc)

  pub bound_kinds_once : (xs ys : List (BoundVariableKind Name)) → bound_kinds m xs ≡ bound_kinds m ys → xs ≡ ys
  bound_kinds_once [] [] e = refl
  bound_kinds_once (x ∷ xs) (y ∷ ys) e =
      let head : bound_kind_of m x ≡ bound_kind_of m y = cc in
      let tail : bound_kinds m xs ≡ bound_kinds m ys = cc in
      ap₂ (λ z zs. z ∷ zs) (bound_kind_once x y head) (bound_kinds_once xs ys tail)
  bound_kinds_once xs ys e = absurd (cc)

  signature_once : (g h : FnSig Key) → IsTrue (known (signature_tree m g)) → signature_tree m g ≡ signature_tree m h →
      g ≡ h
  signature_once g h k e =
      let ts = m.tys g.inputs_and_output in
      let us = m.tys h.inputs_and_output in
      let p = (and_parts (known (front ts)) (known (last ts) && true) k).0 in
      let variadic : (g.header).c_variadic ≡ (h.header).c_variadic = cc in
      let safety : (g.header).safety ≡ (h.header).safety = cc in
      let abi : (g.header).abi ≡ (h.header).abi = cc in
      let fronts : front ts ≡ front us = cc in
      let lasts : last ts ≡ last us = cc in
      let types = j.tys g.inputs_and_output h.inputs_and_output (front_known ts p) (front_last_once ts us p fronts lasts) in
      let header : g.header ≡ h.header =
      ap₂ (λ v (x : Safety × ExternAbi). record { c_variadic = v; safety = x.0; abi = x.1 }) variadic
      (ap₂ (λ x y. (x, y)) safety abi) in
      ap₂ (λ t x. record { inputs_and_output = t; header = x }) types header

  pub term_once : Sorted m → (a b : TermKind Key) → IsTrue (known (term_tree m a)) → term_tree m a ≡ term_tree m b → a ≡ b
  term_once s (TyTerm t) (TyTerm u) k e = ap (λ x. TyTerm x) (j.ty t u k e)
  term_once s (ConstTerm c) (ConstTerm d) k e = ap (λ x. ConstTerm x) (j.const_ c d k e)
  term_once s (TyTerm t) (ConstTerm c) k e =
      let l = knows_as (m.ty t) (m.const_ c) (sym e) k in
      absurd (apart type_sort const_sort type_no_const (m.const_ c) (subst (IsTerm type_sort) e (s.ty t k)) (s.const_ c l))
  term_once s (ConstTerm c) (TyTerm t) k e =
      let l = knows_as (m.const_ c) (m.ty t) (sym e) k in
      absurd (apart type_sort const_sort type_no_const (m.const_ c) (subst (IsTerm type_sort) (sym e) (s.ty t l)) (s.const_ c k))

  existential_once : Sorted m → (p q : ExistentialPredicate Key Id) → IsTrue (known (existential_tree m p)) →
      existential_tree m p ≡ existential_tree m q → p ≡ q
  existential_once s (Trait t) (Trait u) k e =
      let ids : m.id (t.def_id).0 ≡ m.id (u.def_id).0 = cc in
      let args : m.args t.args ≡ m.args u.args = cc in
      ap₂ (λ x y. Trait (record { def_id = record { 0 = x }; args = y })) (j.id (t.def_id).0 (u.def_id).0 ids)
      (j.args t.args u.args k args)
  existential_once s (ProjectionPredicate p) (ProjectionPredicate q) k e =
      let h = and_parts (known (term_tree m p.term)) (known (m.args p.args)) k in
      let ids : m.id (p.def_id).0 ≡ m.id (q.def_id).0 = cc in
      let terms : term_tree m p.term ≡ term_tree m q.term = cc in
      let args : m.args p.args ≡ m.args q.args = cc in
      let one : p.args ≡ q.args = j.args p.args q.args h.1 args in
      let other : p.term ≡ q.term = term_once s p.term q.term h.0 terms in
      let items : (p.def_id).0 ≡ (q.def_id).0 = j.id (p.def_id).0 (q.def_id).0 ids in
      let inside : (p.args, p.term) ≡ (q.args, q.term) = ap₂ (λ x y. (x, y)) one other in
      ap₂ (λ x (y : ArgsKey Key × TermKind Key). ProjectionPredicate
      (record { def_id = record { 0 = x }; args = y.0; term = y.1 })) items inside
  existential_once s (AutoTrait d) (AutoTrait f) k e =
      let ids : m.id d.0 ≡ m.id f.0 = cc in
      ap (λ x. AutoTrait (record { 0 = x })) (j.id d.0 f.0 ids)
  existential_once s p q k e = absurd (cc)

  pub object_predicate_once : Sorted m → (b c : Binder Key (ExistentialPredicate Key Id)) →
      IsTrue (known (object_predicate_tree m b)) → object_predicate_tree m b ≡ object_predicate_tree m c → b ≡ c
  object_predicate_once s b c k e =
      let p = under_known (m.bound_vars b.bound_vars) (existential_tree m b.value) k in
      let o = under_once (m.bound_vars b.bound_vars) (m.bound_vars c.bound_vars) (existential_tree m b.value)
      (existential_tree m c.value) k e in
      ap₂ (λ x y. record { value = x; bound_vars = y }) (existential_once s b.value c.value p.1 o.1)
      (j.bound_vars b.bound_vars c.bound_vars p.0 o.0)

  tagged : (f : TyKind Key Id Name) → tree_tag (kind_tree m f) ≡ kind_tag f
  tagged Bool = refl
  tagged Char = refl
  tagged (Int w) = refl
  tagged (Uint w) = refl
  tagged (Float w) = refl
  tagged (Adt d a) = refl
  tagged (Foreign d) = refl
  tagged Str = refl
  tagged (Array t c) = refl
  tagged (Pat t p) = refl
  tagged (Slice t) = refl
  tagged (RawPtr t u) = refl
  tagged (Ref r t u) = refl
  tagged (FnDef d a) = refl
  tagged (Closure d a) = refl
  tagged (CoroutineClosure d a) = refl
  tagged (Coroutine d a) = refl
  tagged (CoroutineWitness d a) = refl
  tagged Never = refl
  tagged (Tuple ts) = refl
  tagged (Alias a) = refl
  tagged (TyParam p) = refl
  tagged (TyBound d b) = refl
  tagged (TyPlaceholder p) = refl
  tagged (Infer (TyVar v)) = refl
  tagged (Infer (IntVar v)) = refl
  tagged (Infer (FloatVar v)) = refl
  tagged (Infer (FreshTy n)) = refl
  tagged (Infer (FreshIntTy n)) = refl
  tagged (Infer (FreshFloatTy n)) = refl
  tagged (TyError e) = refl
  tagged (FnPtr b h) = refl
  tagged (UnsafeBinder b) = refl
  tagged (Dynamic ps r) = refl

  -- Two forms of one tag, and of one tree, are one.
  alike_once : (f g : TyKind Key Id Name) → IsTrue (known (kind_tree m f)) → kind_tree m f ≡ kind_tree m g →
      eqb (kind_tag f) (kind_tag g) ≡ true → f ≡ g
  alike_once Bool Bool k e tag = refl
  alike_once Char Char k e tag = refl
  alike_once (Int a) (Int b) k e tag = cc
  alike_once (Uint a) (Uint b) k e tag = cc
  alike_once (Float a) (Float b) k e tag = cc
  alike_once (Adt d a) (Adt e b) k p tag =
      let ids : m.id d.0 ≡ m.id e.0 = cc in
      let args : m.args a ≡ m.args b = cc in
      ap₂ (λ x y. Adt (record { 0 = x }) y) (j.id d.0 e.0 ids) (j.args a b k args)
  alike_once (Foreign d) (Foreign e) k p tag =
      let ids : m.id d.0 ≡ m.id e.0 = cc in
      ap (λ x. Foreign (record { 0 = x })) (j.id d.0 e.0 ids)
  alike_once Str Str k e tag = refl
  alike_once (Array t c) (Array u d) k e tag =
      let p = and_parts (known (m.ty t)) (known (m.const_ c) && true) k in
      let q = and_parts (known (m.const_ c)) true p.1 in
      let types : m.ty t ≡ m.ty u = cc in
      let lengths : m.const_ c ≡ m.const_ d = cc in
      ap₂ (λ x y. Array x y) (j.ty t u p.0 types) (j.const_ c d q.0 lengths)
  alike_once (Pat t p) (Pat u q) k e tag =
      let h = and_parts (known (m.ty t)) (known (m.pat p) && true) k in
      let i = and_parts (known (m.pat p)) true h.1 in
      let types : m.ty t ≡ m.ty u = cc in
      let patterns : m.pat p ≡ m.pat q = cc in
      ap₂ (λ x y. Pat x y) (j.ty t u h.0 types) (j.pat p q i.0 patterns)
  alike_once (Slice t) (Slice u) k e tag =
      let same : m.ty t ≡ m.ty u = cc in
      ap (λ x. Slice x) (j.ty t u (and_parts (known (m.ty t)) true k).0 same)
  alike_once (RawPtr t a) (RawPtr u b) k e tag =
      let same : m.ty t ≡ m.ty u = cc in
      let one : t ≡ u = j.ty t u (and_parts (known (m.ty t)) true k).0 same in
      cc
  alike_once (Ref r t a) (Ref s u b) k e tag =
      let p = and_parts (known (m.region r)) (known (m.ty t) && true) k in
      let q = and_parts (known (m.ty t)) true p.1 in
      let regions : m.region r ≡ m.region s = cc in
      let types : m.ty t ≡ m.ty u = cc in
      let one : r ≡ s = j.region r s p.0 regions in
      let other : t ≡ u = j.ty t u q.0 types in
      cc
  alike_once (FnDef d a) (FnDef e b) k p tag =
      let ids : m.id d.0 ≡ m.id e.0 = cc in
      let args : m.args a ≡ m.args b = cc in
      ap₂ (λ x y. FnDef (record { 0 = x }) y) (j.id d.0 e.0 ids) (j.args a b k args)
  alike_once (Closure d a) (Closure e b) k p tag =
      let ids : m.id d.0 ≡ m.id e.0 = cc in
      let args : m.args a ≡ m.args b = cc in
      ap₂ (λ x y. Closure (record { 0 = x }) y) (j.id d.0 e.0 ids) (j.args a b k args)
  alike_once (CoroutineClosure d a) (CoroutineClosure e b) k p tag =
      let ids : m.id d.0 ≡ m.id e.0 = cc in
      let args : m.args a ≡ m.args b = cc in
      ap₂ (λ x y. CoroutineClosure (record { 0 = x }) y) (j.id d.0 e.0 ids) (j.args a b k args)
  alike_once (Coroutine d a) (Coroutine e b) k p tag =
      let ids : m.id d.0 ≡ m.id e.0 = cc in
      let args : m.args a ≡ m.args b = cc in
      ap₂ (λ x y. Coroutine (record { 0 = x }) y) (j.id d.0 e.0 ids) (j.args a b k args)
  alike_once (CoroutineWitness d a) (CoroutineWitness e b) k p tag =
      let ids : m.id d.0 ≡ m.id e.0 = cc in
      let args : m.args a ≡ m.args b = cc in
      ap₂ (λ x y. CoroutineWitness (record { 0 = x }) y) (j.id d.0 e.0 ids) (j.args a b k args)
  alike_once Never Never k e tag = refl
  alike_once (Tuple ts) (Tuple us) k e tag =
      let same : m.tys ts ≡ m.tys us = cc in
      ap (λ x. Tuple x) (j.tys ts us k same)
  alike_once (Alias a) (Alias b) k e tag =
      let kinds : alias_kind a.kind ≡ alias_kind b.kind = cc in
      let ids : m.id (alias_id a.kind) ≡ m.id (alias_id b.kind) = cc in
      let args : m.args a.args ≡ m.args b.args = cc in
      ap₂ (λ x y. Alias (record { kind = x; args = y })) (alias_once a.kind b.kind kinds ids)
      (j.args a.args b.args k args)
  alike_once (TyParam p) (TyParam q) k e tag =
      let index : p.index ≡ q.index = cc in
      let number : m.name p.name ≡ m.name q.name = cc in
      ap₂ (λ i n. TyParam (record { index = i; name = n })) index (j.name p.name q.name number)
  alike_once (TyBound d b) (TyBound f c) k e tag =
      let o = bound_ty_once d f b c e in
      ap₂ (λ x y. TyBound x y) o.0 o.1
  alike_once (TyPlaceholder p) (TyPlaceholder q) k e tag = ap (λ x. TyPlaceholder x) (ty_placeholder_once p q e)
  alike_once (Infer i) (Infer l) k e tag = ap (λ x. Infer x) (infer_once i l e)
  alike_once (TyError x) (TyError y) k e tag = refl
  alike_once (FnPtr b h) (FnPtr c i) k e tag =
      let o = m.bound_vars b.bound_vars in
      let q = m.bound_vars c.bound_vars in
      let t = signature_tree m (sig_of b.value h) in
      let u = signature_tree m (sig_of c.value i) in
      let known_one = (and_parts (known (under o t)) true k).0 in
      let p = under_known o t known_one in
      let same : under o t ≡ under q u = cc in
      let one = under_once o q t u known_one same in
      ap₂ (λ v s. fn_ptr_of v s) (j.bound_vars b.bound_vars c.bound_vars p.0 one.0)
      (signature_once (sig_of b.value h) (sig_of c.value i) p.1 one.1)
  alike_once (UnsafeBinder b) (UnsafeBinder c) k e tag =
      let o = m.bound_vars b.bound_vars in
      let q = m.bound_vars c.bound_vars in
      let t = m.ty b.value in
      let u = m.ty c.value in
      let known_one = (and_parts (known (under o t)) true k).0 in
      let p = under_known o t known_one in
      let same : under o t ≡ under q u = cc in
      let one = under_once o q t u known_one same in
      ap₂ (λ v s. unsafe_of v s) (j.bound_vars b.bound_vars c.bound_vars p.0 one.0) (j.ty b.value c.value p.1 one.1)
  alike_once (Dynamic ps r) (Dynamic qs s) k e tag =
      let p = and_parts (known (m.existential_predicates ps)) (known (m.region r) && true) k in
      let q = and_parts (known (m.region r)) true p.1 in
      let lists : m.existential_predicates ps ≡ m.existential_predicates qs = cc in
      let regions : m.region r ≡ m.region s = cc in
      ap₂ (λ x y. Dynamic x y) (j.existential_predicates ps qs p.0 lists) (j.region r s q.0 regions)
  alike_once f g k e tag = absurd (false≢true tag)

  pub kind_once : (f g : TyKind Key Id Name) → IsTrue (known (kind_tree m f)) → kind_tree m f ≡ kind_tree m g → f ≡ g
  kind_once f g k e = alike_once f g k e
      (eq-eqb (kind_tag f) (kind_tag g) (sym (tagged f) ∙ ap tree_tag e ∙ tagged g))

  pub const_once : (f g : ConstKind Key Id Name) → IsTrue (known (const_tree m f)) → const_tree m f ≡ const_tree m g →
      f ≡ g
  const_once (ConstParam p) (ConstParam q) k e =
      let index : p.index ≡ q.index = cc in
      let number : m.name p.name ≡ m.name q.name = cc in
      ap₂ (λ i n. ConstParam (record { index = i; name = n })) index (j.name p.name q.name number)
  const_once (ConstPlaceholder p) (ConstPlaceholder q) k e =
      ap (λ x. ConstPlaceholder x) (const_placeholder_once p q e)
  const_once (ConstInfer i) (ConstInfer l) k e = ap (λ x. ConstInfer x) (infer_const_once i l e)
  const_once (ConstBound d b) (ConstBound f c) k e =
      let o = bound_const_once d f b c e in
      ap₂ (λ x y. ConstBound x y) o.0 o.1
  const_once (Unevaluated u) (Unevaluated v) k e =
      let ids : m.id (u.def).0 ≡ m.id (v.def).0 = cc in
      let args : m.args u.args ≡ m.args v.args = cc in
      ap₂ (λ x y. Unevaluated (record { def = record { 0 = x }; args = y })) (j.id (u.def).0 (v.def).0 ids)
      (j.args u.args v.args k args)
  const_once (ConstError x) (ConstError y) k e = refl
  const_once (Value t v) (Value u w) k e =
      let p = and_parts (known (m.ty t) && true) (known (m.valtree v) && true) k in
      let q = and_parts (known (m.ty t)) true p.0 in
      let r = and_parts (known (m.valtree v)) true p.1 in
      let types : m.ty t ≡ m.ty u = cc in
      let values : m.valtree v ≡ m.valtree w = cc in
      ap₂ (λ x y. Value x y) (j.ty t u q.0 types) (j.valtree v w r.0 values)
  const_once (Expr x a) (Expr y b) k e =
      let number : x.0 ≡ y.0 = cc in
      let args : m.args a ≡ m.args b = cc in
      ap₂ (λ n z. Expr (record { 0 = n }) z) number (j.args a b k args)
  const_once (ConstInfer (Var v)) g k e = absurd (cc)
  const_once (ConstInfer (Fresh n)) g k e = absurd (cc)
  const_once f (ConstInfer (Var v)) k e = absurd (cc)
  const_once f (ConstInfer (Fresh n)) k e = absurd (cc)
  const_once f g k e = absurd (cc)

  pub valtree_once : (f g : ValTreeKind Key) → IsTrue (known (valtree_tree m f)) → valtree_tree m f ≡ valtree_tree m g →
      f ≡ g
  valtree_once (Leaf a n) (Leaf b o) k e = cc
  valtree_once (Branch a) (Branch b) k e =
      let same : m.branches a ≡ m.branches b = cc in
      ap (λ x. Branch x) (j.branches a b k same)
  valtree_once f g k e = absurd (cc)

  pub pattern_once : (f g : PatternKind Key) → IsTrue (known (pattern_tree m f)) → pattern_tree m f ≡ pattern_tree m g →
      f ≡ g
  pattern_once (Range s f) (Range t g) k e =
      let p = and_parts (known (m.const_ s)) (known (m.const_ f) && true) k in
      let q = and_parts (known (m.const_ f)) true p.1 in
      let starts : m.const_ s ≡ m.const_ t = cc in
      let ends : m.const_ f ≡ m.const_ g = cc in
      ap₂ (λ x y. Range x y) (j.const_ s t p.0 starts) (j.const_ f g q.0 ends)
  pattern_once (Or a) (Or b) k e =
      let same : m.alternatives a ≡ m.alternatives b = cc in
      ap (λ x. Or x) (j.alternatives a b k same)
  pattern_once NotNull NotNull k e = refl
  pattern_once f g k e = absurd (cc)

  -- Keys of two sorts that mean one tree are not known.
  pub arg_once : Sorted m → (f g : GenericArgKind Key) → IsTrue (known (arg_tree m f)) →
      arg_tree m f ≡ arg_tree m g → f ≡ g
  arg_once s (Lifetime r) (Lifetime q) k e = ap (λ x. Lifetime x) (j.region r q k e)
  arg_once s (Ty t) (Ty u) k e = ap (λ x. Ty x) (j.ty t u k e)
  arg_once s (Const c) (Const d) k e = ap (λ x. Const x) (j.const_ c d k e)
  arg_once s (Lifetime r) (Ty t) k e =
      let l = knows_as (m.region r) (m.ty t) (sym e) k in
      absurd (apart region_sort type_sort region_no_type (m.ty t) (subst (IsTerm region_sort) e (s.region r k)) (s.ty t l))
  arg_once s (Ty t) (Lifetime r) k e =
      let l = knows_as (m.ty t) (m.region r) (sym e) k in
      absurd (apart region_sort type_sort region_no_type (m.ty t) (subst (IsTerm region_sort) (sym e) (s.region r l)) (s.ty t k))
  arg_once s (Lifetime r) (Const c) k e =
      let l = knows_as (m.region r) (m.const_ c) (sym e) k in
      absurd (apart region_sort const_sort region_no_const (m.const_ c) (subst (IsTerm region_sort) e (s.region r k)) (s.const_ c l))
  arg_once s (Const c) (Lifetime r) k e =
      let l = knows_as (m.const_ c) (m.region r) (sym e) k in
      absurd (apart region_sort const_sort region_no_const (m.const_ c) (subst (IsTerm region_sort) (sym e) (s.region r l)) (s.const_ c k))
  arg_once s (Ty t) (Const c) k e =
      let l = knows_as (m.ty t) (m.const_ c) (sym e) k in
      absurd (apart type_sort const_sort type_no_const (m.const_ c) (subst (IsTerm type_sort) e (s.ty t k)) (s.const_ c l))
  arg_once s (Const c) (Ty t) k e =
      let l = knows_as (m.const_ c) (m.ty t) (sym e) k in
      absurd (apart type_sort const_sort type_no_const (m.const_ c) (subst (IsTerm type_sort) (sym e) (s.ty t l)) (s.const_ c k))

  pub region_once : (f g : RegionKind Name) → region_tree m f ≡ region_tree m g → f ≡ g
  region_once ReStatic ReStatic e = refl
  region_once (ReEarlyParam p) (ReEarlyParam q) e =
      let index : p.index ≡ q.index = cc in
      let number : m.name p.name ≡ m.name q.name = cc in
      ap₂ (λ i n. ReEarlyParam (record { index = i; name = n })) index (j.name p.name q.name number)
  region_once (ReBound d b) (ReBound f c) e =
      let o = bound_region_once d f b c e in
      ap₂ (λ x y. ReBound x y) o.0 o.1
  region_once (RePlaceholder p) (RePlaceholder q) e = ap (λ x. RePlaceholder x) (region_placeholder_once p q e)
  region_once (ReVar v) (ReVar w) e =
      let same : v.0 ≡ w.0 = cc in
      ap (λ n. ReVar (record { 0 = n })) same
  region_once f g e = absurd (cc)
