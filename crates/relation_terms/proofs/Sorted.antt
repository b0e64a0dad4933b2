-- The tree of a known form is a term of its sort, where those of known keys are.
use Rattle.std.proofs.Common.{IsTrue, true, ◌&&◌, List, [], ◌∷◌, refl}
use Rattle.std.proofs.lemmas.Bool.{and_parts}
use Rattle.relation_terms.specs.Heads.{Sort, type_sort, region_sort, const_sort, value_sort, argument_sort}
use Rattle.relation_terms.specs.Heads.{environment_sort, pattern_sort, environment, Admits, leaf_sort, head_sort}
use Rattle.relation_terms.specs.Trees.{Tree, leaf, node, nil, known, list_tree, IsTerm, AreTerms}
use Rattle.relation_terms.specs.Meaning.{Meaning, kind_tree, region_tree, const_tree, valtree_tree, arg_tree}
use Rattle.relation_terms.specs.Meaning.{pattern_tree}
use Rattle.relation_terms.specs.Interning.{Sorted}
use Rattle.relation_terms.specs.declared.terms.generic_arg.GenericArgKind.{GenericArgKind}
use Rattle.relation_terms.specs.declared.terms.generic_arg.GenericArgKind.TheVariants.{Lifetime, Ty, Const}
use Rattle.relation_terms.specs.declared.terms.ty_kind.TyKind.{TyKind}
use Rattle.relation_terms.specs.declared.terms.ty_kind.TyKind.TheVariants.{Bool, Char, Int, Uint, Float, Adt, Foreign}
use Rattle.relation_terms.specs.declared.terms.ty_kind.TyKind.TheVariants.{Str, Array, Slice, RawPtr, Ref, FnDef}
use Rattle.relation_terms.specs.declared.terms.ty_kind.TyKind.TheVariants.{Closure, CoroutineClosure, Coroutine}
use Rattle.relation_terms.specs.declared.terms.ty_kind.TyKind.TheVariants.{CoroutineWitness, Never, Tuple, Infer}
use Rattle.relation_terms.specs.declared.terms.ty_kind.TyKind.TheVariants.{Param as TyParam, Bound as TyBound}
use Rattle.relation_terms.specs.declared.terms.ty_kind.TyKind.TheVariants.{Error as TyError, Alias, Pat}
use Rattle.relation_terms.specs.declared.terms.ty_kind.TyKind.TheVariants.{Placeholder as TyPlaceholder}
use Rattle.relation_terms.specs.declared.terms.const_kind.ConstKind.{ConstKind}
use Rattle.relation_terms.specs.declared.terms.const_kind.ConstKind.TheVariants.{Param as ConstParam}
use Rattle.relation_terms.specs.declared.terms.const_kind.ConstKind.TheVariants.{Placeholder as ConstPlaceholder}
use Rattle.relation_terms.specs.declared.terms.const_kind.ConstKind.TheVariants.{Infer as ConstInfer, Bound as ConstBound}
use Rattle.relation_terms.specs.declared.terms.const_kind.ConstKind.TheVariants.{Unevaluated, Value, Error as ConstError, Expr}
use Rattle.relation_terms.specs.declared.terms.const_kind.InferConst.TheVariants.{Var, Fresh}
use Rattle.relation_terms.specs.declared.terms.pattern_kind.PatternKind.{PatternKind}
use Rattle.relation_terms.specs.declared.terms.pattern_kind.PatternKind.TheVariants.{Range, Or, NotNull}
use Rattle.relation_terms.specs.declared.terms.const_kind.ValTreeKind.{ValTreeKind}
use Rattle.relation_terms.specs.declared.terms.const_kind.ValTreeKind.TheVariants.{Leaf, Branch}
use Rattle.relation_terms.specs.declared.terms.ty_kind.InferTy.TheVariants.{TyVar, IntVar, FloatVar}
use Rattle.relation_terms.specs.declared.terms.ty_kind.InferTy.TheVariants.{FreshTy, FreshIntTy, FreshFloatTy}
use Rattle.relation_terms.specs.declared.terms.region_kind.RegionKind.{RegionKind}
use Rattle.relation_terms.specs.declared.terms.region_kind.RegionKind.TheVariants.{ReStatic, ReEarlyParam, ReBound}
use Rattle.relation_terms.specs.declared.terms.region_kind.RegionKind.TheVariants.{ReVar, RePlaceholder}
use Rattle.relation_terms.specs.Heads.{existential_sort, term_sort, signature_sort, binder_of, row}
use Rattle.relation_terms.specs.Trees.{IsBinder, Fits, front, last}
use Rattle.relation_terms.specs.Meaning.{under, sig_of, signature_tree, existential_tree, term_tree}
use Rattle.relation_terms.specs.Meaning.{object_predicate_tree}
use Rattle.relation_terms.specs.declared.terms.generic_arg.TermKind.{TermKind}
use Rattle.relation_terms.specs.declared.terms.generic_arg.TermKind.TheVariants.{Ty as TyTerm, Const as ConstTerm}
use Rattle.relation_terms.specs.declared.terms.fn_sig.FnSig.{FnSig}
use Rattle.relation_terms.specs.declared.predicate.existential.ExistentialPredicate.{ExistentialPredicate}
use Rattle.relation_terms.specs.declared.predicate.existential.ExistentialPredicate.TheVariants.{Trait, AutoTrait}
use Rattle.relation_terms.specs.declared.predicate.existential.ExistentialPredicate.TheVariants.{
  Projection as ProjectionPredicate,
}
use Rattle.relation_terms.specs.declared.terms.ty_kind.TyKind.TheVariants.{FnPtr, UnsafeBinder, Dynamic}
use Rattle.relation_terms.specs.declared.terms.binder.Binder.{Binder}
use Rattle.std.proofs.Common.{Some}
use Rattle.relation_terms.proofs.Binders.{under_sorted, front_known, front_terms, last_term}

pub list_sorted : {A : Type 0} (s : Sort) (f : A → Tree) → ((x : A) → IsTrue (known (f x)) → IsTerm s (f x)) →
    (xs : List A) → IsTrue (known (list_tree f xs)) → AreTerms s (list_tree f xs)
list_sorted s f h [] k = tt
list_sorted s f h (x ∷ xs) k =
    let p = and_parts (known (f x)) (known (list_tree f xs)) k in
    (h x p.0, list_sorted s f h xs p.1)

-- A region, a type or a constant is an argument.
pub widen : (s u : Sort) → ((x : Sort) → Admits s x → Admits u x) → (t : Tree) → IsTerm s t → IsTerm u t
widen s u f (leaf l) h = f (leaf_sort l) h
widen s u f (node x ts) h = (f (head_sort x) h.0, h.1)
widen s u f t h = absurd h

pub region_admitted : (x : Sort) → Admits region_sort x → Admits argument_sort x
region_admitted region_sort h = tt
region_admitted x h = absurd h

pub type_admitted : (x : Sort) → Admits type_sort x → Admits argument_sort x
type_admitted type_sort h = tt
type_admitted x h = absurd h

pub const_admitted : (x : Sort) → Admits const_sort x → Admits argument_sort x
const_admitted const_sort h = tt
const_admitted x h = absurd h

type_is_term : (x : Sort) → Admits type_sort x → Admits term_sort x
type_is_term type_sort h = tt
type_is_term x h = absurd h

const_is_term : (x : Sort) → Admits const_sort x → Admits term_sort x
const_is_term const_sort h = tt
const_is_term x h = absurd h

-- A list of binders over terms of a sort.
pub binders_sorted : {A : Type 0} (s : Sort) (f : A → Tree) → ((x : A) → IsTrue (known (f x)) → IsBinder s (f x)) →
    (xs : List A) → IsTrue (known (list_tree f xs)) → Fits (row [] (Some (binder_of s))) (list_tree f xs)
binders_sorted s f h [] k = tt
binders_sorted s f h (x ∷ xs) k =
    let p = and_parts (known (f x)) (known (list_tree f xs)) k in
    (h x p.0, binders_sorted s f h xs p.1)

pub environment_sorted : IsTerm environment_sort (node environment nil)
environment_sorted = (tt, tt)

module _ {Key Id Name : Type 0} (m : Meaning Key Id Name) where
  pub region_sorted : (f : RegionKind Name) → IsTerm region_sort (region_tree m f)
  region_sorted ReStatic = tt
  region_sorted (ReEarlyParam p) = tt
  region_sorted (ReBound d b) = tt
  region_sorted (ReVar v) = tt
  region_sorted (RePlaceholder p) = tt

  -- A region's form has a tree without unknown parts.
  pub region_known : (f : RegionKind Name) → IsTrue (known (region_tree m f))
  region_known ReStatic = refl
  region_known (ReEarlyParam p) = refl
  region_known (ReBound d b) = refl
  region_known (ReVar v) = refl
  region_known (RePlaceholder p) = refl

  pub arg_sorted : Sorted m → (a : GenericArgKind Key) → IsTrue (known (arg_tree m a)) →
      IsTerm argument_sort (arg_tree m a)
  arg_sorted s (Lifetime r) k = widen region_sort argument_sort region_admitted (m.region r) (s.region r k)
  arg_sorted s (Ty t) k = widen type_sort argument_sort type_admitted (m.ty t) (s.ty t k)
  arg_sorted s (Const c) k = widen const_sort argument_sort const_admitted (m.const_ c) (s.const_ c k)

  pub term_sorted : Sorted m → (a : TermKind Key) → IsTrue (known (term_tree m a)) → IsTerm term_sort (term_tree m a)
  term_sorted s (TyTerm t) k = widen type_sort term_sort type_is_term (m.ty t) (s.ty t k)
  term_sorted s (ConstTerm c) k = widen const_sort term_sort const_is_term (m.const_ c) (s.const_ c k)

  pub signature_sorted : Sorted m → (g : FnSig Key) → IsTrue (known (signature_tree m g)) →
      IsTerm signature_sort (signature_tree m g)
  signature_sorted s g k =
      let ts = m.tys g.inputs_and_output in
      let p = (and_parts (known (front ts)) (known (last ts) && true) k).0 in
      let h = s.tys g.inputs_and_output (front_known ts p) in
      (tt, ((tt, front_terms type_sort ts p h), (last_term type_sort ts p h, tt)))

  pub existential_sorted : Sorted m → (p : ExistentialPredicate Key Id) → IsTrue (known (existential_tree m p)) →
      IsTerm existential_sort (existential_tree m p)
  existential_sorted s (Trait t) k = (tt, s.args t.args k)
  existential_sorted s (ProjectionPredicate p) k =
      let h = and_parts (known (term_tree m p.term)) (known (m.args p.args)) k in
      (tt, (term_sorted s p.term h.0, s.args p.args h.1))
  existential_sorted s (AutoTrait d) k = tt

  pub object_predicate_sorted : Sorted m → (b : Binder Key (ExistentialPredicate Key Id)) →
      IsTrue (known (object_predicate_tree m b)) → IsBinder existential_sort (object_predicate_tree m b)
  object_predicate_sorted s b k =
      under_sorted existential_sort (m.bound_vars b.bound_vars) (existential_tree m b.value) k
      (existential_sorted s b.value)

  pub kind_sorted : Sorted m → (f : TyKind Key Id Name) → IsTrue (known (kind_tree m f)) →
      IsTerm type_sort (kind_tree m f)
  kind_sorted s Bool k = tt
  kind_sorted s Char k = tt
  kind_sorted s (Int w) k = tt
  kind_sorted s (Uint w) k = tt
  kind_sorted s (Float w) k = tt
  kind_sorted s (Adt d a) k = (tt, s.args a k)
  kind_sorted s (Foreign d) k = tt
  kind_sorted s Str k = tt
  kind_sorted s (Array t c) k =
      let p = and_parts (known (m.ty t)) (known (m.const_ c) && true) k in
      let q = and_parts (known (m.const_ c)) true p.1 in
      (tt, (s.ty t p.0, (s.const_ c q.0, tt)))
  kind_sorted s (Pat t p) k =
      let h = and_parts (known (m.ty t)) (known (m.pat p) && true) k in
      let q = and_parts (known (m.pat p)) true h.1 in
      (tt, (s.ty t h.0, (s.pat p q.0, tt)))
  kind_sorted s (Slice t) k = (tt, (s.ty t (and_parts (known (m.ty t)) true k).0, tt))
  kind_sorted s (RawPtr t u) k = (tt, (s.ty t (and_parts (known (m.ty t)) true k).0, tt))
  kind_sorted s (Ref r t u) k =
      let p = and_parts (known (m.region r)) (known (m.ty t) && true) k in
      let q = and_parts (known (m.ty t)) true p.1 in
      (tt, (s.region r p.0, (s.ty t q.0, tt)))
  kind_sorted s (FnDef d a) k = (tt, s.args a k)
  kind_sorted s (FnPtr b h) k =
      let g = sig_of b.value h in
      let p = and_parts (known (under (m.bound_vars b.bound_vars) (signature_tree m g))) true k in
      (tt, (under_sorted signature_sort (m.bound_vars b.bound_vars) (signature_tree m g) p.0 (signature_sorted s g), tt))
  kind_sorted s (UnsafeBinder b) k =
      let p = and_parts (known (under (m.bound_vars b.bound_vars) (m.ty b.value))) true k in
      (tt, (under_sorted type_sort (m.bound_vars b.bound_vars) (m.ty b.value) p.0 (s.ty b.value), tt))
  kind_sorted s (Dynamic ps r) k =
      let p = and_parts (known (m.existential_predicates ps)) (known (m.region r) && true) k in
      let q = and_parts (known (m.region r)) true p.1 in
      (tt, ((tt, s.existential_predicates ps p.0), (s.region r q.0, tt)))
  kind_sorted s (Closure d a) k = (tt, s.args a k)
  kind_sorted s (CoroutineClosure d a) k = (tt, s.args a k)
  kind_sorted s (Coroutine d a) k = (tt, s.args a k)
  kind_sorted s (CoroutineWitness d a) k = (tt, s.args a k)
  kind_sorted s Never k = tt
  kind_sorted s (Tuple ts) k = (tt, s.tys ts k)
  kind_sorted s (Alias a) k = (tt, s.args a.args k)
  kind_sorted s (TyParam p) k = tt
  kind_sorted s (TyBound d b) k = tt
  kind_sorted s (TyPlaceholder p) k = tt
  kind_sorted s (Infer (TyVar v)) k = tt
  kind_sorted s (Infer (IntVar v)) k = tt
  kind_sorted s (Infer (FloatVar v)) k = tt
  kind_sorted s (Infer (FreshTy n)) k = tt
  kind_sorted s (Infer (FreshIntTy n)) k = tt
  kind_sorted s (Infer (FreshFloatTy n)) k = tt
  kind_sorted s (TyError e) k = tt

  pub const_sorted : Sorted m → (f : ConstKind Key Id Name) → IsTrue (known (const_tree m f)) →
      IsTerm const_sort (const_tree m f)
  const_sorted s (ConstParam p) k = tt
  const_sorted s (ConstInfer (Var v)) k = tt
  const_sorted s (ConstInfer (Fresh n)) k = tt
  const_sorted s (ConstBound d b) k = tt
  const_sorted s (ConstPlaceholder p) k = tt
  const_sorted s (Unevaluated u) k = (tt, s.args u.args k)
  const_sorted s (Value t v) k =
      let p = and_parts (known (m.ty t) && true) (known (m.valtree v) && true) k in
      let q = and_parts (known (m.ty t)) true p.0 in
      let r = and_parts (known (m.valtree v)) true p.1 in
      (tt, ((tt, (s.ty t q.0, tt)), (s.valtree v r.0, tt)))
  const_sorted s (ConstError e) k = tt
  const_sorted s (Expr x a) k = (tt, s.args a k)

  pub valtree_sorted : Sorted m → (f : ValTreeKind Key) → IsTrue (known (valtree_tree m f)) →
      IsTerm value_sort (valtree_tree m f)
  valtree_sorted s (Leaf b n) k = tt
  valtree_sorted s (Branch b) k = (tt, s.branches b k)

  pub pattern_sorted : Sorted m → (f : PatternKind Key) → IsTrue (known (pattern_tree m f)) →
      IsTerm pattern_sort (pattern_tree m f)
  pattern_sorted s (Range a b) k =
      let p = and_parts (known (m.const_ a)) (known (m.const_ b) && true) k in
      let q = and_parts (known (m.const_ b)) true p.1 in
      (tt, (s.const_ a p.0, (s.const_ b q.0, tt)))
  pattern_sorted s (Or a) k = (tt, s.alternatives a k)
  pattern_sorted s NotNull k = tt
