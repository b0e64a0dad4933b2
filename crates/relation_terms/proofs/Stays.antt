-- What an interner knows stays as it is while it grows.
use Rattle.std.proofs.Common.{◌≡◌, IsTrue, true, ◌&&◌, List, [], ◌∷◌, IsSome, refl, ap, ap₂, sym, ◌∙◌, subst}
use Rattle.std.proofs.lemmas.Bool.{and_parts}
use Rattle.relation_terms.specs.Heads.{bound_kind, type_kind, const_kind, region_kind, early_region, type_param, const_param}
use Rattle.relation_terms.specs.Heads.{alias, unevaluated}
use Rattle.relation_terms.specs.Heads.{bound, pattern_type, range_pattern, or_pattern}
use Rattle.relation_terms.specs.Heads.{foreign, adt, fn_def, closure, coroutine_closure, coroutine, coroutine_witness}
use Rattle.relation_terms.specs.Heads.{array, slice, tuple, raw_ptr, ref, expression, value, value_type, value_branch}
use Rattle.relation_terms.specs.Heads.{placeholder, atom}
use Rattle.relation_terms.specs.Trees.{Tree, leaf, node, nil, cons, known, list_tree}
use Rattle.relation_terms.specs.Meaning.{Meaning, Extends, kind_tree, region_tree, const_tree, valtree_tree, arg_tree}
use Rattle.relation_terms.specs.Meaning.{term_tree, pattern_tree, alias_kind, alias_id}
use Rattle.relation_terms.specs.declared.terms.keys.TyKey.{TyKey}
use Rattle.relation_terms.specs.declared.terms.keys.RegionKey.{RegionKey}
use Rattle.relation_terms.specs.declared.terms.keys.TysKey.{TysKey}
use Rattle.relation_terms.specs.declared.terms.keys.ConstKey.{ConstKey}
use Rattle.relation_terms.specs.declared.terms.keys.ArgsKey.{ArgsKey}
use Rattle.relation_terms.specs.declared.terms.keys.ValTreeKey.{ValTreeKey}
use Rattle.relation_terms.specs.declared.terms.keys.BranchesKey.{BranchesKey}
use Rattle.relation_terms.specs.declared.terms.keys.PredicateKey.{PredicateKey}
use Rattle.relation_terms.specs.declared.terms.keys.ClauseKey.{ClauseKey}
use Rattle.relation_terms.specs.declared.terms.keys.ClausesKey.{ClausesKey}
use Rattle.relation_terms.specs.declared.terms.keys.ParamEnvKey.{ParamEnvKey}
use Rattle.relation_terms.specs.declared.terms.keys.PatKey.{PatKey}
use Rattle.relation_terms.specs.declared.terms.keys.AlternativesKey.{AlternativesKey}
use Rattle.relation_terms.specs.declared.terms.ty_kind.TyKind.{TyKind}
use Rattle.relation_terms.specs.declared.terms.ty_kind.TyKind.TheVariants.{Bool, Char, Int, Uint, Float, Adt, Foreign}
use Rattle.relation_terms.specs.declared.terms.ty_kind.TyKind.TheVariants.{Str, Array, Slice, RawPtr, Ref, FnDef}
use Rattle.relation_terms.specs.declared.terms.ty_kind.TyKind.TheVariants.{Closure, CoroutineClosure, Coroutine}
use Rattle.relation_terms.specs.declared.terms.ty_kind.TyKind.TheVariants.{CoroutineWitness, Never, Tuple, Infer}
use Rattle.relation_terms.specs.declared.terms.ty_kind.TyKind.TheVariants.{Param as TyParam, Bound as TyBound}
use Rattle.relation_terms.specs.declared.terms.ty_kind.TyKind.TheVariants.{Error as TyError, Alias, Pat}
use Rattle.relation_terms.specs.declared.terms.ty_kind.TyKind.TheVariants.{Placeholder as TyPlaceholder}
use Rattle.relation_terms.specs.declared.terms.const_kind.ConstKind.{ConstKind}
use Rattle.relation_terms.specs.declared.terms.const_kind.ConstKind.TheVariants.{Param as ConstParam}
use Rattle.relation_terms.specs.declared.terms.const_kind.ConstKind.TheVariants.{Placeholder as ConstPlaceholder}
use Rattle.relation_terms.specs.declared.terms.const_kind.ConstKind.TheVariants.{Infer as ConstInfer, Bound as ConstBound}
use Rattle.relation_terms.specs.declared.terms.const_kind.ConstKind.TheVariants.{Unevaluated, Value, Error as ConstError, Expr}
use Rattle.relation_terms.specs.declared.terms.const_kind.ValTreeKind.{ValTreeKind}
use Rattle.relation_terms.specs.declared.terms.const_kind.ValTreeKind.TheVariants.{Leaf, Branch}
use Rattle.relation_terms.specs.declared.terms.region_kind.RegionKind.{RegionKind}
use Rattle.relation_terms.specs.declared.terms.region_kind.RegionKind.TheVariants.{ReStatic, ReEarlyParam, ReBound}
use Rattle.relation_terms.specs.declared.terms.region_kind.RegionKind.TheVariants.{ReVar, RePlaceholder}
use Rattle.relation_terms.specs.declared.terms.pattern_kind.PatternKind.{PatternKind}
use Rattle.relation_terms.specs.declared.terms.pattern_kind.PatternKind.TheVariants.{Range, Or, NotNull}
use Rattle.relation_terms.specs.declared.terms.generic_arg.GenericArgKind.{GenericArgKind}
use Rattle.relation_terms.specs.declared.terms.generic_arg.GenericArgKind.TheVariants.{Lifetime, Ty, Const}
use Rattle.relation_terms.specs.declared.terms.generic_arg.TermKind.{TermKind}
use Rattle.relation_terms.specs.declared.terms.generic_arg.TermKind.TheVariants.{Ty as TyTerm, Const as ConstTerm}
use Rattle.relation_terms.specs.Heads.{fn_ptr, unsafe_binder, dynamic, signature, inputs, object, existential_trait}
use Rattle.relation_terms.specs.Heads.{existential_projection, existential_auto}
use Rattle.relation_terms.specs.Trees.{front, last}
use Rattle.relation_terms.specs.Meaning.{under, sig_of, signature_tree, existential_tree, object_predicate_tree}
use Rattle.relation_terms.specs.declared.terms.fn_sig.FnSig.{FnSig}
use Rattle.relation_terms.specs.declared.predicate.existential.ExistentialPredicate.{ExistentialPredicate}
use Rattle.relation_terms.specs.declared.predicate.existential.ExistentialPredicate.TheVariants.{Trait, AutoTrait}
use Rattle.relation_terms.specs.declared.predicate.existential.ExistentialPredicate.TheVariants.{
  Projection as ProjectionPredicate,
}
use Rattle.relation_terms.specs.declared.terms.ty_kind.TyKind.TheVariants.{FnPtr, UnsafeBinder, Dynamic}
use Rattle.relation_terms.specs.declared.terms.binder.Binder.{Binder}
use Rattle.relation_terms.proofs.Binders.{under_stays, front_known}

-- Of equal trees both are known or neither.
pub knows_as : (t u : Tree) → u ≡ t → IsTrue (known t) → IsTrue (known u)
knows_as t u e k = subst (λ x. IsTrue (known x)) (sym e) k

pub stays_same : {Key Id Name : Type 0} (m : Meaning Key Id Name) → Extends m m
stays_same m = record {
  ty = λ k h. refl;
  region = λ k h. refl;
  const_ = λ k h. refl;
  args = λ k h. refl;
  tys = λ k h. refl;
  pat = λ k h. refl;
  valtree = λ k h. refl;
  branches = λ k h. refl;
  alternatives = λ k h. refl;
  existential_predicates = λ k h. refl;
  bound_vars = λ k h. refl;
  predicate = λ k h. refl;
  clause = λ k h. refl;
  clauses = λ k h. refl;
  param_env = λ k h. refl;
  id = λ k. refl;
  name = λ k. refl;
  generics = refl;
  variances = refl;
  alias_variances = refl;
  tables = refl;
}

-- A step and the steps after it, at one key.
on : {K : Type 0} (f g h : K → Tree) (k : K) → (IsTrue (known (f k)) → g k ≡ f k) → (IsTrue (known (g k)) → h k ≡ g k) →
    IsTrue (known (f k)) → h k ≡ f k
on f g h k e d i = d (knows_as (f k) (g k) (e i) i) ∙ e i

module _ {Key Id Name : Type 0} {m n o : Meaning Key Id Name} where
  pub extends_on : Extends m n → Extends n o → Extends m o
  extends_on e f = record {
    ty = λ k. on m.ty n.ty o.ty k (e.ty k) (f.ty k);
    region = λ k. on m.region n.region o.region k (e.region k) (f.region k);
    const_ = λ k. on m.const_ n.const_ o.const_ k (e.const_ k) (f.const_ k);
    args = λ k. on m.args n.args o.args k (e.args k) (f.args k);
    tys = λ k. on m.tys n.tys o.tys k (e.tys k) (f.tys k);
    pat = λ k. on m.pat n.pat o.pat k (e.pat k) (f.pat k);
    valtree = λ k. on m.valtree n.valtree o.valtree k (e.valtree k) (f.valtree k);
    branches = λ k. on m.branches n.branches o.branches k (e.branches k) (f.branches k);
    alternatives = λ k. on m.alternatives n.alternatives o.alternatives k (e.alternatives k) (f.alternatives k);
    existential_predicates = λ k.
        on m.existential_predicates n.existential_predicates o.existential_predicates k
        (e.existential_predicates k) (f.existential_predicates k);
    bound_vars = λ k h. f.bound_vars k (subst (λ x. IsSome x) (sym (e.bound_vars k h)) h) ∙ e.bound_vars k h;
    predicate = λ k. on m.predicate n.predicate o.predicate k (e.predicate k) (f.predicate k);
    clause = λ k. on m.clause n.clause o.clause k (e.clause k) (f.clause k);
    clauses = λ k. on m.clauses n.clauses o.clauses k (e.clauses k) (f.clauses k);
    param_env = λ k. on m.param_env n.param_env o.param_env k (e.param_env k) (f.param_env k);
    id = λ d. f.id d ∙ e.id d;
    name = λ s. f.name s ∙ e.name s;
    generics = f.generics ∙ e.generics;
    variances = f.variances ∙ e.variances;
    alias_variances = f.alias_variances ∙ e.alias_variances;
    tables = f.tables ∙ e.tables;
  }

-- What is known stays known.
module _ {Key Id Name : Type 0} {m n : Meaning Key Id Name} (e : Extends m n) where
  pub knows_ty : (k : TyKey Key) → IsTrue (known (m.ty k)) → IsTrue (known (n.ty k))
  knows_ty k h = knows_as (m.ty k) (n.ty k) (e.ty k h) h

  pub knows_region : (k : RegionKey Key) → IsTrue (known (m.region k)) → IsTrue (known (n.region k))
  knows_region k h = knows_as (m.region k) (n.region k) (e.region k h) h

  pub knows_tys : (k : TysKey Key) → IsTrue (known (m.tys k)) → IsTrue (known (n.tys k))
  knows_tys k h = knows_as (m.tys k) (n.tys k) (e.tys k h) h

  pub knows_const : (k : ConstKey Key) → IsTrue (known (m.const_ k)) → IsTrue (known (n.const_ k))
  knows_const k h = knows_as (m.const_ k) (n.const_ k) (e.const_ k h) h

  pub knows_args : (k : ArgsKey Key) → IsTrue (known (m.args k)) → IsTrue (known (n.args k))
  knows_args k h = knows_as (m.args k) (n.args k) (e.args k h) h

  pub knows_valtree : (k : ValTreeKey Key) → IsTrue (known (m.valtree k)) → IsTrue (known (n.valtree k))
  knows_valtree k h = knows_as (m.valtree k) (n.valtree k) (e.valtree k h) h

  pub knows_branches : (k : BranchesKey Key) → IsTrue (known (m.branches k)) → IsTrue (known (n.branches k))
  knows_branches k h = knows_as (m.branches k) (n.branches k) (e.branches k h) h

  pub knows_pat : (k : PatKey Key) → IsTrue (known (m.pat k)) → IsTrue (known (n.pat k))
  knows_pat k h = knows_as (m.pat k) (n.pat k) (e.pat k h) h

  pub knows_alternatives : (k : AlternativesKey Key) → IsTrue (known (m.alternatives k)) →
      IsTrue (known (n.alternatives k))
  knows_alternatives k h = knows_as (m.alternatives k) (n.alternatives k) (e.alternatives k h) h

  pub knows_predicate : (k : PredicateKey Key) → IsTrue (known (m.predicate k)) → IsTrue (known (n.predicate k))
  knows_predicate k h = knows_as (m.predicate k) (n.predicate k) (e.predicate k h) h

  pub knows_clause : (k : ClauseKey Key) → IsTrue (known (m.clause k)) → IsTrue (known (n.clause k))
  knows_clause k h = knows_as (m.clause k) (n.clause k) (e.clause k h) h

  pub knows_clauses : (k : ClausesKey Key) → IsTrue (known (m.clauses k)) → IsTrue (known (n.clauses k))
  knows_clauses k h = knows_as (m.clauses k) (n.clauses k) (e.clauses k h) h

  pub knows_param_env : (k : ParamEnvKey Key) → IsTrue (known (m.param_env k)) → IsTrue (known (n.param_env k))
  knows_param_env k h = knows_as (m.param_env k) (n.param_env k) (e.param_env k h) h

-- A list of known elements keeps its tree.
pub stays_list : {A : Type 0} (f g : A → Tree) (xs : List A) → ((x : A) → IsTrue (known (f x)) → g x ≡ f x) →
    IsTrue (known (list_tree f xs)) → list_tree g xs ≡ list_tree f xs
stays_list f g [] s k = refl
stays_list f g (x ∷ xs) s k =
    let p = and_parts (known (f x)) (known (list_tree f xs)) k in
    ap₂ (λ y z. cons y z) (s x p.0) (stays_list f g xs s p.1)

-- A known form keeps its tree.
module _ {Key Id Name : Type 0} {m n : Meaning Key Id Name} (e : Extends m n) where
  pub stays_arg : (a : GenericArgKind Key) → IsTrue (known (arg_tree m a)) → arg_tree n a ≡ arg_tree m a
  stays_arg (Lifetime r) k = e.region r k
  stays_arg (Ty t) k = e.ty t k
  stays_arg (Const c) k = e.const_ c k

  pub knows_arg : (a : GenericArgKind Key) → IsTrue (known (arg_tree m a)) → IsTrue (known (arg_tree n a))
  knows_arg a h = knows_as (arg_tree m a) (arg_tree n a) (stays_arg a h) h

  pub stays_term : (a : TermKind Key) → IsTrue (known (term_tree m a)) → term_tree n a ≡ term_tree m a
  stays_term (TyTerm t) k = e.ty t k
  stays_term (ConstTerm c) k = e.const_ c k

  pub stays_signature : (g : FnSig Key) → IsTrue (known (signature_tree m g)) → signature_tree n g ≡ signature_tree m g
  stays_signature g k =
      let ts = m.tys g.inputs_and_output in
      let p = (and_parts (known (front ts)) (known (last ts) && true) k).0 in
      ap (λ x. node (signature (g.header).c_variadic (g.header).safety (g.header).abi)
      (cons (node inputs (front x)) (cons (last x) nil))) (e.tys g.inputs_and_output (front_known ts p))

  pub stays_existential : (p : ExistentialPredicate Key Id) → IsTrue (known (existential_tree m p)) →
      existential_tree n p ≡ existential_tree m p
  stays_existential (Trait t) k = ap₂ (λ x y. node (existential_trait x) y) (e.id (t.def_id).0) (e.args t.args k)
  stays_existential (ProjectionPredicate p) k =
      let h = and_parts (known (term_tree m p.term)) (known (m.args p.args)) k in
      ap₂ (λ x y. node (existential_projection x) y) (e.id (p.def_id).0)
      (ap₂ (λ x y. cons x y) (stays_term p.term h.0) (e.args p.args h.1))
  stays_existential (AutoTrait d) k = ap (λ x. leaf (atom (existential_auto x))) (e.id d.0)

  pub stays_object_predicate : (b : Binder Key (ExistentialPredicate Key Id)) →
      IsTrue (known (object_predicate_tree m b)) → object_predicate_tree n b ≡ object_predicate_tree m b
  stays_object_predicate b k =
      under_stays (m.bound_vars b.bound_vars) (n.bound_vars b.bound_vars) (existential_tree m b.value)
      (existential_tree n b.value) (e.bound_vars b.bound_vars) (stays_existential b.value) k

  pub stays_kind : (a : TyKind Key Id Name) → IsTrue (known (kind_tree m a)) → kind_tree n a ≡ kind_tree m a
  stays_kind Bool k = refl
  stays_kind Char k = refl
  stays_kind (Int w) k = refl
  stays_kind (Uint w) k = refl
  stays_kind (Float w) k = refl
  stays_kind (Adt d a) k = ap₂ (λ x y. node (adt x) y) (e.id d.0) (e.args a k)
  stays_kind (Foreign d) k = ap (λ x. leaf (atom (foreign x))) (e.id d.0)
  stays_kind Str k = refl
  stays_kind (Array t c) k =
      let p = and_parts (known (m.ty t)) (known (m.const_ c) && true) k in
      let q = and_parts (known (m.const_ c)) true p.1 in
      ap₂ (λ x y. node array (cons x (cons y nil))) (e.ty t p.0) (e.const_ c q.0)
  stays_kind (Pat t p) k =
      let h = and_parts (known (m.ty t)) (known (m.pat p) && true) k in
      let q = and_parts (known (m.pat p)) true h.1 in
      ap₂ (λ x y. node pattern_type (cons x (cons y nil))) (e.ty t h.0) (e.pat p q.0)
  stays_kind (Slice t) k =
      ap (λ x. node slice (cons x nil)) (e.ty t (and_parts (known (m.ty t)) true k).0)
  stays_kind (RawPtr t u) k =
      ap (λ x. node (raw_ptr u) (cons x nil)) (e.ty t (and_parts (known (m.ty t)) true k).0)
  stays_kind (Ref r t u) k =
      let p = and_parts (known (m.region r)) (known (m.ty t) && true) k in
      let q = and_parts (known (m.ty t)) true p.1 in
      ap₂ (λ x y. node (ref u) (cons x (cons y nil))) (e.region r p.0) (e.ty t q.0)
  stays_kind (FnDef d a) k = ap₂ (λ x y. node (fn_def x) y) (e.id d.0) (e.args a k)
  stays_kind (FnPtr b h) k =
      let g = sig_of b.value h in
      let p = and_parts (known (under (m.bound_vars b.bound_vars) (signature_tree m g))) true k in
      ap (λ x. node fn_ptr (cons x nil)) (under_stays (m.bound_vars b.bound_vars) (n.bound_vars b.bound_vars)
      (signature_tree m g) (signature_tree n g) (e.bound_vars b.bound_vars) (stays_signature g) p.0)
  stays_kind (UnsafeBinder b) k =
      let p = and_parts (known (under (m.bound_vars b.bound_vars) (m.ty b.value))) true k in
      ap (λ x. node unsafe_binder (cons x nil)) (under_stays (m.bound_vars b.bound_vars) (n.bound_vars b.bound_vars)
      (m.ty b.value) (n.ty b.value) (e.bound_vars b.bound_vars) (e.ty b.value) p.0)
  stays_kind (Dynamic ps r) k =
      let p = and_parts (known (m.existential_predicates ps)) (known (m.region r) && true) k in
      let q = and_parts (known (m.region r)) true p.1 in
      ap₂ (λ x y. node dynamic (cons (node object x) (cons y nil))) (e.existential_predicates ps p.0) (e.region r q.0)
  stays_kind (Closure d a) k = ap₂ (λ x y. node (closure x) y) (e.id d.0) (e.args a k)
  stays_kind (CoroutineClosure d a) k = ap₂ (λ x y. node (coroutine_closure x) y) (e.id d.0) (e.args a k)
  stays_kind (Coroutine d a) k = ap₂ (λ x y. node (coroutine x) y) (e.id d.0) (e.args a k)
  stays_kind (CoroutineWitness d a) k = ap₂ (λ x y. node (coroutine_witness x) y) (e.id d.0) (e.args a k)
  stays_kind Never k = refl
  stays_kind (Tuple ts) k = ap (λ x. node tuple x) (e.tys ts k)
  stays_kind (Alias a) k = ap₂ (λ x y. node (alias (alias_kind a.kind) x) y) (e.id (alias_id a.kind)) (e.args a.args k)
  stays_kind (TyParam p) k = ap (λ x. leaf (atom (type_param p.index x))) (e.name p.name)
  stays_kind (TyBound d b) k = ap (λ x. leaf (bound (bound_kind type_kind x) d.0 (b.var).0)) (e.name b.name)
  stays_kind (TyPlaceholder p) k =
      ap (λ x. leaf (placeholder (bound_kind type_kind x) (p.universe).0 ((p.bound).var).0)) (e.name (p.bound).name)
  stays_kind (Infer i) k = refl
  stays_kind (TyError x) k = refl

  pub stays_const : (a : ConstKind Key Id Name) → IsTrue (known (const_tree m a)) → const_tree n a ≡ const_tree m a
  stays_const (ConstParam p) k = ap (λ x. leaf (atom (const_param p.index x))) (e.name p.name)
  stays_const (ConstInfer i) k = refl
  stays_const (ConstBound d b) k = ap (λ x. leaf (bound (bound_kind const_kind x) d.0 (b.var).0)) (e.name b.name)
  stays_const (ConstPlaceholder p) k =
      ap (λ x. leaf (placeholder (bound_kind const_kind x) (p.universe).0 ((p.bound).var).0)) (e.name (p.bound).name)
  stays_const (Unevaluated u) k = ap₂ (λ x y. node (unevaluated x) y) (e.id (u.def).0) (e.args u.args k)
  stays_const (Value t v) k =
      let p = and_parts (known (m.ty t) && true) (known (m.valtree v) && true) k in
      let q = and_parts (known (m.ty t)) true p.0 in
      let r = and_parts (known (m.valtree v)) true p.1 in
      ap₂ (λ x y. node value (cons (node value_type (cons x nil)) (cons y nil))) (e.ty t q.0) (e.valtree v r.0)
  stays_const (ConstError x) k = refl
  stays_const (Expr x a) k = ap (λ y. node (expression x.0) y) (e.args a k)

  pub stays_valtree : (a : ValTreeKind Key) → IsTrue (known (valtree_tree m a)) → valtree_tree n a ≡ valtree_tree m a
  stays_valtree (Leaf b n) k = refl
  stays_valtree (Branch b) k = ap (λ x. node value_branch x) (e.branches b k)

  pub stays_pattern : (a : PatternKind Key) → IsTrue (known (pattern_tree m a)) → pattern_tree n a ≡ pattern_tree m a
  stays_pattern (Range s f) k =
      let p = and_parts (known (m.const_ s)) (known (m.const_ f) && true) k in
      let q = and_parts (known (m.const_ f)) true p.1 in
      ap₂ (λ x y. node range_pattern (cons x (cons y nil))) (e.const_ s p.0) (e.const_ f q.0)
  stays_pattern (Or a) k = ap (λ x. node or_pattern x) (e.alternatives a k)
  stays_pattern NotNull k = refl

  pub stays_region : (a : RegionKind Name) → IsTrue (known (region_tree m a)) → region_tree n a ≡ region_tree m a
  stays_region ReStatic k = refl
  stays_region (ReEarlyParam p) k = ap (λ x. leaf (atom (early_region p.index x))) (e.name p.name)
  stays_region (ReBound d b) k = ap (λ x. leaf (bound (bound_kind region_kind x) d.0 (b.var).0)) (e.name b.name)
  stays_region (ReVar v) k = refl
  stays_region (RePlaceholder p) k =
      ap (λ x. leaf (placeholder (bound_kind region_kind x) (p.universe).0 ((p.bound).var).0)) (e.name (p.bound).name)
