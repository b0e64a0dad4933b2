-- What the keys of an interner and the forms over them mean.
use Rattle.std.specs.Prelude.{ℕ, ◌≡◌, IsTrue, List, map, Option, Some, None, IsSome}
use Rattle.relation_terms.specs.Heads.{BoundKind, bound_kind, type_kind, const_kind, region_kind, type_var, int_var}
use Rattle.relation_terms.specs.Heads.{float_var, const_var, region_var, AliasKind}
use Rattle.relation_terms.specs.Heads.{fresh_type, fresh_int, fresh_float, type_error, const_error, fresh_const}
use Rattle.relation_terms.specs.Heads.{projection_alias, inherent_alias, opaque_alias, free_alias, alias, unevaluated}
use Rattle.relation_terms.specs.Heads.{pattern_type, range_pattern, or_pattern, not_null_pattern}
use Rattle.relation_terms.specs.Heads.{bool_type, char_type, str_type, never_type, int_type, uint_type, float_type}
use Rattle.relation_terms.specs.Heads.{foreign, type_param, static_region, early_region, const_param, value_leaf}
use Rattle.relation_terms.specs.Heads.{adt, fn_def, closure, coroutine_closure, coroutine, coroutine_witness}
use Rattle.relation_terms.specs.Heads.{array, slice, tuple, raw_ptr, ref, expression, value, value_type, value_branch}
use Rattle.relation_terms.specs.Heads.{fn_ptr, unsafe_binder, dynamic, signature, inputs, object, existential_trait}
use Rattle.relation_terms.specs.Heads.{existential_projection, existential_auto}
use Rattle.relation_terms.specs.Heads.{variable, bound, placeholder, atom, unknown}
use Rattle.relation_terms.specs.Trees.{Tree, leaf, node, bind, nil, cons, known, front, last}
use Rattle.relation_terms.specs.Tables.{Tables}
use Rattle.term_enums.specs.declared.Variance.{Variance}
use Rattle.relation_terms.specs.declared.terms.keys.TyKey.{TyKey}
use Rattle.relation_terms.specs.declared.terms.keys.RegionKey.{RegionKey}
use Rattle.relation_terms.specs.declared.terms.keys.ConstKey.{ConstKey}
use Rattle.relation_terms.specs.declared.terms.keys.ArgsKey.{ArgsKey}
use Rattle.relation_terms.specs.declared.terms.keys.TysKey.{TysKey}
use Rattle.relation_terms.specs.declared.terms.keys.PatKey.{PatKey}
use Rattle.relation_terms.specs.declared.terms.keys.ValTreeKey.{ValTreeKey}
use Rattle.relation_terms.specs.declared.terms.keys.BranchesKey.{BranchesKey}
use Rattle.relation_terms.specs.declared.terms.keys.AlternativesKey.{AlternativesKey}
use Rattle.relation_terms.specs.declared.terms.keys.ExistentialPredicatesKey.{ExistentialPredicatesKey}
use Rattle.relation_terms.specs.declared.terms.keys.BoundVarsKey.{BoundVarsKey}
use Rattle.relation_terms.specs.declared.terms.keys.PredicateKey.{PredicateKey}
use Rattle.relation_terms.specs.declared.terms.keys.ClauseKey.{ClauseKey}
use Rattle.relation_terms.specs.declared.terms.keys.ClausesKey.{ClausesKey}
use Rattle.relation_terms.specs.declared.terms.keys.ParamEnvKey.{ParamEnvKey}
use Rattle.relation_terms.specs.declared.terms.placeholder.Placeholder.{Placeholder}
use Rattle.relation_terms.specs.declared.terms.numbers.DebruijnIndex.{DebruijnIndex}
use Rattle.relation_terms.specs.declared.terms.alias.AliasTyKind.{AliasTyKind}
use Rattle.relation_terms.specs.declared.terms.alias.AliasTyKind.TheVariants.{Projection, Inherent, Opaque, Free}
use Rattle.relation_terms.specs.declared.terms.placeholder.BoundTy.{BoundTy}
use Rattle.relation_terms.specs.declared.terms.placeholder.BoundConst.{BoundConst}
use Rattle.relation_terms.specs.declared.terms.ty_kind.TyKind.{TyKind}
use Rattle.relation_terms.specs.declared.terms.ty_kind.TyKind.TheVariants.{Bool, Char, Int, Uint, Float, Adt, Foreign}
use Rattle.relation_terms.specs.declared.terms.ty_kind.TyKind.TheVariants.{Str, Array, Slice, RawPtr, Ref, FnDef}
use Rattle.relation_terms.specs.declared.terms.ty_kind.TyKind.TheVariants.{Closure, CoroutineClosure, Coroutine}
use Rattle.relation_terms.specs.declared.terms.ty_kind.TyKind.TheVariants.{CoroutineWitness, Never, Tuple, Infer}
use Rattle.relation_terms.specs.declared.terms.ty_kind.TyKind.TheVariants.{FnPtr, UnsafeBinder, Dynamic}
use Rattle.relation_terms.specs.declared.terms.ty_kind.TyKind.TheVariants.{Param as TyParam, Bound as TyBound}
use Rattle.relation_terms.specs.declared.terms.ty_kind.TyKind.TheVariants.{Error as TyError, Alias, Pat}
use Rattle.relation_terms.specs.declared.terms.ty_kind.TyKind.TheVariants.{Placeholder as TyPlaceholder}
use Rattle.relation_terms.specs.declared.terms.ty_kind.InferTy.{InferTy}
use Rattle.relation_terms.specs.declared.terms.ty_kind.InferTy.TheVariants.{TyVar, IntVar, FloatVar}
use Rattle.relation_terms.specs.declared.terms.ty_kind.InferTy.TheVariants.{FreshTy, FreshIntTy, FreshFloatTy}
use Rattle.relation_terms.specs.declared.terms.const_kind.ConstKind.{ConstKind}
use Rattle.relation_terms.specs.declared.terms.const_kind.ConstKind.TheVariants.{Param as ConstParam}
use Rattle.relation_terms.specs.declared.terms.const_kind.ConstKind.TheVariants.{Placeholder as ConstPlaceholder}
use Rattle.relation_terms.specs.declared.terms.const_kind.ConstKind.TheVariants.{Infer as ConstInfer, Bound as ConstBound}
use Rattle.relation_terms.specs.declared.terms.const_kind.ConstKind.TheVariants.{Unevaluated, Value, Error as ConstError, Expr}
use Rattle.relation_terms.specs.declared.terms.const_kind.InferConst.{InferConst}
use Rattle.relation_terms.specs.declared.terms.const_kind.InferConst.TheVariants.{Var, Fresh}
use Rattle.relation_terms.specs.declared.terms.const_kind.ValTreeKind.{ValTreeKind}
use Rattle.relation_terms.specs.declared.terms.const_kind.ValTreeKind.TheVariants.{Leaf, Branch}
use Rattle.relation_terms.specs.declared.terms.region_kind.RegionKind.{RegionKind}
use Rattle.relation_terms.specs.declared.terms.region_kind.RegionKind.TheVariants.{ReStatic, ReEarlyParam, ReBound}
use Rattle.relation_terms.specs.declared.terms.region_kind.RegionKind.TheVariants.{ReVar, RePlaceholder}
use Rattle.relation_terms.specs.declared.terms.region_kind.BoundRegion.{BoundRegion}
use Rattle.relation_terms.specs.declared.terms.pattern_kind.PatternKind.{PatternKind}
use Rattle.relation_terms.specs.declared.terms.pattern_kind.PatternKind.TheVariants.{Range, Or, NotNull}
use Rattle.relation_terms.specs.declared.terms.generic_arg.GenericArgKind.{GenericArgKind}
use Rattle.relation_terms.specs.declared.terms.generic_arg.GenericArgKind.TheVariants.{Lifetime, Ty, Const}
use Rattle.relation_terms.specs.declared.terms.binder.Binder.{Binder}
use Rattle.relation_terms.specs.declared.terms.binder.BoundVariableKind.{BoundVariableKind}
use Rattle.relation_terms.specs.declared.terms.binder.BoundVariableKind.TheVariants.{Ty as TyVariable}
use Rattle.relation_terms.specs.declared.terms.binder.BoundVariableKind.TheVariants.{Region as RegionVariable}
use Rattle.relation_terms.specs.declared.terms.binder.BoundVariableKind.TheVariants.{Const as ConstVariable}
use Rattle.relation_terms.specs.declared.terms.fn_sig.FnSig.{FnSig}
use Rattle.relation_terms.specs.declared.terms.fn_sig.FnSigTys.{FnSigTys}
use Rattle.term_enums.specs.declared.FnHeader.{FnHeader}
use Rattle.relation_terms.specs.declared.predicate.existential.ExistentialPredicate.{ExistentialPredicate}
use Rattle.relation_terms.specs.declared.predicate.existential.ExistentialPredicate.TheVariants.{Trait, AutoTrait}
use Rattle.relation_terms.specs.declared.predicate.existential.ExistentialPredicate.TheVariants.{
  Projection as ProjectionPredicate,
}
use Rattle.relation_terms.specs.declared.terms.generic_arg.TermKind.{TermKind}
use Rattle.relation_terms.specs.declared.terms.generic_arg.TermKind.TheVariants.{Ty as TyTerm, Const as ConstTerm}

-- The tree of each key, the list of lists' trees, the number of each id and name, and of the item of a number how
-- many generic parameters it has, the variances that are declared of them, the variances at which an alias type of the
-- item is related, where it has any, and what the tables say of it. What an interner does not know has a tree with the
-- leaf `unknown`, and of a binder's variables none.
pub record Meaning (Key Id Name : Type 0) : Type 0 where
  pub ty : TyKey Key → Tree
  pub region : RegionKey Key → Tree
  pub const_ : ConstKey Key → Tree
  pub args : ArgsKey Key → Tree
  pub tys : TysKey Key → Tree
  pub pat : PatKey Key → Tree
  pub valtree : ValTreeKey Key → Tree
  pub branches : BranchesKey Key → Tree
  pub alternatives : AlternativesKey Key → Tree
  pub existential_predicates : ExistentialPredicatesKey Key → Tree
  pub bound_vars : BoundVarsKey Key → Option (List BoundKind)
  pub predicate : PredicateKey Key → Tree
  pub clause : ClauseKey Key → Tree
  pub clauses : ClausesKey Key → Tree
  pub param_env : ParamEnvKey Key → Tree
  pub id : Id → ℕ
  pub name : Name → ℕ
  pub generics : ℕ → ℕ
  pub variances : ℕ → List Variance
  pub alias_variances : ℕ → Option (List Variance)
  pub tables : Tables Key Id

-- The second has all that the first knows, and by the same trees.
pub record Extends {Key Id Name : Type 0} (m n : Meaning Key Id Name) : Type 0 where
  pub ty : (k : TyKey Key) → IsTrue (known (m.ty k)) → n.ty k ≡ m.ty k
  pub region : (k : RegionKey Key) → IsTrue (known (m.region k)) → n.region k ≡ m.region k
  pub const_ : (k : ConstKey Key) → IsTrue (known (m.const_ k)) → n.const_ k ≡ m.const_ k
  pub args : (k : ArgsKey Key) → IsTrue (known (m.args k)) → n.args k ≡ m.args k
  pub tys : (k : TysKey Key) → IsTrue (known (m.tys k)) → n.tys k ≡ m.tys k
  pub pat : (k : PatKey Key) → IsTrue (known (m.pat k)) → n.pat k ≡ m.pat k
  pub valtree : (k : ValTreeKey Key) → IsTrue (known (m.valtree k)) → n.valtree k ≡ m.valtree k
  pub branches : (k : BranchesKey Key) → IsTrue (known (m.branches k)) → n.branches k ≡ m.branches k
  pub alternatives : (k : AlternativesKey Key) → IsTrue (known (m.alternatives k)) → n.alternatives k ≡ m.alternatives k
  pub existential_predicates : (k : ExistentialPredicatesKey Key) → IsTrue (known (m.existential_predicates k)) →
      n.existential_predicates k ≡ m.existential_predicates k
  pub bound_vars : (k : BoundVarsKey Key) → IsSome (m.bound_vars k) → n.bound_vars k ≡ m.bound_vars k
  pub predicate : (k : PredicateKey Key) → IsTrue (known (m.predicate k)) → n.predicate k ≡ m.predicate k
  pub clause : (k : ClauseKey Key) → IsTrue (known (m.clause k)) → n.clause k ≡ m.clause k
  pub clauses : (k : ClausesKey Key) → IsTrue (known (m.clauses k)) → n.clauses k ≡ m.clauses k
  pub param_env : (k : ParamEnvKey Key) → IsTrue (known (m.param_env k)) → n.param_env k ≡ m.param_env k
  pub id : (d : Id) → n.id d ≡ m.id d
  pub name : (s : Name) → n.name s ≡ m.name s
  pub generics : n.generics ≡ m.generics
  pub variances : n.variances ≡ m.variances
  pub alias_variances : n.alias_variances ≡ m.alias_variances
  pub tables : n.tables ≡ m.tables

-- Which kind of alias a type is, and its id.
abbrev pub alias_kind : {Id : Type 0} → AliasTyKind Id → AliasKind
alias_kind (Projection d) = projection_alias
alias_kind (Inherent d) = inherent_alias
alias_kind (Opaque d) = opaque_alias
alias_kind (Free d) = free_alias

abbrev pub alias_id : {Id : Type 0} → AliasTyKind Id → Id
alias_id (Projection d) = d.0
alias_id (Inherent d) = d.0
alias_id (Opaque d) = d.0
alias_id (Free d) = d.0

-- The tree of a variable.
abbrev pub infer_tree : InferTy → Tree
infer_tree (TyVar v) = leaf (variable type_var v.0)
infer_tree (IntVar v) = leaf (variable int_var v.0)
infer_tree (FloatVar v) = leaf (variable float_var v.0)
infer_tree (FreshTy n) = leaf (atom (fresh_type n))
infer_tree (FreshIntTy n) = leaf (atom (fresh_int n))
infer_tree (FreshFloatTy n) = leaf (atom (fresh_float n))

-- The tree of a constant's variable.
abbrev pub infer_const_tree : InferConst → Tree
infer_const_tree (Var v) = leaf (variable const_var v.0)
infer_const_tree (Fresh n) = leaf (atom (fresh_const n))

-- A tree under the binder of a list of variables, where the list is known.
abbrev pub under : Option (List BoundKind) → Tree → Tree
under (Some ks) t = bind ks t
under None t = leaf unknown

-- A value of a type.
abbrev pub value_tree : Tree → Tree → Tree
value_tree t v = node value (cons (node value_type (cons t nil)) (cons v nil))

-- The signature of these types and this header.
abbrev pub sig_of : {Key : Type 0} → FnSigTys Key → FnHeader → FnSig Key
sig_of tys header = record { inputs_and_output = tys.inputs_and_output; header = header }

module _ {Key Id Name : Type 0} (m : Meaning Key Id Name) where
  -- A variable of a binder, and a list of them.
  abbrev pub bound_kind_of : BoundVariableKind Name → BoundKind
  bound_kind_of (TyVariable n) = bound_kind type_kind (m.name n)
  bound_kind_of (RegionVariable n) = bound_kind region_kind (m.name n)
  bound_kind_of (ConstVariable n) = bound_kind const_kind (m.name n)

  abbrev pub bound_kinds : List (BoundVariableKind Name) → List BoundKind
  bound_kinds list = map bound_kind_of list

  -- The tree of a term.
  abbrev pub term_tree : TermKind Key → Tree
  term_tree (TyTerm t) = m.ty t
  term_tree (ConstTerm c) = m.const_ c

  -- The tree of a signature.
  abbrev pub signature_tree : FnSig Key → Tree
  signature_tree s = node (signature (s.header).c_variadic (s.header).safety (s.header).abi)
      (cons (node inputs (front (m.tys s.inputs_and_output))) (cons (last (m.tys s.inputs_and_output)) nil))

  -- The tree of a trait object's predicate, and of one under its binder.
  abbrev pub existential_tree : ExistentialPredicate Key Id → Tree
  existential_tree (Trait t) = node (existential_trait (m.id (t.def_id).0)) (m.args t.args)
  existential_tree (ProjectionPredicate p) =
      node (existential_projection (m.id (p.def_id).0)) (cons (term_tree p.term) (m.args p.args))
  existential_tree (AutoTrait d) = leaf (atom (existential_auto (m.id d.0)))

  abbrev pub object_predicate_tree : Binder Key (ExistentialPredicate Key Id) → Tree
  object_predicate_tree b = under (m.bound_vars b.bound_vars) (existential_tree b.value)

  -- The tree of a type placeholder.
  abbrev pub ty_placeholder_tree : Placeholder (BoundTy Name) → Tree
  ty_placeholder_tree p =
      leaf (placeholder (bound_kind type_kind (m.name (p.bound).name)) (p.universe).0 ((p.bound).var).0)

  -- The tree of a constant placeholder.
  abbrev pub const_placeholder_tree : Placeholder (BoundConst Name) → Tree
  const_placeholder_tree p =
      leaf (placeholder (bound_kind const_kind (m.name (p.bound).name)) (p.universe).0 ((p.bound).var).0)

  -- The tree of a region placeholder.
  abbrev pub region_placeholder_tree : Placeholder (BoundRegion Name) → Tree
  region_placeholder_tree p =
      leaf (placeholder (bound_kind region_kind (m.name (p.bound).name)) (p.universe).0 ((p.bound).var).0)

  -- The trees of bound variables: a type, a constant, a region.
  abbrev pub bound_ty_tree : DebruijnIndex → BoundTy Name → Tree
  bound_ty_tree d b = leaf (bound (bound_kind type_kind (m.name b.name)) d.0 (b.var).0)

  abbrev pub bound_const_tree : DebruijnIndex → BoundConst Name → Tree
  bound_const_tree d b = leaf (bound (bound_kind const_kind (m.name b.name)) d.0 (b.var).0)

  abbrev pub bound_region_tree : DebruijnIndex → BoundRegion Name → Tree
  bound_region_tree d b = leaf (bound (bound_kind region_kind (m.name b.name)) d.0 (b.var).0)

  -- The tree of a type's outermost form.
  abbrev pub kind_tree : TyKind Key Id Name → Tree
  kind_tree Bool = leaf (atom bool_type)
  kind_tree Char = leaf (atom char_type)
  kind_tree (Int w) = leaf (atom (int_type w))
  kind_tree (Uint w) = leaf (atom (uint_type w))
  kind_tree (Float w) = leaf (atom (float_type w))
  kind_tree (Adt d a) = node (adt (m.id d.0)) (m.args a)
  kind_tree (Foreign d) = leaf (atom (foreign (m.id d.0)))
  kind_tree Str = leaf (atom str_type)
  kind_tree (Array t c) = node array (cons (m.ty t) (cons (m.const_ c) nil))
  kind_tree (Pat t p) = node pattern_type (cons (m.ty t) (cons (m.pat p) nil))
  kind_tree (Slice t) = node slice (cons (m.ty t) nil)
  kind_tree (RawPtr t u) = node (raw_ptr u) (cons (m.ty t) nil)
  kind_tree (Ref r t u) = node (ref u) (cons (m.region r) (cons (m.ty t) nil))
  kind_tree (FnDef d a) = node (fn_def (m.id d.0)) (m.args a)
  kind_tree (FnPtr b h) = node fn_ptr (cons (under (m.bound_vars b.bound_vars) (signature_tree (sig_of b.value h))) nil)
  kind_tree (UnsafeBinder b) = node unsafe_binder (cons (under (m.bound_vars b.bound_vars) (m.ty b.value)) nil)
  kind_tree (Dynamic ps r) =
      node dynamic (cons (node object (m.existential_predicates ps)) (cons (m.region r) nil))
  kind_tree (Closure d a) = node (closure (m.id d.0)) (m.args a)
  kind_tree (CoroutineClosure d a) = node (coroutine_closure (m.id d.0)) (m.args a)
  kind_tree (Coroutine d a) = node (coroutine (m.id d.0)) (m.args a)
  kind_tree (CoroutineWitness d a) = node (coroutine_witness (m.id d.0)) (m.args a)
  kind_tree Never = leaf (atom never_type)
  kind_tree (Tuple ts) = node tuple (m.tys ts)
  kind_tree (Alias a) = node (alias (alias_kind a.kind) (m.id (alias_id a.kind))) (m.args a.args)
  kind_tree (TyParam p) = leaf (atom (type_param p.index (m.name p.name)))
  kind_tree (TyBound d b) = bound_ty_tree d b
  kind_tree (TyPlaceholder p) = ty_placeholder_tree p
  kind_tree (Infer i) = infer_tree i
  kind_tree (TyError e) = leaf (atom type_error)

  -- The tree of a constant's outermost form.
  abbrev pub const_tree : ConstKind Key Id Name → Tree
  const_tree (ConstParam p) = leaf (atom (const_param p.index (m.name p.name)))
  const_tree (ConstInfer i) = infer_const_tree i
  const_tree (ConstBound d b) = bound_const_tree d b
  const_tree (ConstPlaceholder p) = const_placeholder_tree p
  const_tree (Unevaluated u) = node (unevaluated (m.id (u.def).0)) (m.args u.args)
  const_tree (Value t v) = value_tree (m.ty t) (m.valtree v)
  const_tree (ConstError e) = leaf (atom const_error)
  const_tree (Expr k a) = node (expression k.0) (m.args a)

  -- The tree of a value tree's outermost form.
  abbrev pub valtree_tree : ValTreeKind Key → Tree
  valtree_tree (Leaf bits size) = leaf (atom (value_leaf bits size))
  valtree_tree (Branch b) = node value_branch (m.branches b)

  -- The tree of a pattern's outermost form.
  abbrev pub pattern_tree : PatternKind Key → Tree
  pattern_tree (Range s e) = node range_pattern (cons (m.const_ s) (cons (m.const_ e) nil))
  pattern_tree (Or a) = node or_pattern (m.alternatives a)
  pattern_tree NotNull = leaf (atom not_null_pattern)

  -- The tree of a region's form.
  abbrev pub region_tree : RegionKind Name → Tree
  region_tree ReStatic = leaf (atom static_region)
  region_tree (ReEarlyParam p) = leaf (atom (early_region p.index (m.name p.name)))
  region_tree (ReBound d b) = bound_region_tree d b
  region_tree (ReVar v) = leaf (variable region_var v.0)
  region_tree (RePlaceholder p) = region_placeholder_tree p

  -- The tree of a generic argument.
  abbrev pub arg_tree : GenericArgKind Key → Tree
  arg_tree (Lifetime r) = m.region r
  arg_tree (Ty t) = m.ty t
  arg_tree (Const c) = m.const_ c
