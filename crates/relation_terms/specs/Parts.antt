-- The parts of forms, and where the keys of a form's parts stand.
use Rattle.std.specs.Prelude.{◌≡◌, List, [], ◌∷◌, Option, Some, None, Result, IfOk}
use Rattle.relation_terms.specs.Heads.{Sort, region_sort, type_sort, const_sort, value_sort, value_type_sort, no_sort}
use Rattle.relation_terms.specs.Heads.{leaf_sort, head_sort, value_type, pattern_sort, signature_sort, inputs_sort}
use Rattle.relation_terms.specs.Heads.{existential_sort, object_sort, binder_sort, inputs, object}
use Rattle.relation_terms.specs.Trees.{Tree, leaf, node, bind, nil, cons, front, list_tree}
use Rattle.relation_terms.specs.Meaning.{Meaning, under, sig_of, signature_tree, existential_tree, term_tree}
use Rattle.relation_terms.specs.declared.terms.part_kind.Part.{Part}
use Rattle.relation_terms.specs.declared.terms.part_kind.Part.TheVariants.{Region, Ty, Const, ValTree, Pat, ValueType}
use Rattle.relation_terms.specs.declared.terms.part_kind.Part.TheVariants.{Binder, Signature, Inputs, Existential}
use Rattle.relation_terms.specs.declared.terms.part_kind.Part.TheVariants.{Object}
use Rattle.relation_terms.specs.declared.terms.part_kind.Body.{Body}
use Rattle.relation_terms.specs.declared.terms.part_kind.Body.TheVariants.{Signature as SignatureBody, Ty as TyBody}
use Rattle.relation_terms.specs.declared.terms.part_kind.Body.TheVariants.{Existential as ExistentialBody}
use Rattle.relation_terms.specs.declared.terms.part_kind.Parts.{Parts}
use Rattle.relation_terms.specs.declared.terms.part_kind.Parts.TheVariants.{Empty, One, Two, Args, Tys, Branches}
use Rattle.relation_terms.specs.declared.terms.part_kind.Parts.TheVariants.{Alternatives, TermArgs, Predicates}
use Rattle.relation_terms.specs.declared.terms.part_kind.Parts.TheVariants.{Inputs as InputsParts}
use Rattle.relation_terms.specs.declared.terms.generic_arg.GenericArgKind.{GenericArgKind}
use Rattle.relation_terms.specs.declared.terms.generic_arg.GenericArgKind.TheVariants.{Lifetime}
use Rattle.relation_terms.specs.declared.terms.generic_arg.GenericArgKind.TheVariants.{Ty as TyArg, Const as ConstArg}
use Rattle.relation_terms.specs.declared.terms.generic_arg.TermKind.{TermKind}
use Rattle.relation_terms.specs.declared.terms.generic_arg.TermKind.TheVariants.{Ty as TyTerm, Const as ConstTerm}
use Rattle.relation_terms.specs.declared.terms.binder.Binder.{Binder as BinderOf}
use Rattle.relation_terms.specs.declared.terms.fn_sig.FnSig.{FnSig}
use Rattle.relation_terms.specs.declared.predicate.existential.ExistentialPredicate.{ExistentialPredicate}
use Rattle.relation_terms.specs.declared.predicate.existential.ExistentialPredicate.TheVariants.{Trait, AutoTrait}
use Rattle.relation_terms.specs.declared.predicate.existential.ExistentialPredicate.TheVariants.{Projection}
use Rattle.relation_terms.specs.declared.terms.keys.TyKey.{TyKey}
use Rattle.relation_terms.specs.declared.terms.keys.RegionKey.{RegionKey}
use Rattle.relation_terms.specs.declared.terms.keys.ConstKey.{ConstKey}
use Rattle.relation_terms.specs.declared.terms.keys.ArgsKey.{ArgsKey}
use Rattle.relation_terms.specs.declared.terms.keys.TysKey.{TysKey}
use Rattle.relation_terms.specs.declared.terms.keys.ValTreeKey.{ValTreeKey}
use Rattle.relation_terms.specs.declared.terms.keys.BranchesKey.{BranchesKey}
use Rattle.relation_terms.specs.declared.terms.keys.PatKey.{PatKey}
use Rattle.relation_terms.specs.declared.terms.keys.AlternativesKey.{AlternativesKey}
use Rattle.relation_terms.specs.declared.terms.keys.BoundVarsKey.{BoundVarsKey}
use Rattle.relation_terms.specs.declared.terms.keys.ExistentialPredicatesKey.{ExistentialPredicatesKey}
use Rattle.relation_terms.specs.declared.terms.ty_kind.TyKind.{TyKind}
use Rattle.relation_terms.specs.declared.terms.ty_kind.TyKind.TheVariants.{Adt, Array, Slice, RawPtr, Ref as Reference}
use Rattle.relation_terms.specs.declared.terms.ty_kind.TyKind.TheVariants.{FnDef, Closure, CoroutineClosure}
use Rattle.relation_terms.specs.declared.terms.ty_kind.TyKind.TheVariants.{Coroutine, CoroutineWitness, Tuple, Alias}
use Rattle.relation_terms.specs.declared.terms.ty_kind.TyKind.TheVariants.{FnPtr, UnsafeBinder, Dynamic}
use Rattle.relation_terms.specs.declared.terms.ty_kind.TyKind.TheVariants.{Pat as TyPat}
use Rattle.relation_terms.specs.declared.terms.const_kind.ConstKind.{ConstKind}
use Rattle.relation_terms.specs.declared.terms.const_kind.ConstKind.TheVariants.{Unevaluated, Value, Expr}
use Rattle.relation_terms.specs.declared.terms.pattern_kind.PatternKind.{PatternKind}
use Rattle.relation_terms.specs.declared.terms.pattern_kind.PatternKind.TheVariants.{Range, Or}
use Rattle.relation_terms.specs.declared.terms.const_kind.ValTreeKind.{ValTreeKind}
use Rattle.relation_terms.specs.declared.terms.const_kind.ValTreeKind.TheVariants.{Branch}

-- The parts of a form or a binder, and the same over other parts. The part of a binder is its body. All else has none,
-- and is itself.
abbrev pub parts_of : Tree → Tree
parts_of (node h ts) = ts
parts_of (bind ks t) = cons t nil
parts_of t = nil

abbrev pub over : Tree → Tree → Tree
over (node h ts) us = node h us
over (bind ks t) (cons u us) = bind ks u
over t us = t

-- Of which sort a tree is.
abbrev pub tree_sort : Tree → Sort
tree_sort (leaf l) = leaf_sort l
tree_sort (node h ts) = head_sort h
tree_sort (bind ks t) = binder_sort (tree_sort t)
tree_sort t = no_sort

-- Of which sort a body is, and the body as a part.
abbrev pub body_sort : {Key Id : Type 0} → Body Key Id → Sort
body_sort (SignatureBody s) = signature_sort
body_sort (TyBody t) = type_sort
body_sort (ExistentialBody p) = existential_sort

abbrev pub part_of_body : {Key Id : Type 0} → Body Key Id → Part Key Id
part_of_body (SignatureBody s) = Signature s
part_of_body (TyBody t) = Ty t
part_of_body (ExistentialBody p) = Existential p

-- Of which sort a part is.
abbrev pub part_sort : {Key Id : Type 0} → Part Key Id → Sort
part_sort (Region r) = region_sort
part_sort (Ty t) = type_sort
part_sort (Const c) = const_sort
part_sort (ValTree v) = value_sort
part_sort (Pat p) = pattern_sort
part_sort (ValueType t) = value_type_sort
part_sort (Binder vs b) = binder_sort (body_sort b)
part_sort (Signature s) = signature_sort
part_sort (Inputs t) = inputs_sort
part_sort (Existential p) = existential_sort
part_sort (Object k) = object_sort

-- The key of a part. What stands under a binder has none of its own, nor has the binder.
abbrev pub part_key : {Key Id : Type 0} → Part Key Id → Option Key
part_key (Region r) = Some r.0
part_key (Ty t) = Some t.0
part_key (Const c) = Some c.0
part_key (ValTree v) = Some v.0
part_key (Pat p) = Some p.0
part_key (ValueType t) = Some t.0
part_key (Object k) = Some k.0
part_key p = None

-- The part is one term exactly where its key is one: it has a key, that no other part of its sort has.
abbrev pub HasKey : {Key Id : Type 0} → Part Key Id → Type 0
HasKey (Binder vs b) = ⊥
HasKey (Signature s) = ⊥
HasKey (Inputs t) = ⊥
HasKey (Existential p) = ⊥
HasKey p = Unit {0}

-- A generic argument as a part.
abbrev pub part_of_arg : {Key Id : Type 0} → GenericArgKind Key → Part Key Id
part_of_arg (Lifetime r) = Region r
part_of_arg (TyArg t) = Ty t
part_of_arg (ConstArg c) = Const c

-- A term of a predicate as a part, and a trait object's predicate.
abbrev pub part_of_term : {Key Id : Type 0} → TermKind Key → Part Key Id
part_of_term (TyTerm t) = Ty t
part_of_term (ConstTerm c) = Const c

abbrev pub part_of_predicate : {Key Id : Type 0} → BinderOf Key (ExistentialPredicate Key Id) → Part Key Id
part_of_predicate b = Binder b.bound_vars (ExistentialBody b.value)

-- Parts that are arguments, types, constants, patterns, predicates of a trait object.
abbrev pub AreArgs : {Key Id : Type 0} → List (Part Key Id) → Type 0
AreArgs [] = Unit {0}
AreArgs (Region r ∷ xs) = AreArgs xs
AreArgs (Ty t ∷ xs) = AreArgs xs
AreArgs (Const c ∷ xs) = AreArgs xs
AreArgs (x ∷ xs) = ⊥

abbrev pub AreTys : {Key Id : Type 0} → List (Part Key Id) → Type 0
AreTys [] = Unit {0}
AreTys (Ty t ∷ xs) = AreTys xs
AreTys (x ∷ xs) = ⊥

abbrev pub AreConsts : {Key Id : Type 0} → List (Part Key Id) → Type 0
AreConsts [] = Unit {0}
AreConsts (Const c ∷ xs) = AreConsts xs
AreConsts (x ∷ xs) = ⊥

abbrev pub ArePats : {Key Id : Type 0} → List (Part Key Id) → Type 0
ArePats [] = Unit {0}
ArePats (Pat p ∷ xs) = ArePats xs
ArePats (x ∷ xs) = ⊥

abbrev pub ArePredicates : {Key Id : Type 0} → List (Part Key Id) → Type 0
ArePredicates [] = Unit {0}
ArePredicates (Binder vs (ExistentialBody p) ∷ xs) = ArePredicates xs
ArePredicates (x ∷ xs) = ⊥

-- A part that is a term of a predicate.
abbrev pub IsTermPart : {Key Id : Type 0} → Part Key Id → Type 0
IsTermPart (Ty t) = Unit {0}
IsTermPart (Const c) = Unit {0}
IsTermPart p = ⊥

-- A term of a predicate, then arguments.
abbrev pub IsTermList : {Key Id : Type 0} → List (Part Key Id) → Type 0
IsTermList [] = ⊥
IsTermList (x ∷ xs) = IsTermPart x × AreArgs xs

-- As many parts as there are trees, each of the sort of the tree at its place.
abbrev pub Fit : {Key Id : Type 0} → List (Part Key Id) → Tree → Type 0
Fit [] nil = Unit {0}
Fit (x ∷ xs) (cons t ts) = (part_sort x ≡ tree_sort t) × Fit xs ts
Fit xs ts = ⊥

-- Where the keys of a form's parts stand.
abbrev pub ty_view : {Key Id Name : Type 0} → TyKind Key Id Name → Parts Key Id
ty_view (Adt d a) = Args a
ty_view (Array t c) = Two (Ty t) (Const c)
ty_view (TyPat t p) = Two (Ty t) (Pat p)
ty_view (Slice t) = One (Ty t)
ty_view (RawPtr t u) = One (Ty t)
ty_view (Reference r t u) = Two (Region r) (Ty t)
ty_view (FnDef d a) = Args a
ty_view (FnPtr b h) = One (Binder b.bound_vars (SignatureBody (sig_of b.value h)))
ty_view (UnsafeBinder b) = One (Binder b.bound_vars (TyBody b.value))
ty_view (Dynamic ps r) = Two (Object ps) (Region r)
ty_view (Closure d a) = Args a
ty_view (CoroutineClosure d a) = Args a
ty_view (Coroutine d a) = Args a
ty_view (CoroutineWitness d a) = Args a
ty_view (Tuple ts) = Tys ts
ty_view (Alias a) = Args a.args
ty_view k = Empty

abbrev pub const_view : {Key Id Name : Type 0} → ConstKind Key Id Name → Parts Key Id
const_view (Unevaluated u) = Args u.args
const_view (Value t v) = Two (ValueType t) (ValTree v)
const_view (Expr k a) = Args a
const_view k = Empty

abbrev pub valtree_view : {Key Id : Type 0} → ValTreeKind Key → Parts Key Id
valtree_view (Branch b) = Branches b
valtree_view k = Empty

abbrev pub pattern_view : {Key Id : Type 0} → PatternKind Key → Parts Key Id
pattern_view (Range s e) = Two (Const s) (Const e)
pattern_view (Or a) = Alternatives a
pattern_view k = Empty

abbrev pub existential_view : {Key Id : Type 0} → ExistentialPredicate Key Id → Parts Key Id
existential_view (Trait t) = Args t.args
existential_view (Projection p) = TermArgs p.term p.args
existential_view (AutoTrait d) = Empty

-- The key of a part, or the given one; what stands at a place, or the given one.
abbrev pub region_in : {Key Id : Type 0} → Part Key Id → RegionKey Key → RegionKey Key
region_in (Region k) d = k
region_in p d = d

abbrev pub ty_in : {Key Id : Type 0} → Part Key Id → TyKey Key → TyKey Key
ty_in (Ty k) d = k
ty_in p d = d

abbrev pub const_in : {Key Id : Type 0} → Part Key Id → ConstKey Key → ConstKey Key
const_in (Const k) d = k
const_in p d = d

abbrev pub valtree_in : {Key Id : Type 0} → Part Key Id → ValTreeKey Key → ValTreeKey Key
valtree_in (ValTree k) d = k
valtree_in p d = d

abbrev pub pat_in : {Key Id : Type 0} → Part Key Id → PatKey Key → PatKey Key
pat_in (Pat k) d = k
pat_in p d = d

abbrev pub value_type_in : {Key Id : Type 0} → Part Key Id → TyKey Key → TyKey Key
value_type_in (ValueType k) d = k
value_type_in p d = d

abbrev pub object_in : {Key Id : Type 0} → Part Key Id → ExistentialPredicatesKey Key → ExistentialPredicatesKey Key
object_in (Object k) d = k
object_in p d = d

abbrev pub vars_in : {Key Id : Type 0} → Part Key Id → BoundVarsKey Key → BoundVarsKey Key
vars_in (Binder vs b) d = vs
vars_in p d = d

abbrev pub bound_signature_in : {Key Id : Type 0} → Part Key Id → FnSig Key → FnSig Key
bound_signature_in (Binder vs (SignatureBody s)) d = s
bound_signature_in p d = d

abbrev pub bound_ty_in : {Key Id : Type 0} → Part Key Id → TyKey Key → TyKey Key
bound_ty_in (Binder vs (TyBody t)) d = t
bound_ty_in p d = d

abbrev pub body_in : {Key Id : Type 0} → Part Key Id → Body Key Id → Body Key Id
body_in (Signature s) d = SignatureBody s
body_in (Ty t) d = TyBody t
body_in (Existential p) d = ExistentialBody p
body_in p d = d

abbrev pub first_in : {Key Id : Type 0} → Parts Key Id → Part Key Id → Part Key Id
first_in (One p) d = p
first_in (Two p q) d = p
first_in ps d = d

abbrev pub second_in : {Key Id : Type 0} → Parts Key Id → Part Key Id → Part Key Id
second_in (Two p q) d = q
second_in ps d = d

abbrev pub args_in : {Key Id : Type 0} → Parts Key Id → ArgsKey Key → ArgsKey Key
args_in (Args k) d = k
args_in ps d = d

abbrev pub term_in : {Key Id : Type 0} → Parts Key Id → TermKind Key → TermKind Key
term_in (TermArgs t a) d = t
term_in ps d = d

abbrev pub term_args_in : {Key Id : Type 0} → Parts Key Id → ArgsKey Key → ArgsKey Key
term_args_in (TermArgs t a) d = a
term_args_in ps d = d

abbrev pub tys_in : {Key Id : Type 0} → Parts Key Id → TysKey Key → TysKey Key
tys_in (Tys k) d = k
tys_in ps d = d

abbrev pub branches_in : {Key Id : Type 0} → Parts Key Id → BranchesKey Key → BranchesKey Key
branches_in (Branches k) d = k
branches_in ps d = d

abbrev pub alternatives_in : {Key Id : Type 0} → Parts Key Id → AlternativesKey Key → AlternativesKey Key
alternatives_in (Alternatives k) d = k
alternatives_in ps d = d

-- The function pointer of a signature under a binder, the type that is one under a binder.
abbrev pub fn_ptr_of : {Key Id Name : Type 0} → BoundVarsKey Key → FnSig Key → TyKind Key Id Name
fn_ptr_of vs s =
    FnPtr (record { value = record { inputs_and_output = s.inputs_and_output }; bound_vars = vs }) s.header

abbrev pub unsafe_of : {Key Id Name : Type 0} → BoundVarsKey Key → TyKey Key → TyKind Key Id Name
unsafe_of vs t = UnsafeBinder (record { value = t; bound_vars = vs })

-- The form over other parts.
abbrev pub ty_made : {Key Id Name : Type 0} → TyKind Key Id Name → Parts Key Id → TyKind Key Id Name
ty_made (Adt d a) ps = Adt d (args_in ps a)
ty_made (Array t c) ps = Array (ty_in (first_in ps (Ty t)) t) (const_in (second_in ps (Const c)) c)
ty_made (TyPat t p) ps = TyPat (ty_in (first_in ps (Ty t)) t) (pat_in (second_in ps (Pat p)) p)
ty_made (Slice t) ps = Slice (ty_in (first_in ps (Ty t)) t)
ty_made (RawPtr t u) ps = RawPtr (ty_in (first_in ps (Ty t)) t) u
ty_made (Reference r t u) ps = Reference (region_in (first_in ps (Region r)) r) (ty_in (second_in ps (Ty t)) t) u
ty_made (FnDef d a) ps = FnDef d (args_in ps a)
ty_made (FnPtr b h) ps =
    let d = Binder b.bound_vars (SignatureBody (sig_of b.value h)) in
    fn_ptr_of (vars_in (first_in ps d) b.bound_vars) (bound_signature_in (first_in ps d) (sig_of b.value h))
ty_made (UnsafeBinder b) ps =
    let d = Binder b.bound_vars (TyBody b.value) in
    unsafe_of (vars_in (first_in ps d) b.bound_vars) (bound_ty_in (first_in ps d) b.value)
ty_made (Dynamic p r) ps =
    Dynamic (object_in (first_in ps (Object p)) p) (region_in (second_in ps (Region r)) r)
ty_made (Closure d a) ps = Closure d (args_in ps a)
ty_made (CoroutineClosure d a) ps = CoroutineClosure d (args_in ps a)
ty_made (Coroutine d a) ps = Coroutine d (args_in ps a)
ty_made (CoroutineWitness d a) ps = CoroutineWitness d (args_in ps a)
ty_made (Tuple ts) ps = Tuple (tys_in ps ts)
ty_made (Alias a) ps = Alias (record { kind = a.kind; args = args_in ps a.args })
ty_made k ps = k

abbrev pub const_made : {Key Id Name : Type 0} → ConstKind Key Id Name → Parts Key Id → ConstKind Key Id Name
const_made (Unevaluated u) ps = Unevaluated (record { def = u.def; args = args_in ps u.args })
const_made (Value t v) ps =
    Value (value_type_in (first_in ps (ValueType t)) t) (valtree_in (second_in ps (ValTree v)) v)
const_made (Expr k a) ps = Expr k (args_in ps a)
const_made k ps = k

abbrev pub valtree_made : {Key Id : Type 0} → ValTreeKind Key → Parts Key Id → ValTreeKind Key
valtree_made (Branch b) ps = Branch (branches_in ps b)
valtree_made k ps = k

abbrev pub pattern_made : {Key Id : Type 0} → PatternKind Key → Parts Key Id → PatternKind Key
pattern_made (Range s e) ps =
    Range (const_in (first_in ps (Const s)) s) (const_in (second_in ps (Const e)) e)
pattern_made (Or a) ps = Or (alternatives_in ps a)
pattern_made k ps = k

abbrev pub existential_made : {Key Id : Type 0} → ExistentialPredicate Key Id → Parts Key Id → ExistentialPredicate Key Id
existential_made (Trait t) ps = Trait (record { def_id = t.def_id; args = args_in ps t.args })
existential_made (Projection p) ps =
    Projection (record { def_id = p.def_id; args = term_args_in ps p.args; term = term_in ps p.term })
existential_made (AutoTrait d) ps = AutoTrait d

-- A list of arguments, of types, of branches, of alternatives, by its key; a term and arguments; inputs; predicates.
abbrev pub IsArgs : {Key Id : Type 0} → Parts Key Id → Type 0
IsArgs (Args a) = Unit {0}
IsArgs ps = ⊥

abbrev pub IsTys : {Key Id : Type 0} → Parts Key Id → Type 0
IsTys (Tys a) = Unit {0}
IsTys ps = ⊥

abbrev pub IsBranches : {Key Id : Type 0} → Parts Key Id → Type 0
IsBranches (Branches a) = Unit {0}
IsBranches ps = ⊥

abbrev pub IsAlternatives : {Key Id : Type 0} → Parts Key Id → Type 0
IsAlternatives (Alternatives a) = Unit {0}
IsAlternatives ps = ⊥

abbrev pub IsTermArgs : {Key Id : Type 0} → Parts Key Id → Type 0
IsTermArgs (TermArgs t a) = Unit {0}
IsTermArgs ps = ⊥

abbrev pub IsInputs : {Key Id : Type 0} → Parts Key Id → Type 0
IsInputs (InputsParts t) = Unit {0}
IsInputs ps = ⊥

abbrev pub IsPredicates : {Key Id : Type 0} → Parts Key Id → Type 0
IsPredicates (Predicates k) = Unit {0}
IsPredicates ps = ⊥

-- The second list stands as the first does, its parts of the sorts of those at their places.
abbrev pub Alike : {Key Id : Type 0} → Parts Key Id → Parts Key Id → Type 0
Alike Empty Empty = Unit {0}
Alike (One p) (One q) = part_sort q ≡ part_sort p
Alike (Two p q) (Two r s) = (part_sort r ≡ part_sort p) × (part_sort s ≡ part_sort q)
Alike (Args a) ps = IsArgs ps
Alike (Tys a) ps = IsTys ps
Alike (Branches a) ps = IsBranches ps
Alike (Alternatives a) ps = IsAlternatives ps
Alike (TermArgs t a) ps = IsTermArgs ps
Alike (InputsParts t) ps = IsInputs ps
Alike (Predicates k) ps = IsPredicates ps
Alike ps qs = ⊥

module _ {Key Id Name : Type 0} (m : Meaning Key Id Name) where
  -- The tree of a body.
  abbrev pub body_tree : Body Key Id → Tree
  body_tree (SignatureBody s) = signature_tree m s
  body_tree (TyBody t) = m.ty t
  body_tree (ExistentialBody p) = existential_tree m p

  -- The tree of a part.
  abbrev pub part_tree : Part Key Id → Tree
  part_tree (Region r) = m.region r
  part_tree (Ty t) = m.ty t
  part_tree (Const c) = m.const_ c
  part_tree (ValTree v) = m.valtree v
  part_tree (Pat p) = m.pat p
  part_tree (ValueType t) = node value_type (cons (m.ty t) nil)
  part_tree (Binder vs b) = under (m.bound_vars vs) (body_tree b)
  part_tree (Signature s) = signature_tree m s
  part_tree (Inputs t) = node inputs (front (m.tys t))
  part_tree (Existential p) = existential_tree m p
  part_tree (Object k) = node object (m.existential_predicates k)

  -- The list of the trees of parts.
  abbrev pub parts_tree : Parts Key Id → Tree
  parts_tree Empty = nil
  parts_tree (One p) = cons (part_tree p) nil
  parts_tree (Two p q) = cons (part_tree p) (cons (part_tree q) nil)
  parts_tree (Args a) = m.args a
  parts_tree (Tys a) = m.tys a
  parts_tree (Branches a) = m.branches a
  parts_tree (Alternatives a) = m.alternatives a
  parts_tree (TermArgs t a) = cons (term_tree m t) (m.args a)
  parts_tree (InputsParts t) = front (m.tys t)
  parts_tree (Predicates k) = m.existential_predicates k

  -- Two parts are one term.
  abbrev pub AreOneTerm : Part Key Id → Part Key Id → Type 0
  AreOneTerm p q = part_tree p ≡ part_tree q

module _ {Key Id Name E : Type 0} (before after : Meaning Key Id Name) where
  -- What is made is a term's form over these parts.
  abbrev pub MakesOver : Part Key Id → List (Part Key Id) → Result (Part Key Id) E → Type 0
  MakesOver term list result =
      IfOk result (λ p. part_tree after p ≡ over (part_tree before term) (list_tree (part_tree before) list))

  -- What is made is the list of these parts.
  abbrev pub MakesParts : List (Part Key Id) → Result (Parts Key Id) E → Type 0
  MakesParts list result = IfOk result (λ ps. parts_tree after ps ≡ list_tree (part_tree before) list)
