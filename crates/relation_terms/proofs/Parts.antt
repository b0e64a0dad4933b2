-- The parts of forms: where they stand, and forms over other parts.
use Rattle.std.proofs.Common.{Bool, true, ◌&&◌, ◌≡◌, ◌↔◌, refl, sym, ap, ap₂, ◌∙◌, subst}
use Rattle.std.proofs.Common.{IsTrue, List, [], ◌∷◌, get_or}
use Rattle.std.proofs.lemmas.Bool.{and_parts}
use Rattle.relation_terms.specs.Heads.{region_sort, type_sort, const_sort, value_sort, value_type_sort}
use Rattle.relation_terms.specs.Heads.{array, slice, raw_ptr, ref, tuple, value}
use Rattle.relation_terms.specs.Heads.{value_type, value_branch, expression, adt, fn_def, closure, coroutine_closure}
use Rattle.relation_terms.specs.Heads.{coroutine, coroutine_witness, pattern_sort, pattern_type, range_pattern}
use Rattle.relation_terms.specs.Heads.{or_pattern, alias, unevaluated}
use Rattle.relation_terms.specs.Trees.{Tree, leaf, node, bind, nil, cons, known, list_tree}
use Rattle.relation_terms.specs.Meaning.{Meaning, Extends, kind_tree, const_tree, valtree_tree, arg_tree}
use Rattle.relation_terms.specs.Meaning.{pattern_tree, alias_kind, alias_id}
use Rattle.relation_terms.specs.Interning.{AreEqualAsTrees}
use Rattle.relation_terms.specs.Parts.{part_key}
use Rattle.relation_terms.specs.Parts.{parts_of, over, tree_sort, part_sort, part_of_arg, Fit}
use Rattle.relation_terms.specs.Parts.{ty_view, const_view, valtree_view, Alike, part_tree, parts_tree}
use Rattle.relation_terms.specs.Parts.{region_in, ty_in, const_in, valtree_in, value_type_in, first_in, second_in}
use Rattle.relation_terms.specs.Parts.{args_in, tys_in, branches_in, ty_made, const_made, valtree_made}
use Rattle.relation_terms.specs.Parts.{pattern_view, pat_in, alternatives_in, pattern_made}
use Rattle.relation_terms.specs.declared.terms.part_kind.Part.{Part}
use Rattle.relation_terms.specs.declared.terms.part_kind.Part.TheVariants.{Region, Ty, Const, ValTree, Pat, ValueType}
use Rattle.relation_terms.specs.declared.terms.part_kind.Parts.{Parts}
use Rattle.relation_terms.specs.declared.terms.part_kind.Parts.TheVariants.{Empty, One, Two, Args, Tys, Branches}
use Rattle.relation_terms.specs.declared.terms.part_kind.Parts.TheVariants.{Alternatives}
use Rattle.relation_terms.specs.declared.terms.keys.PatKey.{PatKey}
use Rattle.relation_terms.specs.declared.terms.keys.AlternativesKey.{AlternativesKey}
use Rattle.relation_terms.specs.declared.terms.generic_arg.GenericArgKind.{GenericArgKind}
use Rattle.relation_terms.specs.declared.terms.generic_arg.GenericArgKind.TheVariants.{Lifetime, Ty as TyArg}
use Rattle.relation_terms.specs.declared.terms.generic_arg.GenericArgKind.TheVariants.{Const as ConstArg}
use Rattle.relation_terms.specs.declared.terms.keys.TyKey.{TyKey}
use Rattle.relation_terms.specs.declared.terms.keys.RegionKey.{RegionKey}
use Rattle.relation_terms.specs.declared.terms.keys.ConstKey.{ConstKey}
use Rattle.relation_terms.specs.declared.terms.keys.ArgsKey.{ArgsKey}
use Rattle.relation_terms.specs.declared.terms.keys.TysKey.{TysKey}
use Rattle.relation_terms.specs.declared.terms.keys.ValTreeKey.{ValTreeKey}
use Rattle.relation_terms.specs.declared.terms.keys.BranchesKey.{BranchesKey}
use Rattle.relation_terms.specs.declared.terms.ty_kind.TyKind.{TyKind}
use Rattle.relation_terms.specs.declared.terms.ty_kind.TyKind.TheVariants.{Bool as TyBool, Char, Int, Uint, Float, Adt}
use Rattle.relation_terms.specs.declared.terms.ty_kind.TyKind.TheVariants.{Foreign}
use Rattle.relation_terms.specs.declared.terms.ty_kind.TyKind.TheVariants.{Str, Array, Slice, RawPtr, Ref, FnDef}
use Rattle.relation_terms.specs.declared.terms.ty_kind.TyKind.TheVariants.{Closure, CoroutineClosure, Coroutine}
use Rattle.relation_terms.specs.declared.terms.ty_kind.TyKind.TheVariants.{CoroutineWitness, Never, Tuple, Infer}
use Rattle.relation_terms.specs.declared.terms.ty_kind.TyKind.TheVariants.{Param as TyParam, Bound as TyBound}
use Rattle.relation_terms.specs.declared.terms.ty_kind.TyKind.TheVariants.{Error as TyError, Alias, Pat as TyPat}
use Rattle.relation_terms.specs.declared.terms.ty_kind.TyKind.TheVariants.{Placeholder as TyPlaceholder}
use Rattle.relation_terms.specs.declared.terms.ty_kind.InferTy.TheVariants.{TyVar, IntVar, FloatVar}
use Rattle.relation_terms.specs.declared.terms.ty_kind.InferTy.TheVariants.{FreshTy, FreshIntTy, FreshFloatTy}
use Rattle.relation_terms.specs.declared.terms.const_kind.ConstKind.{ConstKind}
use Rattle.relation_terms.specs.declared.terms.const_kind.ConstKind.TheVariants.{Param as ConstParam}
use Rattle.relation_terms.specs.declared.terms.const_kind.ConstKind.TheVariants.{Placeholder as ConstPlaceholder}
use Rattle.relation_terms.specs.declared.terms.const_kind.ConstKind.TheVariants.{Infer as ConstInfer, Bound as ConstBound}
use Rattle.relation_terms.specs.declared.terms.const_kind.ConstKind.TheVariants.{Unevaluated, Value, Error as ConstError, Expr}
use Rattle.relation_terms.specs.declared.terms.const_kind.InferConst.TheVariants.{Var, Fresh}
use Rattle.relation_terms.specs.declared.terms.pattern_kind.PatternKind.{PatternKind}
use Rattle.relation_terms.specs.declared.terms.pattern_kind.PatternKind.TheVariants.{Range, Or, NotNull}
use Rattle.relation_terms.specs.declared.terms.const_kind.ValTreeKind.{ValTreeKind}
use Rattle.relation_terms.specs.declared.terms.const_kind.ValTreeKind.TheVariants.{Leaf, Branch}
use Rattle.relation_terms.proofs.Stays.{knows_as, stays_kind, stays_const, stays_valtree, stays_pattern}
use Rattle.relation_terms.specs.Interning.{Sorted}
use Rattle.relation_terms.proofs.Members.{const_term, fit_none, pattern_term, region_term, type_term, value_term}
use Rattle.relation_terms.specs.Heads.{existential_sort, object_sort, signature_sort, binder_sort, fn_ptr}
use Rattle.relation_terms.specs.Heads.{unsafe_binder, dynamic, inputs, object, existential_trait}
use Rattle.relation_terms.specs.Heads.{existential_projection}
use Rattle.relation_terms.specs.Trees.{front}
use Rattle.relation_terms.specs.Meaning.{under, sig_of, signature_tree, existential_tree, term_tree}
use Rattle.relation_terms.specs.Parts.{body_in, part_of_term, part_of_body, body_tree, body_sort, existential_view}
use Rattle.relation_terms.specs.Parts.{existential_made, object_in, vars_in, bound_signature_in, bound_ty_in, term_in}
use Rattle.relation_terms.specs.Parts.{term_args_in}
use Rattle.relation_terms.specs.declared.terms.keys.ExistentialPredicatesKey.{ExistentialPredicatesKey}
use Rattle.relation_terms.specs.declared.terms.keys.BoundVarsKey.{BoundVarsKey}
use Rattle.relation_terms.specs.declared.terms.generic_arg.TermKind.{TermKind}
use Rattle.relation_terms.specs.declared.terms.generic_arg.TermKind.TheVariants.{Ty as TyTerm, Const as ConstTerm}
use Rattle.relation_terms.specs.declared.terms.fn_sig.FnSig.{FnSig}
use Rattle.relation_terms.specs.declared.predicate.existential.ExistentialPredicate.{ExistentialPredicate}
use Rattle.relation_terms.specs.declared.predicate.existential.ExistentialPredicate.TheVariants.{Trait, AutoTrait}
use Rattle.relation_terms.specs.declared.terms.ty_kind.TyKind.TheVariants.{FnPtr, UnsafeBinder, Dynamic}
use Rattle.relation_terms.specs.declared.terms.part_kind.Body.{Body}
use Rattle.relation_terms.specs.declared.terms.part_kind.Body.TheVariants.{Signature as SignatureBody, Ty as TyBody}
use Rattle.relation_terms.specs.declared.terms.part_kind.Body.TheVariants.{Existential as ExistentialBody}
use Rattle.relation_terms.specs.declared.terms.part_kind.Part.TheVariants.{Binder, Signature, Inputs, Existential}
use Rattle.relation_terms.specs.declared.terms.part_kind.Part.TheVariants.{Object}
use Rattle.relation_terms.specs.declared.terms.part_kind.Parts.TheVariants.{TermArgs, Predicates}
use Rattle.relation_terms.specs.declared.terms.part_kind.Parts.TheVariants.{Inputs as InputsParts}
use Rattle.std.proofs.Common.{Some, length, ◌<◌, arith}
use Rattle.std.specs.Cmp.Derive.{both_true}
use Rattle.relation_terms.proofs.Binders.{under_stays, under_sort, front_known}
use Rattle.relation_terms.proofs.Stays.{stays_signature, stays_existential, stays_term}
use Rattle.relation_terms.specs.declared.predicate.existential.ExistentialPredicate.TheVariants.{
  Projection as ProjectionPredicate,
}

module _ {Key Id Name : Type 0} (m : Meaning Key Id Name) where
  pub arg_part : (a : GenericArgKind Key) → part_tree m (part_of_arg a) ≡ arg_tree m a
  arg_part (Lifetime r) = refl
  arg_part (TyArg t) = refl
  arg_part (ConstArg c) = refl

  pub term_of_part : (a : TermKind Key) → part_tree m (part_of_term a) ≡ term_tree m a
  term_of_part (TyTerm t) = refl
  term_of_part (ConstTerm c) = refl

  pub body_part : (b : Body Key Id) → part_tree m (part_of_body b) ≡ body_tree m b
  body_part (SignatureBody g) = refl
  body_part (TyBody t) = refl
  body_part (ExistentialBody p) = refl

  existential_sort_of : (p : ExistentialPredicate Key Id) → tree_sort (existential_tree m p) ≡ existential_sort
  existential_sort_of (Trait t) = refl
  existential_sort_of (ProjectionPredicate p) = refl
  existential_sort_of (AutoTrait d) = refl

  pub body_sort_known : Sorted m → (b : Body Key Id) → IsTrue (known (body_tree m b)) →
      tree_sort (body_tree m b) ≡ body_sort b
  body_sort_known s (SignatureBody g) k = refl
  body_sort_known s (TyBody t) k = type_term (m.ty t) (s.ty t k)
  body_sort_known s (ExistentialBody p) k = existential_sort_of p

  -- The sort of a known part.
  pub sort_known : Sorted m → (p : Part Key Id) → IsTrue (known (part_tree m p)) → tree_sort (part_tree m p) ≡ part_sort p
  sort_known s (Region r) k = region_term (m.region r) (s.region r k)
  sort_known s (Ty t) k = type_term (m.ty t) (s.ty t k)
  sort_known s (Const c) k = const_term (m.const_ c) (s.const_ c k)
  sort_known s (ValTree v) k = value_term (m.valtree v) (s.valtree v k)
  sort_known s (Pat p) k = pattern_term (m.pat p) (s.pat p k)
  sort_known s (ValueType t) k = refl
  sort_known s (Binder vs b) k =
      under_sort (body_sort b) (m.bound_vars vs) (body_tree m b) k (body_sort_known s b)
  sort_known s (Signature g) k = refl
  sort_known s (Inputs t) k = refl
  sort_known s (Existential p) k = existential_sort_of p
  sort_known s (Object o) k = refl

  -- Parts that fit one place, or two.
  pub fit_one : (f : Part Key Id → Tree) (xs : List (Part Key Id)) (t : Tree) (d x : Part Key Id) → Fit xs (cons t nil) →
      x ≡ get_or xs 0 d → (cons (f x) nil ≡ list_tree f xs) × (part_sort x ≡ tree_sort t)
  fit_one f [] t d x h q = absurd h
  fit_one f (y ∷ ys) t d x h q =
      (ap₂ (λ z zs. cons (f z) zs) q (sym (fit_none f ys h.1)), ap part_sort q ∙ h.0)

  pub fit_two : (f : Part Key Id → Tree) (xs : List (Part Key Id)) (t u : Tree) (d x e y : Part Key Id) →
      Fit xs (cons t (cons u nil)) → x ≡ get_or xs 0 d → y ≡ get_or xs 1 e →
      (cons (f x) (cons (f y) nil) ≡ list_tree f xs) × ((part_sort x ≡ tree_sort t) × (part_sort y ≡ tree_sort u))
  fit_two f [] t u d x e y h q p = absurd h
  fit_two f (z ∷ zs) t u d x e y h q p =
      let o = fit_one f zs u e y h.1 p in
      (ap₂ (λ a b. cons (f a) b) q o.0, (ap part_sort q ∙ h.0, o.1))

  pub fit_one_some : (xs : List (Part Key Id)) (t : Tree) → Fit xs (cons t nil) → 0 < length xs
  fit_one_some [] t h = absurd h
  fit_one_some (x ∷ xs) t h = omega arith

  pub fit_two_some : (xs : List (Part Key Id)) (t u : Tree) → Fit xs (cons t (cons u nil)) → 1 < length xs
  fit_two_some [] t u h = absurd h
  fit_two_some (x ∷ []) t u h = absurd h.1
  fit_two_some (x ∷ y ∷ ys) t u h = omega arith

  -- The parts of a form stand where its view says.
  pub ty_viewed : (k : TyKind Key Id Name) → parts_tree m (ty_view k) ≡ parts_of (kind_tree m k)
  ty_viewed TyBool = refl
  ty_viewed Char = refl
  ty_viewed (Int w) = refl
  ty_viewed (Uint w) = refl
  ty_viewed (Float w) = refl
  ty_viewed (Adt d a) = refl
  ty_viewed (Foreign d) = refl
  ty_viewed Str = refl
  ty_viewed (Array t c) = refl
  ty_viewed (TyPat t p) = refl
  ty_viewed (Slice t) = refl
  ty_viewed (RawPtr t u) = refl
  ty_viewed (Ref r t u) = refl
  ty_viewed (FnDef d a) = refl
  ty_viewed (FnPtr b h) = refl
  ty_viewed (UnsafeBinder b) = refl
  ty_viewed (Dynamic ps r) = refl
  ty_viewed (Closure d a) = refl
  ty_viewed (CoroutineClosure d a) = refl
  ty_viewed (Coroutine d a) = refl
  ty_viewed (CoroutineWitness d a) = refl
  ty_viewed Never = refl
  ty_viewed (Tuple ts) = refl
  ty_viewed (Alias a) = refl
  ty_viewed (TyParam p) = refl
  ty_viewed (TyBound d b) = refl
  ty_viewed (TyPlaceholder p) = refl
  ty_viewed (Infer (TyVar v)) = refl
  ty_viewed (Infer (IntVar v)) = refl
  ty_viewed (Infer (FloatVar v)) = refl
  ty_viewed (Infer (FreshTy n)) = refl
  ty_viewed (Infer (FreshIntTy n)) = refl
  ty_viewed (Infer (FreshFloatTy n)) = refl
  ty_viewed (TyError e) = refl

  pub const_viewed : (k : ConstKind Key Id Name) → parts_tree m (const_view k) ≡ parts_of (const_tree m k)
  const_viewed (ConstParam p) = refl
  const_viewed (ConstInfer (Var v)) = refl
  const_viewed (ConstInfer (Fresh n)) = refl
  const_viewed (ConstBound d b) = refl
  const_viewed (ConstPlaceholder p) = refl
  const_viewed (Unevaluated u) = refl
  const_viewed (ConstError e) = refl
  const_viewed (Value t v) = refl
  const_viewed (Expr x a) = refl

  pub valtree_viewed : (k : ValTreeKind Key) → parts_tree m (valtree_view k) ≡ parts_of (valtree_tree m k)
  valtree_viewed (Leaf b n) = refl
  valtree_viewed (Branch b) = refl

  pub pattern_viewed : (k : PatternKind Key) → parts_tree m (pattern_view k) ≡ parts_of (pattern_tree m k)
  pattern_viewed (Range s e) = refl
  pattern_viewed (Or a) = refl
  pattern_viewed NotNull = refl

  pub existential_viewed : (p : ExistentialPredicate Key Id) → parts_tree m (existential_view p) ≡
      parts_of (existential_tree m p)
  existential_viewed (Trait t) = refl
  existential_viewed (ProjectionPredicate p) = refl
  existential_viewed (AutoTrait d) = refl

  -- The key of a part of that sort.
  region_got : (p : Part Key Id) (d : RegionKey Key) → part_sort p ≡ region_sort → m.region (region_in p d) ≡ part_tree m p
  region_got (Region r) d e = refl
  region_got (Ty r) d e = absurd (cc)
  region_got (Const r) d e = absurd (cc)
  region_got (ValTree r) d e = absurd (cc)
  region_got (Pat r) d e = absurd (cc)
  region_got (ValueType r) d e = absurd (cc)
  region_got (Binder vs r) d e = absurd (cc)
  region_got (Signature r) d e = absurd (cc)
  region_got (Inputs r) d e = absurd (cc)
  region_got (Existential r) d e = absurd (cc)
  region_got (Object r) d e = absurd (cc)

  the_got : (p : Part Key Id) (d : TyKey Key) → part_sort p ≡ type_sort → m.ty (ty_in p d) ≡ part_tree m p
  the_got (Region r) d e = absurd (cc)
  the_got (Ty r) d e = refl
  the_got (Const r) d e = absurd (cc)
  the_got (ValTree r) d e = absurd (cc)
  the_got (Pat r) d e = absurd (cc)
  the_got (ValueType r) d e = absurd (cc)
  the_got (Binder vs r) d e = absurd (cc)
  the_got (Signature r) d e = absurd (cc)
  the_got (Inputs r) d e = absurd (cc)
  the_got (Existential r) d e = absurd (cc)
  the_got (Object r) d e = absurd (cc)

  con_got : (p : Part Key Id) (d : ConstKey Key) → part_sort p ≡ const_sort → m.const_ (const_in p d) ≡ part_tree m p
  con_got (Region r) d e = absurd (cc)
  con_got (Ty r) d e = absurd (cc)
  con_got (Const r) d e = refl
  con_got (ValTree r) d e = absurd (cc)
  con_got (Pat r) d e = absurd (cc)
  con_got (ValueType r) d e = absurd (cc)
  con_got (Binder vs r) d e = absurd (cc)
  con_got (Signature r) d e = absurd (cc)
  con_got (Inputs r) d e = absurd (cc)
  con_got (Existential r) d e = absurd (cc)
  con_got (Object r) d e = absurd (cc)

  val_got : (p : Part Key Id) (d : ValTreeKey Key) → part_sort p ≡ value_sort → m.valtree (valtree_in p d) ≡ part_tree m p
  val_got (Region r) d e = absurd (cc)
  val_got (Ty r) d e = absurd (cc)
  val_got (Const r) d e = absurd (cc)
  val_got (ValTree r) d e = refl
  val_got (Pat r) d e = absurd (cc)
  val_got (ValueType r) d e = absurd (cc)
  val_got (Binder vs r) d e = absurd (cc)
  val_got (Signature r) d e = absurd (cc)
  val_got (Inputs r) d e = absurd (cc)
  val_got (Existential r) d e = absurd (cc)
  val_got (Object r) d e = absurd (cc)

  pattern_got : (p : Part Key Id) (d : PatKey Key) → part_sort p ≡ pattern_sort → m.pat (pat_in p d) ≡ part_tree m p
  pattern_got (Region r) d e = absurd (cc)
  pattern_got (Ty r) d e = absurd (cc)
  pattern_got (Const r) d e = absurd (cc)
  pattern_got (ValTree r) d e = absurd (cc)
  pattern_got (Pat r) d e = refl
  pattern_got (ValueType r) d e = absurd (cc)
  pattern_got (Binder vs r) d e = absurd (cc)
  pattern_got (Signature r) d e = absurd (cc)
  pattern_got (Inputs r) d e = absurd (cc)
  pattern_got (Existential r) d e = absurd (cc)
  pattern_got (Object r) d e = absurd (cc)

  typed_got : (p : Part Key Id) (d : TyKey Key) → part_sort p ≡ value_type_sort →
      node value_type (cons (m.ty (value_type_in p d)) nil) ≡ part_tree m p
  typed_got (Region r) d e = absurd (cc)
  typed_got (Ty r) d e = absurd (cc)
  typed_got (Const r) d e = absurd (cc)
  typed_got (ValTree r) d e = absurd (cc)
  typed_got (Pat r) d e = absurd (cc)
  typed_got (ValueType r) d e = refl
  typed_got (Binder vs r) d e = absurd (cc)
  typed_got (Signature r) d e = absurd (cc)
  typed_got (Inputs r) d e = absurd (cc)
  typed_got (Existential r) d e = absurd (cc)
  typed_got (Object r) d e = absurd (cc)

  -- The parts at the places of others.
  one_got : (p : Part Key Id) (ps : Parts Key Id) (d : Part Key Id) → Alike (One p) ps →
      (part_sort (first_in ps d) ≡ part_sort p) × (cons (part_tree m (first_in ps d)) nil ≡ parts_tree m ps)
  one_got p (One q) d a = (a, refl)
  one_got p Empty d a = absurd a
  one_got p (Two q r) d a = absurd a
  one_got p (Args q) d a = absurd a
  one_got p (Tys q) d a = absurd a
  one_got p (Branches q) d a = absurd a
  one_got p (Alternatives q) d a = absurd a
  one_got p (TermArgs q x) d a = absurd a
  one_got p (InputsParts q) d a = absurd a
  one_got p (Predicates q) d a = absurd a

  two_got : (p q : Part Key Id) (ps : Parts Key Id) (d e : Part Key Id) → Alike (Two p q) ps →
      (part_sort (first_in ps d) ≡ part_sort p) × ((part_sort (second_in ps e) ≡ part_sort q) ×
      (cons (part_tree m (first_in ps d)) (cons (part_tree m (second_in ps e)) nil) ≡ parts_tree m ps))
  two_got p q (Two r s) d e a = (a.0, (a.1, refl))
  two_got p q Empty d e a = absurd a
  two_got p q (One r) d e a = absurd a
  two_got p q (Args r) d e a = absurd a
  two_got p q (Tys r) d e a = absurd a
  two_got p q (Branches r) d e a = absurd a
  two_got p q (Alternatives r) d e a = absurd a
  two_got p q (TermArgs r x) d e a = absurd a
  two_got p q (InputsParts r) d e a = absurd a
  two_got p q (Predicates r) d e a = absurd a

  args_got : (b : ArgsKey Key) (ps : Parts Key Id) (d : ArgsKey Key) → Alike (Args b) ps →
      m.args (args_in ps d) ≡ parts_tree m ps
  args_got b (Args q) d a = refl
  args_got b Empty d a = absurd a
  args_got b (One q) d a = absurd a
  args_got b (Two q r) d a = absurd a
  args_got b (Tys q) d a = absurd a
  args_got b (Branches q) d a = absurd a
  args_got b (Alternatives q) d a = absurd a
  args_got b (TermArgs q x) d a = absurd a
  args_got b (InputsParts q) d a = absurd a
  args_got b (Predicates q) d a = absurd a

  tys_got : (b : TysKey Key) (ps : Parts Key Id) (d : TysKey Key) → Alike (Tys b) ps → m.tys (tys_in ps d) ≡ parts_tree m ps
  tys_got b (Tys q) d a = refl
  tys_got b Empty d a = absurd a
  tys_got b (One q) d a = absurd a
  tys_got b (Two q r) d a = absurd a
  tys_got b (Args q) d a = absurd a
  tys_got b (Branches q) d a = absurd a
  tys_got b (Alternatives q) d a = absurd a
  tys_got b (TermArgs q x) d a = absurd a
  tys_got b (InputsParts q) d a = absurd a
  tys_got b (Predicates q) d a = absurd a

  branches_got : (b : BranchesKey Key) (ps : Parts Key Id) (d : BranchesKey Key) → Alike (Branches b) ps →
      m.branches (branches_in ps d) ≡ parts_tree m ps
  branches_got b (Branches q) d a = refl
  branches_got b Empty d a = absurd a
  branches_got b (One q) d a = absurd a
  branches_got b (Two q r) d a = absurd a
  branches_got b (Args q) d a = absurd a
  branches_got b (Tys q) d a = absurd a
  branches_got b (Alternatives q) d a = absurd a
  branches_got b (TermArgs q x) d a = absurd a
  branches_got b (InputsParts q) d a = absurd a
  branches_got b (Predicates q) d a = absurd a

  alternatives_got : (b : AlternativesKey Key) (ps : Parts Key Id) (d : AlternativesKey Key) → Alike (Alternatives b) ps →
      m.alternatives (alternatives_in ps d) ≡ parts_tree m ps
  alternatives_got b (Alternatives q) d a = refl
  alternatives_got b Empty d a = absurd a
  alternatives_got b (One q) d a = absurd a
  alternatives_got b (Two q r) d a = absurd a
  alternatives_got b (Args q) d a = absurd a
  alternatives_got b (Tys q) d a = absurd a
  alternatives_got b (Branches q) d a = absurd a
  alternatives_got b (TermArgs q x) d a = absurd a
  alternatives_got b (InputsParts q) d a = absurd a
  alternatives_got b (Predicates q) d a = absurd a

  object_got : (p : Part Key Id) (d : ExistentialPredicatesKey Key) → part_sort p ≡ object_sort →
      node object (m.existential_predicates (object_in p d)) ≡ part_tree m p
  object_got (Object k) d e = refl
  object_got (Binder vs b) d e = absurd (cc)
  object_got p d e = absurd (cc)

  -- The binder of a signature, of a type.
  signature_got : (p : Part Key Id) (v : BoundVarsKey Key) (g : FnSig Key) → part_sort p ≡ binder_sort signature_sort →
      under (m.bound_vars (vars_in p v)) (signature_tree m (bound_signature_in p g)) ≡ part_tree m p
  signature_got (Binder vs (SignatureBody h)) v g e = refl
  signature_got (Binder vs (TyBody h)) v g e = absurd (cc)
  signature_got (Binder vs (ExistentialBody h)) v g e = absurd (cc)
  signature_got p v g e = absurd (cc)

  bound_ty_got : (p : Part Key Id) (v : BoundVarsKey Key) (t : TyKey Key) → part_sort p ≡ binder_sort type_sort →
      under (m.bound_vars (vars_in p v)) (m.ty (bound_ty_in p t)) ≡ part_tree m p
  bound_ty_got (Binder vs (TyBody h)) v t e = refl
  bound_ty_got (Binder vs (SignatureBody h)) v t e = absurd (cc)
  bound_ty_got (Binder vs (ExistentialBody h)) v t e = absurd (cc)
  bound_ty_got p v t e = absurd (cc)

  term_args_got : (t : TermKind Key) (b : ArgsKey Key) (ps : Parts Key Id) → Alike (TermArgs t b) ps →
      cons (term_tree m (term_in ps t)) (m.args (term_args_in ps b)) ≡ parts_tree m ps
  term_args_got t b (TermArgs u c) a = refl
  term_args_got t b Empty a = absurd a
  term_args_got t b (One q) a = absurd a
  term_args_got t b (Two q r) a = absurd a
  term_args_got t b (Args q) a = absurd a
  term_args_got t b (Tys q) a = absurd a
  term_args_got t b (Branches q) a = absurd a
  term_args_got t b (Alternatives q) a = absurd a
  term_args_got t b (InputsParts q) a = absurd a
  term_args_got t b (Predicates q) a = absurd a

  -- The body that a part of its sort is.
  pub body_got : (p : Part Key Id) (b : Body Key Id) → part_sort p ≡ body_sort b →
      (body_tree m (body_in p b) ≡ part_tree m p) × (body_sort (body_in p b) ≡ body_sort b)
  body_got (Signature s) b e = (refl, e)
  body_got (Ty t) b e = (refl, e)
  body_got (Existential p) b e = (refl, e)
  body_got p (SignatureBody s) e = absurd (cc)
  body_got p (TyBody t) e = absurd (cc)
  body_got p (ExistentialBody q) e = absurd (cc)

  -- A form over other parts.
  pub ty_over : (k : TyKind Key Id Name) (ps : Parts Key Id) → Alike (ty_view k) ps →
      kind_tree m (ty_made k ps) ≡ over (kind_tree m k) (parts_tree m ps)
  ty_over TyBool ps a = refl
  ty_over Char ps a = refl
  ty_over (Int w) ps a = refl
  ty_over (Uint w) ps a = refl
  ty_over (Float w) ps a = refl
  ty_over (Adt d b) ps a = ap (node (adt (m.id d.0))) (args_got b ps b a)
  ty_over (Foreign d) ps a = refl
  ty_over Str ps a = refl
  ty_over (Array t c) ps a =
      let o = two_got (Ty t) (Const c) ps (Ty t) (Const c) a in
      ap₂ (λ x y. node array (cons x (cons y nil))) (the_got (first_in ps (Ty t)) t o.0)
      (con_got (second_in ps (Const c)) c o.1.0) ∙ ap (node array) o.1.1
  ty_over (TyPat t p) ps a =
      let o = two_got (Ty t) (Pat p) ps (Ty t) (Pat p) a in
      ap₂ (λ x y. node pattern_type (cons x (cons y nil))) (the_got (first_in ps (Ty t)) t o.0)
      (pattern_got (second_in ps (Pat p)) p o.1.0) ∙ ap (node pattern_type) o.1.1
  ty_over (Slice t) ps a =
      let o = one_got (Ty t) ps (Ty t) a in
      ap (λ x. node slice (cons x nil)) (the_got (first_in ps (Ty t)) t o.0) ∙ ap (node slice) o.1
  ty_over (RawPtr t u) ps a =
      let o = one_got (Ty t) ps (Ty t) a in
      ap (λ x. node (raw_ptr u) (cons x nil)) (the_got (first_in ps (Ty t)) t o.0) ∙ ap (node (raw_ptr u)) o.1
  ty_over (Ref r t u) ps a =
      let o = two_got (Region r) (Ty t) ps (Region r) (Ty t) a in
      ap₂ (λ x y. node (ref u) (cons x (cons y nil))) (region_got (first_in ps (Region r)) r o.0)
      (the_got (second_in ps (Ty t)) t o.1.0) ∙ ap (node (ref u)) o.1.1
  ty_over (FnDef d b) ps a = ap (node (fn_def (m.id d.0))) (args_got b ps b a)
  ty_over (FnPtr b h) ps a =
      let d = Binder b.bound_vars (SignatureBody (sig_of b.value h)) in
      let o = one_got d ps d a in
      ap (λ x. node fn_ptr (cons x nil)) (signature_got (first_in ps d) b.bound_vars (sig_of b.value h) o.0)
      ∙ ap (node fn_ptr) o.1
  ty_over (UnsafeBinder b) ps a =
      let d = Binder b.bound_vars (TyBody b.value) in
      let o = one_got d ps d a in
      ap (λ x. node unsafe_binder (cons x nil)) (bound_ty_got (first_in ps d) b.bound_vars b.value o.0)
      ∙ ap (node unsafe_binder) o.1
  ty_over (Dynamic p r) ps a =
      let o = two_got (Object p) (Region r) ps (Object p) (Region r) a in
      ap₂ (λ x y. node dynamic (cons x (cons y nil))) (object_got (first_in ps (Object p)) p o.0)
      (region_got (second_in ps (Region r)) r o.1.0) ∙ ap (node dynamic) o.1.1
  ty_over (Closure d b) ps a = ap (node (closure (m.id d.0))) (args_got b ps b a)
  ty_over (CoroutineClosure d b) ps a = ap (node (coroutine_closure (m.id d.0))) (args_got b ps b a)
  ty_over (Coroutine d b) ps a = ap (node (coroutine (m.id d.0))) (args_got b ps b a)
  ty_over (CoroutineWitness d b) ps a = ap (node (coroutine_witness (m.id d.0))) (args_got b ps b a)
  ty_over Never ps a = refl
  ty_over (Tuple ts) ps a = ap (node tuple) (tys_got ts ps ts a)
  ty_over (Alias b) ps a =
      ap (node (alias (alias_kind b.kind) (m.id (alias_id b.kind)))) (args_got b.args ps b.args a)
  ty_over (TyParam p) ps a = refl
  ty_over (TyBound d b) ps a = refl
  ty_over (TyPlaceholder p) ps a = refl
  ty_over (Infer (TyVar v)) ps a = refl
  ty_over (Infer (IntVar v)) ps a = refl
  ty_over (Infer (FloatVar v)) ps a = refl
  ty_over (Infer (FreshTy n)) ps a = refl
  ty_over (Infer (FreshIntTy n)) ps a = refl
  ty_over (Infer (FreshFloatTy n)) ps a = refl
  ty_over (TyError e) ps a = refl

  pub const_over : (k : ConstKind Key Id Name) (ps : Parts Key Id) → Alike (const_view k) ps →
      const_tree m (const_made k ps) ≡ over (const_tree m k) (parts_tree m ps)
  const_over (ConstParam p) ps a = refl
  const_over (ConstInfer (Var v)) ps a = refl
  const_over (ConstInfer (Fresh n)) ps a = refl
  const_over (ConstBound d b) ps a = refl
  const_over (ConstPlaceholder p) ps a = refl
  const_over (Unevaluated u) ps a = ap (node (unevaluated (m.id (u.def).0))) (args_got u.args ps u.args a)
  const_over (ConstError e) ps a = refl
  const_over (Value t v) ps a =
      let o = two_got (ValueType t) (ValTree v) ps (ValueType t) (ValTree v) a in
      ap₂ (λ x y. node value (cons x (cons y nil))) (typed_got (first_in ps (ValueType t)) t o.0)
      (val_got (second_in ps (ValTree v)) v o.1.0) ∙ ap (node value) o.1.1
  const_over (Expr x b) ps a = ap (node (expression x.0)) (args_got b ps b a)

  pub valtree_over : (k : ValTreeKind Key) (ps : Parts Key Id) → Alike (valtree_view k) ps →
      valtree_tree m (valtree_made k ps) ≡ over (valtree_tree m k) (parts_tree m ps)
  valtree_over (Leaf b n) ps a = refl
  valtree_over (Branch b) ps a = ap (node value_branch) (branches_got b ps b a)

  pub pattern_over : (k : PatternKind Key) (ps : Parts Key Id) → Alike (pattern_view k) ps →
      pattern_tree m (pattern_made k ps) ≡ over (pattern_tree m k) (parts_tree m ps)
  pattern_over (Range s e) ps a =
      let o = two_got (Const s) (Const e) ps (Const s) (Const e) a in
      ap₂ (λ x y. node range_pattern (cons x (cons y nil))) (con_got (first_in ps (Const s)) s o.0)
      (con_got (second_in ps (Const e)) e o.1.0) ∙ ap (node range_pattern) o.1.1
  pattern_over (Or b) ps a = ap (node or_pattern) (alternatives_got b ps b a)
  pattern_over NotNull ps a = refl

  pub existential_over : (p : ExistentialPredicate Key Id) (ps : Parts Key Id) → Alike (existential_view p) ps →
      existential_tree m (existential_made p ps) ≡ over (existential_tree m p) (parts_tree m ps)
  existential_over (Trait t) ps a = ap (node (existential_trait (m.id (t.def_id).0))) (args_got t.args ps t.args a)
  existential_over (ProjectionPredicate p) ps a =
      ap (node (existential_projection (m.id (p.def_id).0))) (term_args_got p.term p.args ps a)
  existential_over (AutoTrait d) ps a = refl

-- A form over known parts is known.
over_sure : (t us : Tree) → IsTrue (known t) → IsTrue (known us) → IsTrue (known (over t us))
over_sure (leaf l) us k h = k
over_sure (node g ts) us k h = h
over_sure (bind ks t) (cons u us) k h = (and_parts (known u) (known us) h).0
over_sure (bind ks t) (leaf l) k h = k
over_sure (bind ks t) (node g us) k h = k
over_sure (bind ks t) (bind ls u) k h = k
over_sure (bind ks t) nil k h = k
over_sure nil us k h = k
over_sure (cons t ts) us k h = k

pub over_known : (t us t' : Tree) → t' ≡ over t us → IsTrue (known t) → IsTrue (known us) → IsTrue (known t')
over_known t us t' e k h = subst (λ x. IsTrue (known x)) (sym e) (over_sure t us k h)

pub known_parts : (t : Tree) → IsTrue (known t) → IsTrue (known (parts_of t))
known_parts (node h ts) k = k
known_parts (leaf l) k = refl
known_parts (bind ks t) k = both_true k refl
known_parts nil k = refl
known_parts (cons t ts) k = refl

-- The view of a form in a call.
module _ {Key Id Name : Type 0} (m : Meaning Key Id Name) (v : Parts Key Id) (t : Tree) where
  pub ty_seen : (k : TyKind Key Id Name) → t ≡ kind_tree m k → v ≡ ty_view k → parts_tree m v ≡ parts_of t
  ty_seen k e q = ap (parts_tree m) q ∙ ty_viewed m k ∙ ap parts_of (sym e)

  pub const_seen : (k : ConstKind Key Id Name) → t ≡ const_tree m k → v ≡ const_view k → parts_tree m v ≡ parts_of t
  const_seen k e q = ap (parts_tree m) q ∙ const_viewed m k ∙ ap parts_of (sym e)

  pub valtree_seen : (k : ValTreeKind Key) → t ≡ valtree_tree m k → v ≡ valtree_view k → parts_tree m v ≡ parts_of t
  valtree_seen k e q = ap (parts_tree m) q ∙ valtree_viewed m k ∙ ap parts_of (sym e)

  pub pattern_seen : (k : PatternKind Key) → t ≡ pattern_tree m k → v ≡ pattern_view k → parts_tree m v ≡ parts_of t
  pattern_seen k e q = ap (parts_tree m) q ∙ pattern_viewed m k ∙ ap parts_of (sym e)

-- What was made of parts is that form over them.
module _ {Key Id Name : Type 0} {m n : Meaning Key Id Name} (e : Extends m n) (v ps : Parts Key Id) (t us : Tree)
    (a : Alike v ps) (s : parts_tree n ps ≡ us) (h : IsTrue (known t)) where
  pub ty_remade : (k l : TyKind Key Id Name) → t ≡ kind_tree m k → v ≡ ty_view k → l ≡ ty_made k ps →
      kind_tree n l ≡ over t us
  ty_remade k l q i j = ap (kind_tree n) j ∙ ty_over n k ps (subst (λ z. Alike z ps) i a)
      ∙ ap (over (kind_tree n k)) s ∙ ap (λ z. over z us) (stays_kind e k (knows_as t (kind_tree m k) (sym q) h) ∙ sym q)

  pub const_remade : (k l : ConstKind Key Id Name) → t ≡ const_tree m k → v ≡ const_view k → l ≡ const_made k ps →
      const_tree n l ≡ over t us
  const_remade k l q i j = ap (const_tree n) j ∙ const_over n k ps (subst (λ z. Alike z ps) i a)
      ∙ ap (over (const_tree n k)) s ∙ ap (λ z. over z us) (stays_const e k (knows_as t (const_tree m k) (sym q) h) ∙ sym q)

  pub valtree_remade : (k l : ValTreeKind Key) → t ≡ valtree_tree m k → v ≡ valtree_view k → l ≡ valtree_made k ps →
      valtree_tree n l ≡ over t us
  valtree_remade k l q i j = ap (valtree_tree n) j ∙ valtree_over n k ps (subst (λ z. Alike z ps) i a)
      ∙ ap (over (valtree_tree n k)) s ∙ ap (λ z. over z us) (stays_valtree e k (knows_as t (valtree_tree m k) (sym q) h) ∙ sym q)

  pub existential_remade : (p q : ExistentialPredicate Key Id) → t ≡ existential_tree m p → v ≡ existential_view p →
      q ≡ existential_made p ps → existential_tree n q ≡ over t us
  existential_remade p r q i j = ap (existential_tree n) j ∙ existential_over n p ps (subst (λ z. Alike z ps) i a)
      ∙ ap (over (existential_tree n p)) s
      ∙ ap (λ z. over z us) (stays_existential e p (knows_as t (existential_tree m p) (sym q) h) ∙ sym q)

  pub pattern_remade : (k l : PatternKind Key) → t ≡ pattern_tree m k → v ≡ pattern_view k → l ≡ pattern_made k ps →
      pattern_tree n l ≡ over t us
  pattern_remade k l q i j = ap (pattern_tree n) j ∙ pattern_over n k ps (subst (λ z. Alike z ps) i a)
      ∙ ap (over (pattern_tree n k)) s
      ∙ ap (λ z. over z us) (stays_pattern e k (knows_as t (pattern_tree m k) (sym q) h) ∙ sym q)

-- A list of parts stands as itself.
pub alike_same : {Key Id : Type 0} (ps : Parts Key Id) → Alike ps ps
alike_same Empty = tt
alike_same (One p) = refl
alike_same (Two p q) = (refl, refl)
alike_same (Args a) = tt
alike_same (Tys a) = tt
alike_same (Branches a) = tt
alike_same (Alternatives a) = tt
alike_same (TermArgs t a) = tt
alike_same (InputsParts t) = tt
alike_same (Predicates k) = tt

-- Of one sort, parts of one key are one tree, and where the key is the part's own only those.
module _ {Key Id Name : Type 0} (m : Meaning Key Id Name) (eq : Key → Key → Bool)
    (ty : AreEqualAsTrees m.ty (λ k l. eq k.0 l.0)) (region : AreEqualAsTrees m.region (λ k l. eq k.0 l.0))
    (const_ : AreEqualAsTrees m.const_ (λ k l. eq k.0 l.0))
    (valtree : AreEqualAsTrees m.valtree (λ k l. eq k.0 l.0))
    (pat : AreEqualAsTrees m.pat (λ k l. eq k.0 l.0))
    (predicates : AreEqualAsTrees m.existential_predicates (λ k l. eq k.0 l.0)) where
  keys_same : {k l x y : Key} → Some k ≡ Some x → Some l ≡ Some y → eq k l ≡ eq x y
  keys_same a b = cc

  pub same_part : (p q : Part Key Id) (x y : Key) → part_key p ≡ Some x → part_key q ≡ Some y →
      part_sort q ≡ part_sort p → IsTrue (known (part_tree m p)) →
      IsTrue (known (part_tree m q)) → (IsTrue (eq x y) ↔ (part_tree m p ≡ part_tree m q))
  same_part (Region r) (Region s) x y a b e k h =
      subst (λ z. IsTrue z ↔ (m.region r ≡ m.region s)) (keys_same a b) (region r s k h)
  same_part (Ty t) (Ty u) x y a b e k h = subst (λ z. IsTrue z ↔ (m.ty t ≡ m.ty u)) (keys_same a b) (ty t u k h)
  same_part (Const c) (Const d) x y a b e k h =
      subst (λ z. IsTrue z ↔ (m.const_ c ≡ m.const_ d)) (keys_same a b) (const_ c d k h)
  same_part (ValTree v) (ValTree w) x y a b e k h =
      subst (λ z. IsTrue z ↔ (m.valtree v ≡ m.valtree w)) (keys_same a b) (valtree v w k h)
  same_part (Pat o) (Pat q) x y a b e k h =
      subst (λ z. IsTrue z ↔ (m.pat o ≡ m.pat q)) (keys_same a b) (pat o q k h)
  same_part (ValueType t) (ValueType u) x y a b e k h =
      let o = ty t u (and_parts (known (m.ty t)) true k).0 (and_parts (known (m.ty u)) true h).0 in
      subst (λ z. IsTrue z ↔ (part_tree m (ValueType t) ≡ part_tree m (ValueType u))) (keys_same a b)
      (λ x. ap (λ z. node value_type (cons z nil)) (o.0 x), λ x. o.1 (cc))
  same_part (Object o) (Object q) x y a b e k h =
      let c = predicates o q k h in
      subst (λ z. IsTrue z ↔ (part_tree m (Object o) ≡ part_tree m (Object q))) (keys_same a b)
      (λ x. ap (λ z. node object z) (c.0 x), λ x. c.1 (cc))
  same_part p q x y a b e k h = absurd (cc)

-- Known parts, and lists of them, keep their trees while the interner grows.
module _ {Key Id Name : Type 0} {m n : Meaning Key Id Name} (e : Extends m n) where
  stays_body : (b : Body Key Id) → IsTrue (known (body_tree m b)) → body_tree n b ≡ body_tree m b
  stays_body (SignatureBody g) k = stays_signature e g k
  stays_body (TyBody t) k = e.ty t k
  stays_body (ExistentialBody p) k = stays_existential e p k

  pub stays_part : (x : Part Key Id) → IsTrue (known (part_tree m x)) → part_tree n x ≡ part_tree m x
  stays_part (Region r) k = e.region r k
  stays_part (Ty t) k = e.ty t k
  stays_part (Const c) k = e.const_ c k
  stays_part (ValTree v) k = e.valtree v k
  stays_part (Pat p) k = e.pat p k
  stays_part (ValueType t) k =
      ap (λ z. node value_type (cons z nil)) (e.ty t (and_parts (known (m.ty t)) true k).0)
  stays_part (Binder vs b) k =
      under_stays (m.bound_vars vs) (n.bound_vars vs) (body_tree m b) (body_tree n b) (e.bound_vars vs) (stays_body b) k
  stays_part (Signature g) k = stays_signature e g k
  stays_part (Inputs t) k = ap (λ x. node inputs (front x)) (e.tys t (front_known (m.tys t) k))
  stays_part (Existential p) k = stays_existential e p k
  stays_part (Object o) k = ap (λ x. node object x) (e.existential_predicates o k)

  pub stays_parts : (ps : Parts Key Id) → IsTrue (known (parts_tree m ps)) → parts_tree n ps ≡ parts_tree m ps
  stays_parts Empty k = refl
  stays_parts (One p) k = ap (λ z. cons z nil) (stays_part p (and_parts (known (part_tree m p)) true k).0)
  stays_parts (Two p q) k =
      let o = and_parts (known (part_tree m p)) (known (part_tree m q) && true) k in
      ap₂ (λ y z. cons y (cons z nil)) (stays_part p o.0) (stays_part q (and_parts (known (part_tree m q)) true o.1).0)
  stays_parts (Args a) k = e.args a k
  stays_parts (Tys a) k = e.tys a k
  stays_parts (Branches a) k = e.branches a k
  stays_parts (Alternatives a) k = e.alternatives a k
  stays_parts (TermArgs t a) k =
      let p = and_parts (known (term_tree m t)) (known (m.args a)) k in
      ap₂ (λ x y. cons x y) (stays_term e t p.0) (e.args a p.1)
  stays_parts (InputsParts t) k = ap (λ x. front x) (e.tys t (front_known (m.tys t) k))
  stays_parts (Predicates o) k = e.existential_predicates o k
