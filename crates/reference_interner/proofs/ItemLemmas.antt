-- The variances of a table's items, and that the trees of its nodes do not depend on them.
use Rattle.std.proofs.Common.{ℕ, ◌≡◌, ◌≢◌, ◌<◌, ◌≤◌, List, [], ◌∷◌, ◌++◌, refl, ap, ap₂, sym, ◌∙◌, subst, length, map}
use Rattle.std.proofs.Common.{get_or, inl, inr, Option, None, zero, suc, slice_set, arith}
use Rattle.std.proofs.lemmas.Bool.{cases_lt}
use Rattle.std.proofs.lemmas.List.{get_or-map, length-map, map-append, get_or_append_left, get_or_past}
use Rattle.std.proofs.Math.Seq.{get_or-append_seam}
use Rattle.relation_terms.proofs.Lists.{last_place}
use Rattle.relation_terms.specs.Heads.{existential_projection, projection, well_formed, normalizes_to, alias_relate}
use Rattle.relation_terms.specs.Predicates.{alias_term_tree, clause_kind_tree, predicate_kind_tree, predicate_tree}
use Rattle.relation_terms.specs.declared.predicate.kinds.ClauseKind.{ClauseKind}
use Rattle.relation_terms.specs.declared.predicate.kinds.ClauseKind.TheVariants.{Trait as TraitClause}
use Rattle.relation_terms.specs.declared.predicate.kinds.ClauseKind.TheVariants.{RegionOutlives, TypeOutlives}
use Rattle.relation_terms.specs.declared.predicate.kinds.ClauseKind.TheVariants.{Projection as ProjectionClause}
use Rattle.relation_terms.specs.declared.predicate.kinds.ClauseKind.TheVariants.{ConstArgHasType, WellFormed}
use Rattle.relation_terms.specs.declared.predicate.kinds.ClauseKind.TheVariants.{ConstEvaluatable, HostEffect}
use Rattle.relation_terms.specs.declared.predicate.kinds.ClauseKind.TheVariants.{UnstableFeature}
use Rattle.relation_terms.specs.declared.predicate.kinds.PredicateKind.{PredicateKind}
use Rattle.relation_terms.specs.declared.predicate.kinds.PredicateKind.TheVariants.{Clause, Subtype, Coerce}
use Rattle.relation_terms.specs.declared.predicate.kinds.PredicateKind.TheVariants.{NormalizesTo, AliasRelate}
use Rattle.relation_terms.specs.declared.predicate.kinds.PredicateKind.TheVariants.{Ambiguous}
use Rattle.relation_terms.specs.Trees.{Tree, list_tree, node, bind, nil, cons}
use Rattle.relation_terms.specs.Meaning.{existential_tree, term_tree, object_predicate_tree, bound_kind_of, bound_kinds}
use Rattle.relation_terms.specs.Meaning.{under}
use Rattle.relation_terms.specs.Meaning.{kind_tree, region_tree, const_tree, valtree_tree, pattern_tree, arg_tree}
use Rattle.term_enums.specs.declared.Variance.{Variance}
use Rattle.relation_terms.specs.declared.terms.ty_kind.TyKind.{TyKind}
use Rattle.relation_terms.specs.declared.terms.ty_kind.TyKind.TheVariants.{Bool, Char, Int, Uint, Float, Adt, Foreign}
use Rattle.relation_terms.specs.declared.terms.ty_kind.TyKind.TheVariants.{Str, Array, Slice, RawPtr, Ref, FnDef}
use Rattle.relation_terms.specs.declared.terms.ty_kind.TyKind.TheVariants.{Closure, CoroutineClosure, Coroutine}
use Rattle.relation_terms.specs.declared.terms.ty_kind.TyKind.TheVariants.{CoroutineWitness, Never, Tuple, Infer}
use Rattle.relation_terms.specs.declared.terms.ty_kind.TyKind.TheVariants.{Param as TyParam, Bound as TyBound}
use Rattle.relation_terms.specs.declared.terms.ty_kind.TyKind.TheVariants.{Error as TyError, Alias, Pat}
use Rattle.relation_terms.specs.declared.terms.ty_kind.TyKind.TheVariants.{Placeholder as TyPlaceholder}
use Rattle.relation_terms.specs.declared.terms.const_kind.ConstKind.{ConstKind}
use Rattle.relation_terms.specs.declared.terms.const_kind.ConstKind.TheVariants.{Param as ConstParam}
use Rattle.relation_terms.specs.declared.terms.const_kind.ConstKind.TheVariants.{Placeholder as ConstPlaceholder}
use Rattle.relation_terms.specs.declared.terms.const_kind.ConstKind.TheVariants.{Infer as ConstInfer}
use Rattle.relation_terms.specs.declared.terms.const_kind.ConstKind.TheVariants.{Bound as ConstBound}
use Rattle.relation_terms.specs.declared.terms.const_kind.ConstKind.TheVariants.{Unevaluated, Value}
use Rattle.relation_terms.specs.declared.terms.const_kind.ConstKind.TheVariants.{Error as ConstError, Expr}
use Rattle.relation_terms.specs.declared.terms.const_kind.ValTreeKind.{ValTreeKind}
use Rattle.relation_terms.specs.declared.terms.const_kind.ValTreeKind.TheVariants.{Leaf, Branch}
use Rattle.relation_terms.specs.declared.terms.pattern_kind.PatternKind.{PatternKind}
use Rattle.relation_terms.specs.declared.terms.pattern_kind.PatternKind.TheVariants.{Range, Or, NotNull}
use Rattle.relation_terms.specs.declared.terms.region_kind.RegionKind.{RegionKind}
use Rattle.relation_terms.specs.declared.terms.region_kind.RegionKind.TheVariants.{ReStatic, ReEarlyParam, ReBound}
use Rattle.relation_terms.specs.declared.terms.region_kind.RegionKind.TheVariants.{ReVar, RePlaceholder}
use Rattle.relation_terms.specs.declared.terms.generic_arg.GenericArgKind.{GenericArgKind}
use Rattle.relation_terms.specs.declared.terms.generic_arg.GenericArgKind.TheVariants.{Lifetime, Ty, Const}
use Rattle.relation_terms.specs.declared.terms.ty_kind.TyKind.TheVariants.{FnPtr, UnsafeBinder, Dynamic}
use Rattle.relation_terms.specs.declared.terms.generic_arg.TermKind.{TermKind}
use Rattle.relation_terms.specs.declared.terms.generic_arg.TermKind.TheVariants.{Ty as TyTerm, Const as ConstTerm}
use Rattle.relation_terms.specs.declared.predicate.existential.ExistentialPredicate.{ExistentialPredicate}
use Rattle.relation_terms.specs.declared.predicate.existential.ExistentialPredicate.TheVariants.{Trait, AutoTrait}
use Rattle.relation_terms.specs.declared.predicate.existential.ExistentialPredicate.TheVariants.{
  Projection as ProjectionPredicate,
}
use Rattle.relation_terms.specs.declared.terms.binder.Binder.{Binder}
use Rattle.relation_terms.specs.declared.terms.binder.BoundVariableKind.{BoundVariableKind}
use Rattle.relation_terms.specs.declared.terms.binder.BoundVariableKind.TheVariants.{Ty as TyVariable}
use Rattle.relation_terms.specs.declared.terms.binder.BoundVariableKind.TheVariants.{Region as RegionVariable}
use Rattle.relation_terms.specs.declared.terms.binder.BoundVariableKind.TheVariants.{Const as ConstVariable}
use Rattle.reference_interner.specs.declared.keys.NodeKey.{NodeKey}
use Rattle.reference_interner.specs.declared.keys.ItemId.{ItemId}
use Rattle.reference_interner.specs.declared.keys.SymbolId.{SymbolId}
use Rattle.reference_interner.specs.declared.items.Item.{Item}
use Rattle.reference_interner.specs.declared.node.Node.{Node}
use Rattle.reference_interner.specs.Forms.{Form, ty_form, region_form, const_form, valtree_form, args_form, tys_form}
use Rattle.reference_interner.specs.Forms.{branches_form, pattern_form, alternatives_form, form_of, predicate_form, clauses_form}
use Rattle.reference_interner.specs.Adding.{SameTerms, OthersStand, HasNoGenerics, StatesNothing}
use Rattle.reference_interner.specs.Items.{read_at, alias_variances_of, alias_variances_at, parent_of, alias_kind_of}
use Rattle.reference_interner.specs.Items.{is_lang, tables_of, changed_at, supers_of, implied_of, bounds_of, params_of}
use Rattle.relation_terms.specs.Heads.{AliasTermKind, BoundKind}
use Rattle.term_enums.specs.declared.SolverTraitLangItem.{SolverTraitLangItem}
use Rattle.term_enums.specs.declared.SolverTraitLangItem.TheVariants.{Sized}
use Rattle.std.specs.Prelude.{Bool as Bool_, false}
use Rattle.reference_interner.specs.Forms.{predicates_form, bound_vars_form}
use Rattle.reference_interner.specs.Nodes.{Entry, entry, meaning_of, form_sort, form_tree, entry_of, entries}
use Rattle.reference_interner.specs.Nodes.{table_meaning}
use Rattle.reference_interner.specs.Items.{Items}

same_list : {A : Type 0} (f g : A → Tree) → ((x : A) → f x ≡ g x) → (xs : List A) → list_tree f xs ≡ list_tree g xs
same_list f g h [] = refl
same_list f g h (x ∷ xs) = ap₂ (λ y z. cons y z) (h x) (same_list f g h xs)

module _ (as_before more : Items) (es : List Entry) where
  same_kind : (f : TyKind NodeKey ItemId SymbolId) →
      kind_tree (meaning_of as_before es) f ≡ kind_tree (meaning_of more es) f
  unfolding meaning_of
  same_kind Bool = refl
  same_kind Char = refl
  same_kind (Int w) = refl
  same_kind (Uint w) = refl
  same_kind (Float w) = refl
  same_kind (Adt d a) = refl
  same_kind (Foreign d) = refl
  same_kind Str = refl
  same_kind (Array t c) = refl
  same_kind (Pat t p) = refl
  same_kind (Slice t) = refl
  same_kind (RawPtr t u) = refl
  same_kind (Ref r t u) = refl
  same_kind (FnDef d a) = refl
  same_kind (FnPtr b h) = refl
  same_kind (UnsafeBinder b) = refl
  same_kind (Dynamic ps r) = refl
  same_kind (Closure d a) = refl
  same_kind (CoroutineClosure d a) = refl
  same_kind (Coroutine d a) = refl
  same_kind (CoroutineWitness d a) = refl
  same_kind Never = refl
  same_kind (Tuple ts) = refl
  same_kind (Alias a) = refl
  same_kind (TyParam p) = refl
  same_kind (TyBound d b) = refl
  same_kind (TyPlaceholder p) = refl
  same_kind (Infer i) = refl
  same_kind (TyError e) = refl

  same_const : (f : ConstKind NodeKey ItemId SymbolId) →
      const_tree (meaning_of as_before es) f ≡ const_tree (meaning_of more es) f
  unfolding meaning_of
  same_const (ConstParam p) = refl
  same_const (ConstInfer i) = refl
  same_const (ConstBound d b) = refl
  same_const (ConstPlaceholder p) = refl
  same_const (Unevaluated u) = refl
  same_const (Value t v) = refl
  same_const (ConstError e) = refl
  same_const (Expr x a) = refl

  same_valtree : (f : ValTreeKind NodeKey) →
      valtree_tree (meaning_of as_before es) f ≡ valtree_tree (meaning_of more es) f
  unfolding meaning_of
  same_valtree (Leaf b n) = refl
  same_valtree (Branch b) = refl

  same_pattern : (f : PatternKind NodeKey) →
      pattern_tree (meaning_of as_before es) f ≡ pattern_tree (meaning_of more es) f
  unfolding meaning_of
  same_pattern (Range s e) = refl
  same_pattern (Or a) = refl
  same_pattern NotNull = refl

  same_region : (f : RegionKind SymbolId) →
      region_tree (meaning_of as_before es) f ≡ region_tree (meaning_of more es) f
  unfolding meaning_of
  same_region ReStatic = refl
  same_region (ReEarlyParam p) = refl
  same_region (ReBound d b) = refl
  same_region (ReVar v) = refl
  same_region (RePlaceholder p) = refl

  same_arg : (a : GenericArgKind NodeKey) → arg_tree (meaning_of as_before es) a ≡ arg_tree (meaning_of more es) a
  unfolding meaning_of
  same_arg (Lifetime r) = refl
  same_arg (Ty t) = refl
  same_arg (Const c) = refl

  same_term : (t : TermKind NodeKey) → term_tree (meaning_of as_before es) t ≡ term_tree (meaning_of more es) t
  unfolding meaning_of
  same_term (TyTerm t) = refl
  same_term (ConstTerm c) = refl

  same_existential : (p : ExistentialPredicate NodeKey ItemId) →
      existential_tree (meaning_of as_before es) p ≡ existential_tree (meaning_of more es) p
  unfolding meaning_of
  same_existential (Trait t) = refl
  same_existential (ProjectionPredicate p) =
      ap (λ x. node (existential_projection ((p.def_id).0).0) (cons x ((meaning_of more es).args p.args)))
      (same_term p.term)
  same_existential (AutoTrait d) = refl

  same_predicate : (b : Binder NodeKey (ExistentialPredicate NodeKey ItemId)) →
      object_predicate_tree (meaning_of as_before es) b ≡ object_predicate_tree (meaning_of more es) b
  unfolding meaning_of
  same_predicate b =
      ap (λ x. under ((meaning_of more es).bound_vars b.bound_vars) x) (same_existential b.value)

  same_clause_kind : (c : ClauseKind NodeKey ItemId SymbolId) →
      clause_kind_tree (meaning_of as_before es) c ≡ clause_kind_tree (meaning_of more es) c
  unfolding meaning_of
  same_clause_kind (TraitClause p) = refl
  same_clause_kind (RegionOutlives p) = refl
  same_clause_kind (TypeOutlives p) = refl
  same_clause_kind (ProjectionClause p) =
      ap (λ x. node projection (cons (alias_term_tree (meaning_of more es) p.projection_term) (cons x nil)))
      (same_term p.term)
  same_clause_kind (ConstArgHasType c t) = refl
  same_clause_kind (WellFormed a) = ap (λ x. node well_formed (cons x nil)) (same_term a)
  same_clause_kind (ConstEvaluatable c) = refl
  same_clause_kind (HostEffect p) = refl
  same_clause_kind (UnstableFeature n) = refl

  same_predicate_kind : (p : PredicateKind NodeKey ItemId SymbolId) →
      predicate_kind_tree (meaning_of as_before es) p ≡ predicate_kind_tree (meaning_of more es) p
  unfolding meaning_of
  same_predicate_kind (Clause c) = same_clause_kind c
  same_predicate_kind (Subtype p) = refl
  same_predicate_kind (Coerce p) = refl
  same_predicate_kind (NormalizesTo p) =
      ap (λ x. node normalizes_to (cons (alias_term_tree (meaning_of more es) p.alias) (cons x nil)))
      (same_term p.term)
  same_predicate_kind (AliasRelate a b d) =
      ap₂ (λ x y. node (alias_relate d) (cons x (cons y nil))) (same_term a) (same_term b)
  same_predicate_kind Ambiguous = refl

  same_whole : (b : Binder NodeKey (PredicateKind NodeKey ItemId SymbolId)) →
      predicate_tree (meaning_of as_before es) b ≡ predicate_tree (meaning_of more es) b
  unfolding meaning_of
  same_whole b = ap (λ x. under ((meaning_of more es).bound_vars b.bound_vars) x) (same_predicate_kind b.value)

  same_variable : (x : BoundVariableKind SymbolId) →
      bound_kind_of (meaning_of as_before es) x ≡ bound_kind_of (meaning_of more es) x
  unfolding meaning_of
  same_variable (TyVariable n) = refl
  same_variable (RegionVariable n) = refl
  same_variable (ConstVariable n) = refl

  same_kinds : (xs : List (BoundVariableKind SymbolId)) →
      bound_kinds (meaning_of as_before es) xs ≡ bound_kinds (meaning_of more es) xs
  same_kinds [] = refl
  same_kinds (x ∷ xs) = ap₂ (λ y ys. y ∷ ys) (same_variable x) (same_kinds xs)

  same_form : (f : Form) → form_tree (meaning_of as_before es) f ≡ form_tree (meaning_of more es) f
  unfolding meaning_of
  same_form (ty_form f) = same_kind f
  same_form (region_form f) = same_region f
  same_form (const_form f) = same_const f
  same_form (valtree_form f) = same_valtree f
  same_form (pattern_form f) = same_pattern f
  same_form (args_form xs) =
      same_list (arg_tree (meaning_of as_before es)) (arg_tree (meaning_of more es)) same_arg xs
  same_form (tys_form ts) = refl
  same_form (branches_form cs) = refl
  same_form (alternatives_form ps) = refl
  same_form (predicates_form ps) =
      same_list (object_predicate_tree (meaning_of as_before es)) (object_predicate_tree (meaning_of more es))
      same_predicate ps
  same_form (bound_vars_form xs) = ap (λ ks. bind ks nil) (same_kinds xs)
  same_form (predicate_form f) = same_whole f
  same_form (clauses_form cs) = refl

-- A node's entry is one whatever the items are.
pub same_entry : (items more : Items) (ns : List Node) (n : Node) →
    entry_of (table_meaning items ns) n ≡ entry_of (table_meaning more ns) n
same_entry items more ns n = ap (entry (form_sort (form_of n))) (same_form items more (entries ns) (form_of n))

-- What is read of an item that is there, and of none.
pub read_there : {A : Type 0} (reads : Item → A) (none : A) (items : Items) (i : ℕ) (d : Item) → i < length items.list →
    read_at reads none items i ≡ reads (get_or items.list i d)
read_there reads none items i d h = get_or-map reads items.list i d none h

pub read_past : {A : Type 0} (reads : Item → A) (none : A) (items : Items) (i : ℕ) → length items.list ≤ i →
    read_at reads none items i ≡ none
read_past reads none items i h =
    get_or_past (map reads items.list) i none (subst (λ n. n ≤ i) (sym (length-map items.list reads)) h)

-- What an item declares of its parameters, and of an alias type of it, which trait declares it, and which alias it is.
abbrev declared : Item → List Variance
declared y = (y.variances).items

abbrev alias_declared : Item → Option (List Variance)
alias_declared y = alias_variances_of (y.kind).def (y.variances).items

abbrev declaring : Item → Option ℕ
declaring y = parent_of (y.kind).def

abbrev alias_kind_declared : Item → Option AliasTermKind
alias_kind_declared y = alias_kind_of (y.kind).def

abbrev auto_declared : Item → Bool_
auto_declared y = y.is_auto

abbrev params_declared : Item → List BoundKind
params_declared y = params_of y.kind

-- An id that no item has.
pub no_generics : (items : Items) (ns : List Node) (d : ℕ) → length items.list ≤ d →
    HasNoGenerics (table_meaning items ns) d
unfolding meaning_of
no_generics items ns d h = record {
  generics = ap length (read_past declared [] items d h);
  variances = read_past declared [] items d h;
  alias_variances = read_past alias_declared None items d h;
  params = read_past params_declared [] items d h;
}

-- A list and one more element, read elsewhere than at its end.
elsewhere : {A : Type 0} (xs : List A) (x d : A) (i : ℕ) → i ≢ length xs → get_or (xs ++ x ∷ []) i d ≡ get_or xs i d
elsewhere xs x d i n = elim (cases_lt i (length xs)) [
  | inl h ↦ get_or_append_left xs (x ∷ []) d i h
  | inr h ↦ elim (cases_lt i (length (xs ++ x ∷ []))) [
    | inl k ↦ absurd (n (last_place xs x i k h))
    | inr k ↦ get_or_past (xs ++ x ∷ []) i d k ∙ sym (get_or_past xs i d h)
  ]
]

-- What is read off a table and one more item.
module _ {A : Type 0} (reads : Item → A) (items : List Item) (x : Item) (none : A) where
  grown : map reads (items ++ x ∷ []) ≡ map reads items ++ reads x ∷ []
  grown = map-append reads items (x ∷ [])

  read_new : get_or (map reads (items ++ x ∷ [])) (length items) none ≡ reads x
  read_new =
      ap (λ vs. get_or vs (length items) none) grown ∙
      ap (λ n. get_or (map reads items ++ reads x ∷ []) n none) (sym (length-map items reads)) ∙
      get_or-append_seam (map reads items) (reads x) [] none

  read_other : (e : ℕ) → e ≢ length items →
      get_or (map reads (items ++ x ∷ [])) e none ≡ get_or (map reads items) e none
  read_other e n =
      ap (λ vs. get_or vs e none) grown ∙
      elsewhere (map reads items) (reads x) none e (λ p. n (p ∙ length-map items reads))

-- The terms are the same with any items.
pub same_terms : (items more : Items) (ns : List Node) → SameTerms (table_meaning items ns) (table_meaning more ns)
unfolding meaning_of
same_terms items more ns = record {
  ty = λ k. refl;
  region = λ k. refl;
  const_ = λ k. refl;
  args = λ k. refl;
  tys = λ k. refl;
  pat = λ k. refl;
  valtree = λ k. refl;
  branches = λ k. refl;
  alternatives = λ k. refl;
  existential_predicates = λ k. refl;
  bound_vars = λ k. refl;
  predicate = λ k. refl;
  clause = λ k. refl;
  clauses = λ k. refl;
  param_env = λ k. refl;
  id = λ d. refl;
  name = λ s. refl;
}

-- What an item that was added leaves.
module _ (items more : Items) (x : Item) (ns : List Node) (d : ℕ) (added : more.list ≡ items.list ++ x ∷ [])
    (number : d ≡ length items.list) (solver : more.next_solver ≡ items.next_solver) where
  new_read : {A : Type 0} (reads : Item → A) (none : A) → read_at reads none more d ≡ reads x
  new_read reads none = ap₂ (λ ys e. get_or (map reads ys) e none) added number ∙ read_new reads items.list x none

  other_read : {A : Type 0} (reads : Item → A) (none : A) (e : ℕ) → e ≢ d →
      read_at reads none more e ≡ read_at reads none items e
  other_read reads none e n =
      ap (λ ys. get_or (map reads ys) e none) added ∙
      read_other reads items.list x none e (λ p. n (p ∙ sym number))

  pub new_variances : (table_meaning more ns).variances d ≡ (x.variances).items
  unfolding meaning_of
  new_variances = new_read declared []

  pub new_alias_variances : (table_meaning more ns).alias_variances d ≡ alias_declared x
  unfolding meaning_of
  new_alias_variances = new_read alias_declared None

  pub new_generics : (table_meaning more ns).generics d ≡ length (x.variances).items
  unfolding meaning_of
  new_generics = ap length new_variances

  pub new_parent : ((table_meaning more ns).tables).parent d ≡ declaring x
  unfolding meaning_of
  new_parent = new_read declaring None

  pub new_alias_kind : ((table_meaning more ns).tables).alias_kind d ≡ alias_kind_declared x
  unfolding meaning_of
  new_alias_kind = new_read alias_kind_declared None

  pub new_auto : ((table_meaning more ns).tables).is_auto d ≡ x.is_auto
  unfolding meaning_of
  new_auto = new_read auto_declared false

  pub new_lang : (i : SolverTraitLangItem) → ((table_meaning more ns).tables).is_lang_item d i ≡ is_lang i x
  unfolding meaning_of
  new_lang i = new_read (is_lang i) false

  pub new_params : ((table_meaning more ns).tables).params d ≡ params_of x.kind
  unfolding meaning_of
  new_params = new_read params_declared []

  -- An item of which nothing is said states nothing.
  pub new_states : supers_of x ≡ [] → implied_of x ≡ [] → bounds_of x ≡ [] → StatesNothing (table_meaning more ns) d
  unfolding meaning_of
  new_states s i b = record {
    super_predicates = new_read supers_of [] ∙ s;
    implied_predicates = new_read implied_of [] ∙ i;
    const_bounds = new_read bounds_of [] ∙ b;
  }

  pub others_stand : OthersStand (table_meaning items ns) (table_meaning more ns) d
  unfolding meaning_of
  others_stand = record {
    generics = λ e n. ap length (other_read declared [] e n);
    variances = λ e n. other_read declared [] e n;
    alias_variances = λ e n. other_read alias_declared None e n;
    parent = λ e n. other_read declaring None e n;
    is_auto = λ e n. other_read auto_declared false e n;
    is_lang_item = λ e n i. other_read (is_lang i) false e n;
    alias_kind = λ e n. other_read alias_kind_declared None e n;
    next_solver = solver;
    super_predicates = λ e n. other_read supers_of [] e n;
    implied_predicates = λ e n. other_read implied_of [] e n;
    const_bounds = λ e n. other_read bounds_of [] e n;
    params = λ e n. other_read params_declared [] e n;
  }

-- What is read of the tables of an interner.
pub tables_read : (items : Items) (ns : List Node) → (table_meaning items ns).tables ≡ tables_of items
unfolding meaning_of
tables_read items ns = refl

pub alias_variances_read : (items : Items) (ns : List Node) (n : ℕ) →
    (table_meaning items ns).alias_variances n ≡ alias_variances_at items n
unfolding meaning_of
alias_variances_read items ns n = refl

-- An item that is not said to be `Sized` is none that the language knows.
pub no_lang : (i : SolverTraitLangItem) (x : Item) → x.is_sized ≡ false → is_lang i x ≡ false
no_lang Sized x e = e

-- Writing the changed item of a number changes that item.
pub changed_set : (f : Item → Item) (xs : List Item) (n : ℕ) (y : Item) → y ≡ get_or xs n y →
    slice_set xs n (f y) ≡ changed_at f xs n
changed_set f [] n y e = refl
changed_set f (x ∷ xs) zero y e = ap (λ z. f z ∷ xs) e
changed_set f (x ∷ xs) (suc n) y e = ap (λ zs. x ∷ zs) (changed_set f xs n y e)

-- No item changes where none has the number.
pub changed_past : (f : Item → Item) (xs : List Item) (n : ℕ) → length xs ≤ n → changed_at f xs n ≡ xs
changed_past f [] n h = refl
changed_past f (x ∷ xs) zero h = absurd (omega arith)
changed_past f (x ∷ xs) (suc n) h = ap (λ zs. x ∷ zs) (changed_past f xs n (omega arith))
