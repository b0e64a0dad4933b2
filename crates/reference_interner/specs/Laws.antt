-- What holds of the keys of a table: each reads a term of its sort, and in a table in which nothing stands twice keys
-- of one tree are one key.
use Rattle.std.proofs.Common.{ℕ, ◌≡◌, ◌↔◌, IsTrue, List, [], ◌∷◌, ◌++◌, length, get_or, eqb, refl, ap, sym, ◌∙◌}
use Rattle.std.proofs.Common.{subst, inl, inr, Some, IsSome, Bool, true, false, cond}
use Rattle.std.proofs.lemmas.Bool.{eqb-true, eq-eqb, cases_lt, false≢true}
use Rattle.std.proofs.Common.{◌≤◌, map}
use Rattle.std.specs.List.{All}
use Rattle.std.proofs.lemmas.List.{get_or_append_left, get_or_past, length-map}
use Rattle.std.proofs.lemmas.List.Elements.{All-map, All-nil}
use Rattle.std.proofs.Math.Seq.{get_or-append_seam}
use Rattle.relation_terms.specs.Heads.{type_sort, region_sort, const_sort, value_sort, pattern_sort, argument_sort}
use Rattle.relation_terms.specs.Heads.{environment_sort, existential_sort, row, binder_of, environment, Sort, unknown}
use Rattle.relation_terms.specs.Heads.{clause_sort, predicate_sort, Admits, head_sort, leaf_sort}
use Rattle.relation_terms.specs.Trees.{Tree, leaf, node, bind, nil, known, Fits, IsTerm, AreTerms, IsBinder}
use Rattle.relation_terms.specs.Meaning.{Meaning, arg_tree, object_predicate_tree, under}
use Rattle.relation_terms.specs.Interning.{Sorted}
use Rattle.relation_terms.specs.Owned.{IsStated, IsStatedBound, StatesItsOwn}
use Rattle.relation_terms.proofs.Sorted.{kind_sorted, region_sorted, const_sorted, valtree_sorted, arg_sorted}
use Rattle.relation_terms.proofs.Sorted.{pattern_sorted, list_sorted, binders_sorted, object_predicate_sorted}
use Rattle.relation_terms.proofs.Predicates.{predicate_sorted}
use Rattle.relation_terms.proofs.Binders.{known_under}
use Rattle.relation_terms.specs.declared.terms.keys.BoundVarsKey.{BoundVarsKey}
use Rattle.relation_terms.specs.declared.terms.keys.ClauseKey.{ClauseKey}
use Rattle.relation_terms.proofs.Once.{Injective}
use Rattle.relation_terms.proofs.Lists.{last_place}
use Rattle.reference_interner.specs.declared.keys.NodeKey.{NodeKey}
use Rattle.reference_interner.specs.declared.keys.ItemId.{ItemId}
use Rattle.reference_interner.specs.declared.keys.SymbolId.{SymbolId}
use Rattle.reference_interner.specs.declared.node.Node.{Node}
use Rattle.reference_interner.specs.Forms.{Form, ty_form, region_form, const_form, valtree_form, args_form, tys_form}
use Rattle.reference_interner.specs.Forms.{branches_form, pattern_form, alternatives_form, form_of, predicate_form, clauses_form}
use Rattle.reference_interner.specs.Nodes.{NodeSort, ty_node, region_node, const_node, valtree_node, args_node}
use Rattle.reference_interner.specs.Nodes.{tys_node, branches_node, pat_node, alternatives_node, predicate_node, clauses_node}
use Rattle.reference_interner.specs.Nodes.{is_clause_sort, as_clause}
use Rattle.reference_interner.specs.Forms.{predicates_form, bound_vars_form}
use Rattle.reference_interner.specs.Nodes.{predicates_node, bound_vars_node}
use Rattle.reference_interner.specs.Nodes.{Entry, no_entry, entry, tree_as, meaning_of, form_sort, form_tree, entry_of}
use Rattle.reference_interner.specs.Nodes.{entries_from, entries, table_meaning, known_entry, AllDistinct}
use Rattle.reference_interner.specs.Places.{known_in, of_sort, shown_as, tree_of_key, key_reads}
use Rattle.reference_interner.specs.declared.items.Item.{Item}
use Rattle.reference_interner.specs.Items.{Items, no_items, read_at, supers_of, implied_of, bounds_of}
use Rattle.reference_interner.specs.Stated.{AllStated}

-- The tree is a term, or a list of terms or of binders over terms, as a node of the sort has. Of a list of variables
-- nothing is asked.
abbrev pub IsOfSort : NodeSort → Tree → Type 0
IsOfSort ty_node t = IsTerm type_sort t
IsOfSort region_node t = IsTerm region_sort t
IsOfSort const_node t = IsTerm const_sort t
IsOfSort valtree_node t = IsTerm value_sort t
IsOfSort pat_node t = IsTerm pattern_sort t
IsOfSort args_node t = AreTerms argument_sort t
IsOfSort tys_node t = AreTerms type_sort t
IsOfSort branches_node t = AreTerms const_sort t
IsOfSort alternatives_node t = AreTerms pattern_sort t
IsOfSort predicates_node t = Fits (row [] (Some (binder_of existential_sort))) t
IsOfSort bound_vars_node t = Unit {0}
IsOfSort predicate_node t = IsBinder predicate_sort t
IsOfSort clauses_node t = Fits (row [] (Some (binder_of clause_sort))) t

-- A known tree of an entry is of the entry's sort.
abbrev IsSorted : Entry → Type 0
IsSorted no_entry = Unit {0}
IsSorted (entry s t) = IsTrue (known t) → IsOfSort s t

-- All entries are sorted.
abbrev AllSorted : List Entry → Type 0
AllSorted es = (i : ℕ) → IsSorted (get_or es i no_entry)

sorted_as : (s : NodeSort) (e : Entry) → IsSorted e → IsTrue (known (tree_as s e)) → IsOfSort s (tree_as s e)
sorted_as s e h k = subst IsSorted (of_sort s e k) h k

-- What a key reads is of its sort.
key_sorted : (items : Items) (es : List Entry) → AllSorted es → (s : NodeSort) (i : ℕ) →
    IsTrue (known (tree_of_key s (meaning_of items es) i)) → IsOfSort s (tree_of_key s (meaning_of items es) i)
key_sorted items es h s i k =
    let e = key_reads items es s i in
    subst (IsOfSort s) (sym e) (sorted_as s (get_or es i no_entry) (h i) (subst (λ t. IsTrue (known t)) e k))

-- What is known as a clause is the predicate's tree.
known_as : (b : Bool) (t : Tree) → IsTrue (known (cond b t (leaf unknown))) → cond b t (leaf unknown) ≡ t
known_as true t k = refl
known_as false t k = absurd (false≢true k)

sort_as : (b : Bool) (t : Tree) → IsTrue (known (cond b t (leaf unknown))) → IsTrue b
sort_as true t k = refl
sort_as false t k = absurd (false≢true k)

pub clause_same : (t : Tree) → IsTrue (known (as_clause t)) → as_clause t ≡ t
clause_same (bind ks (node h ts)) k = known_as (is_clause_sort (head_sort h)) (bind ks (node h ts)) k
clause_same (bind ks (leaf l)) k = known_as (is_clause_sort (leaf_sort l)) (bind ks (leaf l)) k
clause_same t k = absurd (false≢true k)

clause_admitted : (s : Sort) → IsTrue (is_clause_sort s) → Admits clause_sort s
clause_admitted clause_sort h = tt
clause_admitted s h = absurd (false≢true h)

clause_sorted : (t : Tree) → IsBinder predicate_sort t → IsTrue (known (as_clause t)) → IsBinder clause_sort t
clause_sorted (bind ks (node h ts)) p k =
    (clause_admitted (head_sort h) (sort_as (is_clause_sort (head_sort h)) (bind ks (node h ts)) k), p.1)
clause_sorted (bind ks (leaf l)) p k =
    clause_admitted (leaf_sort l) (sort_as (is_clause_sort (leaf_sort l)) (bind ks (leaf l)) k)
clause_sorted t p k = absurd (false≢true k)

as_clause_sorted : (t : Tree) → (IsTrue (known t) → IsBinder predicate_sort t) → IsTrue (known (as_clause t)) →
    IsBinder clause_sort (as_clause t)
as_clause_sorted t h k =
    let e = clause_same t k in
    subst (λ u. IsBinder clause_sort u) (sym e) (clause_sorted t (h (subst (λ u. IsTrue (known u)) e k)) k)

-- The tree of a clause's key is that of the predicate of its number, as a clause's.
pub clause_reads : (items : Items) (es : List Entry) (i : ℕ) →
    (meaning_of items es).clause (record { 0 = record { 0 = i } }) ≡ as_clause (tree_as predicate_node (get_or es i no_entry))
unfolding meaning_of
clause_reads items es i = refl

key_clause_sorted : (items : Items) (es : List Entry) → AllSorted es → (k : ClauseKey NodeKey) →
    IsTrue (known ((meaning_of items es).clause k)) → IsBinder clause_sort ((meaning_of items es).clause k)
key_clause_sorted items es h k s =
    let e = clause_reads items es (k.0).0 in
    let x = get_or es (k.0).0 no_entry in
    subst (λ t. IsBinder clause_sort t) (sym e)
    (as_clause_sorted (tree_as predicate_node x) (sorted_as predicate_node x (h (k.0).0))
    (subst (λ t. IsTrue (known t)) e s))

-- An environment is that of the list of its number.
env_is : (items : Items) (es : List Entry) (i : ℕ) →
    (meaning_of items es).param_env (record { 0 = record { 0 = i } }) ≡
    node environment ((meaning_of items es).clauses (record { 0 = record { 0 = i } }))
unfolding meaning_of
env_is items es i = refl

key_env_sorted : (items : Items) (es : List Entry) → AllSorted es → (i : ℕ) →
    IsTrue (known ((meaning_of items es).param_env (record { 0 = record { 0 = i } }))) →
    IsTerm environment_sort ((meaning_of items es).param_env (record { 0 = record { 0 = i } }))
key_env_sorted items es h i k =
    let e = env_is items es i in
    subst (λ t. IsTerm environment_sort t) (sym e)
    (tt, key_sorted items es h clauses_node i (subst (λ t. IsTrue (known t)) e k))

sorted : (items : Items) (es : List Entry) → AllSorted es → Sorted (meaning_of items es)
sorted items es h = record {
  ty = λ k. key_sorted items es h ty_node (k.0).0;
  region = λ k. key_sorted items es h region_node (k.0).0;
  tys = λ k. key_sorted items es h tys_node (k.0).0;
  const_ = λ k. key_sorted items es h const_node (k.0).0;
  valtree = λ k. key_sorted items es h valtree_node (k.0).0;
  args = λ k. key_sorted items es h args_node (k.0).0;
  branches = λ k. key_sorted items es h branches_node (k.0).0;
  pat = λ k. key_sorted items es h pat_node (k.0).0;
  alternatives = λ k. key_sorted items es h alternatives_node (k.0).0;
  existential_predicates = λ k. key_sorted items es h predicates_node (k.0).0;
  predicate = λ k. key_sorted items es h predicate_node (k.0).0;
  clause = key_clause_sorted items es h;
  clauses = λ k. key_sorted items es h clauses_node (k.0).0;
  param_env = λ k. key_env_sorted items es h (k.0).0;
}

form_sorted : (m : Meaning NodeKey ItemId SymbolId) → Sorted m → (f : Form) → IsTrue (known (form_tree m f)) →
    IsOfSort (form_sort f) (form_tree m f)
form_sorted m s (ty_form f) k = kind_sorted m s f k
form_sorted m s (region_form f) k = region_sorted m f
form_sorted m s (const_form f) k = const_sorted m s f k
form_sorted m s (valtree_form f) k = valtree_sorted m s f k
form_sorted m s (pattern_form f) k = pattern_sorted m s f k
form_sorted m s (args_form xs) k = list_sorted argument_sort (arg_tree m) (arg_sorted m s) xs k
form_sorted m s (tys_form ts) k = list_sorted type_sort m.ty s.ty ts k
form_sorted m s (branches_form cs) k = list_sorted const_sort m.const_ s.const_ cs k
form_sorted m s (alternatives_form ps) k = list_sorted pattern_sort m.pat s.pat ps k
form_sorted m s (predicates_form ps) k =
    binders_sorted existential_sort (object_predicate_tree m) (object_predicate_sorted m s) ps k
form_sorted m s (bound_vars_form xs) k = tt
form_sorted m s (predicate_form f) k = predicate_sorted m s f k
form_sorted m s (clauses_form cs) k = binders_sorted clause_sort m.clause s.clause cs k

one_more : (es : List Entry) (e : Entry) → AllSorted es → IsSorted e → AllSorted (es ++ e ∷ [])
one_more es e s h = λ i. elim (cases_lt i (length (es ++ e ∷ []))) [
  | inl p ↦ elim (cases_lt i (length es)) [
    | inl q ↦ subst IsSorted (sym (get_or_append_left es (e ∷ []) no_entry i q)) (s i)
    | inr q ↦
        let z = last_place es e i p q in
        subst IsSorted (sym (ap (λ j. get_or (es ++ e ∷ []) j no_entry) z ∙ get_or-append_seam es e [] no_entry)) h
  ]
  | inr p ↦ subst IsSorted (sym (get_or_past (es ++ e ∷ []) i no_entry p)) tt
]

sorted_from : (es : List Entry) (ns : List Node) → AllSorted es → AllSorted (entries_from es ns)
sorted_from es [] s = s
sorted_from es (n ∷ ns) s =
    let m = meaning_of no_items es in
    sorted_from (es ++ entry_of m n ∷ []) ns
    (one_more es (entry_of m n) s (form_sorted m (sorted no_items es s) (form_of n)))

pub all_sorted : (items : Items) (ns : List Node) → Sorted (table_meaning items ns)
all_sorted items ns = sorted items (entries ns) (sorted_from [] ns (λ i. tt))

-- What holds of all that is read of items, and of what is read of none, holds of what is read of any number.
read_holds : {A : Type 0} (P : A → Type 0) (reads : Item → A) (none : A) (items : Items) → P none →
    All (λ x. P (reads x)) items.list → (n : ℕ) → P (read_at reads none items n)
read_holds P reads none items z a n = elim (cases_lt n (length (map reads items.list))) [
  | inl h ↦ All-map P reads items.list a n none h
  | inr h ↦ subst P (sym (get_or_past (map reads items.list) n none h)) z
]

-- All that traits state binds in itself alone, and no trait states anything but those that were added.
pub states_law : (items : Items) (ns : List Node) → AllStated ns items.list → StatesItsOwn (table_meaning items ns)
unfolding meaning_of
states_law items ns s =
    let m = table_meaning no_items ns in
    record {
      supers =
          read_holds (All (IsStated m)) supers_of [] items (All-nil (IsStated m)) (λ k d h. (s k d h).supers);
      implied =
          read_holds (All (IsStated m)) implied_of [] items (All-nil (IsStated m)) (λ k d h. (s k d h).implied);
      bounds =
          read_holds (All (IsStatedBound m)) bounds_of [] items (All-nil (IsStatedBound m))
          (λ k d h. (s k d h).bounds);
      finite = (
        length items.list,
        λ d h. get_or_past (map supers_of items.list) d []
            (subst (λ n. n ≤ d) (sym (length-map items.list supers_of)) h),
      );
    }

module _ (items : Items) (ns : List Node) where
  -- An environment is that of the list of its number.
  pub env_reads : (i : ℕ) → (table_meaning items ns).param_env (record { 0 = record { 0 = i } }) ≡
      node environment ((table_meaning items ns).clauses (record { 0 = record { 0 = i } }))
  env_reads i = env_is items (entries ns) i

  pub same_name_law : (x y : SymbolId) →
      (IsTrue (eqb x.0 y.0) ↔ ((table_meaning items ns).name x ≡ (table_meaning items ns).name y))
  unfolding meaning_of
  same_name_law x y = (λ h. eqb-true x.0 y.0 h, λ e. eq-eqb x.0 y.0 e)

  pub same_id_law : (d e : ItemId) →
      (IsTrue (eqb d.0 e.0) ↔ ((table_meaning items ns).id d ≡ (table_meaning items ns).id e))
  unfolding meaning_of
  same_id_law d e = (λ h. eqb-true d.0 e.0 h, λ p. eq-eqb d.0 e.0 p)

-- The parts of a form.
abbrev pub parts_in : Tree → Tree
parts_in (node h ts) = ts
parts_in t = nil

-- Known entries that are one stand at one place.
same_place : (ns : List Node) → AllDistinct ns → (i j : ℕ) (e : Entry) → IsTrue (known_entry e) →
    get_or (entries ns) i no_entry ≡ e → get_or (entries ns) j no_entry ≡ e → i ≡ j
same_place ns d i j e k p q =
    d i j (known_in ns i (subst (λ x. IsTrue (known_entry x)) (sym p) k))
    (known_in ns j (subst (λ x. IsTrue (known_entry x)) (sym q) k)) (p ∙ sym q)

module _ (items : Items) (ns : List Node) (d : AllDistinct ns) where
  -- Known keys of one tree are one, at any sort.
  once : (s : NodeSort) (i j : ℕ) → IsTrue (known (tree_of_key s (table_meaning items ns) i)) →
      tree_of_key s (table_meaning items ns) i ≡ tree_of_key s (table_meaning items ns) j → i ≡ j
  once s i j k e =
      let a = key_reads items (entries ns) s i in
      let b = key_reads items (entries ns) s j in
      let u = tree_as s (get_or (entries ns) j no_entry) in
      let h : IsTrue (known (tree_as s (get_or (entries ns) i no_entry))) = subst (λ x. IsTrue (known x)) a k in
      let same : tree_as s (get_or (entries ns) i no_entry) ≡ u = sym a ∙ e ∙ b in
      let l : IsTrue (known u) = subst (λ x. IsTrue (known x)) same h in
      let is_shown = sym (shown_as s (get_or (entries ns) j no_entry)) in
      same_place ns d i j (entry s u) (subst (λ x. IsTrue (known x)) is_shown l)
      (of_sort s (get_or (entries ns) i no_entry) h ∙ ap (entry s) same) (of_sort s (get_or (entries ns) j no_entry) l)

  -- Known lists of variables that are one are one key's.
  once_listed : (k l : BoundVarsKey NodeKey) → IsSome ((table_meaning items ns).bound_vars k) →
      (table_meaning items ns).bound_vars k ≡ (table_meaning items ns).bound_vars l → (k.0).0 ≡ (l.0).0
  once_listed k l h e =
      let m = table_meaning items ns in
      once bound_vars_node (k.0).0 (l.0).0 (known_under (m.bound_vars k) nil h refl) (ap (λ o. under o nil) e)

  -- Known clauses of one tree are one, and so are environments.
  pub once_clause : (k l : ClauseKey NodeKey) → IsTrue (known ((table_meaning items ns).clause k)) →
      (table_meaning items ns).clause k ≡ (table_meaning items ns).clause l → (k.0).0 ≡ (l.0).0
  once_clause k l h e =
      let a = clause_reads items (entries ns) (k.0).0 in
      let b = clause_reads items (entries ns) (l.0).0 in
      let t = tree_as predicate_node (get_or (entries ns) (k.0).0 no_entry) in
      let u = tree_as predicate_node (get_or (entries ns) (l.0).0 no_entry) in
      let knows : IsTrue (known (as_clause t)) = subst (λ x. IsTrue (known x)) a h in
      let same : as_clause t ≡ as_clause u = sym a ∙ e ∙ b in
      let is = clause_same t knows in
      let other = clause_same u (subst (λ x. IsTrue (known x)) same knows) in
      let p = key_reads items (entries ns) predicate_node (k.0).0 in
      let q = key_reads items (entries ns) predicate_node (l.0).0 in
      once predicate_node (k.0).0 (l.0).0
      (subst (λ x. IsTrue (known x)) (sym p) (subst (λ x. IsTrue (known x)) is knows))
      (p ∙ sym is ∙ same ∙ other ∙ sym q)

  once_env : (i j : ℕ) → IsTrue (known ((table_meaning items ns).param_env (record { 0 = record { 0 = i } }))) →
      (table_meaning items ns).param_env (record { 0 = record { 0 = i } }) ≡
      (table_meaning items ns).param_env (record { 0 = record { 0 = j } }) → i ≡ j
  once_env i j h e =
      let a = env_reads items ns i in
      once clauses_node i j (subst (λ t. IsTrue (known t)) a h)
      (ap parts_in (sym a ∙ e ∙ env_reads items ns j))

  pub injective : Injective (table_meaning items ns)
  unfolding meaning_of
  injective = record {
    ty = λ k l h e. ap (λ n. record { 0 = record { 0 = n } }) (once ty_node (k.0).0 (l.0).0 h e);
    region = λ k l h e. ap (λ n. record { 0 = record { 0 = n } }) (once region_node (k.0).0 (l.0).0 h e);
    const_ = λ k l h e. ap (λ n. record { 0 = record { 0 = n } }) (once const_node (k.0).0 (l.0).0 h e);
    args = λ k l h e. ap (λ n. record { 0 = record { 0 = n } }) (once args_node (k.0).0 (l.0).0 h e);
    tys = λ k l h e. ap (λ n. record { 0 = record { 0 = n } }) (once tys_node (k.0).0 (l.0).0 h e);
    valtree = λ k l h e. ap (λ n. record { 0 = record { 0 = n } }) (once valtree_node (k.0).0 (l.0).0 h e);
    branches = λ k l h e. ap (λ n. record { 0 = record { 0 = n } }) (once branches_node (k.0).0 (l.0).0 h e);
    pat = λ k l h e. ap (λ n. record { 0 = record { 0 = n } }) (once pat_node (k.0).0 (l.0).0 h e);
    alternatives = λ k l h e. ap (λ n. record { 0 = record { 0 = n } }) (once alternatives_node (k.0).0 (l.0).0 h e);
    existential_predicates = λ k l h e.
        ap (λ n. record { 0 = record { 0 = n } }) (once predicates_node (k.0).0 (l.0).0 h e);
    bound_vars = λ k l h e. ap (λ n. record { 0 = record { 0 = n } }) (once_listed k l h e);
    id = λ x y e. ap (λ n. record { 0 = n }) e;
    name = λ x y e. ap (λ n. record { 0 = n }) e;
  }

  -- Known keys of a sort are equal exactly where their trees are.
  pub same_law : (s : NodeSort) (i j : ℕ) → IsTrue (known (tree_of_key s (table_meaning items ns) i)) →
      IsTrue (known (tree_of_key s (table_meaning items ns) j)) →
      (IsTrue (eqb i j) ↔ (tree_of_key s (table_meaning items ns) i ≡ tree_of_key s (table_meaning items ns) j))
  same_law s i j h _ = (
    λ e. ap (λ n. tree_of_key s (table_meaning items ns) n) (eqb-true i j e),
    λ e. eq-eqb i j (once s i j h e),
  )

  -- Known keys of lists of variables are equal exactly where the lists are.
  pub same_kinds_law : (i j : ℕ) → IsSome ((table_meaning items ns).bound_vars (record { 0 = record { 0 = i } })) →
      IsSome ((table_meaning items ns).bound_vars (record { 0 = record { 0 = j } })) →
      (IsTrue (eqb i j) ↔ ((table_meaning items ns).bound_vars (record { 0 = record { 0 = i } }) ≡
      (table_meaning items ns).bound_vars (record { 0 = record { 0 = j } })))
  same_kinds_law i j h _ = (
    λ e. ap (λ n. (table_meaning items ns).bound_vars (record { 0 = record { 0 = n } })) (eqb-true i j e),
    λ e. eq-eqb i j (once_listed (record { 0 = record { 0 = i } }) (record { 0 = record { 0 = j } }) h e),
  )

  -- The same of clauses and of environments.
  pub same_clause_law : (i j : ℕ) →
      IsTrue (known ((table_meaning items ns).clause (record { 0 = record { 0 = i } }))) →
      IsTrue (known ((table_meaning items ns).clause (record { 0 = record { 0 = j } }))) →
      (IsTrue (eqb i j) ↔ ((table_meaning items ns).clause (record { 0 = record { 0 = i } }) ≡
      (table_meaning items ns).clause (record { 0 = record { 0 = j } })))
  same_clause_law i j h _ = (
    λ e. ap (λ n. (table_meaning items ns).clause (record { 0 = record { 0 = n } })) (eqb-true i j e),
    λ e. eq-eqb i j (once_clause (record { 0 = record { 0 = i } }) (record { 0 = record { 0 = j } }) h e),
  )

  pub same_env_law : (i j : ℕ) →
      IsTrue (known ((table_meaning items ns).param_env (record { 0 = record { 0 = i } }))) →
      IsTrue (known ((table_meaning items ns).param_env (record { 0 = record { 0 = j } }))) →
      (IsTrue (eqb i j) ↔ ((table_meaning items ns).param_env (record { 0 = record { 0 = i } }) ≡
      (table_meaning items ns).param_env (record { 0 = record { 0 = j } })))
  same_env_law i j h _ = (
    λ e. ap (λ n. (table_meaning items ns).param_env (record { 0 = record { 0 = n } })) (eqb-true i j e),
    λ e. eq-eqb i j (once_env i j h e),
  )
