-- A table and one more node.
use Rattle.std.proofs.Common.{ℕ, ◌<◌, ◌≡◌, ◌⊎◌, inl, inr, IsTrue, List, [], ◌∷◌, ◌++◌, length}
use Rattle.std.proofs.Common.{get_or, refl, ap, ap₂, sym, ◌∙◌, subst, arith, length-append}
use Rattle.std.proofs.lemmas.Bool.{cases_lt}
use Rattle.std.proofs.lemmas.List.{get_or_append_left}
use Rattle.std.proofs.Math.Seq.{get_or-append_seam}
use Rattle.relation_terms.specs.Trees.{Tree, known}
use Rattle.relation_terms.specs.Meaning.{Meaning, Extends, arg_tree, object_predicate_tree, bound_kinds}
use Rattle.relation_terms.proofs.Stays.{stays_same}
use Rattle.relation_terms.specs.Interning.{Sorted}
use Rattle.relation_terms.proofs.Once.{Injective, kind_once, region_once, const_once, valtree_once, arg_once}
use Rattle.relation_terms.proofs.Once.{pattern_once, list_once, object_predicate_once, bound_kinds_once}
use Rattle.relation_terms.proofs.Predicates.{predicate_once}
use Rattle.relation_terms.specs.declared.terms.keys.ClauseKey.{ClauseKey}
use Rattle.reference_interner.specs.declared.keys.NodeKey.{NodeKey}
use Rattle.reference_interner.specs.declared.keys.ItemId.{ItemId}
use Rattle.reference_interner.specs.declared.keys.SymbolId.{SymbolId}
use Rattle.reference_interner.specs.declared.node.Node.{Node}
use Rattle.reference_interner.specs.Forms.{Form, ty_form, region_form, const_form, valtree_form, args_form, tys_form}
use Rattle.reference_interner.specs.Forms.{branches_form, pattern_form, alternatives_form, form_of, predicate_form, clauses_form}
use Rattle.reference_interner.specs.Nodes.{NodeSort, Entry, no_entry, entry, tree_as, meaning_of, entry_at}
use Rattle.reference_interner.specs.Nodes.{entry_of, entries, table_meaning, known_entry, AllKnown, AllDistinct}
use Rattle.reference_interner.specs.Nodes.{StandsAt, shown}
use Rattle.reference_interner.specs.Forms.{predicates_form, bound_vars_form}
use Rattle.reference_interner.specs.Empty.{KnowsNone}
use Rattle.reference_interner.specs.Places.{length_entries, known_in, of_sort, tree_of_key, key_reads}
use Rattle.reference_interner.specs.Laws.{injective, all_sorted, once_clause}
use Rattle.reference_interner.proofs.ItemLemmas.{same_entry}
use Rattle.reference_interner.proofs.TableLemmas.{tree_in, entries_snoc, extends_node, at_now}
use Rattle.reference_interner.proofs.EntryLemmas.{reads_as_shown}
use Rattle.reference_interner.specs.Items.{Items, no_items}

-- Forms of one entry are one form.
form_once : (m : Meaning NodeKey ItemId SymbolId) → Injective m → Sorted m →
    ((k l : ClauseKey NodeKey) → IsTrue (known (m.clause k)) → m.clause k ≡ m.clause l → k ≡ l) → (f g : Form) →
    IsTrue (known_entry (entry_at m f)) → entry_at m f ≡ entry_at m g → f ≡ g
form_once m j s c (ty_form f) (ty_form g) k e = ap (λ x. ty_form x) (kind_once m j f g k (ap tree_in e))
form_once m j s c (region_form f) (region_form g) k e = ap (λ x. region_form x) (region_once m j f g (ap tree_in e))
form_once m j s c (const_form f) (const_form g) k e = ap (λ x. const_form x) (const_once m j f g k (ap tree_in e))
form_once m j s c (valtree_form f) (valtree_form g) k e =
    ap (λ x. valtree_form x) (valtree_once m j f g k (ap tree_in e))
form_once m j s c (pattern_form f) (pattern_form g) k e =
    ap (λ x. pattern_form x) (pattern_once m j f g k (ap tree_in e))
form_once m j s c (args_form xs) (args_form ys) k e =
    ap (λ x. args_form x) (list_once (arg_tree m) (arg_once m j s) xs ys k (ap tree_in e))
form_once m j s c (tys_form xs) (tys_form ys) k e = ap (λ x. tys_form x) (list_once m.ty j.ty xs ys k (ap tree_in e))
form_once m j s c (branches_form xs) (branches_form ys) k e =
    ap (λ x. branches_form x) (list_once m.const_ j.const_ xs ys k (ap tree_in e))
form_once m j s c (alternatives_form xs) (alternatives_form ys) k e =
    ap (λ x. alternatives_form x) (list_once m.pat j.pat xs ys k (ap tree_in e))
form_once m j s c (predicates_form xs) (predicates_form ys) k e =
    ap (λ x. predicates_form x)
    (list_once (object_predicate_tree m) (object_predicate_once m j s) xs ys k (ap tree_in e))
form_once m j s c (bound_vars_form xs) (bound_vars_form ys) k e =
    let kinds : bound_kinds m xs ≡ bound_kinds m ys = cc in
    ap (λ x. bound_vars_form x) (bound_kinds_once m j xs ys kinds)
form_once m j s c (predicate_form f) (predicate_form g) k e =
    ap (λ x. predicate_form x) (predicate_once m j s f g k (ap tree_in e))
form_once m j s c (clauses_form xs) (clauses_form ys) k e =
    ap (λ x. clauses_form x) (list_once m.clause c xs ys k (ap tree_in e))
form_once m j s c f g k e = absurd (cc)

module _ (ns : List Node) (n : Node) where
  keeps_entry : (i : ℕ) → i < length ns → get_or (entries (ns ++ n ∷ [])) i no_entry ≡ get_or (entries ns) i no_entry
  keeps_entry i h =
      let l = length_entries [] ns in
      let e = entry_of (table_meaning no_items ns) n in
      rw (entries_snoc [] ns n) (get_or_append_left (entries ns) (e ∷ []) no_entry i (omega (arith, l)))

  new_entry : get_or (entries (ns ++ n ∷ [])) (length ns) no_entry ≡ entry_of (table_meaning no_items ns) n
  new_entry =
      let l = length_entries [] ns in
      let z : length ns ≡ length (entries ns) = omega (arith, l) in
      rw (entries_snoc [] ns n, z) (get_or-append_seam (entries ns) (entry_of (table_meaning no_items ns) n) [] no_entry)

  pub new_at : (ms : List Node) (k : ℕ) → ms ≡ ns ++ n ∷ [] → k ≡ length ns →
      get_or (entries ms) k no_entry ≡ entry_of (table_meaning no_items ns) n
  new_at ms k e l = rw (e, l) new_entry

  -- The last place or an earlier one.
  pub last_or : (i : ℕ) → i < length (ns ++ n ∷ []) → (i < length ns) ⊎ (i ≡ length ns)
  last_or i h = elim (cases_lt i (length ns)) [
    | inl p ↦ inl p
    | inr p ↦ inr (let l = length-append ns (n ∷ []) in omega (arith, l))
  ]

  pub all_known : AllKnown ns → IsTrue (known_entry (entry_of (table_meaning no_items ns) n)) → AllKnown (ns ++ n ∷ [])
  all_known a k = λ i h. elim (last_or i h) [
    | inl p ↦ subst (λ x. IsTrue (known_entry x)) (sym (keeps_entry i p)) (a i p)
    | inr p ↦
        subst (λ j. IsTrue (known_entry (get_or (entries (ns ++ n ∷ [])) j no_entry))) (sym p)
        (subst (λ x. IsTrue (known_entry x)) (sym new_entry) k)
  ]

  -- The node's entry is known whatever the items are.
  pub known_alone : (items : Items) → IsTrue (known_entry (entry_of (table_meaning items ns) n)) →
      IsTrue (known_entry (entry_of (table_meaning no_items ns) n))
  known_alone items k = subst (λ x. IsTrue (known_entry x)) (same_entry items no_items ns n) k

  -- A node of a form that none has is at no place.
  pub fresh : AllDistinct ns → IsTrue (known_entry (entry_of (table_meaning no_items ns) n)) →
      ((k : ℕ) (d : Node) → k < length ns → form_of (get_or ns k d) ≡ form_of n → ⊥) →
      (i : ℕ) → get_or (entries ns) i no_entry ≡ entry_of (table_meaning no_items ns) n → ⊥
  fresh d k u i e =
      let h : IsTrue (known_entry (get_or (entries ns) i no_entry)) = subst (λ x. IsTrue (known_entry x)) (sym e) k in
      let l : i < length ns = known_in ns i h in
      let a = at_now ns i n l h in
      let m = table_meaning no_items ns in
      let clauses : (k l : ClauseKey NodeKey) → IsTrue (known (m.clause k)) → m.clause k ≡ m.clause l → k ≡ l =
      λ k l h e. ap (λ n. record { 0 = record { 0 = n } }) (once_clause no_items ns d k l h e) in
      u i n l (form_once m (injective no_items ns d) (all_sorted no_items ns) clauses (form_of (get_or ns i n)) (form_of n)
      (subst (λ x. IsTrue (known_entry x)) a h) (sym a ∙ e))

  pub all_distinct : AllDistinct ns → IsTrue (known_entry (entry_of (table_meaning no_items ns) n)) →
      ((k : ℕ) (d : Node) → k < length ns → form_of (get_or ns k d) ≡ form_of n → ⊥) → AllDistinct (ns ++ n ∷ [])
  all_distinct d k u = λ i j h l e.
      let at : ℕ → Entry = λ x. get_or (entries (ns ++ n ∷ [])) x no_entry in
      elim (last_or i h) [
        | inl p ↦ elim (last_or j l) [
          | inl q ↦ d i j p q (sym (keeps_entry i p) ∙ e ∙ keeps_entry j q)
          | inr q ↦ absurd (fresh d k u i (sym (keeps_entry i p) ∙ e ∙ ap at q ∙ new_entry))
        ]
        | inr p ↦ elim (last_or j l) [
          | inl q ↦ absurd (fresh d k u j (sym (keeps_entry j q) ∙ sym e ∙ ap at p ∙ new_entry))
          | inr q ↦ p ∙ sym q
        ]
      ]

  -- The entry at which a node of the form stands.
  pub found : AllKnown ns → (i : ℕ) → i < length ns → ((d : Node) → form_of (get_or ns i d) ≡ form_of n) →
      get_or (entries ns) i no_entry ≡ entry_of (table_meaning no_items ns) n
  found a i h s = at_now ns i n h (a i h) ∙ ap (entry_at (table_meaning no_items ns)) (s n)

-- What a making leaves.
module _ (items : Items) (ns : List Node) where
  pub grows : (more : Items) (ms : List Node) (n : Node) → more ≡ items → (ms ≡ ns) ⊎ (ms ≡ ns ++ n ∷ []) →
      Extends (table_meaning items ns) (table_meaning more ms)
  grows more ms n e (inl p) =
      subst (λ m. Extends (table_meaning items ns) m) (ap₂ table_meaning (sym e) (sym p))
      (stays_same (table_meaning items ns))
  grows more ms n e (inr p) =
      subst (λ m. Extends (table_meaning items ns) m) (ap₂ table_meaning (sym e) (sym p)) (extends_node items ns n)

  pub same_meaning : (more : Items) (ms : List Node) → more ≡ items → ms ≡ ns →
      table_meaning more ms ≡ table_meaning items ns
  same_meaning more ms e p = ap₂ table_meaning e p

  -- The key of a number where an entry stands means the entry's tree.
  pub made : (s : NodeSort) (t : Tree) (i : ℕ) → StandsAt ns i (entry s t) →
      tree_of_key s (table_meaning items ns) i ≡ shown s t
  made s t i h = key_reads items (entries ns) s i ∙ ap (tree_as s) h ∙ reads_as_shown s t

  -- Where a key of a known tree stands.
  pub stands : (s : NodeSort) (t : Tree) (i : ℕ) → IsTrue (known t) → tree_of_key s (table_meaning items ns) i ≡ t →
      StandsAt ns i (entry s t)
  stands s t i k e =
      let x = get_or (entries ns) i no_entry in
      let p : tree_as s x ≡ t = sym (key_reads items (entries ns) s i) ∙ e in
      of_sort s x (subst (λ y. IsTrue (known y)) (sym p) k) ∙ ap (entry s) p

-- A table without nodes and items knows nothing.
pub none_known : (items : Items) (ns : List Node) → items ≡ no_items → ns ≡ [] → KnowsNone (table_meaning items ns)
unfolding meaning_of
none_known items ns p e = subst (λ m. KnowsNone m) (sym (ap₂ table_meaning p e)) (record {
  ty = λ k. refl;
  region = λ k. refl;
  const_ = λ k. refl;
  args = λ k. refl;
  tys = λ k. refl;
  pat = λ k. refl;
  valtree = λ k. refl;
  branches = λ k. refl;
  alternatives = λ k. refl;
  existential_predicates = λ k. refl;
  bound_vars = λ k. refl;
  predicate = λ k. refl;
  clause = λ k. refl;
  clauses = λ k. refl;
  param_env = λ k. refl;
  generics = λ d. refl;
  variances = λ d. refl;
  alias_variances = λ d. refl;
  parent = λ d. refl;
  is_auto = λ d. refl;
  is_lang_item = λ d i. refl;
  alias_kind = λ d. refl;
  next_solver = refl;
  super_predicates = λ d. refl;
  implied_predicates = λ d. refl;
  const_bounds = λ d. refl;
  params = λ d. refl;
})
