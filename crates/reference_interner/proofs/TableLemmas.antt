-- A table's entries, and what its keys read.
use Rattle.std.proofs.Common.{ℕ, zero, suc, ◌+◌, ◌<◌, ◌≡◌, ◌↔◌, IsTrue, List, [], ◌∷◌, ◌++◌, length, get_or, inl, inr}
use Rattle.std.proofs.Common.{refl, ap, ap₂, sym, ◌∙◌, subst, arith, length-append, IsSome, Option, Some, None}
use Rattle.std.proofs.lemmas.Bool.{false≢true, cases_lt}
use Rattle.std.proofs.lemmas.List.{get_or_append_left, get_or_past}
use Rattle.std.proofs.Math.Seq.{get_or-append_seam}
use Rattle.relation_terms.specs.Heads.{BoundKind, bound_kind, type_kind, region_kind, const_kind, environment}
use Rattle.relation_terms.specs.Trees.{Tree, node, bind, nil, known}
use Rattle.relation_terms.specs.Meaning.{Meaning, Extends, arg_tree, object_predicate_tree, bound_kind_of, bound_kinds}
use Rattle.relation_terms.specs.Meaning.{under}
use Rattle.relation_terms.proofs.Stays.{stays_same, extends_on, stays_kind, stays_region, stays_const, stays_valtree}
use Rattle.relation_terms.proofs.Stays.{stays_pattern, stays_list, stays_arg, stays_object_predicate}
use Rattle.relation_terms.proofs.Predicates.{stays_predicate}
use Rattle.reference_interner.specs.declared.keys.NodeKey.{NodeKey}
use Rattle.reference_interner.specs.declared.keys.ItemId.{ItemId}
use Rattle.reference_interner.specs.declared.keys.SymbolId.{SymbolId}
use Rattle.reference_interner.specs.declared.node.Node.TheVariants.{Ty, Region, Const, ValTree, Args, Tys}
use Rattle.reference_interner.specs.declared.node.Node.TheVariants.{Branches, Pat, Alternatives, Predicate, Clauses}
use Rattle.reference_interner.specs.declared.node.Node.TheVariants.{ExistentialPredicates, BoundVars}
use Rattle.relation_terms.specs.declared.predicate.existential.ExistentialPredicate.{ExistentialPredicate}
use Rattle.relation_terms.specs.declared.terms.binder.Binder.{Binder}
use Rattle.relation_terms.specs.declared.terms.binder.BoundVariableKind.{BoundVariableKind}
use Rattle.relation_terms.specs.declared.terms.binder.BoundVariableKind.TheVariants.{Ty as TyVariable}
use Rattle.relation_terms.specs.declared.terms.binder.BoundVariableKind.TheVariants.{Region as RegionVariable}
use Rattle.relation_terms.specs.declared.terms.binder.BoundVariableKind.TheVariants.{Const as ConstVariable}
use Rattle.relation_terms.specs.declared.terms.keys.TyKey.{TyKey}
use Rattle.relation_terms.specs.declared.terms.keys.ConstKey.{ConstKey}
use Rattle.relation_terms.specs.declared.terms.keys.PatKey.{PatKey}
use Rattle.relation_terms.specs.declared.terms.keys.ClauseKey.{ClauseKey}
use Rattle.relation_terms.specs.declared.predicate.kinds.PredicateKind.{PredicateKind}
use Rattle.relation_terms.specs.declared.terms.ty_kind.TyKind.{TyKind}
use Rattle.relation_terms.specs.declared.terms.region_kind.RegionKind.{RegionKind}
use Rattle.relation_terms.specs.declared.terms.const_kind.ConstKind.{ConstKind}
use Rattle.relation_terms.specs.declared.terms.const_kind.ValTreeKind.{ValTreeKind}
use Rattle.relation_terms.specs.declared.terms.pattern_kind.PatternKind.{PatternKind}
use Rattle.relation_terms.specs.declared.terms.generic_arg.GenericArgKind.{GenericArgKind}
use Rattle.std.specs.declared.vec.Vec.{Vec}
use Rattle.reference_interner.specs.declared.short_list.ShortList.{ShortList}
use Rattle.std.specs.declared.alloc.Global.{Global}
use Rattle.reference_interner.specs.declared.node.Node.{Node}
use Rattle.reference_interner.specs.Forms.{Form, ty_form, region_form, const_form, valtree_form, args_form, tys_form}
use Rattle.reference_interner.specs.Forms.{branches_form, pattern_form, alternatives_form, form_of, predicate_form, clauses_form}
use Rattle.reference_interner.specs.Nodes.{NodeSort, ty_node, region_node, const_node, valtree_node, args_node}
use Rattle.reference_interner.specs.Nodes.{tys_node, branches_node, pat_node, alternatives_node, predicate_node, clauses_node}
use Rattle.reference_interner.specs.Forms.{predicates_form, bound_vars_form}
use Rattle.reference_interner.specs.Nodes.{predicates_node, bound_vars_node, kinds_in, as_clause}
use Rattle.reference_interner.specs.Laws.{clause_same}
use Rattle.reference_interner.specs.Nodes.{Entry, no_entry, entry, tree_as, meaning_of, form_sort, form_tree, entry_at}
use Rattle.reference_interner.specs.Nodes.{entry_of, entries_from, entries, table_meaning, known_entry, AllKnown}
use Rattle.reference_interner.specs.Places.{known_in, of_sort, tree_of_key, HasKey, key_reads}
use Rattle.reference_interner.proofs.ItemLemmas.{same_entry}
use Rattle.reference_interner.proofs.EntryLemmas.{reads_as_shown, sure_of}
use Rattle.reference_interner.specs.Items.{Items, no_items}

abbrev pub sort_in : Entry → NodeSort
sort_in no_entry = clauses_node
sort_in (entry s t) = s

abbrev pub tree_in : Entry → Tree
tree_in no_entry = nil
tree_in (entry s t) = t

-- What reads as known is kept by more entries.
keeps : (s : NodeSort) (es fs : List Entry) (i : ℕ) → IsTrue (known (tree_as s (get_or es i no_entry))) →
    tree_as s (get_or (es ++ fs) i no_entry) ≡ tree_as s (get_or es i no_entry)
keeps s es fs i k = elim (cases_lt i (length es)) [
  | inl h ↦ ap (tree_as s) (get_or_append_left es fs no_entry i h)
  | inr h ↦ absurd (false≢true (subst (λ e. IsTrue (known (tree_as s e))) (get_or_past es i no_entry h) k))
]

keeps_list : (es fs : List Entry) (i : ℕ) → IsSome (kinds_in (tree_as bound_vars_node (get_or es i no_entry))) →
    kinds_in (tree_as bound_vars_node (get_or (es ++ fs) i no_entry)) ≡
    kinds_in (tree_as bound_vars_node (get_or es i no_entry))
keeps_list es fs i k = elim (cases_lt i (length es)) [
  | inl h ↦ ap (λ e. kinds_in (tree_as bound_vars_node e)) (get_or_append_left es fs no_entry i h)
  | inr h ↦
      absurd (false≢true (subst (λ e. IsSome (kinds_in (tree_as bound_vars_node e))) (get_or_past es i no_entry h) k))
]

keeps_clause : (es fs : List Entry) (i : ℕ) →
    IsTrue (known (as_clause (tree_as predicate_node (get_or es i no_entry)))) →
    as_clause (tree_as predicate_node (get_or (es ++ fs) i no_entry)) ≡
    as_clause (tree_as predicate_node (get_or es i no_entry))
keeps_clause es fs i k =
    let t = tree_as predicate_node (get_or es i no_entry) in
    ap as_clause (keeps predicate_node es fs i (subst (λ u. IsTrue (known u)) (clause_same t k) k))

pub extends_append : (items : Items) (es fs : List Entry) →
    Extends (meaning_of items es) (meaning_of items (es ++ fs))
unfolding meaning_of
extends_append items es fs = record {
  ty = λ k h. keeps ty_node es fs (k.0).0 h;
  region = λ k h. keeps region_node es fs (k.0).0 h;
  const_ = λ k h. keeps const_node es fs (k.0).0 h;
  args = λ k h. keeps args_node es fs (k.0).0 h;
  tys = λ k h. keeps tys_node es fs (k.0).0 h;
  pat = λ k h. keeps pat_node es fs (k.0).0 h;
  valtree = λ k h. keeps valtree_node es fs (k.0).0 h;
  branches = λ k h. keeps branches_node es fs (k.0).0 h;
  alternatives = λ k h. keeps alternatives_node es fs (k.0).0 h;
  existential_predicates = λ k h. keeps predicates_node es fs (k.0).0 h;
  bound_vars = λ k h. keeps_list es fs (k.0).0 h;
  predicate = λ k h. keeps predicate_node es fs (k.0).0 h;
  clause = λ k h. keeps_clause es fs (k.0).0 h;
  clauses = λ k h. keeps clauses_node es fs (k.0).0 h;
  param_env = λ k h. ap (node environment) (keeps clauses_node es fs (k.0).0 h);
  id = λ d. refl;
  name = λ s. refl;
  generics = refl;
  variances = refl;
  alias_variances = refl;
  tables = refl;
}

pub entries_snoc : (es : List Entry) (ns : List Node) (n : Node) →
    entries_from es (ns ++ n ∷ []) ≡ entries_from es ns ++ entry_of (meaning_of no_items (entries_from es ns)) n ∷ []
entries_snoc es [] n = refl
entries_snoc es (m ∷ ns) n = entries_snoc (es ++ entry_of (meaning_of no_items es) m ∷ []) ns n

extends_from : (es : List Entry) (ns : List Node) → Extends (meaning_of no_items es) (meaning_of no_items (entries_from es ns))
extends_from es [] = stays_same (meaning_of no_items es)
extends_from es (n ∷ ns) =
    let e = entry_of (meaning_of no_items es) n in
    extends_on (extends_append no_items es (e ∷ [])) (extends_from (es ++ e ∷ []) ns)

pub extends_node : (items : Items) (ns : List Node) (n : Node) →
    Extends (table_meaning items ns) (table_meaning items (ns ++ n ∷ []))
extends_node items ns n =
    rw (entries_snoc [] ns n) (extends_append items (entries ns) (entry_of (table_meaning no_items ns) n ∷ []))

keep_from : (es : List Entry) (ns : List Node) (j : ℕ) → j < length es →
    get_or (entries_from es ns) j no_entry ≡ get_or es j no_entry
keep_from es [] j h = refl
keep_from es (n ∷ ns) j h =
    let e = entry_of (meaning_of no_items es) n in
    let l = length-append es (e ∷ []) in
    keep_from (es ++ e ∷ []) ns j (omega (arith, l)) ∙ get_or_append_left es (e ∷ []) no_entry j h

-- The entries that a node's entry was made from.
record At (es : List Entry) (ns : List Node) (i : ℕ) (d : Node) : Type 0 where
  before : List Entry
  older : Extends (meaning_of no_items before) (meaning_of no_items (entries_from es ns))
  stands : get_or (entries_from es ns) (length es + i) no_entry ≡ entry_of (meaning_of no_items before) (get_or ns i d)

node_at : (es : List Entry) (ns : List Node) (i : ℕ) (d : Node) → i < length ns → At es ns i d
node_at es [] i d h = absurd (omega arith)
node_at es (n ∷ ns) zero d h =
    let e = entry_of (meaning_of no_items es) n in
    let l = length-append es (e ∷ []) in
    let z : length es + 0 ≡ length es = omega arith in
    record {
      before = es;
      older = extends_from es (n ∷ ns);
      stands = rw z (keep_from (es ++ e ∷ []) ns (length es) (omega (arith, l)) ∙ get_or-append_seam es e [] no_entry);
    }
node_at es (n ∷ ns) (suc i) d h =
    let e = entry_of (meaning_of no_items es) n in
    let l = length-append es (e ∷ []) in
    let r = node_at (es ++ e ∷ []) ns i d (omega arith) in
    let z : length es + suc i ≡ length (es ++ e ∷ []) + i = omega (arith, l) in
    record { before = r.before; older = r.older; stands = rw z r.stands }

-- A variable of a binder, and a list of them, mean the same while names do.
stays_variable : {m n : Meaning NodeKey ItemId SymbolId} → Extends m n → (x : BoundVariableKind SymbolId) →
    bound_kind_of n x ≡ bound_kind_of m x
stays_variable e (TyVariable x) = ap (λ i. bound_kind type_kind i) (e.name x)
stays_variable e (RegionVariable x) = ap (λ i. bound_kind region_kind i) (e.name x)
stays_variable e (ConstVariable x) = ap (λ i. bound_kind const_kind i) (e.name x)

stays_kinds : {m n : Meaning NodeKey ItemId SymbolId} → Extends m n → (xs : List (BoundVariableKind SymbolId)) →
    bound_kinds n xs ≡ bound_kinds m xs
stays_kinds e [] = refl
stays_kinds e (x ∷ xs) = ap₂ (λ y ys. y ∷ ys) (stays_variable e x) (stays_kinds e xs)

stays_form : {m n : Meaning NodeKey ItemId SymbolId} → Extends m n → (f : Form) →
    IsTrue (known_entry (entry_at m f)) → form_tree n f ≡ form_tree m f
stays_form e (ty_form f) k = stays_kind e f k
stays_form e (region_form f) k = stays_region e f k
stays_form e (const_form f) k = stays_const e f k
stays_form e (valtree_form f) k = stays_valtree e f k
stays_form e (pattern_form f) k = stays_pattern e f k
stays_form {m} {n} e (args_form xs) k = stays_list (arg_tree m) (arg_tree n) xs (stays_arg e) k
stays_form {m} {n} e (tys_form ts) k = stays_list m.ty n.ty ts e.ty k
stays_form {m} {n} e (branches_form cs) k = stays_list m.const_ n.const_ cs e.const_ k
stays_form {m} {n} e (alternatives_form ps) k = stays_list m.pat n.pat ps e.pat k
stays_form {m} {n} e (predicates_form ps) k =
    stays_list (object_predicate_tree m) (object_predicate_tree n) ps (stays_object_predicate e) k
stays_form {m} {n} e (bound_vars_form xs) k = ap (λ ks. bind ks nil) (stays_kinds e xs)
stays_form e (predicate_form f) k = stays_predicate e f k
stays_form {m} {n} e (clauses_form cs) k = stays_list m.clause n.clause cs e.clause k

-- An entry is that of the node as its keys are read now.
pub at_now : (ns : List Node) (i : ℕ) (d : Node) → i < length ns →
    IsTrue (known_entry (get_or (entries ns) i no_entry)) →
    get_or (entries ns) i no_entry ≡ entry_of (table_meaning no_items ns) (get_or ns i d)
at_now ns i d h k =
    let a = node_at [] ns i d h in
    let f = form_of (get_or ns i d) in
    let z : 0 + i ≡ i = omega arith in
    let p : get_or (entries ns) i no_entry ≡ entry_at (meaning_of no_items a.before) f =
    subst (λ j. get_or (entries ns) j no_entry ≡ entry_at (meaning_of no_items a.before) f) z a.stands in
    p ∙ ap (entry (form_sort f)) (sym (stays_form a.older f (subst (λ e. IsTrue (known_entry e)) p k)))

-- The list of a binder over nothing.
pub list_under : (o : Option (List BoundKind)) (ks : List BoundKind) → under o nil ≡ bind ks nil → o ≡ Some ks
list_under (Some ls) ks e = cc
list_under None ks e = absurd (cc)

-- What a known key reads.
module _ (items : Items) (ns : List Node) (s : NodeSort) (i : ℕ)
    (h : IsTrue (known (tree_of_key s (table_meaning items ns) i))) where
  pub known_here : IsTrue (known (tree_as s (get_or (entries ns) i no_entry)))
  known_here = subst (λ t. IsTrue (known t)) (key_reads items (entries ns) s i) h

  pub key_in : i < length ns
  key_in = known_in ns i (sure_of s (get_or (entries ns) i no_entry) known_here)

  key_now : (d : Node) → entry s (tree_of_key s (table_meaning items ns) i) ≡
      entry_of (table_meaning items ns) (get_or ns i d)
  key_now d =
      let e = get_or (entries ns) i no_entry in
      ap (entry s) (key_reads items (entries ns) s i) ∙ sym (of_sort s e known_here) ∙
      at_now ns i d key_in (sure_of s e known_here) ∙ same_entry no_items items ns (get_or ns i d)

  -- The node at a key's number is of the key's sort.
  pub key_sort : (n : Node) → n ≡ get_or ns i n → s ≡ form_sort (form_of n)
  key_sort n e = ap sort_in (key_now n) ∙ ap (λ x. form_sort (form_of x)) (sym e)

  -- A key's tree is that of the node at its number.
  pub key_read : (n : Node) → n ≡ get_or ns i n → (f : Form) → form_of n ≡ f →
      tree_of_key s (table_meaning items ns) i ≡ form_tree (table_meaning items ns) f
  key_read n e f p =
      ap tree_in (key_now n) ∙ ap (λ x. form_tree (table_meaning items ns) (form_of x)) (sym e) ∙
      ap (form_tree (table_meaning items ns)) p

-- A key of each node's number is known.
entry_key : (items : Items) (ns : List Node) (i : ℕ) (e : Entry) → get_or (entries ns) i no_entry ≡ e →
    IsTrue (known_entry e) → HasKey (table_meaning items ns) i
entry_key items ns i no_entry p k = absurd (false≢true k)
entry_key items ns i (entry s t) p k =
    let reads = key_reads items (entries ns) s i ∙ ap (tree_as s) p ∙ reads_as_shown s t in
    (s, subst (λ x. IsTrue (known x)) (sym reads) k)

-- The numbers of known keys are those of nodes.
pub numbered : (items : Items) (ns : List Node) → AllKnown ns → (i : ℕ) →
    (i < length ns ↔ HasKey (table_meaning items ns) i)
numbered items ns a i = (
  λ h. entry_key items ns i (get_or (entries ns) i no_entry) refl (a i h),
  λ k. key_in items ns k.0 i k.1,
)

-- A node that is none of a sort's is of another sort.
pub not_ty : (n : Node) → ((f : TyKind NodeKey ItemId SymbolId) → n ≡ Ty f → ⊥) → ty_node ≡ form_sort (form_of n) → ⊥
not_ty (Ty f) u e = u f refl
not_ty n u e = absurd (cc)

pub not_region : (n : Node) → ((f : RegionKind SymbolId) → n ≡ Region f → ⊥) → region_node ≡ form_sort (form_of n) → ⊥
not_region (Region f) u e = u f refl
not_region n u e = absurd (cc)

pub not_const : (n : Node) → ((f : ConstKind NodeKey ItemId SymbolId) → n ≡ Const f → ⊥) →
    const_node ≡ form_sort (form_of n) → ⊥
not_const (Const f) u e = u f refl
not_const n u e = absurd (cc)

pub not_valtree : (n : Node) → ((f : ValTreeKind NodeKey) → n ≡ ValTree f → ⊥) →
    valtree_node ≡ form_sort (form_of n) → ⊥
not_valtree (ValTree f) u e = u f refl
not_valtree n u e = absurd (cc)

pub not_pat : (n : Node) → ((f : PatternKind NodeKey) → n ≡ Pat f → ⊥) → pat_node ≡ form_sort (form_of n) → ⊥
not_pat (Pat f) u e = u f refl
not_pat n u e = absurd (cc)

pub not_args : (n : Node) → ((v : ShortList (GenericArgKind NodeKey)) → n ≡ Args v → ⊥) →
    args_node ≡ form_sort (form_of n) → ⊥
not_args (Args v) u e = u v refl
not_args n u e = absurd (cc)

pub not_tys : (n : Node) → ((v : ShortList (TyKey NodeKey)) → n ≡ Tys v → ⊥) → tys_node ≡ form_sort (form_of n) → ⊥
not_tys (Tys v) u e = u v refl
not_tys n u e = absurd (cc)

pub not_branches : (n : Node) → ((v : Vec (ConstKey NodeKey) Global) → n ≡ Branches v → ⊥) →
    branches_node ≡ form_sort (form_of n) → ⊥
not_branches (Branches v) u e = u v refl
not_branches n u e = absurd (cc)

pub not_alternatives : (n : Node) → ((v : Vec (PatKey NodeKey) Global) → n ≡ Alternatives v → ⊥) →
    alternatives_node ≡ form_sort (form_of n) → ⊥
not_alternatives (Alternatives v) u e = u v refl
not_alternatives n u e = absurd (cc)

pub not_predicates : (n : Node) →
    ((v : Vec (Binder NodeKey (ExistentialPredicate NodeKey ItemId)) Global) → n ≡ ExistentialPredicates v → ⊥) →
    predicates_node ≡ form_sort (form_of n) → ⊥
not_predicates (ExistentialPredicates v) u e = u v refl
not_predicates n u e = absurd (cc)

pub not_bound_vars : (n : Node) → ((v : Vec (BoundVariableKind SymbolId) Global) → n ≡ BoundVars v → ⊥) →
    bound_vars_node ≡ form_sort (form_of n) → ⊥
not_bound_vars (BoundVars v) u e = u v refl
not_bound_vars n u e = absurd (cc)

pub not_predicate : (n : Node) →
    ((f : Binder NodeKey (PredicateKind NodeKey ItemId SymbolId)) → n ≡ Predicate f → ⊥) →
    predicate_node ≡ form_sort (form_of n) → ⊥
not_predicate (Predicate f) u e = u f refl
not_predicate n u e = absurd (cc)

pub not_clauses : (n : Node) → ((v : Vec (ClauseKey NodeKey) Global) → n ≡ Clauses v → ⊥) →
    clauses_node ≡ form_sort (form_of n) → ⊥
not_clauses (Clauses v) u e = u v refl
not_clauses n u e = absurd (cc)
