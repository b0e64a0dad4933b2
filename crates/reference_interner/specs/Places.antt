-- Where the entries of a table stand.
use Rattle.std.proofs.Common.{ℕ, ◌+◌, ◌<◌, ◌≡◌, IsTrue, List, [], ◌∷◌, ◌++◌, length, get_or, inl, inr, refl, sym, ◌∙◌}
use Rattle.std.proofs.Common.{subst, add-zero, zero-add, true}
use Rattle.std.proofs.lemmas.Bool.{false≢true, cases_lt}
use Rattle.std.proofs.lemmas.List.{get_or_past}
use Rattle.relation_terms.specs.Trees.{Tree, bind, nil, known}
use Rattle.relation_terms.specs.Meaning.{Meaning, under}
use Rattle.relation_terms.proofs.Lists.{length_after}
use Rattle.reference_interner.specs.declared.keys.NodeKey.{NodeKey}
use Rattle.reference_interner.specs.declared.keys.ItemId.{ItemId}
use Rattle.reference_interner.specs.declared.keys.SymbolId.{SymbolId}
use Rattle.reference_interner.specs.declared.node.Node.{Node}
use Rattle.reference_interner.specs.Nodes.{NodeSort, ty_node, region_node, const_node, valtree_node, args_node}
use Rattle.reference_interner.specs.Nodes.{tys_node, branches_node, pat_node, alternatives_node, predicate_node, clauses_node}
use Rattle.reference_interner.specs.Nodes.{predicates_node, bound_vars_node, shown, kinds_in}
use Rattle.reference_interner.specs.Nodes.{Entry, no_entry, entry, tree_as, meaning_of, entry_of}
use Rattle.reference_interner.specs.Nodes.{entries_from, entries, known_entry}
use Rattle.reference_interner.specs.Items.{Items, no_items}

pub length_entries : (es : List Entry) (ns : List Node) → length (entries_from es ns) ≡ length es + length ns
length_entries es [] = sym (add-zero (length es))
length_entries es (n ∷ ns) =
    let e = entry_of (meaning_of no_items es) n in
    length_after es e (length ns) (length (entries_from (es ++ e ∷ []) ns)) (length_entries (es ++ e ∷ []) ns)

pub entries_there : (ns : List Node) → length (entries ns) ≡ length ns
entries_there ns = length_entries [] ns ∙ zero-add (length ns)

-- What is known stands in the table.
pub known_in : (ns : List Node) (i : ℕ) → IsTrue (known_entry (get_or (entries ns) i no_entry)) → i < length ns
known_in ns i k = elim (cases_lt i (length (entries ns))) [
  | inl h ↦ subst (λ n. i < n) (entries_there ns) h
  | inr h ↦ absurd (false≢true (subst (λ e. IsTrue (known_entry e)) (get_or_past (entries ns) i no_entry h) k))
]

-- An entry that reads as known, at a sort, is one of that sort.
pub of_sort : (s : NodeSort) (e : Entry) → IsTrue (known (tree_as s e)) → e ≡ entry s (tree_as s e)
of_sort ty_node (entry ty_node t) k = refl
of_sort region_node (entry region_node t) k = refl
of_sort const_node (entry const_node t) k = refl
of_sort valtree_node (entry valtree_node t) k = refl
of_sort pat_node (entry pat_node t) k = refl
of_sort args_node (entry args_node t) k = refl
of_sort tys_node (entry tys_node t) k = refl
of_sort branches_node (entry branches_node t) k = refl
of_sort alternatives_node (entry alternatives_node t) k = refl
of_sort predicates_node (entry predicates_node t) k = refl
of_sort bound_vars_node (entry bound_vars_node (bind ks nil)) k = refl
of_sort predicate_node (entry predicate_node t) k = refl
of_sort clauses_node (entry clauses_node t) k = refl
of_sort s e k = absurd (false≢true k)

-- What is shown of an entry is shown once.
list_once : (t : Tree) → under (kinds_in (under (kinds_in t) nil)) nil ≡ under (kinds_in t) nil
list_once (bind ks nil) = refl
list_once t = refl

list_as : (e : Entry) → under (kinds_in (tree_as bound_vars_node e)) nil ≡ tree_as bound_vars_node e
list_as (entry bound_vars_node t) = list_once t
list_as e = refl

pub shown_as : (s : NodeSort) (e : Entry) → shown s (tree_as s e) ≡ tree_as s e
shown_as bound_vars_node e = list_as e
shown_as s e = refl

-- The tree of the key that has a number, at a sort; of a list of variables, a binder over nothing.
abbrev pub tree_of_key : NodeSort → Meaning NodeKey ItemId SymbolId → ℕ → Tree
tree_of_key ty_node m i = m.ty (record { 0 = record { 0 = i } })
tree_of_key region_node m i = m.region (record { 0 = record { 0 = i } })
tree_of_key const_node m i = m.const_ (record { 0 = record { 0 = i } })
tree_of_key valtree_node m i = m.valtree (record { 0 = record { 0 = i } })
tree_of_key pat_node m i = m.pat (record { 0 = record { 0 = i } })
tree_of_key args_node m i = m.args (record { 0 = record { 0 = i } })
tree_of_key tys_node m i = m.tys (record { 0 = record { 0 = i } })
tree_of_key branches_node m i = m.branches (record { 0 = record { 0 = i } })
tree_of_key alternatives_node m i = m.alternatives (record { 0 = record { 0 = i } })
tree_of_key predicates_node m i = m.existential_predicates (record { 0 = record { 0 = i } })
tree_of_key bound_vars_node m i = under (m.bound_vars (record { 0 = record { 0 = i } })) nil
tree_of_key predicate_node m i = m.predicate (record { 0 = record { 0 = i } })
tree_of_key clauses_node m i = m.clauses (record { 0 = record { 0 = i } })

-- A key of the number, of some sort, is known.
abbrev pub HasKey : Meaning NodeKey ItemId SymbolId → ℕ → Type 0
HasKey m i = (s : NodeSort) × IsTrue (known (tree_of_key s m i))

-- A key's tree is that of the entry at its number.
pub key_reads : (items : Items) (es : List Entry) (s : NodeSort) (i : ℕ) →
    tree_of_key s (meaning_of items es) i ≡ tree_as s (get_or es i no_entry)
unfolding meaning_of
key_reads items es ty_node i = refl
key_reads items es region_node i = refl
key_reads items es const_node i = refl
key_reads items es valtree_node i = refl
key_reads items es pat_node i = refl
key_reads items es args_node i = refl
key_reads items es tys_node i = refl
key_reads items es branches_node i = refl
key_reads items es alternatives_node i = refl
key_reads items es predicates_node i = refl
key_reads items es bound_vars_node i = list_as (get_or es i no_entry)
key_reads items es predicate_node i = refl
key_reads items es clauses_node i = refl
