-- What the numbers of a table's nodes mean.
use Rattle.std.specs.Prelude.{ℕ, ◌≡◌, ◌<◌, Bool, true, false, IsTrue, cond, length, List, [], ◌∷◌, ◌++◌}
use Rattle.std.specs.Prelude.{slice_index_or, Option, Some, None}
use Rattle.relation_terms.specs.Heads.{environment, unknown, BoundKind, Sort, clause_sort, head_sort, leaf_sort}
use Rattle.relation_terms.specs.Trees.{Tree, leaf, node, bind, nil, known, list_tree}
use Rattle.relation_terms.specs.Meaning.{Meaning, kind_tree, region_tree, const_tree, valtree_tree, arg_tree}
use Rattle.relation_terms.specs.Meaning.{pattern_tree, object_predicate_tree, bound_kinds, under}
use Rattle.relation_terms.specs.Predicates.{predicate_tree}
use Rattle.reference_interner.specs.declared.keys.NodeKey.{NodeKey}
use Rattle.reference_interner.specs.declared.keys.ItemId.{ItemId}
use Rattle.reference_interner.specs.declared.keys.SymbolId.{SymbolId}
use Rattle.reference_interner.specs.declared.node.Node.{Node}
use Rattle.reference_interner.specs.Forms.{Form, ty_form, region_form, const_form, valtree_form, args_form, tys_form}
use Rattle.reference_interner.specs.Forms.{branches_form, pattern_form, alternatives_form, form_of, predicate_form, clauses_form}
use Rattle.reference_interner.specs.Forms.{predicates_form, bound_vars_form}
use Rattle.reference_interner.specs.Items.{Items, no_items, variances_at, alias_variances_at, tables_of}

-- What a key may stand for.
pub data NodeSort : Type 0 where
  ty_node region_node const_node valtree_node pat_node args_node tys_node branches_node alternatives_node : NodeSort
  predicates_node bound_vars_node predicate_node clauses_node : NodeSort

-- Whether the sorts are one.
abbrev pub same_sort : NodeSort → NodeSort → Bool
same_sort ty_node ty_node = true
same_sort region_node region_node = true
same_sort const_node const_node = true
same_sort valtree_node valtree_node = true
same_sort pat_node pat_node = true
same_sort args_node args_node = true
same_sort tys_node tys_node = true
same_sort branches_node branches_node = true
same_sort alternatives_node alternatives_node = true
same_sort predicates_node predicates_node = true
same_sort bound_vars_node bound_vars_node = true
same_sort predicate_node predicate_node = true
same_sort clauses_node clauses_node = true
same_sort s r = false

-- The list that a binder over nothing has.
abbrev pub kinds_in : Tree → Option (List BoundKind)
kinds_in (bind ks nil) = Some ks
kinds_in t = None

-- What a tree is as one of a sort. A list of variables is a binder over nothing; no other tree is one.
abbrev pub shown : NodeSort → Tree → Tree
shown bound_vars_node t = under (kinds_in t) nil
shown s t = t

-- The tree of a node, with its sort.
pub data Entry : Type 0 where
  no_entry : Entry
  entry : NodeSort → Tree → Entry

-- The tree of an entry of a sort; nothing is known of the others.
abbrev pub tree_as : NodeSort → Entry → Tree
tree_as s no_entry = leaf unknown
tree_as s (entry r t) = cond (same_sort s r) (shown s t) (leaf unknown)

-- What a predicate's tree is as a clause's: nothing is known of it where the predicate is no clause.
abbrev pub is_clause_sort : Sort → Bool
is_clause_sort clause_sort = true
is_clause_sort s = false

abbrev pub as_clause : Tree → Tree
as_clause (bind ks (node h ts)) = cond (is_clause_sort (head_sort h)) (bind ks (node h ts)) (leaf unknown)
as_clause (bind ks (leaf l)) = cond (is_clause_sort (leaf_sort l)) (bind ks (leaf l)) (leaf unknown)
as_clause t = leaf unknown

-- What keys and ids mean, by their numbers. No node is of another sort than these. A clause is the predicate of its
-- number, an environment the list of clauses of its.
unfoldable pub meaning_of : Items → List Entry → Meaning NodeKey ItemId SymbolId
meaning_of items es = record {
  ty = λ k. tree_as ty_node (slice_index_or es (k.0).0 no_entry);
  region = λ k. tree_as region_node (slice_index_or es (k.0).0 no_entry);
  const_ = λ k. tree_as const_node (slice_index_or es (k.0).0 no_entry);
  args = λ k. tree_as args_node (slice_index_or es (k.0).0 no_entry);
  tys = λ k. tree_as tys_node (slice_index_or es (k.0).0 no_entry);
  pat = λ k. tree_as pat_node (slice_index_or es (k.0).0 no_entry);
  valtree = λ k. tree_as valtree_node (slice_index_or es (k.0).0 no_entry);
  branches = λ k. tree_as branches_node (slice_index_or es (k.0).0 no_entry);
  alternatives = λ k. tree_as alternatives_node (slice_index_or es (k.0).0 no_entry);
  existential_predicates = λ k. tree_as predicates_node (slice_index_or es (k.0).0 no_entry);
  bound_vars = λ k. kinds_in (tree_as bound_vars_node (slice_index_or es (k.0).0 no_entry));
  predicate = λ k. tree_as predicate_node (slice_index_or es (k.0).0 no_entry);
  clause = λ k. as_clause (tree_as predicate_node (slice_index_or es (k.0).0 no_entry));
  clauses = λ k. tree_as clauses_node (slice_index_or es (k.0).0 no_entry);
  param_env = λ k. node environment (tree_as clauses_node (slice_index_or es (k.0).0 no_entry));
  id = λ d. d.0;
  name = λ s. s.0;
  generics = λ n. length (variances_at items n);
  variances = λ n. variances_at items n;
  alias_variances = λ n. alias_variances_at items n;
  tables = tables_of items;
}

-- The sort of a form.
abbrev pub form_sort : Form → NodeSort
form_sort (ty_form f) = ty_node
form_sort (region_form f) = region_node
form_sort (const_form f) = const_node
form_sort (valtree_form f) = valtree_node
form_sort (pattern_form f) = pat_node
form_sort (args_form xs) = args_node
form_sort (tys_form ts) = tys_node
form_sort (branches_form cs) = branches_node
form_sort (alternatives_form ps) = alternatives_node
form_sort (predicates_form ps) = predicates_node
form_sort (bound_vars_form xs) = bound_vars_node
form_sort (predicate_form f) = predicate_node
form_sort (clauses_form cs) = clauses_node

-- The tree of a form.
abbrev pub form_tree : Meaning NodeKey ItemId SymbolId → Form → Tree
form_tree m (ty_form f) = kind_tree m f
form_tree m (region_form f) = region_tree m f
form_tree m (const_form f) = const_tree m f
form_tree m (valtree_form f) = valtree_tree m f
form_tree m (pattern_form f) = pattern_tree m f
form_tree m (args_form xs) = list_tree (arg_tree m) xs
form_tree m (tys_form ts) = list_tree m.ty ts
form_tree m (branches_form cs) = list_tree m.const_ cs
form_tree m (alternatives_form ps) = list_tree m.pat ps
form_tree m (predicates_form ps) = list_tree (object_predicate_tree m) ps
form_tree m (bound_vars_form xs) = bind (bound_kinds m xs) nil
form_tree m (predicate_form f) = predicate_tree m f
form_tree m (clauses_form cs) = list_tree m.clause cs

-- The entry of a form.
abbrev pub entry_at : Meaning NodeKey ItemId SymbolId → Form → Entry
entry_at m f = entry (form_sort f) (form_tree m f)

-- The entry of a node.
abbrev pub entry_of : Meaning NodeKey ItemId SymbolId → Node → Entry
entry_of m n = entry_at m (form_of n)

-- Each node speaks of the nodes before it alone, and of no item but by its number.
abbrev pub entries_from : List Entry → List Node → List Entry
entries_from es [] = es
entries_from es (n ∷ ns) = entries_from (es ++ entry_of (meaning_of no_items es) n ∷ []) ns

-- The entries of a table, in the order of its nodes.
abbrev pub entries : List Node → List Entry
entries ns = entries_from [] ns

-- What the numbers of a table's items and nodes mean.
abbrev pub table_meaning : Items → List Node → Meaning NodeKey ItemId SymbolId
table_meaning items ns = meaning_of items (entries ns)

-- No part of what the entry shows is unknown.
abbrev pub known_entry : Entry → Bool
known_entry no_entry = false
known_entry (entry s t) = known (shown s t)

-- Each node speaks of things that were there before it, of the right sorts.
abbrev pub AllKnown : List Node → Type 0
AllKnown ns = (i : ℕ) → i < length ns → IsTrue (known_entry (slice_index_or (entries ns) i no_entry))

-- No two nodes have one tree.
abbrev pub AllDistinct : List Node → Type 0
AllDistinct ns = (i j : ℕ) → i < length ns → j < length ns →
    slice_index_or (entries ns) i no_entry ≡ slice_index_or (entries ns) j no_entry → i ≡ j

-- The entry stands at a place of the table.
abbrev pub StandsAt : List Node → ℕ → Entry → Type 0
StandsAt ns i e = slice_index_or (entries ns) i no_entry ≡ e
