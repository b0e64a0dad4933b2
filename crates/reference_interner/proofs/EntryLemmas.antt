-- What an entry of a table reads as, at a sort.
use Rattle.std.proofs.Common.{◌≡◌, IsTrue, refl, sym}
use Rattle.std.proofs.Common.{subst, true}
use Rattle.relation_terms.specs.Trees.{Tree, known}
use Rattle.reference_interner.specs.Nodes.{NodeSort, ty_node, region_node, const_node, valtree_node, args_node}
use Rattle.reference_interner.specs.Nodes.{tys_node, branches_node, pat_node, alternatives_node, predicate_node, clauses_node}
use Rattle.reference_interner.specs.Nodes.{predicates_node, bound_vars_node, same_sort, shown}
use Rattle.reference_interner.specs.Nodes.{Entry, entry, tree_as}
use Rattle.reference_interner.specs.Nodes.{known_entry}
use Rattle.reference_interner.specs.Places.{of_sort, shown_as}

-- A sort is the same as itself.
sort_itself : (s : NodeSort) → same_sort s s ≡ true
sort_itself ty_node = refl
sort_itself region_node = refl
sort_itself const_node = refl
sort_itself valtree_node = refl
sort_itself pat_node = refl
sort_itself args_node = refl
sort_itself tys_node = refl
sort_itself branches_node = refl
sort_itself alternatives_node = refl
sort_itself predicates_node = refl
sort_itself bound_vars_node = refl
sort_itself predicate_node = refl
sort_itself clauses_node = refl

-- A tree reads as one of its entry's sort.
pub reads_as_shown : (s : NodeSort) (t : Tree) → tree_as s (entry s t) ≡ shown s t
reads_as_shown s t = rw (sort_itself s) refl

-- What is known at a sort is known.
pub sure_of : (s : NodeSort) (e : Entry) → IsTrue (known (tree_as s e)) → IsTrue (known_entry e)
sure_of s e k =
    subst (λ x. IsTrue (known_entry x)) (sym (of_sort s e k)) (subst (λ x. IsTrue (known x)) (sym (shown_as s e)) k)
