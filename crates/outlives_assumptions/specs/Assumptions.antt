-- What follows from assumptions that generic arguments outlive regions.
use Rattle.std.specs.Prelude.{◌↔◌, ◌&&◌, not, Bool, true, false, cond, IsTrue, List, [], ◌∷◌, ◌++◌, map}
use Rattle.std.specs.List.{Contains, filter}
use Rattle.relation_terms.specs.Heads.{variable, atom, region_var, fresh_type, fresh_int, fresh_float}
use Rattle.relation_terms.specs.Trees.{Tree, leaf, known}
use Rattle.relation_terms.specs.Meaning.{Meaning, arg_tree}
use Rattle.relation_terms.specs.Parts.{tree_sort}
use Rattle.relation_terms.specs.Closures.{is_type_sort}
use Rattle.relation_terms.specs.declared.predicate.regions.OutlivesPredicate.{OutlivesPredicate}
use Rattle.relation_terms.specs.declared.terms.generic_arg.GenericArgKind.{GenericArgKind}
use Rattle.relation_folds.specs.Visits.{bound_var_escapes}
use Rattle.component_parts.specs.Components.{every, components}

-- An inference variable of any kind but region, or a stand-in for one.
abbrev pub is_unresolved : Tree → Bool
is_unresolved (leaf (variable region_var n)) = false
is_unresolved (leaf (variable k n)) = true
is_unresolved (leaf (atom (fresh_type n))) = true
is_unresolved (leaf (atom (fresh_int n))) = true
is_unresolved (leaf (atom (fresh_float n))) = true
is_unresolved t = false

-- A component that is an assumption of its own: a region, a parameter, a placeholder, or an alias that no variable
-- escapes.
abbrev pub is_assumed : Tree → Bool
is_assumed t = not (is_unresolved t) && not (bound_var_escapes t)

-- The components of a type that are. Other arguments have none.
abbrev pub assumed_parts : Tree → List Tree
assumed_parts t = cond (is_type_sort (tree_sort t)) (filter is_assumed (components every t)) []

-- What one assumption gives, each an argument and the region that it outlives: itself, and the same of these parts.
abbrev pub elaborated : Tree → Tree → List (Tree × Tree)
elaborated t r = (t, r) ∷ map (λ u. (u, r)) (assumed_parts t)

module _ {X D N : Type 0} (m : Meaning X D N) where
  -- An assumption by its trees, and both are known.
  abbrev pub assumed : OutlivesPredicate X (GenericArgKind X) → Tree × Tree
  assumed a = (arg_tree m a.0, m.region a.1)

  abbrev pub IsKnown : OutlivesPredicate X (GenericArgKind X) → Type 0
  IsKnown a = IsTrue (known (arg_tree m a.0)) × IsTrue (known (m.region a.1))

  -- What all of a list give.
  abbrev pub all_elaborated : List (OutlivesPredicate X (GenericArgKind X)) → List (Tree × Tree)
  all_elaborated [] = []
  all_elaborated (a ∷ rest) = elaborated (arg_tree m a.0) (m.region a.1) ++ all_elaborated rest

-- Two lists have the same members, whatever their order and however often one stands in them.
abbrev pub HaveSame : {A : Type 0} → List A → List A → Type 0
HaveSame {A} xs ys = (x : A) → Contains xs x ↔ Contains ys x

-- The second list is, as a set, what all of the first give; the interner may have grown.
abbrev pub AreElaborated : {X D N : Type 0} → Meaning X D N → Meaning X D N →
    List (OutlivesPredicate X (GenericArgKind X)) → List (OutlivesPredicate X (GenericArgKind X)) → Type 0
AreElaborated m n given found = HaveSame (map (assumed n) found) (all_elaborated m given)
