-- The arguments that stand under a term, in the order of a walk.
use Rattle.std.specs.Prelude.{◌≡◌, Bool, true, false, cond, List, [], ◌∷◌, ◌++◌, map, ◌&&◌}
use Rattle.relation_terms.specs.Heads.{Sort, value_sort, leaf_sort, head_sort, Head, or_pattern}
use Rattle.relation_terms.specs.Trees.{Tree, leaf, node, bind, nil, cons, known}
use Rattle.relation_terms.specs.Meaning.{Meaning, arg_tree}
use Rattle.relation_terms.specs.Parts.{parts_of}
use Rattle.relation_terms.specs.declared.terms.generic_arg.GenericArgKind.{GenericArgKind}
use Rattle.relation_folds.specs.Visits.{visited_sort}

-- What has no argument that counts: what a value is made of.
abbrev pub is_passed_over : Sort → Bool
is_passed_over value_sort = true
is_passed_over s = false

-- The form whose parts are gone through from the last to the first: alternatives of a pattern.
abbrev pub goes_back : Head → Bool
goes_back or_pattern = true
goes_back h = false

-- The arguments that stand in a tree, the outermost alone: a region, type or constant is one itself, and all else is
-- gone through, part by part. `back`: a list of parts is gone through from its last to its first.
abbrev pub places : Bool → Tree → List Tree
places back (leaf l) = cond (visited_sort (leaf_sort l)) (leaf l ∷ []) []
places back (node h ts) = cond (visited_sort (head_sort h)) (node h ts ∷ [])
    (cond (is_passed_over (head_sort h)) [] (places (goes_back h) ts))
places back (bind ks t) = places false t
places back nil = []
places back (cons t ts) = cond back (places true ts ++ places false t) (places false t ++ places false ts)

-- The arguments that stand directly under one.
abbrev pub places_under : Tree → List Tree
places_under t = places false (parts_of t)

-- All of them are known.
abbrev pub all_known : List Tree → Bool
all_known [] = true
all_known (t ∷ ts) = known t && all_known ts

-- The second list is the first under arguments that mean these trees.
abbrev pub Pushes : {Key Id Name : Type 0} → Meaning Key Id Name → List Tree → List (GenericArgKind Key) →
    List (GenericArgKind Key) → Type 0
Pushes {Key} m ts old new = (xs : List (GenericArgKind Key)) × (new ≡ xs ++ old) × (map (arg_tree m) xs ≡ ts)

-- The same under the arguments that stand in a tree.
abbrev pub PushesPlaces : {Key Id Name : Type 0} → Meaning Key Id Name → Tree → List (GenericArgKind Key) →
    List (GenericArgKind Key) → Type 0
PushesPlaces m t old new = Pushes m (places false t) old new
