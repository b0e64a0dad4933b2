-- When two terms agree: nothing in them clashes.
use Rattle.std.specs.Prelude.{◌≡◌, ◌⊎◌, suc}
use Rattle.term_enums.specs.declared.Variance.{Variance}
use Rattle.term_enums.specs.declared.Variance.TheVariants.{Bivariant}
use Rattle.relation_terms.specs.Heads.{region_sort, bound_sort, atom_sort, Leaf, variable, bound, placeholder, atom}
use Rattle.relation_terms.specs.Heads.{unknown}
use Rattle.relation_terms.specs.Trees.{Tree, leaf, node, bind, cons, count, apply}
use Rattle.relation_semantics.specs.Relation.{Items, Way, at, parts, second_opened, first_opened, part_at, plain}
use Rattle.relation_semantics.specs.Relation.{sort_of, IsErrorAtom, IsAlias}
use Rattle.relation_semantics.specs.Settings.{Settings, DefersAliases, LeavesOpaque}
use Rattle.relation_semantics.specs.Steps.{IsNumberKind}
use Rattle.relation_semantics.specs.Stores.{Store, MayStandFor, resolved}
use Rattle.relation_semantics.specs.Errors.{AreAlike, IsOpaque}

-- What agrees with a term of its sort: a region, a variable, what a binder binds, and an error; but the variable of a
-- number with what may stand for it alone.
abbrev pub IsFlexibleLeaf : Leaf → Tree → Type 0
IsFlexibleLeaf (variable k n) t = IsNumberKind k → MayStandFor k t
IsFlexibleLeaf (bound k d i) t = Unit {0}
IsFlexibleLeaf (placeholder k u n) t = bound_sort k ≡ region_sort
IsFlexibleLeaf (atom x) t = IsErrorAtom x ⊎ (atom_sort x ≡ region_sort)
IsFlexibleLeaf unknown t = ⊥

-- The same of a term beside another.
abbrev pub IsFlexible : Tree → Tree → Type 0
IsFlexible (leaf l) t = IsFlexibleLeaf l t
IsFlexible a t = ⊥

-- Two terms of one sort, of which one agrees with the other so.
abbrev pub AreFlexible : Tree → Tree → Type 0
AreFlexible a b = (IsFlexible a b ⊎ IsFlexible b a) × (sort_of a ≡ sort_of b)

-- One of two is left open, as a relation is set up: an alias, where aliases are left to goals; or an opaque type, where
-- such are left open.
abbrev pub IsLeftOpen : Settings → Tree → Tree → Type 0
IsLeftOpen k a b = (DefersAliases k × (IsAlias a ⊎ IsAlias b)) ⊎ (LeavesOpaque k × (IsOpaque a ⊎ IsOpaque b))

-- Nothing is asked of two terms at a variance: at bivariance of none; and of two of one sort that are left open.
abbrev pub IsLeftAside : Settings → Variance → Tree → Tree → Type 0
IsLeftAside k v a b = (v ≡ Bivariant) ⊎ (IsLeftOpen k a b × (sort_of a ≡ sort_of b))

-- Two terms agree at a variance, as a relation is set up: where nothing is asked of them they do, and where one is flexible
-- beside the other; others are of one form, an alias's kind and a parameter's name aside, over as many parts that agree,
-- each two at the variance of their place, or binders over bodies that agree. The same of the parts of two forms from a
-- place on.
abbrev pub Agree : Settings → Items → Way → Tree → Tree → Type 0
Agree k c (at v) (node h xs) (node j ys) =
    IsLeftAside k v (node h xs) (node j ys) ⊎ ((plain h ≡ plain j) × Agree k c (parts h 0 v) xs ys)
Agree k c (at v) (bind ks a) (bind ls b) = (v ≡ Bivariant) ⊎ Agree k c (at v) a b
Agree k c (at v) a b = IsLeftAside k v a b ⊎ (AreFlexible a b ⊎ AreAlike a b)
Agree k c (parts h i v) (cons a xs) (cons b ys) =
    Agree k c (at (part_at c h i v)) a b × Agree k c (parts h (suc i) v) xs ys
Agree k c way a b = count a ≡ count b

-- Two things that are brought together agree: of binders, their bodies.
abbrev pub AgreeBy : Settings → Items → Way → Tree → Tree → Type 0
AgreeBy k c (at v) a b = Agree k c (at v) a b
AgreeBy k c (parts h i v) a b = Agree k c (parts h i v) a b
AgreeBy k c (second_opened ks ls v) a b = Agree k c (at v) a b
AgreeBy k c (first_opened ks ls v) a b = Agree k c (at v) a b

-- The same of what they come to by what a record has.
abbrev pub AgreeIn : Settings → Items → Store → Way → Tree → Tree → Type 0
AgreeIn k c st way a b = AgreeBy k c way (apply (resolved st) a) (apply (resolved st) b)
