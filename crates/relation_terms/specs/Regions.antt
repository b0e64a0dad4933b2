-- What a constraint on regions says: which outlive which, and whether it says anything.
use Rattle.std.specs.Prelude.{Bool, false, Option, Some, None, List, [], ◌∷◌}
use Rattle.relation_terms.specs.declared.predicate.regions.OutlivesPredicate.{OutlivesPredicate}
use Rattle.relation_terms.specs.declared.predicate.regions.RegionEqPredicate.{RegionEqPredicate}
use Rattle.relation_terms.specs.declared.predicate.regions.RegionConstraint.{RegionConstraint}
use Rattle.relation_terms.specs.declared.predicate.regions.RegionConstraint.TheVariants.{Outlives, Eq}
use Rattle.relation_terms.specs.declared.terms.generic_arg.GenericArgKind.{GenericArgKind}
use Rattle.relation_terms.specs.declared.terms.generic_arg.GenericArgKind.TheVariants.{Lifetime}
use Rattle.relation_terms.specs.declared.terms.keys.RegionKey.{RegionKey}

-- The first region outlives the second, and each outlives the other.
abbrev pub region_outlives : {Key : Type 0} → RegionKey Key → RegionKey Key → OutlivesPredicate Key (GenericArgKind Key)
region_outlives r s = record { 0 = Lifetime r; 1 = s }

abbrev pub both_outlive : {Key : Type 0} → RegionEqPredicate Key → List (OutlivesPredicate Key (GenericArgKind Key))
both_outlive p = region_outlives p.0 p.1 ∷ region_outlives p.1 p.0 ∷ []

-- What outlives which by a constraint.
abbrev pub outlives_of : {Key : Type 0} → RegionConstraint Key → List (OutlivesPredicate Key (GenericArgKind Key))
outlives_of (Outlives p) = p ∷ []
outlives_of (Eq p) = both_outlive p

-- An argument is a region.
abbrev pub is_region : {Key : Type 0} → (Key → Key → Bool) → GenericArgKind Key → RegionKey Key → Bool
is_region eq (Lifetime r) s = eq r.0 s.0
is_region eq a s = false

-- A constraint says of a region that it outlives or equals itself.
abbrev pub is_trivial : {Key : Type 0} → (Key → Key → Bool) → RegionConstraint Key → Bool
is_trivial eq (Outlives p) = is_region eq p.0 p.1
is_trivial eq (Eq p) = eq (p.0).0 (p.1).0

-- What is left of one or two things that are still to come, the first of them first.
abbrev pub left_of : {A : Type 0} → Option A → Option A → List A
left_of (Some x) (Some y) = x ∷ y ∷ []
left_of (Some x) None = x ∷ []
left_of None last = []
