-- What relating two regions asks for, and what a recorded constraint asks.
use Rattle.std.specs.Prelude.{Option, Some, None}
use Rattle.std.specs.Prelude.{List, [], ◌∷◌}
use Rattle.term_enums.specs.declared.Variance.{Variance}
use Rattle.term_enums.specs.declared.Variance.TheVariants.{Covariant, Contravariant, Invariant}
use Rattle.term_enums.specs.declared.Variance.TheVariants.{Bivariant}
use Rattle.relation_terms.specs.declared.terms.keys.RegionKey.{RegionKey}
use Rattle.relation_terms.specs.declared.terms.generic_arg.GenericArgKind.TheVariants.{Lifetime}
use Rattle.relation_terms.specs.declared.predicate.regions.RegionConstraint.{RegionConstraint}
use Rattle.relation_terms.specs.declared.predicate.regions.RegionConstraint.TheVariants.{Outlives, Eq}
use Rattle.relation_terms.specs.Meaning.{Meaning, arg_tree}
use Rattle.relation_semantics.specs.Stores.{Constraint, outlives_constraint, equal_constraint}

-- What two regions related at a variance are asked for: covariantly, that the left one outlives the right one.
abbrev pub constraint_at : {Key : Type 0} → Variance → RegionKey Key → RegionKey Key → Option (RegionConstraint Key)
constraint_at Covariant a b = Some (Outlives (record { 0 = Lifetime a; 1 = b }))
constraint_at Contravariant a b = Some (Outlives (record { 0 = Lifetime b; 1 = a }))
constraint_at Invariant a b = Some (Eq (record { 0 = a; 1 = b }))
constraint_at Bivariant a b = None

-- What a recorded constraint asks.
abbrev pub constraint_of : {Key Id Name : Type 0} → Meaning Key Id Name → RegionConstraint Key → Constraint
constraint_of m (Outlives p) = outlives_constraint (arg_tree m p.0) (m.region p.1)
constraint_of m (Eq p) = equal_constraint (m.region p.0) (m.region p.1)

-- What is to be recorded, behind all that was: one constraint, or none.
abbrev pub asked_constraints : {Key Id Name : Type 0} → Meaning Key Id Name → Option (RegionConstraint Key) →
    List Constraint
asked_constraints m None = []
asked_constraints m (Some c) = constraint_of m c ∷ []
