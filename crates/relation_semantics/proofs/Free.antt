-- The interpretation in which all regions outlive each other: each constraint holds under it.
use Rattle.std.proofs.Common.{refl, None, []}
use Rattle.relation_terms.specs.Trees.{Assign}
use Rattle.relation_semantics.specs.Relation.{Interpretation, all_outlive}
use Rattle.relation_semantics.specs.Stores.{Constraint, outlives_constraint, equal_constraint, ConstraintHolds}

abbrev pub free : Interpretation
free = record { outlives = None; equal = []; ordered = [] }

pub free_holds : (s : Assign) (q : Constraint) → ConstraintHolds free s q
free_holds s (outlives_constraint a b) = all_outlive refl
free_holds s (equal_constraint a b) = (all_outlive refl, all_outlive refl)
