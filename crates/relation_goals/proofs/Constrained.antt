-- A constraint on regions that was recorded, or was not, where a growth was refused.
use Rattle.std.proofs.Common.{◌≡◌, ◌≤◌, sym, ap, arith, subst, [], length, Result, Ok, Err, OnErr}
use Rattle.relation_terms.specs.Trees.{Tree}
use Rattle.relation_semantics.specs.Stores.{Store, Constraint, all_bound}
use Rattle.relation_semantics.specs.Steps.{AddsConstraint, StaysFull}
use Rattle.relation_semantics.specs.Alphabets.{StaysBuilt}
use Rattle.relation_semantics.specs.Measures.{Goes}
use Rattle.relation_semantics.proofs.Going.{goes_nowhere}
use Rattle.relation_semantics.proofs.Full.{full_same, full_by, constraint_plain}
use Rattle.relation_semantics.proofs.Growing.{constraint_is_later, constraint_bound, constraint_weight}
use Rattle.relation_semantics.proofs.BuildingSteps.{built_same, built_constraint}
use Rattle.relation_semantics.specs.Contexts.{Context}
use Rattle.relation_semantics.specs.ContextCalls.{Constrains}

-- A constraint was recorded.
pub constraint_goes : (before after : Store) (q : Constraint) → AddsConstraint before after q → Goes 0 before after
constraint_goes before after q added = record {
  later = constraint_is_later before after q added;
  made = λ k h. ap length (added.same_entries k);
  spent = 0;
  counts = let e = added.same_budget in omega (arith, e);
  binds = let e = constraint_bound before after q added in omega (arith, e);
  grows = λ k t above below. subst (λ z. z ≤ k) (constraint_weight before after q added t) below;
}

pub constrained_goes : {Key Id Name A F : Type 0} (c d : Context Key Id Name) (q : Constraint) (r : Result A F) →
    Constrains c d q r → Goes 0 c.store d.store
constrained_goes c d q (Ok x) h = constraint_goes c.store d.store q h
constrained_goes c d q (Err f) h = subst (Goes 0 c.store) (sym h) (goes_nowhere 0 c.store)

pub constraint_full : (before after : Store) (q : Constraint) → AddsConstraint before after q → StaysFull before after
constraint_full before after q added = full_by (constraint_goes before after q added)
    (λ k. ap length (added.same_entries k)) (constraint_plain before after added.same_entries)

pub constrained_full : {Key Id Name A F : Type 0} (c d : Context Key Id Name) (q : Constraint) (r : Result A F) →
    Constrains c d q r → StaysFull c.store d.store
constrained_full c d q (Ok x) h = constraint_full c.store d.store q h
constrained_full c d q (Err f) h = full_same h

pub constrained_built : {Key Id Name A F : Type 0} (c d : Context Key Id Name) (q : Constraint) (r : Result A F)
    (a b : Tree) → Constrains c d q r → StaysBuilt c.store d.store [] a b
constrained_built c d q (Ok x) a b h =
    built_constraint c.store d.store a b h.same_entries h.same_universe h.same_taint h.same_budget
constrained_built c d q (Err f) a b h = built_same a b h

pub constrained_bound : {Key Id Name A F : Type 0} (c d : Context Key Id Name) (q : Constraint) (r : Result A F) →
    Constrains c d q r → all_bound d.store ≡ all_bound c.store
constrained_bound c d q (Ok x) h = constraint_bound c.store d.store q h
constrained_bound c d q (Err f) h = ap all_bound h

-- Where a growth was refused nothing was recorded of regions.
pub constrained_refused : {Key Id Name A F : Type 0} (c d : Context Key Id Name) (q : Constraint) (r : Result A F) →
    Constrains c d q r → OnErr r (d.store ≡ c.store)
constrained_refused c d q (Ok x) h = tt
constrained_refused c d q (Err f) h = h
