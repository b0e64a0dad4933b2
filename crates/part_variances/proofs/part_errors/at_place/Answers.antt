use Rattle.std.proofs.Common.{inl, inr, refl}
use Rattle.relation_semantics.specs.Errors.{sorts_at, argument_sorts_at, mutability_at, argument_mutability_at}
use Rattle.part_variances.proofs.PartErrors.{names_none}
use Rattle.part_variances.proofs.part_errors.at_place.Goals as goal

pub returns-in-Sorts : goal.returns-in-Sorts
returns-in-Sorts g c = inl (sorts_at c.in-Sorts.pair c.in-Sorts.is refl)

pub returns-in-ArgumentSorts : goal.returns-in-ArgumentSorts
returns-in-ArgumentSorts g c =
    let n = c.in-ArgumentSorts in
    inl (argument_sorts_at n.pair n.field-1 n.is refl)

pub returns-in-Mutability : goal.returns-in-Mutability
returns-in-Mutability g c = inl (mutability_at c.in-Mutability.is refl)

pub returns-in-ArgumentMutability : goal.returns-in-ArgumentMutability
returns-in-ArgumentMutability g c =
    let n = c.in-ArgumentMutability in
    inl (argument_mutability_at n.field-0 n.is refl)

pub returns-in_default : goal.returns-in_default
returns-in_default g c =
    let n = c.in_default in
    inr (names_none c.args.error n.not-Sorts n.not-ArgumentSorts n.not-Mutability n.not-ArgumentMutability, refl)
