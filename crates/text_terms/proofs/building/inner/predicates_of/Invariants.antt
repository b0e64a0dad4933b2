use Rattle.std.proofs.Common.{◌≡◌, map, take}
use Rattle.text_terms.specs.declared.building.inner.Inner.TheVariants.{Predicate}
use Rattle.text_terms.proofs.building.inner.predicates_of.Given as goal

-- the predicates so far are the first of the list
abbrev pub invariant-loop-inner : goal.invariant-loop-inner
invariant-loop-inner g l = map Predicate l.predicates.items ≡ take l.inner-index l.inners
