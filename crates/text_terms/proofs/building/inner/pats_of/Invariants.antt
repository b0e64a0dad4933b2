use Rattle.std.proofs.Common.{◌≡◌, map, take}
use Rattle.text_terms.specs.declared.building.inner.Inner.TheVariants.{Pat}
use Rattle.text_terms.proofs.building.inner.pats_of.Given as goal

-- the patterns so far are the first of the list
abbrev pub invariant-loop-inner : goal.invariant-loop-inner
invariant-loop-inner g l = map Pat l.pats.items ≡ take l.inner-index l.inners
