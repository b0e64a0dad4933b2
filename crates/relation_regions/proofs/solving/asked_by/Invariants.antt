-- What asks for the first pairs.
use Rattle.std.proofs.Common.{◌≡◌, get_or, map, take}
use Rattle.relation_regions.proofs.solving.asked_by.Given as goal

abbrev pub invariant-loop-place : goal.invariant-loop-place
invariant-loop-place l = l.by.items ≡ map (λ k. get_or l.pairs.asked_by.items k 0) (take l.place-index l.places)
