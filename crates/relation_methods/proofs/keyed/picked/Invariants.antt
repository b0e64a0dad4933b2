-- Those of the numbers so far.
use Rattle.std.proofs.Common.{map, take}
use Rattle.relation_methods.specs.Keyed.{Picks}
use Rattle.relation_methods.proofs.keyed.picked.Given as goal

abbrev pub invariant-loop-number : goal.invariant-loop-number
invariant-loop-number g l = Picks l.entries (take l.number-index l.numbers) (map (λ r. r.now) (l.found).items)
