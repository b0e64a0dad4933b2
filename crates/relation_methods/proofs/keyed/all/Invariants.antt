-- Those so far.
use Rattle.std.proofs.Common.{◌≡◌, map, take}
use Rattle.relation_methods.proofs.keyed.all.Given as goal

abbrev pub invariant-loop-entry : goal.invariant-loop-entry
invariant-loop-entry g l = map (λ r. r.now) (l.found).items ≡ take l.entry-index l.entries
