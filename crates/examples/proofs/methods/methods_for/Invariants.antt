-- The numbers so far are those of the first entries.
use Rattle.std.proofs.Common.{◌≡◌, map, take}
use Rattle.examples.proofs.methods.methods_for.Given as goal

abbrev pub invariant-loop-entry : goal.invariant-loop-entry
invariant-loop-entry g l = l.numbers.items ≡ map (λ r. (r.now).value) (take l.entry-index l.entry-items)
