-- What was written, before what is still to be merged, is the whole.
use Rattle.std.proofs.Common.{length, ◌-◌, ◌≡◌, ◌++◌, drop, ◌≤◌, ◌+◌}
use Rattle.relation_methods.specs.Keyed.{merge}
use Rattle.relation_methods.proofs.keyed.merged.Given as goal

abbrev pub invariant-loop-others : goal.invariant-loop-others
invariant-loop-others l = record {
  within : l.others ≤ length l.right;
  whole : (l.numbers).items ++ merge (drop l.number-index l.left) (drop l.others l.right) ≡ merge l.left l.right;
}

abbrev pub decreases-loop-others : goal.decreases-loop-others
decreases-loop-others l = length l.right - l.others

abbrev pub invariant-loop-number : goal.invariant-loop-number
invariant-loop-number l = record {
  within : l.others ≤ length l.right;
  whole : (l.numbers).items ++ merge (drop l.number-index l.left) (drop l.others l.right) ≡ merge l.left l.right;
}

abbrev pub invariant-loop-number-2 : goal.invariant-loop-number-2
invariant-loop-number-2 l = (l.numbers).items ++ drop (l.others + l.number-index) l.right ≡ merge l.left l.right
