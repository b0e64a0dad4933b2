use Rattle.std.proofs.Common.{◌≡◌, ◌-◌, ◌≤◌, true, length, drop}
use Rattle.text_reading.specs.Words.{skip}
use Rattle.text_reading.proofs.reading.split.line_end.Given as goal

-- the comment goes on from where it began, inside the text
abbrev pub invariant-loop-end : goal.invariant-loop-end
invariant-loop-end l =
    (l.at ≤ l.end) × (l.end ≤ length l.text) × (skip true (drop l.at l.text) ≡ skip true (drop l.end l.text))

abbrev pub decreases-loop-end : goal.decreases-loop-end
decreases-loop-end l = length l.text - l.end
