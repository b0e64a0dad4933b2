use Rattle.std.proofs.Common.{◌≡◌, ◌-◌, ◌≤◌, false, length, drop}
use Rattle.text_reading.specs.Words.{skip}
use Rattle.text_reading.proofs.reading.split.blank_end.Given as goal

-- the blanks go on from where they began, inside the text
abbrev pub invariant-loop-end : goal.invariant-loop-end
invariant-loop-end l =
    (l.at ≤ l.end) × (l.end ≤ length l.text) × (skip false (drop l.end l.text) ≡ skip false (drop l.at l.text))

abbrev pub decreases-loop-end : goal.decreases-loop-end
decreases-loop-end l = length l.text - l.end
