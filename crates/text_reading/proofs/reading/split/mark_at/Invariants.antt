use Rattle.std.proofs.Common.{◌-◌, ◌<◌, ◌≤◌, length}
use Rattle.text_reading.proofs.reading.split.mark_at.Given as goal

-- it goes on from where it began, inside the text
abbrev pub invariant-loop-end : goal.invariant-loop-end
invariant-loop-end l = (l.at < l.end) × (l.end ≤ length l.text)

abbrev pub decreases-loop-end : goal.decreases-loop-end
decreases-loop-end l = length l.text - l.end

-- shorter and shorter marks are tried
abbrev pub invariant-marks : goal.invariant-marks
invariant-marks l = (l.at ≤ l.end) × (l.end ≤ length l.text)

abbrev pub decreases-marks : goal.decreases-marks
decreases-marks l = l.end - l.at
