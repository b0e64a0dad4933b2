use Rattle.std.proofs.Common.{◌-◌, ◌≤◌}
use Rattle.text_reading.proofs.reading.signs.sign_of.Given as goal

-- as many as the table has
abbrev pub invariant-signs : goal.invariant-signs
invariant-signs l = l.high ≤ 99

abbrev pub decreases-signs : goal.decreases-signs
decreases-signs l = l.high - l.low
