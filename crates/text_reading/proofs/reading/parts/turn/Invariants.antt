use Rattle.std.proofs.Common.{◌-◌, ◌<◌, length}
use Rattle.text_reading.specs.Written.{AreAlike}
use Rattle.text_reading.proofs.reading.parts.turn.Given as goal

-- the row is there, and written alike
abbrev pub invariant-rows : goal.invariant-rows
invariant-rows l = (l.found < length l.rows) × AreAlike l.rows l.at l.row l.found

-- the rows that are left
abbrev pub decreases-rows : goal.decreases-rows
decreases-rows l = length l.rows - l.found
