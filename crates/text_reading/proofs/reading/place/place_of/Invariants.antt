use Rattle.std.proofs.Common.{◌≡◌, ◌+◌, ◌≤◌, drop}
use Rattle.text_reading.specs.Places.{line_from, line_of, column_from, column_of}
use Rattle.text_reading.proofs.reading.place.place_of.Given as goal

-- the rest of the text leads from here to where the whole does, and no number outgrows what was read
abbrev pub invariant-loop-before : goal.invariant-loop-before
invariant-loop-before l =
    (line_from l.line (drop l.before-index l.before-items) ≡ line_of l.before-items)
    × (column_from l.column (drop l.before-index l.before-items) ≡ column_of l.before-items)
    × (l.line ≤ l.before-index + 1) × (l.column ≤ l.before-index + 1)
