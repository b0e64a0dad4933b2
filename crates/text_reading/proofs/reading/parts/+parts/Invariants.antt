use Rattle.std.proofs.Common.{◌+◌, ◌-◌, ◌*◌, ◌<◌, length}
use Rattle.text_reading.specs.Reads.{GoesOn, Stacks}
use Rattle.text_reading.specs.Shapes.{most}
use Rattle.text_reading.proofs.WrittenLemmas.{IsSoFar}
use Rattle.text_reading.proofs.reading.parts.+parts.Given as goal

-- what stands inside has less room
abbrev pub decreases-read_part : goal.decreases-read_part
decreases-read_part l = 4 * l.room

abbrev pub decreases-read_list : goal.decreases-read_list
decreases-read_list l = 4 * l.room + 1

abbrev pub decreases-read_piece : goal.decreases-read_piece
decreases-read_piece l = 4 * l.room + 2

abbrev pub decreases-read_pieces : goal.decreases-read_pieces
decreases-read_pieces l = 4 * l.room + 3

-- the parts so far are on the stack
abbrev pub invariant-read_list-list : goal.invariant-read_list-list
invariant-read_list-list l =
    GoesOn l.fn.reader l.reader × Stacks l.fn.reader l.reader l.fn.stack.items l.stack.items

-- each turn reads at least one word
abbrev pub decreases-read_list-list : goal.decreases-read_list-list
decreases-read_list-list l = length l.reader.words.items - l.reader.at

-- the same of the pieces so far, of a row that is there
abbrev pub invariant-read_pieces-pieces : goal.invariant-read_pieces-pieces
invariant-read_pieces-pieces l =
    (l.row < length l.rows) × GoesOn l.fn.reader l.reader
    × Stacks l.fn.reader l.reader l.fn.stack.items l.stack.items
    × IsSoFar l.fn.reader.words.items l.rows l.row l.at l.fn.reader.at l.reader.at

-- the pieces that are left
abbrev pub decreases-read_pieces-pieces : goal.decreases-read_pieces-pieces
decreases-read_pieces-pieces l = most l.rows - l.at
