use Rattle.std.proofs.Common.{◌-◌, [], length}
use Rattle.text_reading.specs.Reads.{GoesOn, Stacks}
use Rattle.text_reading.proofs.reading.text.read_statements.Given as goal

-- the statements so far are on the stack
abbrev pub invariant-statements : goal.invariant-statements
invariant-statements l =
    GoesOn l.fn.reader l.reader × Stacks l.fn.reader l.reader [] l.stack.items

-- each turn reads at least one word
abbrev pub decreases-statements : goal.decreases-statements
decreases-statements l = length l.reader.words.items - l.reader.at
