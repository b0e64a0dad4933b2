use Rattle.std.proofs.Common.{◌-◌, ◌≤◌, length}
use Rattle.text_reading.specs.Words.{LieBetween}
use Rattle.text_reading.proofs.reading.split.words.Given as goal

-- the words so far stand before the next
abbrev pub invariant-words : goal.invariant-words
invariant-words l = LieBetween l.text l.words.items 0 l.behind × (l.behind ≤ length l.text)

abbrev pub decreases-words : goal.decreases-words
decreases-words l = length l.text - l.behind
