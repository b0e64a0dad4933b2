use Rattle.std.proofs.Common.{◌≡◌, take, fold}
use Rattle.term_enums.specs.Hashing.{word_step}
use Rattle.term_enums.proofs.hashing.number.Given as goal

abbrev pub invariant-loop-byte : goal.invariant-loop-byte
invariant-loop-byte l = l.number ≡ fold word_step 0 (take l.byte-index l.bytes)
