use Rattle.std.proofs.Common.{refl}
use Rattle.text_reading.proofs.WriteLemmas.{text_written, unexpected_written}
use Rattle.text_reading.proofs.reading.error.write_error.Goals as goal

pub returns-in-TooLong : goal.returns-in-TooLong
returns-in-TooLong g c = rw c.in-TooLong.is (text_written g.W.Write.write_str_gives _ _ _ _ c.write_str-in-TooLong.ensures.ok)

pub returns-in-NoWord : goal.returns-in-NoWord
returns-in-NoWord g c = rw c.in-NoWord.is (text_written g.W.Write.write_str_gives _ _ _ _ c.write_str-in-NoWord.ensures.ok)

pub returns-in-TooDeep : goal.returns-in-TooDeep
returns-in-TooDeep g c = rw c.in-TooDeep.is (text_written g.W.Write.write_str_gives _ _ _ _ c.write_str-in-TooDeep.ensures.ok)

pub returns-in_ok-write_expected-in-Unexpected : goal.returns-in_ok-write_expected-in-Unexpected
returns-in_ok-write_expected-in-Unexpected g c =
    rw c.in-Unexpected.is (unexpected_written g.W.Write.write_str_gives c.write_found.result c.args.text.now _ _ _
    c.found_at.result.now _ _ _ _ (c.in_ok-write_str-in-Unexpected.ensures.ok refl)
    c.in_ok-write_expected-in-Unexpected.ensures c.found_at.ensures c.write_found.ensures)
