use Rattle.text_reading.proofs.WriteLemmas.{text_written}
use Rattle.text_reading.proofs.naming.error.write_wrong.Goals as goal

pub returns-in-TooLarge : goal.returns-in-TooLarge
returns-in-TooLarge g c = rw c.in-TooLarge.is (text_written g.W.Write.write_str_gives _ _ _ _ c.write_str.ensures.ok)

pub returns-in-NothingBefore : goal.returns-in-NothingBefore
returns-in-NothingBefore g c = rw c.in-NothingBefore.is (text_written g.W.Write.write_str_gives _ _ _ _ c.write_str-in-NothingBefore.ensures.ok)

pub returns-in-TooDeep : goal.returns-in-TooDeep
returns-in-TooDeep g c = rw c.in-TooDeep.is (text_written g.W.Write.write_str_gives _ _ _ _ c.write_str-in-TooDeep.ensures.ok)

pub returns-in-NotRead : goal.returns-in-NotRead
returns-in-NotRead g c = rw c.in-NotRead.is (text_written g.W.Write.write_str_gives _ _ _ _ c.write_str-in-NotRead.ensures.ok)
