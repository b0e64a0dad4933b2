use Rattle.text_reading.proofs.WriteLemmas.{text_written}
use Rattle.text_elaboration.proofs.pulls.write_pulled.Goals as goal

pub returns-in-Limit : goal.returns-in-Limit
returns-in-Limit g c = rw c.in-Limit.is (text_written g.W.Write.write_str_gives _ _ _ _ c.write_str.ensures.ok)

pub returns-in-End : goal.returns-in-End
returns-in-End g c = rw c.in-End.is (text_written g.W.Write.write_str_gives _ _ _ _ c.write_str-in-End.ensures.ok)
