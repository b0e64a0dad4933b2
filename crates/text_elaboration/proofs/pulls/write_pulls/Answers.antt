use Rattle.text_reading.proofs.WriteLemmas.{text_written}
use Rattle.text_elaboration.proofs.pulls.write_pulls.Goals as goal

pub returns-then-is_empty : goal.returns-then-is_empty
returns-then-is_empty g c = record {
  none = λ nothing. text_written g.W.Write.write_str_gives _ _ _ _ c.write_str.ensures.ok;
}
