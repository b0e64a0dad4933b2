use Rattle.text_reading.proofs.WriteLemmas.{wrong_written}
use Rattle.text_reading.proofs.naming.error.write_name_error.Goals as goal

pub returns-in-Wrong : goal.returns-in-Wrong
returns-in-Wrong g c =
    rw c.in-Wrong.is (wrong_written g.W.Write.write_str_gives c.write_wrong.result c.args.text.now _ _ _
    c.found_at.result.now _ _ c.found_at.ensures c.write_wrong.ensures)
