use Rattle.std.proofs.Common.{◌≡◌, length, arith, rules}
use Rattle.std.proofs.lemmas.Bool.Decides.{nat_tests}
use Rattle.std.proofs.lemmas.List.{nil_from_length}
use Rattle.text_reading.proofs.WriteLemmas.{text_written}
use Rattle.text_reading.proofs.reading.error.write_found.Goals as goal

pub returns-then-is_empty : goal.returns-then-is_empty
returns-then-is_empty g c =
    let none : length c.args.found.now ≡ 0 = first_of (search rules, grind (arith, nat_tests)) in
    rw (nil_from_length c.args.found.now none) (text_written g.W.Write.write_str_gives _ _ _ _ c.write_str.ensures.ok)
