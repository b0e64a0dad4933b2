use Rattle.std.proofs.Common.{subst, OnOk}
use Rattle.std.specs.Fmt.{WritesInCalls}
use Rattle.text_reading.proofs.WriteLemmas.{text_written}
use Rattle.text_terms.proofs.printing.whole.write_item_name.Goals as goal

pub returns : goal.returns
returns g c =
    let took = g.W.Write.write_str_gives in
    subst (λ bs. OnOk c.write_str.result (WritesInCalls took c.args.out.now bs c.write_str.new.self)) c.item_text.ensures
    (text_written took _ _ _ _ c.write_str.ensures.ok)
