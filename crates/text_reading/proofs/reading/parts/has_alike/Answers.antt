use Rattle.std.proofs.Common.{sym, ◌∙◌, ◌+◌}
use Rattle.text_reading.proofs.WrittenLemmas.{alike_rows}
use Rattle.text_reading.proofs.reading.parts.has_alike.Goals as goal

-- what the test of the pieces has told
pub returns-then-row-rows-clause-alike : goal.returns-then-row-rows-clause-alike
returns-then-row-rows-clause-alike c h =
    alike_rows c.args.rows.now _ c.args.at c.args.row (c.args.row + 1) c.get.result c.get-then-row-rows.result
    c.requires.there c.if-row-rows.true c.requires.within c.get.ensures.lookup c.get-then-row-rows.ensures.lookup.0
    (sym c.eq.ensures ∙ h)
