use Rattle.std.proofs.Common.{ap, ◌∙◌}
use Rattle.std.specs.List.{slice_get}
use Rattle.text_reading.proofs.ShapeLemmas.{piece_if, most_if}
use Rattle.text_reading.proofs.WrittenLemmas.{at_row}
use Rattle.text_reading.proofs.reading.parts.piece_of.Goals as goal

pub returns-clause-piece : goal.returns-clause-piece
returns-clause-piece c =
    c.piece_at.ensures.piece ∙ ap (λ ps. slice_get ps c.args.at) (at_row c.args.rows.now _ c.args.row c.requires)

-- a piece that is there has a number below the most that there are
pub returns-clause-few : goal.returns-clause-few
returns-clause-few c =
    most_if c.args.rows.now c.args.row c.args.at c.piece_at.result
    (piece_if c.args.rows.now _ c.args.row c.args.at c.piece_at.result c.requires c.piece_at.ensures.piece)
