use Rattle.std.proofs.Common.{ap, take, ◌∙◌, ◌≡◌}
use Rattle.std.proofs.Math.Logic.{∥∥₁_map}
use Rattle.std.proofs.Math.Seq.{take-length}
use Rattle.text_reading.specs.Words.{leaves}
use Rattle.text_reading.proofs.reading.text.read.Goals as goal

-- all words were read
pub returns-clause-words : goal.returns-clause-words
returns-clause-words c =
    let end = c.read_statements.new.reader in
    let all : take end.at end.words.items ≡ c.in_ok-words.field-0.items =
    ap (λ n. take n end.words.items) c.in_ok-read_statements.ensures.whole ∙ take-length end.words.items
    ∙ ap (λ v. v.items) c.in_ok-read_statements.ensures.goes.0 in
    ∥∥₁_map end.each_once (λ p. (c.in_ok-words.field-0.items, c.in_ok-words.ensures.words, p ∙ ap leaves all))
