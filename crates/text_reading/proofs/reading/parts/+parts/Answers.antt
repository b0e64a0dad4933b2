use Rattle.std.proofs.Common.{rules, ◌≡◌, ap, sym, ◌∙◌, subst, true, false, None}
use Rattle.text_reading.specs.Written.{HasRead}
use Rattle.text_reading.proofs.WrittenLemmas.{further, goes_on, ends_behind, ends_before}
use Rattle.text_reading.proofs.reading.parts.+parts.Goals as goal

-- the sign of `Further` stands there, or the form ends before it
pub read_piece-returns-in-Further-clause-written :
    goal.read_piece-returns-in-Further-clause-written
read_piece-returns-in-Further-clause-written t c =
    subst (λ p. HasRead c.args.reader.now.words.items p c.args.reader.now.at c.accept.new.self.at c.accept.result)
    (sym c.in-Further.is)
    (further c.args.reader.now.words.items c.in-Further.sign c.args.reader.now.at c.accept.new.self.at c.accept.result
    c.accept.ensures.there c.accept.ensures.over c.accept.ensures.stays)

-- the pieces of the row are all read
pub read_pieces-returns-in_default-clause-written :
    goal.read_pieces-returns-in_default-clause-written
read_pieces-returns-in_default-clause-written t c =
    let none : c.piece_of.result ≡ None = (let i = c.in_default.is in let n = c.in_default.not-Some in search rules) in
    ends_behind c.args.reader.now.words.items c.args.rows.now _ c.pieces.row c.turn-row.result c.pieces.at
    c.args.reader.now.at c.pieces.reader.at c.turn-row.ensures.there c.pieces.invariant.3 c.turn-row.ensures.alike
    (sym c.piece_of.ensures.piece ∙ none)

-- the form ends before a sign that does not stand there
pub read_pieces-returns-then-not-branch-clause-written :
    goal.read_pieces-returns-then-not-branch-clause-written
read_pieces-returns-then-not-branch-clause-written t c =
    let no : c.in_ok-read_piece.field-0 ≡ false = (let n = c.if-not-branch.true in search rules) in
    ends_before c.args.reader.now.words.items c.pieces.reader.words.items c.args.rows.now _ c.pieces.row
    c.turn-row.result c.pieces.at c.args.reader.now.at c.pieces.reader.at c.read_piece.new.reader.at c.in-Some.piece
    (ap (λ v. v.items) c.pieces.invariant.1.0) c.turn-row.ensures.there c.pieces.invariant.3
    c.turn-row.ensures.alike (sym c.piece_of.ensures.piece ∙ c.in-Some.is)
    (subst (λ b. HasRead c.pieces.reader.words.items c.in-Some.piece c.pieces.reader.at c.read_piece.new.reader.at b) no
    c.in_ok-read_piece.ensures.written)

-- a piece more was read
pub read_pieces-pieces-preserved : goal.read_pieces-pieces-preserved
read_pieces-pieces-preserved t c =
    let yes : c.in_ok-read_piece.field-0 ≡ true = (let n = c.if-not-branch.false in search rules) in
    let written = goes_on c.args.reader.now.words.items c.pieces.reader.words.items c.args.rows.now c.pieces.row
    c.turn-row.result c.pieces.at c.args.reader.now.at c.pieces.reader.at c.read_piece.new.reader.at c.in-Some.piece
    (ap (λ v. v.items) c.pieces.invariant.1.0) c.pieces.invariant.3
    c.turn-row.ensures.alike (sym c.piece_of.ensures.piece ∙ c.in-Some.is)
    (subst (λ b. HasRead c.pieces.reader.words.items c.in-Some.piece c.pieces.reader.at c.read_piece.new.reader.at b) yes
    c.in_ok-read_piece.ensures.written) in
    (c.turn-row.ensures.there, search rules, search rules, written)
