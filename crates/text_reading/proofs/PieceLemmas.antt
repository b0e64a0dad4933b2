-- `==` takes pieces for one only where they are one.
use Rattle.std.proofs.Common.{◌≡◌, ap, ap₂, refl, IsTrue, List, [], ◌∷◌, rules}
use Rattle.std.proofs.lemmas.Bool.{false≢true, and_parts}
use denote.Enum.Bare.{same_true}
use lib.Pointwise.{pointwise}
use Rattle.text_reading.specs.contracts.reading.signs.Sign as sign
use Rattle.text_reading.specs.contracts.reading.signs.SignPartialEq.TheImpl as sign_impl
use Rattle.text_reading.specs.contracts.reading.shapes.Sort as sort
use Rattle.text_reading.specs.contracts.reading.shapes.SortPartialEq.TheImpl as sort_impl
use Rattle.text_reading.specs.contracts.reading.shapes.LinePartialEq.TheImpl as line_impl
use Rattle.text_reading.specs.contracts.reading.error.ExpectedPartialEq.TheImpl as expected_impl
use Rattle.text_reading.specs.contracts.reading.shapes.PiecePartialEq.TheImpl as piece_impl
use Rattle.text_reading.specs.declared.reading.signs.Sign.{Sign}
use Rattle.text_reading.specs.declared.reading.shapes.Sort.{Sort}
use Rattle.text_reading.specs.declared.reading.shapes.Line.{Line}
use Rattle.text_reading.specs.declared.reading.shapes.Line.TheVariants as line
use Rattle.text_reading.specs.declared.reading.shapes.Piece.{Piece}
use Rattle.text_reading.specs.declared.reading.shapes.Piece.TheVariants as piece
use Rattle.text_reading.specs.declared.reading.error.Expected.{Expected}
use Rattle.text_reading.specs.declared.reading.error.Expected.TheVariants as expected

sign_same : (x y : Sign) → IsTrue (sign_impl.ghosts.eq x y) → x ≡ y
sign_same x y h = same_true sign.the_type (search rules) x y h

sort_same : (x y : Sort) → IsTrue (sort_impl.ghosts.eq x y) → x ≡ y
sort_same x y h = same_true sort.the_type (search rules) x y h

line_same : (x y : Line) → IsTrue (line_impl.ghosts.eq x y) → x ≡ y
line_same (line.To s) (line.To t) h = ap line.To (sign_same s t h)
line_same line.Inputs line.Inputs h = refl
line_same (line.By s) (line.By t) h = ap line.By (sign_same s t h)
line_same line.Bounds line.Bounds h = refl
line_same _ _ h = absurd (false≢true h)

expected_same : (x y : Expected) → IsTrue (expected_impl.ghosts.eq x y) → x ≡ y
expected_same expected.Statement expected.Statement h = refl
expected_same expected.Term expected.Term h = refl
expected_same expected.Region expected.Region h = refl
expected_same expected.Name expected.Name h = refl
expected_same expected.Number expected.Number h = refl
expected_same expected.Variable expected.Variable h = refl
expected_same expected.AnyVariable expected.AnyVariable h = refl
expected_same expected.Parameter expected.Parameter h = refl
expected_same expected.Bound expected.Bound h = refl
expected_same expected.BoundConst expected.BoundConst h = refl
expected_same expected.Const expected.Const h = refl
expected_same expected.Relation expected.Relation h = refl
expected_same (expected.Sign s) (expected.Sign t) h = ap expected.Sign (sign_same s t h)
expected_same (expected.CommaOr s) (expected.CommaOr t) h = ap expected.CommaOr (sign_same s t h)
expected_same (expected.Either s p) (expected.Either t q) h =
    let r = and_parts (sign_impl.ghosts.eq s t) (sign_impl.ghosts.eq p q) h in
    ap₂ expected.Either (sign_same s t r.0) (sign_same p q r.1)
expected_same _ _ h = absurd (false≢true h)

pub piece_same : (x y : Piece) → IsTrue (piece_impl.ghosts.eq x y) → x ≡ y
piece_same (piece.Mark s) (piece.Mark t) h = ap piece.Mark (sign_same s t h)
piece_same (piece.OneOf s e) (piece.OneOf t f) h =
    let p = and_parts (sign_impl.ghosts.eq s t) (expected_impl.ghosts.eq e f) h in
    ap₂ piece.OneOf (sign_same s t p.0) (expected_same e f p.1)
piece_same (piece.Leaf e) (piece.Leaf f) h = ap piece.Leaf (expected_same e f h)
piece_same (piece.Part s) (piece.Part t) h = ap piece.Part (sort_same s t h)
piece_same (piece.Maybe s) (piece.Maybe t) h = ap piece.Maybe (sort_same s t h)
piece_same (piece.List s l) (piece.List t k) h =
    let p = and_parts (sort_impl.ghosts.eq s t) (line_impl.ghosts.eq l k) h in
    ap₂ piece.List (sort_same s t p.0) (line_same l k p.1)
piece_same (piece.Unless s p) (piece.Unless t q) h =
    let r = and_parts (sign_impl.ghosts.eq s t) (sort_impl.ghosts.eq p q) h in
    ap₂ piece.Unless (sign_same s t r.0) (sort_same p q r.1)
piece_same (piece.Further s) (piece.Further t) h = ap piece.Further (sign_same s t h)
piece_same piece.Header piece.Header h = refl
piece_same (piece.Next s) (piece.Next t) h = ap piece.Next (sign_same s t h)
piece_same (piece.NextTwo s p) (piece.NextTwo t q) h =
    let r = and_parts (sign_impl.ghosts.eq s t) (sign_impl.ghosts.eq p q) h in
    ap₂ piece.NextTwo (sign_same s t r.0) (sign_same p q r.1)
piece_same (piece.NextName s) (piece.NextName t) h = ap piece.NextName (sign_same s t h)
piece_same piece.NextPointer piece.NextPointer h = refl
piece_same _ _ h = absurd (false≢true h)

pub pieces_same : (xs ys : List Piece) → IsTrue (pointwise piece_impl.ghosts.eq xs ys) → xs ≡ ys
pieces_same [] [] h = refl
pieces_same (x ∷ xs) (y ∷ ys) h =
    let p = and_parts (piece_impl.ghosts.eq x y) (pointwise piece_impl.ghosts.eq xs ys) h in
    ap₂ (λ z zs. z ∷ zs) (piece_same x y p.0) (pieces_same xs ys p.1)
pieces_same _ _ h = absurd (false≢true h)
