-- Rows, and what is written of them.
use Rattle.std.proofs.Common.{zero, ◌≡◌, ap, ◌∙◌, sym, subst, refl, ℕ, ◌<◌, ◌≤◌, ◌⊎◌, ◌↔◌, ◌+◌, ◌-◌, Bool, true, false, IsTrue, List, [], ◌∷◌, Option, Some, None, IfSome, IsSome, MatchOption, length, get_or, take, suc, arith, slice_range}
use Rattle.std.proofs.lemmas.Bool.{false≢true}
use Rattle.std.specs.List.{slice_get}
use Rattle.std.specs.Option.{option_eq}
use denote.Bor.{Bor}
use lib.Pointwise.{pointwise}
use Rattle.text_reading.specs.contracts.reading.shapes.PiecePartialEq.TheImpl as piece_impl
use Rattle.text_reading.specs.Shapes.{Shape, rows_in}
use Rattle.text_reading.specs.declared.reading.shapes.Piece.{Piece}
use Rattle.std.specs.Bool.{OnTrue, OnFalse}
use Rattle.text_reading.specs.declared.reading.shapes.Piece.TheVariants as piece
use Rattle.text_reading.specs.declared.reading.signs.Sign.{Sign}
use Rattle.text_reading.specs.declared.reading.words.Word.{Word}
use Rattle.text_reading.specs.Words.{StandsAt}
use Rattle.text_reading.specs.Written.{pieces_at, AreAlike, IsWritten, AreWritten, HasRead, EndsBefore, Stops, IsOfRows}
use Rattle.text_reading.proofs.PieceLemmas.{pieces_same}
use Rattle.text_reading.proofs.ShapeLemmas.{get_below}

-- the pieces of a row that is there
pub at_row : (rs : List Shape) (d : Shape) (k : ℕ) → k < length rs → (get_or rs k d).1.now ≡ pieces_at rs k
at_row [] d k b = absurd (omega (arith, b))
at_row (r ∷ rs) d zero b = refl
at_row (r ∷ rs) d (suc k) b = at_row rs d k (omega (arith, b))

-- what a test of two rows' first pieces has told
alike_lists : (n : ℕ) (xs ys : List Piece) (o p : Option (Bor (List Piece))) → IsSome o →
    IfSome o (λ (x : Bor (List Piece)). x.now ≡ take n xs) →
    IfSome p (λ (y : Bor (List Piece)). (n ≤ length ys) × (y.now ≡ take n ys)) →
    IsTrue (option_eq {T = Bor (List Piece)} (λ x y. pointwise piece_impl.ghosts.eq x.now y.now) o p) →
    (take n xs ≡ take n ys) × (n ≤ length ys)
alike_lists n xs ys (Some x) (Some y) s a b h = (sym a ∙ pieces_same x.now y.now h ∙ b.1, b.0)
alike_lists n xs ys (Some x) None s a b h = absurd (false≢true h)
alike_lists n xs ys None p s a b h = absurd (false≢true s)

got : (n : ℕ) (xs : List Piece) (o : Option (Bor (List Piece))) →
    MatchOption o ((n < 0) ⊎ (length xs < n)) (λ (x : Bor (List Piece)). (0 ≤ n) × (n ≤ length xs) × (x.now ≡ slice_range xs 0 n) × (length x.now + 0 ≡ n)) →
    IfSome o (λ (x : Bor (List Piece)). (n ≤ length xs) × (x.now ≡ take n xs))
got n xs None m = tt
got n xs (Some x) m =
    let e : n - 0 ≡ n = omega arith in
    (m.1, subst (λ z. x.now ≡ take z xs) e m.2)

only_now : (n : ℕ) (xs : List Piece) (o : Option (Bor (List Piece))) →
    IfSome o (λ (x : Bor (List Piece)). (n ≤ length xs) × (x.now ≡ take n xs)) →
    IfSome o (λ (x : Bor (List Piece)). x.now ≡ take n xs)
only_now n xs None m = tt
only_now n xs (Some x) m = m.1

pub alike_rows : (rs : List Shape) (d : Shape) (n k j : ℕ) (o p : Option (Bor (List Piece))) →
    k < length rs → j < length rs → n ≤ length (pieces_at rs k) →
    (let xs = (get_or rs k d).1.now in
    MatchOption o ((n < 0) ⊎ (length xs < n)) (λ (x : Bor (List Piece)). (0 ≤ n) × (n ≤ length xs) × (x.now ≡ slice_range xs 0 n) × (length x.now + 0 ≡ n))
    × ((0 ≤ n) × (n ≤ length xs) → IsSome o)) →
    (let ys = (get_or rs j d).1.now in
    MatchOption p ((n < 0) ⊎ (length ys < n)) (λ (x : Bor (List Piece)). (0 ≤ n) × (n ≤ length ys) × (x.now ≡ slice_range ys 0 n) × (length x.now + 0 ≡ n))) →
    IsTrue (option_eq {T = Bor (List Piece)} (λ x y. pointwise piece_impl.ghosts.eq x.now y.now) o p) →
    AreAlike rs n k j
alike_rows rs d n k j o p bk bj w a b h =
    let xs = (get_or rs k d).1.now in
    let ys = (get_or rs j d).1.now in
    let ek = at_row rs d k bk in
    let ej = at_row rs d j bj in
    let there : n ≤ length xs = subst (λ z. n ≤ length z) (sym ek) w in
    let r = alike_lists n xs ys o p (a.1 (omega arith, there)) (only_now n xs o (got n xs o a.0)) (got n ys p b) h in
    (ap (take n) (sym ek) ∙ r.0 ∙ ap (take n) ej, subst (λ z. n ≤ length z) ej r.1)

-- what was read so far is written as the first pieces of that row
abbrev pub IsSoFar : List Word → List Shape → ℕ → ℕ → ℕ → ℕ → Type 0
IsSoFar ws rs row at from to =
    (at ≤ length (pieces_at rs row)) × AreWritten ws (take at (pieces_at rs row)) from to

none_yet : (ws : List Word) (ps : List Piece) (from : ℕ) → AreWritten ws (take 0 ps) from from
none_yet ws ps from = refl

pub begins : (ws : List Word) (rs : List Shape) (row from : ℕ) → IsSoFar ws rs row 0 from from
begins ws rs row from = (omega arith, none_yet ws (pieces_at rs row) from)

one_more : (ws : List Word) (ps : List Piece) (n : ℕ) (p : Piece) (from j k : ℕ) → AreWritten ws (take n ps) from j →
    slice_get ps n ≡ Some p → IsWritten ws p j k → AreWritten ws (take (suc n) ps) from k
one_more ws [] n p from j k w e h = absurd cc
one_more ws (q ∷ ps) zero p from j k w e h =
    let same : q ≡ p = cc in
    (k, subst (λ z. IsWritten ws z from k) (sym same) (subst (λ z. IsWritten ws p z k) (sym w) h), refl)
one_more ws (q ∷ ps) (suc n) p from j k w e h = (w.0, w.1, one_more ws ps n p w.0 j k w.2 e h)

is_within : (ps : List Piece) (n : ℕ) (p : Piece) → slice_get ps n ≡ Some p → n + 1 ≤ length ps
is_within ps n p e = let b = get_below ps n p e in omega (arith, b)

along : (ws : List Word) (rs : List Shape) (row j at from to : ℕ) → IsSoFar ws rs row at from to →
    AreAlike rs at row j → AreWritten ws (take at (pieces_at rs j)) from to
along ws rs row j at from to w a = subst (λ ps. AreWritten ws ps from to) a.0 w.1

-- a piece more was read
pub goes_on : (ws vs : List Word) (rs : List Shape) (row j at from to behind : ℕ) (p : Piece) → vs ≡ ws →
    IsSoFar ws rs row at from to → AreAlike rs at row j → slice_get (pieces_at rs j) at ≡ Some p →
    HasRead vs p to behind true → IsSoFar ws rs j (at + 1) from behind
goes_on ws vs rs row j at from to behind p v w a e h =
    let n : suc at ≡ at + 1 = omega arith in (
      is_within (pieces_at rs j) at p e,
      subst (λ m. AreWritten ws (take m (pieces_at rs j)) from behind) n
          (one_more ws (pieces_at rs j) at p from to behind (along ws rs row j at from to w a) e
          (subst (λ us. IsWritten us p to behind) v h)),
    )

of_rows : (ws : List Word) (rs : List Shape) (d : Shape) (j n from to : ℕ) → j < length rs →
    AreWritten ws (take n (pieces_at rs j)) from to → EndsBefore ws (slice_get (pieces_at rs j) n) to →
    IsOfRows ws (rows_in rs) from to (get_or rs j d).0
of_rows ws [] d j n from to b w e = absurd (omega (arith, b))
of_rows ws (r ∷ rs) d zero n from to b w e = (0, (refl, (n, w, e)))
of_rows ws (r ∷ rs) d (suc j) n from to b w e =
    let h = of_rows ws rs d j n from to (omega (arith, b)) w e in (suc h.0, h.1)

-- all pieces of a row were read
pub ends_behind : (ws : List Word) (rs : List Shape) (d : Shape) (row j at from to : ℕ) → j < length rs →
    IsSoFar ws rs row at from to → AreAlike rs at row j → slice_get (pieces_at rs j) at ≡ None →
    IsOfRows ws (rows_in rs) from to (get_or rs j d).0
ends_behind ws rs d row j at from to b w a e =
    of_rows ws rs d j at from to b (along ws rs row j at from to w a) (subst (λ o. EndsBefore ws o to) (sym e) tt)

-- a form ended before a piece
pub ends_before : (ws vs : List Word) (rs : List Shape) (d : Shape) (row j at from to behind : ℕ) (p : Piece) →
    vs ≡ ws → j < length rs → IsSoFar ws rs row at from to → AreAlike rs at row j →
    slice_get (pieces_at rs j) at ≡ Some p → HasRead vs p to behind false →
    IsOfRows ws (rows_in rs) from behind (get_or rs j d).0
ends_before ws vs rs d row j at from to behind p v b w a e h =
    of_rows ws rs d j at from behind b
    (subst (λ z. AreWritten ws (take at (pieces_at rs j)) from z) (sym h.1) (along ws rs row j at from to w a))
    (subst (λ o. EndsBefore ws o behind) (sym e) (subst (λ us. Stops us p behind) v h.0))

-- a sign behind which a form may go on
pub further : (ws : List Word) (s : Sign) (from to : ℕ) (b : Bool) → (IsTrue b ↔ StandsAt ws from s) →
    OnTrue b (to ≡ suc from) → OnFalse b (to ≡ from) → HasRead ws (piece.Further s) from to b
further ws s from to true i o f = (i.0 refl, o)
further ws s from to false i o f = (λ h. false≢true (i.1 (subst (λ k. StandsAt ws k s) f h)), f)
