-- What calls of a writer wrote together.
use Rattle.std.proofs.Common.{ℕ, List, [], ◌∷◌, ◌++◌, Result, Ok, Err, IsOk, OnOk, codes, refl, sym, ap, ◌∙◌, subst}
use Rattle.std.proofs.lemmas.List.{append-nil}
use Rattle.std.proofs.lemmas.List.Folds.{concat-append}
use Rattle.std.specs.List.{concat, FoldsTo}
use Rattle.std.specs.Fmt.{WritesInCalls}
use Rattle.std.specs.declared.fmt.Error.{Error}
use Rattle.text_reading.specs.declared.reading.error.Expected.{Expected}
use Rattle.text_reading.specs.declared.reading.error.ReadError.TheVariants.{Unexpected}
use Rattle.text_reading.specs.declared.naming.error.Wrong as wrong
use Rattle.text_reading.specs.declared.naming.error.NameError.TheVariants.{Wrong}
use Rattle.text_reading.specs.Errors.{expected_text, found_text, IsFound, WritesError}
use Rattle.text_reading.specs.Names.{wrong_text, WritesNameError}

module _ {W : Type 0} (took : W → List ℕ → W → Type 0) where
  -- One call.
  pub one_call : (w : W) (bs : List ℕ) (v : W) → took w bs v → WritesInCalls took w bs v
  one_call w bs v t = record { parts = bs ∷ []; calls = (v, t, refl); whole = append-nil bs }

  folds_on : (w : W) (xs : List (List ℕ)) (v : W) (ys : List (List ℕ)) (u : W) → FoldsTo took w xs v →
      FoldsTo took v ys u → FoldsTo took w (xs ++ ys) u
  folds_on w [] v ys u p q = let P : W → Type 0 = λ x. FoldsTo took x ys u in subst P (sym p) q
  folds_on w (x ∷ xs) v ys u p q = (p.0, p.1, folds_on p.0 xs v ys u p.2 q)

  -- Calls behind others.
  pub more_calls : (w : W) (a : List ℕ) (v : W) (b : List ℕ) (u : W) → WritesInCalls took w a v →
      WritesInCalls took v b u → WritesInCalls took w (a ++ b) u
  more_calls w a v b u p q = record {
    parts = p.parts ++ q.parts;
    calls = folds_on w p.parts v q.parts u p.calls q.calls;
    whole = concat-append p.parts q.parts ∙ ap (λ l. l ++ concat q.parts) p.whole ∙ ap (λ l. a ++ l) q.whole;
  }

  -- A text that is written by one call, if it is.
  pub text_written : (r : Result (Unit {0}) Error) (w : W) (bs : List ℕ) (v : W) → (IsOk r → took w bs v) →
      OnOk r (WritesInCalls took w bs v)
  text_written (Ok x) w bs v h = one_call w bs v (h refl)
  text_written (Err e) w bs v h = tt

  -- Why something else was expected, and what was found.
  pub unexpected_written : (r : Result (Unit {0}) Error) (text : List ℕ) (at end : ℕ) (e : Expected) (found : List ℕ)
      (w v u x : W) → took w (codes "expected ") v → WritesInCalls took v (expected_text e) u →
      IsFound text at end found → OnOk r (WritesInCalls took u (found_text found) x) →
      OnOk r (WritesError took text (Unexpected at end e) w x)
  unexpected_written (Ok y) text at end e found w v u x a b f h = (
    found,
    f,
    more_calls w (codes "expected ") v _ x (one_call w (codes "expected ") v a)
        (more_calls v (expected_text e) u (found_text found) x b h),
  )
  unexpected_written (Err y) text at end e found w v u x a b f h = tt

  -- What is wrong, and what was found.
  pub wrong_written : (r : Result (Unit {0}) Error) (text : List ℕ) (at end : ℕ) (why : wrong.Wrong) (found : List ℕ)
      (w v : W) → IsFound text at end found → OnOk r (WritesInCalls took w (wrong_text found why) v) →
      OnOk r (WritesNameError took text (Wrong at end why) w v)
  wrong_written (Ok y) text at end why found w v f h = (found, f, h)
  wrong_written (Err y) text at end why found w v f h = tt
