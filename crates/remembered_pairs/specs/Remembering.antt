-- What is remembered of pairs.
use Rattle.std.specs.Prelude.{◌≡◌, Bool, List, Contains, IsTrue}
use Rattle.term_enums.specs.declared.Variance.{Variance}

-- Two that equal these, side by side, are among pairs that were related at a variance.
pub record IsRemembered {T : Type 0} (eq : T → T → Bool) (v : Variance) (a b : T) (ps : List (Variance × T × T))
    : Type 0 where
  pub pair : Variance × T × T
  pub is_in : Contains ps pair
  pub variance : pair.0 ≡ v
  pub left : IsTrue (eq a pair.1)
  pub right : IsTrue (eq b pair.2)
