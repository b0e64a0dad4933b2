-- How the marks of what is claimed of a trait are written: by the signs that reading takes.
use Rattle.std.specs.Prelude.{ℕ, List, ◌++◌, codes}
use Rattle.term_enums.specs.declared.PredicatePolarity.{PredicatePolarity}
use Rattle.term_enums.specs.declared.PredicatePolarity.TheVariants as polarity
use Rattle.term_enums.specs.declared.BoundConstness.{BoundConstness}
use Rattle.term_enums.specs.declared.BoundConstness.TheVariants as constness
use Rattle.text_reading.specs.declared.reading.signs.Sign.TheVariants as sign
use Rattle.text_reading.specs.Signs.{spelling}

-- what stands before a trait that is implemented, or is not
abbrev pub polarity_text : PredicatePolarity → List ℕ
polarity_text polarity.Positive = codes ""
polarity_text polarity.Negative = spelling sign.Bang

-- what stands before a trait that is implemented in const contexts too, and a blank
abbrev pub constness_text : BoundConstness → List ℕ
constness_text constness.Const = spelling sign.Const ++ codes " "
constness_text constness.Maybe =
    spelling sign.LeftBracket ++ (spelling sign.Const ++ (spelling sign.RightBracket ++ codes " "))
