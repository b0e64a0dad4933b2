-- How polarities and the constness of a bound are written.
use Rattle.std.specs.Prelude.{ℕ, List, codes}
use Rattle.term_enums.specs.declared.ImplPolarity.{ImplPolarity}
use Rattle.term_enums.specs.declared.ImplPolarity.TheVariants as impl_polarity
use Rattle.term_enums.specs.declared.PredicatePolarity.{PredicatePolarity}
use Rattle.term_enums.specs.declared.PredicatePolarity.TheVariants as polarity
use Rattle.term_enums.specs.declared.BoundConstness.{BoundConstness}
use Rattle.term_enums.specs.declared.BoundConstness.TheVariants as constness

-- the name of an impl's polarity
abbrev pub impl_polarity_text : ImplPolarity → List ℕ
impl_polarity_text impl_polarity.Positive = codes "positive"
impl_polarity_text impl_polarity.Negative = codes "negative"
impl_polarity_text impl_polarity.Reservation = codes "reservation"

-- what stands before the trait in an impl of the polarity
abbrev pub impl_polarity_mark : ImplPolarity → List ℕ
impl_polarity_mark impl_polarity.Positive = codes ""
impl_polarity_mark impl_polarity.Negative = codes "!"
impl_polarity_mark impl_polarity.Reservation = codes ""

-- the name of a predicate's polarity
abbrev pub polarity_text : PredicatePolarity → List ℕ
polarity_text polarity.Positive = codes "positive"
polarity_text polarity.Negative = codes "negative"

-- what stands before the trait in a const bound
abbrev pub constness_text : BoundConstness → List ℕ
constness_text constness.Const = codes "const"
constness_text constness.Maybe = codes "[const]"
