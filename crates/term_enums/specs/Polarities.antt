-- Opposite polarities, and which const bound satisfies which.
use Rattle.std.specs.Prelude.{Bool, true, false}
use Rattle.term_enums.specs.declared.PredicatePolarity.{PredicatePolarity}
use Rattle.term_enums.specs.declared.PredicatePolarity.TheVariants.{Positive, Negative}
use Rattle.term_enums.specs.declared.BoundConstness.{BoundConstness}
use Rattle.term_enums.specs.declared.BoundConstness.TheVariants.{Const, Maybe}

-- The other polarity.
abbrev pub flipped : PredicatePolarity → PredicatePolarity
flipped Positive = Negative
flipped Negative = Positive

-- A bound of the first constness satisfies one of the second, but for one that is const only where its context is, asked
-- to be const always.
abbrev pub satisfied : BoundConstness → BoundConstness → Bool
satisfied Const goal = true
satisfied Maybe Maybe = true
satisfied Maybe Const = false
