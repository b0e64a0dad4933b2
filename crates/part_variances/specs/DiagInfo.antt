-- What is known for an error's explanation where types are nested.
use Rattle.std.specs.Prelude.{◌≡◌}
use Rattle.part_variances.specs.declared.diag_info.VarianceDiagInfo.{VarianceDiagInfo}
use Rattle.part_variances.specs.declared.diag_info.VarianceDiagInfo.TheVariants.{None, Invariant}

-- The first that says something.
abbrev pub first_invariant : {Key : Type 0} → VarianceDiagInfo Key → VarianceDiagInfo Key → VarianceDiagInfo Key
first_invariant None other = other
first_invariant (Invariant ty i) other = Invariant ty i

-- Of three in a row it is the same from the left and from the right.
abbrev pub NestingIsAssociative : Type 0 → Type 0
NestingIsAssociative Key = (a b c : VarianceDiagInfo Key) →
    first_invariant (first_invariant a b) c ≡ first_invariant a (first_invariant b c)

-- Knowing nothing changes nothing, on either side.
abbrev pub NothingIsUnit : Type 0 → Type 0
NothingIsUnit Key = (a : VarianceDiagInfo Key) → (first_invariant None a ≡ a) × (first_invariant a None ≡ a)
