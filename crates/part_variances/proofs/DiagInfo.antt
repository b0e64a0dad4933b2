-- Laws of what is known of nested types.
use Rattle.std.proofs.Common.{refl}
use Rattle.part_variances.specs.declared.diag_info.VarianceDiagInfo.TheVariants.{None, Invariant}
use Rattle.part_variances.specs.DiagInfo.{NestingIsAssociative, NothingIsUnit}

pub nesting_is_associative : (Key : Type 0) → NestingIsAssociative Key
nesting_is_associative Key None b c = refl
nesting_is_associative Key (Invariant ty i) b c = refl

pub nothing_is_unit : (Key : Type 0) → NothingIsUnit Key
nothing_is_unit Key None = (refl, refl)
nothing_is_unit Key (Invariant ty i) = (refl, refl)
