-- Variances, and how they compose.
use Rattle.term_enums.specs.declared.Variance.{Variance}
use Rattle.term_enums.specs.declared.Variance.TheVariants.{Covariant, Contravariant, Invariant}
use Rattle.term_enums.specs.declared.Variance.TheVariants.{Bivariant}

-- The variance of a part at variance `w` of what stands at variance `v`.
abbrev pub xform : Variance → Variance → Variance
xform Covariant w = w
xform Contravariant Covariant = Contravariant
xform Contravariant Contravariant = Covariant
xform Contravariant Invariant = Invariant
xform Contravariant Bivariant = Bivariant
xform Invariant w = Invariant
xform Bivariant w = Bivariant
