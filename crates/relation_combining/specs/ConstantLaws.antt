-- Laws of constants.
use Rattle.std.specs.Prelude.{◌≢◌}
use Rattle.term_enums.specs.declared.Variance.{Variance}
use Rattle.term_enums.specs.declared.Variance.TheVariants.{Bivariant}
use Rattle.relation_terms.specs.Heads.{Sort, const_sort, value_sort, value_type_sort, pattern_sort}
use Rattle.relation_terms.specs.Heads.{value}
use Rattle.relation_terms.specs.Trees.{Tree, IsTerm}
use Rattle.relation_semantics.specs.Relation.{Items, Interpretation, Rel, at}

-- The sorts of constants, of what their values are made of, and of patterns.
abbrev pub IsConstantSort : Sort → Type 0
IsConstantSort const_sort = Unit {0}
IsConstantSort value_sort = Unit {0}
IsConstantSort value_type_sort = Unit {0}
IsConstantSort pattern_sort = Unit {0}
IsConstantSort s = ⊥

-- Constants, value trees and patterns are related alike at every variance but bivariance.
abbrev pub ConstantsAtEachVariance : Type 0
ConstantsAtEachVariance = (c : Items) (w : Interpretation) (e : Tree) (v v' : Variance) (s : Sort) (a b : Tree) →
    IsConstantSort s → IsTerm s a → v ≢ Bivariant → v' ≢ Bivariant → Rel c w e (at v) a b → Rel c w e (at v') a b
