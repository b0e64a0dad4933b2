-- What is asked of two types where one is an alias.
use Rattle.std.specs.Prelude.{Option, Some, None}
use Rattle.term_enums.specs.declared.Variance.{Variance}
use Rattle.term_enums.specs.declared.Variance.TheVariants.{Covariant, Contravariant, Invariant, Bivariant}
use Rattle.term_enums.specs.declared.AliasRelationDirection.TheVariants.{Equate, Subtype}
use Rattle.relation_terms.specs.Trees.{Tree}
use Rattle.relation_semantics.specs.Goals.{alias_relate_predicate}

-- What is asked of two types, one an alias, that are related at a variance: at covariance that the first is a subtype
-- of the second, at contravariance that the second is one of the first, at invariance that both are equal.
abbrev pub alias_at : Variance → Tree → Tree → Option Tree
alias_at Covariant a b = Some (alias_relate_predicate Subtype a b)
alias_at Contravariant a b = Some (alias_relate_predicate Subtype b a)
alias_at Invariant a b = Some (alias_relate_predicate Equate a b)
alias_at Bivariant a b = None
