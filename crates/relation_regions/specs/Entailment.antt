-- What facts on regions entail of two terms.
--
--   HasLongest w t               'static outlives each region that stands in t
--   IsModel facts w a b          the facts hold in a world, and 'static outlives each region of the two terms
--   FactsEntail facts c e v a b  a and b are related at v, in environment e, in each such world; c declares items'
--                                variances
--   AreBareValues a b            two terms of one sort without variables, binders, aliases and errors
--   RecordFollows facts st       what st has recorded of regions follows of the facts
use Rattle.std.specs.Prelude.{◌≡◌, List, All, Contains}
use Rattle.term_enums.specs.declared.Variance.{Variance}
use Rattle.relation_terms.specs.Heads.{Sort, region_sort, leaf_sort}
use Rattle.relation_terms.specs.Trees.{Tree, leaf, Leaves, Assign}
use Rattle.relation_semantics.specs.Relation.{Items, Interpretation, Outlives, Rel, at, IsValue}
use Rattle.relation_semantics.specs.Stores.{Store, ConstraintHolds}
use Rattle.context_relation.specs.Completing.{IsBareTerm}
use Rattle.relation_regions.specs.Worlds.{static, IsWorld}

-- 'static outlives each region of a term.
abbrev pub HasLongest : Interpretation → Tree → Type 0
HasLongest w t = Leaves (λ l. leaf_sort l ≡ region_sort → Outlives w static (leaf l)) t

-- The facts hold, and 'static outlives each region of the two terms; whatever else does.
pub record IsModel (facts : List (Tree × Tree)) (w : Interpretation) (a b : Tree) : Type 0 where
  pub facts_hold : (x y : Tree) → Contains facts (x, y) → Outlives w x y
  pub left_longest : HasLongest w a
  pub right_longest : HasLongest w b

-- Wherever that is so the two are related.
abbrev pub FactsEntail : List (Tree × Tree) → Items → Tree → Variance → Tree → Tree → Type 0
FactsEntail facts c e v a b = (w : Interpretation) → IsModel facts w a b → Rel c w e (at v) a b

-- Two terms of one sort in which no variable, no binder, no alias and no error stands.
pub record AreBareValues (a b : Tree) : Type 0 where
  pub sort : Sort
  pub left_value : IsValue sort a
  pub right_value : IsValue sort b
  pub left_bare : IsBareTerm a
  pub right_bare : IsBareTerm b

-- All constraints that are recorded hold in each world of the facts.
abbrev pub RecordFollows : List (Tree × Tree) → Store → Type 0
RecordFollows facts st = (w : Interpretation) (s : Assign) → IsWorld facts st w s →
    All (ConstraintHolds w s) st.constraints
