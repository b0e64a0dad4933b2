-- What is stated of regions, as facts.
use Rattle.std.specs.Prelude.{List, [], ◌∷◌, ◌++◌, IsTrue}
use Rattle.relation_terms.specs.declared.predicate.regions.OutlivesPredicate.{OutlivesPredicate}
use Rattle.relation_terms.specs.declared.terms.keys.RegionKey.{RegionKey}
use Rattle.relation_terms.specs.declared.terms.generic_arg.GenericArgKind.{GenericArgKind}
use Rattle.relation_terms.specs.declared.terms.generic_arg.GenericArgKind.TheVariants.{Lifetime, Ty, Const}
use Rattle.relation_terms.specs.Trees.{known}
use Rattle.relation_terms.specs.Meaning.{Meaning, arg_tree}

-- What is stated is of known terms.
abbrev pub IsStated : {Key Id Name : Type 0} → Meaning Key Id Name → OutlivesPredicate Key (GenericArgKind Key) → Type 0
IsStated m a = IsTrue (known (arg_tree m a.0)) × IsTrue (known (m.region a.1))

module _ {Key : Type 0} where
  -- That a region outlives another one is a fact. That another term does is none.
  abbrev pub fact_by : GenericArgKind Key → RegionKey Key → List (OutlivesPredicate Key (RegionKey Key))
  fact_by (Lifetime r) s = record { 0 = r; 1 = s } ∷ []
  fact_by (Ty t) s = []
  fact_by (Const t) s = []

  abbrev pub fact_of : OutlivesPredicate Key (GenericArgKind Key) → List (OutlivesPredicate Key (RegionKey Key))
  fact_of a = fact_by a.0 a.1

  abbrev pub facts_of : List (OutlivesPredicate Key (GenericArgKind Key)) → List (OutlivesPredicate Key (RegionKey Key))
  facts_of [] = []
  facts_of (a ∷ rest) = fact_of a ++ facts_of rest
