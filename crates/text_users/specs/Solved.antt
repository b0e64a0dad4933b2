-- What an answer names is known.
use Rattle.std.specs.Prelude.{Bool, IsTrue, All}
use Rattle.relation_terms.specs.declared.predicate.regions.OutlivesPredicate.{OutlivesPredicate}
use Rattle.relation_terms.specs.declared.terms.keys.RegionKey.{RegionKey}
use Rattle.relation_terms.specs.Trees.{known}
use Rattle.relation_terms.specs.Meaning.{Meaning}
use Rattle.relation_regions.specs.declared.solving.Solved.{Solved}
use Rattle.relation_regions.specs.declared.solving.Solved.TheVariants.{Met, Unmet}

module _ {Key : Type 0} (is : RegionKey Key → Bool) where
  -- Both regions are such.
  abbrev pub AreSuch : OutlivesPredicate Key (RegionKey Key) → Type 0
  AreSuch p = IsTrue (is p.0) × IsTrue (is p.1)

  -- All regions are such that an answer names.
  abbrev pub NamesSuch : Solved Key → Type 0
  NamesSuch (Met values) = All AreSuch values.items
  NamesSuch (Unmet longer shorter by) = IsTrue (is longer) × IsTrue (is shorter)

-- All are known.
abbrev pub KnowsSolved : {Key Id Name : Type 0} → Meaning Key Id Name → Solved Key → Type 0
KnowsSolved m solved = NamesSuch (λ r. known (m.region r)) solved
