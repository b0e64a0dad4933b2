-- Which number has which region.
use Rattle.std.specs.Prelude.{◌≡◌, ℕ, ◌<◌, List, map}
use Rattle.relation_terms.specs.declared.predicate.regions.OutlivesPredicate.{OutlivesPredicate}
use Rattle.relation_terms.specs.declared.terms.keys.RegionKey.{RegionKey}
use Rattle.relation_terms.specs.Trees.{Tree}
use Rattle.relation_regions.specs.Reading.{numbered}

-- A region has a number, whatever trees regions mean.
abbrev pub IsRegionAt : {Key : Type 0} → List (RegionKey Key) → ℕ → RegionKey Key → Type 0
IsRegionAt {Key} keys i r = (tree : RegionKey Key → Tree) → tree r ≡ numbered (map tree keys) i

-- Numbers below a bound.
abbrev pub AreBelow : ℕ → ℕ × ℕ → Type 0
AreBelow bound p = (p.0 < bound) × (p.1 < bound)

-- The regions of a pair of numbers.
abbrev pub regions_at : List Tree → ℕ × ℕ → Tree × Tree
regions_at trees p = (numbered trees p.0, numbered trees p.1)

-- One after another these have the regions of pairs of numbers, whatever trees regions mean.
abbrev pub AreRegionsOf : {Key : Type 0} → List (RegionKey Key) → List (ℕ × ℕ) →
    List (OutlivesPredicate Key (RegionKey Key)) → Type 0
AreRegionsOf {Key} keys pairs out = (tree : RegionKey Key → Tree) →
    map (λ p. (tree p.0, tree p.1)) out ≡ map (regions_at (map tree keys)) pairs
