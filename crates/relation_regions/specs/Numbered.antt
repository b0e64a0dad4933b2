-- What is answered of numbers, by the regions that have them.
use Rattle.std.specs.Prelude.{◌≡◌, ℕ, ◌≤◌, ◌^◌, List, length, get_or, map}
use Rattle.relation_terms.specs.declared.predicate.regions.OutlivesPredicate.{OutlivesPredicate}
use Rattle.relation_terms.specs.declared.terms.keys.RegionKey.{RegionKey}
use Rattle.relation_regions.specs.declared.building.Pairs.{Pairs}
use Rattle.relation_regions.specs.declared.solving.Solved.{Solved}
use Rattle.relation_regions.specs.declared.solving.Solved.TheVariants.{Met, Unmet}
use Rattle.relation_regions.specs.declared.standing.Standing.{Standing}
use Rattle.relation_regions.specs.Building.{ArePairs}
use Rattle.relation_regions.specs.Demands.{Meets, Refutes}
use Rattle.relation_regions.specs.Numbering.{IsRegionAt, AreRegionsOf}

module _ {Key : Type 0} (keys : List (RegionKey Key)) (standings : List Standing) (asked : Pairs) (said : List ℕ)
    (known : Pairs) where
  -- The regions have numbers of 32 bits, the pairs are of such numbers, and of each pair it is said what asks for it.
  pub record AreWithin : Type 0 where
    pub fits : length keys ≤ 2 ^ 32
    pub each_stands : length standings ≡ length keys
    pub each_said : length said ≡ length asked.shorter.items
    pub asked_pairs : ArePairs (length standings) asked
    pub known_pairs : ArePairs (length standings) known

  -- The numbers meet what is asked, and the values are their regions.
  pub record AreMet (values : List (OutlivesPredicate Key (RegionKey Key))) : Type 0 where
    pub numbers : List (ℕ × ℕ)
    pub meets : Meets standings asked known numbers
    pub values_are : AreRegionsOf keys numbers values

  -- Two numbers refute what is asked, these are their regions, and this asks for the pairs that show it.
  pub record AreUnmet (longer shorter : RegionKey Key) (by : List ℕ) : Type 0 where
    pub first : ℕ
    pub second : ℕ
    pub places : List ℕ
    pub refutes : Refutes standings asked known first second places
    pub longer_at : IsRegionAt keys first longer
    pub shorter_at : IsRegionAt keys second shorter
    pub by_is : by ≡ map (λ k. get_or said k 0) places

  abbrev pub IsAnswer : Solved Key → Type 0
  IsAnswer (Met values) = AreMet values.items
  IsAnswer (Unmet longer shorter by) = AreUnmet longer shorter by.items
