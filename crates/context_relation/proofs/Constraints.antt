-- What is asked of two regions at a variance.
use Rattle.std.proofs.Common.{◌≡◌, sym, IfSome}
use Rattle.term_enums.specs.declared.Variance.{Variance}
use Rattle.term_enums.specs.declared.Variance.TheVariants.{Covariant, Contravariant, Invariant}
use Rattle.term_enums.specs.declared.Variance.TheVariants.{Bivariant}
use Rattle.relation_terms.specs.declared.terms.keys.RegionKey.{RegionKey}
use Rattle.relation_terms.specs.Trees.{Assign, apply}
use Rattle.relation_terms.specs.Meaning.{Meaning}
use Rattle.relation_semantics.specs.Relation.{Interpretation, RegionRule, itself}
use Rattle.relation_semantics.specs.Stores.{Store, IsRegionIn, ConstraintIn, ConstraintHolds}
use Rattle.relation_semantics.specs.Constraints.{constraint_at, constraint_of}

module _ {Key Id Name : Type 0} (m : Meaning Key Id Name) where
  -- It is of a store that has the regions.
  pub asked_in : (st : Store) (a b : RegionKey Key) (v : Variance) → IsRegionIn st (m.region a) →
      IsRegionIn st (m.region b) → IfSome (constraint_at v a b) (λ c. ConstraintIn st (constraint_of m c))
  asked_in st a b Covariant h k = (h, k)
  asked_in st a b Contravariant h k = (k, h)
  asked_in st a b Invariant h k = (h, k)
  asked_in st a b Bivariant h k = tt

  -- It makes them related.
  pub asked_relates : (a b : RegionKey Key) (w : Interpretation) (s : Assign) (v : Variance) →
      IfSome (constraint_at v a b) (λ c. ConstraintHolds w s (constraint_of m c) →
      RegionRule w v (apply s (m.region a)) (apply s (m.region b)))
  asked_relates a b w s Covariant = λ h. h
  asked_relates a b w s Contravariant = λ h. h
  asked_relates a b w s Invariant = λ h. h
  asked_relates a b w s Bivariant = tt

  -- It is met where they are one.
  pub asked_met : (a b : RegionKey Key) (w : Interpretation) (s : Assign) (v : Variance) →
      apply s (m.region a) ≡ apply s (m.region b) →
      IfSome (constraint_at v a b) (λ c. ConstraintHolds w s (constraint_of m c))
  asked_met a b w s Covariant e = itself e
  asked_met a b w s Contravariant e = itself (sym e)
  asked_met a b w s Invariant e = (itself e, itself (sym e))
  asked_met a b w s Bivariant e = tt
