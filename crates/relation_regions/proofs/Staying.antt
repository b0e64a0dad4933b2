-- Facts of a context are facts of a later one, and of the same regions.
use Rattle.std.proofs.Common.{◌≡◌, List, [], ◌∷◌, ap₂, sym, subst, refl, All, get_or}
use Rattle.std.proofs.lemmas.List.Elements.{All-head, All-tail}
use Rattle.relation_terms.specs.declared.predicate.regions.OutlivesPredicate.{OutlivesPredicate}
use Rattle.relation_terms.specs.declared.terms.keys.RegionKey.{RegionKey}
use Rattle.relation_terms.specs.Heads.{region_var}
use Rattle.relation_terms.specs.Meaning.{Meaning, Extends}
use Rattle.relation_terms.specs.Trees.{Tree}
use Rattle.relation_semantics.specs.Contexts.{Context}
use Rattle.relation_semantics.specs.ContextCalls.{IsNotVariable}
use Rattle.relation_semantics.specs.Steps.{IsLater}
use Rattle.relation_semantics.specs.Stores.{Store, IsRegionIn}
use Rattle.relation_semantics.proofs.Standing.{later_term}
use Rattle.relation_regions.specs.Solving.{IsFactIn, region_pair, region_pairs}
use Rattle.relation_regions.proofs.RegionNumbers.{region_known}

later_region : (before after : Store) (t : Tree) → IsLater before after → IsRegionIn before t → IsRegionIn after t
later_region before after t later h = (h.0, later_term before after later.grows later.universe_stands t h.1)

module _ {Key Id Name : Type 0} (c : Context Key Id Name) where
  longer_is : (m : Meaning Key Id Name) (f : OutlivesPredicate Key (RegionKey Key)) → Extends c.meaning m →
      IsFactIn c f → m.region f.0 ≡ (c.meaning).region f.0
  longer_is m f grown h = grown.region f.0 (region_known c.store ((c.meaning).region f.0) h.longer_in)

  shorter_is : (m : Meaning Key Id Name) (f : OutlivesPredicate Key (RegionKey Key)) → Extends c.meaning m →
      IsFactIn c f → m.region f.1 ≡ (c.meaning).region f.1
  shorter_is m f grown h = grown.region f.1 (region_known c.store ((c.meaning).region f.1) h.shorter_in)

  fact_stays : (d : Context Key Id Name) (f : OutlivesPredicate Key (RegionKey Key)) →
      Extends c.meaning d.meaning → IsLater c.store d.store → IsFactIn c f → IsFactIn d f
  fact_stays d f grown later h =
      let x = longer_is d.meaning f grown h in
      let y = shorter_is d.meaning f grown h in
      record {
        longer_in = subst (IsRegionIn d.store) (sym x)
            (later_region c.store d.store ((c.meaning).region f.0) later h.longer_in);
        shorter_in = subst (IsRegionIn d.store) (sym y)
            (later_region c.store d.store ((c.meaning).region f.1) later h.shorter_in);
        longer_no_variable = subst (IsNotVariable region_var) (sym x) h.longer_no_variable;
        shorter_no_variable = subst (IsNotVariable region_var) (sym y) h.shorter_no_variable;
      }

  pub facts_later : (d : Context Key Id Name) (facts : List (OutlivesPredicate Key (RegionKey Key))) →
      Extends c.meaning d.meaning → IsLater c.store d.store → All (IsFactIn c) facts → All (IsFactIn d) facts
  facts_later d facts grown later all = λ i x lt. fact_stays d (get_or facts i x) grown later (all i x lt)

  pub pairs_stay : (m : Meaning Key Id Name) (facts : List (OutlivesPredicate Key (RegionKey Key))) →
      Extends c.meaning m → All (IsFactIn c) facts → region_pairs m facts ≡ region_pairs c.meaning facts
  pairs_stay m [] grown all = refl
  pairs_stay m (f ∷ fs) grown all =
      let h = All-head (IsFactIn c) f fs all in
      let same : region_pair m f ≡ region_pair c.meaning f = ap₂ (λ (x y : Tree). (x, y)) (longer_is m f grown h)
      (shorter_is m f grown h) in
      ap₂ (λ p ps. p ∷ ps) same (pairs_stay m fs grown (All-tail (IsFactIn c) f fs all))
