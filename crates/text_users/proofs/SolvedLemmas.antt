-- What solving answers is of regions that the interner knows.
use Rattle.std.proofs.Common.{◌≡◌, ◌<◌, ◌⊎◌, inl, inr, List, length, get_or, sym, refl, subst, All, Contains, IsTrue, map}
use Rattle.std.proofs.lemmas.List.{get_or-map, length-map}
use Rattle.std.proofs.lemmas.List.Elements.{All-map}
use Rattle.relation_terms.specs.declared.predicate.regions.OutlivesPredicate.{OutlivesPredicate}
use Rattle.relation_terms.specs.declared.terms.keys.RegionKey.{RegionKey}
use Rattle.relation_terms.specs.Trees.{Tree, known}
use Rattle.relation_semantics.specs.Stores.{Store, Constraint, outlives_constraint, equal_constraint}
use Rattle.relation_semantics.specs.Stores.{ConstraintIn, IsRegionIn, IsSound}
use Rattle.relation_semantics.specs.Contexts.{Context}
use Rattle.relation_regions.specs.Worlds.{IsOf, IsMentioned, is_static, by_constraint, by_fact}
use Rattle.relation_regions.specs.Solving.{IsFactIn, IfValued, IfUnmet, region_pair, region_pairs}
use Rattle.relation_regions.specs.declared.solving.Solved.{Solved}
use Rattle.relation_regions.specs.declared.solving.Solved.TheVariants.{Met, Unmet}
use Rattle.relation_regions.proofs.RegionNumbers.{region_known}
use Rattle.text_users.specs.Solved.{KnowsSolved}

-- A region of a constraint, or of a fact.
either_known : (st : Store) (a b t : Tree) → IsRegionIn st a → IsRegionIn st b → (t ≡ a) ⊎ (t ≡ b) → IsTrue (known t)
either_known st a b t h k (inl e) = subst (λ u. IsTrue (known u)) (sym e) (region_known st a h)
either_known st a b t h k (inr e) = subst (λ u. IsTrue (known u)) (sym e) (region_known st b k)

constraint_known : (st : Store) (q : Constraint) (t : Tree) → ConstraintIn st q → IsOf q t → IsTrue (known t)
constraint_known st (outlives_constraint a b) t h o = either_known st a b t h.0 h.1 o
constraint_known st (equal_constraint a b) t h o = either_known st a b t h.0 h.1 o

-- Both regions of a pair are the context's.
abbrev AreRegions : Store → Tree × Tree → Type 0
AreRegions st p = IsRegionIn st p.0 × IsRegionIn st p.1

-- What is mentioned is known.
mentioned_known : (facts : List (Tree × Tree)) (st : Store) (t : Tree) → IsSound st → All (AreRegions st) facts →
    IsMentioned facts st t → IsTrue (known t)
mentioned_known facts st t h all (is_static e) = subst (λ u. IsTrue (known u)) (sym e) refl
mentioned_known facts st t h all (by_constraint q (i, lt, e) o) =
    constraint_known st q t (subst (ConstraintIn st) e (h.constraints_in i q lt)) o
mentioned_known facts st t h all (by_fact a b (i, lt, e) o) =
    let both = subst (AreRegions st) e (all i (a, b) lt) in either_known st a b t both.0 both.1 o

module _ {Key Id Name : Type 0} (c : Context Key Id Name) (facts : List (OutlivesPredicate Key (RegionKey Key)))
    (h : IsSound c.store) (all : All (IsFactIn c) facts) where
  are_regions : All (AreRegions c.store) (region_pairs c.meaning facts)
  are_regions = All-map (AreRegions c.store) (region_pair c.meaning) facts
      (λ i d lt. ((all i d lt).longer_in, (all i d lt).shorter_in))

  pub solved_known : (s : Solved Key) → IfValued c facts s → IfUnmet c facts s → KnowsSolved c.meaning s
  solved_known (Met values) least unmet = λ i d lt.
      let v = get_or values.items i d in
      let p = region_pair c.meaning v in
      let below : i < length (region_pairs c.meaning values.items) =
      subst (λ n. i < n) (sym (length-map values.items (region_pair c.meaning))) lt in
      let there : Contains (region_pairs c.meaning values.items) p =
      (i, below, get_or-map (region_pair c.meaning) values.items i d p lt) in
      let o = least.only p.0 p.1 there in
      let pairs = region_pairs c.meaning facts in (
        mentioned_known pairs c.store p.0 h are_regions (o.0).mentioned,
        mentioned_known pairs c.store p.1 h are_regions (o.1).mentioned,
      )
  solved_known (Unmet longer shorter by) least unmet =
      let pairs = region_pairs c.meaning facts in (
        mentioned_known pairs c.store ((c.meaning).region longer) h are_regions (unmet.longer_given).mentioned,
        mentioned_known pairs c.store ((c.meaning).region shorter) h are_regions (unmet.shorter_given).mentioned,
      )
