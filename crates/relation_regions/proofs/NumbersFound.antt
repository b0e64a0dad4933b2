-- Which number a region gets.
use Rattle.std.proofs.Common.{◌≡◌, ℕ, ◌<◌, ◌+◌, ◌^◌, List, [], ◌∷◌, ◌++◌, length, get_or, ap, subst, arith}
use Rattle.std.proofs.Common.{◌⊎◌, inl, inr, Bool, IsTrue, ◌∙◌, sym, map, take}
use Rattle.std.proofs.lemmas.Bool.{cases_lt}
use Rattle.std.proofs.lemmas.List.{get_or_append_left, get_or-map, map_push, take_more}
use Rattle.node_table.specs.Finding.{HasAt}
use Rattle.relation_terms.specs.declared.terms.keys.RegionKey.{RegionKey}
use Rattle.relation_regions.specs.declared.standing.Standing.{Standing}
use Rattle.relation_regions.proofs.Columns.{length_more}
use Rattle.relation_terms.specs.declared.predicate.regions.OutlivesPredicate.{OutlivesPredicate}
use Rattle.relation_terms.specs.Trees.{Tree}
use Rattle.relation_semantics.specs.Stores.{Store}
use Rattle.relation_regions.specs.Worlds.{static}
use Rattle.relation_regions.specs.Numbering.{IsRegionAt, regions_at, AreRegionsOf}
use Rattle.relation_regions.specs.Reading.{standing_in, numbered}

-- Nothing changed, or a region that equals none was put behind those that there were. Each number has 32 bits.
pub data AddsRegion {Key : Type 0} (eq : RegionKey Key → RegionKey Key → Bool) (region : RegionKey Key)
    (keys keys' : List (RegionKey Key)) : Type 0 where
  same : keys' ≡ keys → AddsRegion eq region keys keys'
  put_last : ((i : ℕ) → HasAt eq keys region i → ⊥) → keys' ≡ keys ++ region ∷ [] → length keys < 2 ^ 32 →
      AddsRegion eq region keys keys'

module _ {Key : Type 0} (eq : RegionKey Key → RegionKey Key → Bool) (region : RegionKey Key)
    (keys keys' : List (RegionKey Key)) (number : ℕ) (there : (i : ℕ) → HasAt eq keys region i → keys' ≡ keys)
    (has : HasAt eq keys' region number) where
  -- What was put at the end was not there.
  lacked : keys' ≡ keys ++ region ∷ [] → (i : ℕ) → HasAt eq keys region i → ⊥
  lacked e i old = absurd (omega (
    arith,
    ap (λ (l : List (RegionKey Key)). length l) (sym e ∙ there i old),
    length_more keys region,
  ))

  -- A number below the count is an old one.
  old_number : keys' ≡ keys ++ region ∷ [] → number < length keys → HasAt eq keys region number
  old_number e lt = (
    lt,
    λ d. subst (λ x. IsTrue (eq x region))
        (ap (λ l. get_or l number d) e ∙ get_or_append_left keys (region ∷ []) d number lt) (has.1 d),
  )

  below : keys' ≡ keys ++ region ∷ [] → number < 2 ^ 32 → length keys < 2 ^ 32
  below e small = elim (cases_lt number (length keys)) [
    | inl lt ↦ absurd (lacked e number (old_number e lt))
    | inr le ↦ omega (arith, le, small)
  ]

  pub adds_region : (keys' ≡ keys) ⊎ (keys' ≡ keys ++ region ∷ []) → number < 2 ^ 32 → AddsRegion eq region keys keys'
  adds_region (inl e) small = same e
  adds_region (inr e) small = put_last (lacked e) e (below e small)

-- What is read at a number is its region.
pub region_is : {Key : Type 0} (keys : List (RegionKey Key)) (number n : ℕ) (r : RegionKey Key) →
    number < length keys → n ≡ number → r ≡ get_or keys n r → IsRegionAt keys number r
region_is keys number n r lt e is tree =
    ap tree (is ∙ ap (λ k. get_or keys k r) e) ∙ sym (get_or-map tree keys number r static lt)

-- One more pair of regions.
pub regions_more : {Key : Type 0} (keys : List (RegionKey Key)) (pairs pairs' : List (ℕ × ℕ)) (p : ℕ × ℕ)
    (out out' : List (OutlivesPredicate Key (RegionKey Key))) (longer shorter : RegionKey Key) →
    AreRegionsOf keys pairs out → IsRegionAt keys p.0 longer → IsRegionAt keys p.1 shorter →
    pairs' ≡ pairs ++ p ∷ [] → out' ≡ out ++ record { 0 = longer; 1 = shorter } ∷ [] → AreRegionsOf keys pairs' out'
regions_more {Key = Key} keys pairs pairs' p out out' longer shorter h first second e f tree =
    let g : OutlivesPredicate Key (RegionKey Key) → Tree × Tree = λ v. (tree v.0, tree v.1) in
    let at : ℕ × ℕ → Tree × Tree = regions_at (map tree keys) in
    let new : OutlivesPredicate Key (RegionKey Key) = record { 0 = longer; 1 = shorter } in
    let same : g new ≡ at p = cc (first tree, second tree) in
    ap (map g) f ∙ (map_push g out new ∙ (ap (λ l. l ++ g new ∷ []) (h tree) ∙
    (ap (λ u. map at pairs ++ u ∷ []) same ∙ (sym (map_push at pairs p) ∙ sym (ap (map at) e)))))

-- What asks for one more pair.
pub said_more : (said places : List ℕ) (i : ℕ) (by by' : List ℕ) (v : ℕ) → i < length places →
    by ≡ map (λ k. get_or said k 0) (take i places) → by' ≡ by ++ v ∷ [] → v ≡ get_or said (get_or places i 0) 0 →
    by' ≡ map (λ k. get_or said k 0) (take (i + 1) places)
said_more said places i by by' v lt h e is =
    let f : ℕ → ℕ = λ k. get_or said k 0 in
    e ∙ (ap (λ l. l ++ v ∷ []) h ∙ (ap (λ u. map f (take i places) ++ u ∷ []) is ∙
    (sym (map_push f (take i places) (get_or places i 0)) ∙ sym (ap (map f) (take_more places i 0 lt)))))

-- What one more region is.
pub stands_more : (st : Store) (trees : List Tree) (i : ℕ) (s s' : List Standing) (v : Standing) (t : Tree) →
    i < length trees → s ≡ map (standing_in st) (take i trees) → s' ≡ s ++ v ∷ [] → v ≡ standing_in st t →
    t ≡ numbered trees i → s' ≡ map (standing_in st) (take (i + 1) trees)
stands_more st trees i s s' v t lt h e is at =
    let f : Tree → Standing = standing_in st in
    e ∙ (ap (λ l. l ++ v ∷ []) h ∙ (ap (λ u. map f (take i trees) ++ u ∷ []) (is ∙ ap f at) ∙
    (sym (map_push f (take i trees) (numbered trees i)) ∙ sym (ap (map f) (take_more trees i static lt)))))
