-- Regions that get numbers.
use Rattle.std.proofs.Common.{◌≡◌, ℕ, ◌<◌, ◌≤◌, ◌+◌, ◌^◌, ◌⊎◌, List, [], ◌∷◌, ◌++◌, length, get_or, sym, ◌∙◌, ap, refl, subst, arith}
use Rattle.std.proofs.Common.{inl, inr, Bool, IsTrue, true, ◌&&◌, All, map}
use Rattle.std.proofs.lemmas.Bool.{cases_lt}
use Rattle.std.proofs.lemmas.List.{get_or_append_left, get_or_push, get_or-map, length-map, map-append}
use Rattle.std.proofs.lemmas.List.Elements.{All-push}
use Rattle.node_table.specs.Finding.{HasAt}
use Rattle.relation_terms.specs.declared.terms.keys.RegionKey.{RegionKey}
use Rattle.relation_terms.specs.Heads.{variable, bound, placeholder, atom, unknown}
use Rattle.relation_terms.specs.Trees.{Tree, leaf, node, bind, nil, cons, known, Leaves}
use Rattle.relation_terms.specs.Interning.{AreEqualAsTrees}
use Rattle.relation_semantics.specs.Stores.{Store, IsRegionIn, IsTermIn, InContext, IsMadeLeaf}
use Rattle.relation_regions.proofs.Columns.{length_more}
use Rattle.relation_regions.specs.Worlds.{static}
use Rattle.relation_regions.proofs.NumbersFound.{AddsRegion, same, put_last, adds_region}
use Rattle.relation_regions.specs.Reading.{numbered, IsAt, AreDistinct, HaveNumbers, GrowsBy}
use Rattle.relation_regions.specs.Reading.{GetsNumber}
use Rattle.relation_regions.proofs.ReadPairs.{grows_same, grows_pushed}

-- What is over the context's variables is known.
made_known : (st : Store) (t : Tree) → Leaves (IsMadeLeaf st) t → known t ≡ true
made_known st (leaf (variable k n)) h = refl
made_known st (leaf (bound k d i)) h = refl
made_known st (leaf (placeholder k u n)) h = refl
made_known st (leaf (atom x)) h = refl
made_known st (leaf unknown) h = absurd h
made_known st (node k ts) h = made_known st ts h
made_known st (bind ks t) h = made_known st t h
made_known st nil h = refl
made_known st (cons t ts) h =
    subst (λ b. (b && known ts) ≡ true) (sym (made_known st t h.0)) (made_known st ts h.1)

-- A region of the context is known.
pub region_known : (st : Store) (t : Tree) → IsRegionIn st t → IsTrue (known t)
unfolding IsTermIn InContext
region_known st t h = made_known st t (h.1).0

-- One more region, which has no number yet.
distinct_more : (trees : List Tree) (t : Tree) → AreDistinct trees →
    ((i : ℕ) → i < length trees → numbered trees i ≡ t → ⊥) → AreDistinct (trees ++ t ∷ [])
distinct_more trees t h lacks i j p q e =
    let n = length trees in
    let all : length (trees ++ t ∷ []) ≡ n + 1 = length_more trees t in
    let at : (k : ℕ) → k < n → numbered (trees ++ t ∷ []) k ≡ numbered trees k =
    λ k lt. get_or_append_left trees (t ∷ []) static k lt in
    let last : (k : ℕ) → n ≤ k → k < n + 1 → numbered (trees ++ t ∷ []) k ≡ t =
    λ k le lt. get_or_push trees t static k (omega (arith, le, lt)) in
    elim (cases_lt i n) [
      | inl i_lt ↦ elim (cases_lt j n) [
        | inl j_lt ↦ h i j i_lt j_lt (sym (at i i_lt) ∙ (e ∙ at j j_lt))
        | inr j_le ↦ absurd (lacks i i_lt (sym (at i i_lt) ∙ (e ∙ last j j_le (omega (arith, q, all)))))
      ]
      | inr i_le ↦ elim (cases_lt j n) [
        | inl j_lt ↦ absurd (lacks j j_lt (sym (at j j_lt) ∙ (sym e ∙ last i i_le (omega (arith, p, all)))))
        | inr j_le ↦ omega (arith, i_le, j_le, p, q, all)
      ]
    ]

module _ {Key : Type 0} (tree : RegionKey Key → Tree) (eq : RegionKey Key → RegionKey Key → Bool)
    (law : AreEqualAsTrees tree eq) (st : Store) (region : RegionKey Key) (region_in : IsRegionIn st (tree region)) where
  at_key : (keys : List (RegionKey Key)) (i : ℕ) (d : RegionKey Key) → i < length keys →
      numbered (map tree keys) i ≡ tree (get_or keys i d)
  at_key keys i d lt = get_or-map tree keys i d static lt

  key_known : (keys : List (RegionKey Key)) → All (IsRegionIn st) (map tree keys) → (i : ℕ) (d : RegionKey Key) →
      i < length keys → IsTrue (known (tree (get_or keys i d)))
  key_known keys all i d lt = subst (λ t. IsTrue (known t)) (at_key keys i d lt)
      (region_known st (numbered (map tree keys) i)
      (all i static (subst (λ n. i < n) (sym (length-map keys tree)) lt)))

  -- What is found equal has the tree.
  number_at : (keys : List (RegionKey Key)) (i : ℕ) → All (IsRegionIn st) (map tree keys) →
      HasAt eq keys region i → IsAt (map tree keys) i (tree region)
  number_at keys i all has = (
    subst (λ n. i < n) (sym (length-map keys tree)) has.0,
    at_key keys i region has.0 ∙ (law (get_or keys i region) region (key_known keys all i region has.0)
        (region_known st (tree region) region_in)).0 (has.1 region),
  )

  -- What is not found equal has no number.
  lacks_tree : (keys : List (RegionKey Key)) → All (IsRegionIn st) (map tree keys) →
      ((i : ℕ) → HasAt eq keys region i → ⊥) → (i : ℕ) → i < length (map tree keys) →
      numbered (map tree keys) i ≡ tree region → ⊥
  lacks_tree keys all lacks i lt e =
      let i_lt : i < length keys = subst (λ n. i < n) (length-map keys tree) lt in
      lacks i (
        i_lt,
        λ d. (law (get_or keys i d) region (key_known keys all i d i_lt)
            (region_known st (tree region) region_in)).1 (sym (at_key keys i d i_lt) ∙ e),
      )

  module _ (keys keys' : List (RegionKey Key)) where
    pushed : keys' ≡ keys ++ region ∷ [] → map tree keys' ≡ map tree keys ++ tree region ∷ []
    pushed e = ap (map tree) e ∙ map-append tree keys (region ∷ [])

    -- One more region.
    numbers_more : HaveNumbers st (map tree keys) → AddsRegion eq region keys keys' → HaveNumbers st (map tree keys')
    numbers_more h (same e) = subst (λ k. HaveNumbers st (map tree k)) (sym e) h
    numbers_more h (put_last lacks e small) =
        let trees : List Tree = map tree keys in
        let t : Tree = tree region in
        let new : HaveNumbers st (trees ++ t ∷ []) = record {
          regions = All-push (IsRegionIn st) trees t h.regions region_in;
          distinct = distinct_more trees t h.distinct (lacks_tree keys h.regions lacks);
          fits = omega (arith, length_more trees t, length-map keys tree, small);
        } in
        subst (λ l. HaveNumbers st l) (sym (pushed e)) new

    more_numbered : AddsRegion eq region keys keys' → GrowsBy (λ t. t ≡ tree region) (map tree keys) (map tree keys')
    more_numbered (same e) = grows_same (λ t. t ≡ tree region) (map tree keys) (map tree keys') (ap (map tree) e)
    more_numbered (put_last lacks e small) = subst (λ l. GrowsBy (λ t. t ≡ tree region) (map tree keys) l)
        (sym (pushed e)) (grows_pushed (map tree keys) (tree region))

-- The number that a region gets has its tree.
pub gets_number : {Key : Type 0} (eq : RegionKey Key → RegionKey Key → Bool) (region : RegionKey Key)
    (keys keys' : List (RegionKey Key)) (number : ℕ) → ((i : ℕ) → HasAt eq keys region i → keys' ≡ keys) →
    HasAt eq keys' region number → (keys' ≡ keys) ⊎ (keys' ≡ keys ++ region ∷ []) → number < 2 ^ 32 →
    GetsNumber eq region keys keys' number
gets_number eq region keys keys' number there has added small r h region_in =
    let adds = adds_region eq region keys keys' number there has added small in
    let after = numbers_more r.region eq r.equal_as_trees r.store region region_in keys keys' h adds in
    record {
      numbers = after;
      more = more_numbered r.region eq r.equal_as_trees r.store region region_in keys keys' adds;
      number_is = number_at r.region eq r.equal_as_trees r.store region region_in keys' number after.regions has;
    }
