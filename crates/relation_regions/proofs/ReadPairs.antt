-- What pairs say, as constraints are read one after another.
use borrow.Author.Count.{below_more}
use Rattle.std.proofs.Common.{◌≡◌, ℕ, ◌<◌, ◌+◌, List, [], ◌∷◌, ◌++◌, length, get_or, sym, ◌∙◌, ap, refl, subst, arith}
use Rattle.std.proofs.Common.{inl, inr, map}
use Rattle.std.specs.List.{Contains}
use Rattle.std.proofs.lemmas.List.{get_or_append_left, get_or_default}
use Rattle.std.proofs.lemmas.List.Elements.{Contains-append_cases}
use Rattle.relation_terms.specs.Trees.{Tree}
use Rattle.relation_semantics.specs.Stores.{Store, Constraint, outlives_constraint, equal_constraint}
use Rattle.relation_regions.specs.declared.building.Pairs.{Pairs}
use Rattle.relation_regions.specs.declared.standing.Standing.{Standing}
use Rattle.relation_regions.proofs.Columns.{length_more, column_kept, column_last}
use Rattle.relation_regions.specs.Worlds.{static, IsOf, IsMentioned, is_static, by_constraint, by_fact}
use Rattle.relation_regions.specs.Reading.{numbered, IsAt, AreNumbered, GrowsBy, IsOfOne, IsPair, no_constraint, Asks, stating}
use Rattle.relation_regions.specs.Reading.{AddsPair, AddsAsked, AreNone, IsPairAt, IsAsked, HaveRead, IsProblem}
use Rattle.relation_regions.proofs.Generated.{from_map}

one_longer : (old new : List ℕ) (x : ℕ) → new ≡ old ++ x ∷ [] → length new ≡ length old + 1
one_longer old new x is = ap (λ (l : List ℕ). length l) is ∙ length_more old x

-- Nothing grows.
pub grows_same : (P : Tree → Type 0) (before after : List Tree) → after ≡ before → GrowsBy P before after
grows_same P before after e = record {
  kept = λ i t h. subst (λ l. IsAt l i t) (sym e) h;
  only = λ t h. inl (subst (λ l. Contains l t) e h);
}

-- One grows after another.
pub grows_through : (P Q R : Tree → Type 0) (before mid after : List Tree) → GrowsBy P before mid → GrowsBy Q mid after →
    ((t : Tree) → P t → R t) → ((t : Tree) → Q t → R t) → GrowsBy R before after
grows_through P Q R before mid after g h p q = record {
  kept = λ i t at. h.kept i t (g.kept i t at);
  only = λ t has. elim (h.only t has) [
    | inl there ↦ elim (g.only t there) [
      | inl first ↦ inl first
      | inr is ↦ inr (p t is)
    ]
    | inr is ↦ inr (q t is)
  ];
}

-- One more region at the end.
pub grows_pushed : (trees : List Tree) (t : Tree) → GrowsBy (λ u. u ≡ t) trees (trees ++ t ∷ [])
grows_pushed trees t = record {
  kept = λ i u at. (
    omega (arith, at.0, length_pushed trees t),
    get_or_append_left trees (t ∷ []) static i at.0 ∙ at.1,
  );
  only = λ u has. elim (Contains-append_cases trees (t ∷ []) u has) [
    | inl there ↦ inl there
    | inr last ↦ inr (only_one u last)
  ];
}
  where
    length_pushed : (trees : List Tree) (t : Tree) → length (trees ++ t ∷ []) ≡ length trees + 1
    length_pushed trees t = length_more trees t

    only_one : (u : Tree) → Contains (t ∷ []) u → u ≡ t
    only_one u (k, lt, e) =
        let z : k ≡ 0 = omega (arith, lt) in sym e ∙ ap (λ i. get_or (t ∷ []) i u) z

-- A pair stands where more regions have numbers.
pub pair_kept : {P : Tree → Type 0} {before after : List Tree} (p : Pairs) (k : ℕ) (a b : Tree) →
    GrowsBy P before after → IsPairAt before p k a b → IsPairAt after p k a b
pair_kept p k a b g h = record {
  below = h.below;
  longer_at = g.kept (get_or p.longer.items k 0) a h.longer_at;
  shorter_at = g.kept (get_or p.shorter.items k 0) b h.shorter_at;
}

module _ (qs : List Constraint) where
  -- What was read stands there too.
  pub read_kept : {P : Tree → Type 0} {before after : List Tree} (bound : ℕ) (p : Pairs) (said : List ℕ) →
      GrowsBy P before after → HaveRead qs bound before p said → HaveRead qs bound after p said
  read_kept bound p said g h = record {
    each_longer = h.each_longer;
    each_said = h.each_said;
    each = λ k lt. let s = h.each k lt in record {
      longer = s.longer;
      shorter = s.shorter;
      pair = pair_kept p k s.longer s.shorter g s.pair;
      asks = s.asks;
    };
    covered = λ j lt a b asks. let c = h.covered j lt a b asks in (c.0, pair_kept p c.0 a b g c.1);
  }

  -- No pairs say nothing.
  pub none_read : (trees : List Tree) (p : Pairs) (said : List ℕ) → AreNone p said → HaveRead qs 0 trees p said
  none_read trees p said none =
      let empty : length p.shorter.items ≡ 0 = ap (λ (l : List ℕ). length l) none.no_shorter in record {
        each_longer = ap (λ (l : List ℕ). length l) none.no_longer ∙ sym empty;
        each_said = ap (λ (l : List ℕ). length l) none.none_said ∙ sym empty;
        each = λ k lt. absurd (omega (arith, lt, empty));
        covered = λ j lt. absurd (omega (arith, lt));
      }

  -- All that one more asks for is there.
  covered_more : (trees : List Tree) (bound : ℕ) (p : Pairs) (said : List ℕ) → HaveRead qs bound trees p said →
      ((a b : Tree) → Asks qs bound a b → (k : ℕ) × IsPairAt trees p k a b) → HaveRead qs (bound + 1) trees p said
  covered_more trees bound p said h has = record {
    each_longer = h.each_longer;
    each_said = h.each_said;
    each = h.each;
    covered = λ j lt. below_more (λ j. (a b : Tree) → Asks qs j a b → (k : ℕ) × IsPairAt trees p k a b) bound
        (λ j q. h.covered j q) has j lt;
  }

  module _ (trees : List Tree) (bound j : ℕ) (a b : Tree) (p : Pairs) (said : List ℕ) (q : Pairs) (said' : List ℕ)
      (h : HaveRead qs bound trees p said) (adds : AddsPair trees a b j p said q said') where
    one_more : length q.shorter.items ≡ length p.shorter.items + 1
    one_more = one_longer p.shorter.items q.shorter.items adds.second (adds.puts).shorter_is

    -- An earlier pair is there still.
    earlier_there : (k : ℕ) (x y : Tree) → IsPairAt trees p k x y → IsPairAt trees q k x y
    earlier_there k x y e = record {
      below = omega (arith, e.below, one_more);
      longer_at = subst (λ i. IsAt trees i x) (sym (column_kept p.longer.items q.longer.items adds.first k
          (adds.puts).longer_is (omega (arith, e.below, h.each_longer)))) e.longer_at;
      shorter_at = subst (λ i. IsAt trees i y) (sym (column_kept p.shorter.items q.shorter.items adds.second k
          (adds.puts).shorter_is e.below)) e.shorter_at;
    }

    -- The new one is there.
    last_there : IsPairAt trees q (length p.shorter.items) a b
    last_there = record {
      below = omega (arith, one_more);
      longer_at = subst (λ i. IsAt trees i a) (sym (column_last p.longer.items q.longer.items adds.first
          (length p.shorter.items) (adds.puts).longer_is h.each_longer)) adds.first_at;
      shorter_at = subst (λ i. IsAt trees i b) (sym (column_last p.shorter.items q.shorter.items adds.second
          (length p.shorter.items) (adds.puts).shorter_is refl)) adds.second_at;
    }

    last_asked : Asks qs j a b → IsAsked qs trees q said' (length p.shorter.items)
    last_asked asks = record {
      longer = a;
      shorter = b;
      pair = last_there;
      asks = subst (λ i. Asks qs i a b) (sym (column_last said said' j (length p.shorter.items) (adds.puts).said_is h.each_said))
          asks;
    }

    earlier_asked : (k : ℕ) → k < length p.shorter.items → IsAsked qs trees q said' k
    earlier_asked k lt = let s = h.each k lt in record {
      longer = s.longer;
      shorter = s.shorter;
      pair = earlier_there k s.longer s.shorter s.pair;
      asks = subst (λ i. Asks qs i s.longer s.shorter)
          (sym (column_kept said said' j k (adds.puts).said_is (omega (arith, lt, h.each_said)))) s.asks;
    }

    -- One more pair of what is asked for.
    read_added : Asks qs j a b → HaveRead qs bound trees q said'
    read_added asks = record {
      each_longer = omega (
        arith,
        one_more,
        h.each_longer,
        one_longer p.longer.items q.longer.items adds.first (adds.puts).longer_is,
      );
      each_said = omega (arith, one_more, h.each_said, one_longer said said' j (adds.puts).said_is);
      each = λ k lt. below_more (λ k. IsAsked qs trees q said' k) (length p.shorter.items) earlier_asked
          (last_asked asks) k (omega (arith, lt, one_more));
      covered = λ i lt x y r. let c = h.covered i lt x y r in (c.0, earlier_there c.0 x y c.1);
    }

  -- What a constraint asks for is read.
  constraint_read : (trees : List Tree) (j : ℕ) (c : Constraint) (p : Pairs) (said : List ℕ) (q : Pairs)
      (said' : List ℕ) → j < length qs → get_or qs j no_constraint ≡ c → HaveRead qs j trees p said →
      AddsAsked trees c j p said q said' → HaveRead qs (j + 1) trees q said'
  constraint_read trees j (outlives_constraint a b) p said q said' lt e h adds =
      let asks : Asks qs j a b = (lt, subst (λ z. IsPair z a b) (sym e) (refl, refl)) in
      let there = last_there trees j j a b p said q said' h adds in
      covered_more trees j q said' (read_added trees j j a b p said q said' h adds asks)
      (λ x y z. let f : (x ≡ a) × (y ≡ b) = subst (λ u. IsPair u x y) e z.1 in (
        length p.shorter.items,
        subst (λ u. IsPairAt trees q (length p.shorter.items) u y) (sym f.0)
            (subst (λ u. IsPairAt trees q (length p.shorter.items) a u) (sym f.1) there),
      ))
  constraint_read trees j (equal_constraint a b) p said q said' lt e h (m, (mid, first, second)) =
      let asks : Asks qs j a b = (lt, subst (λ z. IsPair z a b) (sym e) (inl (refl, refl))) in
      let back : Asks qs j b a = (lt, subst (λ z. IsPair z b a) (sym e) (inr (refl, refl))) in
      let h1 = read_added trees j j a b p said m mid h first asks in
      let h2 = read_added trees j j b a m mid q said' h1 second back in
      let there = earlier_there trees j j b a m mid q said' h1 second (length p.shorter.items) a b
      (last_there trees j j a b p said m mid h first) in
      let there2 = last_there trees j j b a m mid q said' h1 second in
      covered_more trees j q said' h2 (λ x y z. elim (subst (λ u. IsPair u x y) e z.1) [
        | inl f ↦ (
          length p.shorter.items,
          subst (λ u. IsPairAt trees q (length p.shorter.items) u y) (sym f.0)
              (subst (λ u. IsPairAt trees q (length p.shorter.items) a u) (sym f.1) there),
        )
        | inr f ↦ (
          length m.shorter.items,
          subst (λ u. IsPairAt trees q (length m.shorter.items) u y) (sym f.0)
              (subst (λ u. IsPairAt trees q (length m.shorter.items) b u) (sym f.1) there2),
        )
      ])

  -- One more constraint is read.
  pub read_more : {P : Tree → Type 0} {before after : List Tree} (j : ℕ) (p : Pairs) (said : List ℕ) (q : Pairs)
      (said' : List ℕ) → j < length qs → GrowsBy P before after → HaveRead qs j before p said →
      AddsAsked after (get_or qs j no_constraint) j p said q said' → HaveRead qs (j + 1) after q said'
  read_more {after = after} j p said q said' lt g h adds =
      constraint_read after j (get_or qs j no_constraint) p said q said' lt refl (read_kept j p said g h) adds

  -- Its regions are of one of the constraints.
  pub more_of_one : {before mid after : List Tree} (j : ℕ) → j < length qs → GrowsBy (IsOfOne qs) before mid →
      GrowsBy (IsOf (get_or qs j no_constraint)) mid after → GrowsBy (IsOfOne qs) before after
  more_of_one {before = before} {mid = mid} {after = after} j lt g h =
      let q = get_or qs j no_constraint in
      grows_through (IsOfOne qs) (IsOf q) (IsOfOne qs) before mid after g h (λ t o. o)
      (λ t o. (q, (j, lt, get_or_default qs j q no_constraint lt), o))

-- What is read of constraints and of facts, the region 'static first.
module _ (facts : List (Tree × Tree)) (st : Store) (t0 t1 t2 t3 : List Tree) (empty : t0 ≡ [])
    (first : GrowsBy (λ t. t ≡ static) t0 t1) (n : ℕ) (there : IsAt t1 n static)
    (second : GrowsBy (IsOfOne st.constraints) t1 t2) (third : GrowsBy (IsOfOne (map stating facts)) t2 t3) where
  only_static : (t : Tree) → Contains t1 t → t ≡ static
  only_static t has = elim (first.only t has) [
    | inl old ↦ let lt : old.0 < 0 = subst (λ l. old.0 < length l) empty old.1 in absurd (omega (arith, lt))
    | inr is ↦ is
  ]

  static_first : IsAt t1 0 static
  static_first =
      let lt : 0 < length t1 = omega (arith, there.0) in
      (lt, only_static (numbered t1 0) (0, lt, get_or_default t1 0 (numbered t1 0) static lt))

  of_constraint : (t : Tree) → IsOfOne st.constraints t → IsMentioned facts st t
  of_constraint t (q, has, of) = by_constraint q has of

  of_fact : (t : Tree) → IsOfOne (map stating facts) t → IsMentioned facts st t
  of_fact t (q, has, of) =
      let p = from_map stating facts (static, static) q has in
      by_fact (p.0).0 (p.0).1 p.1 (subst (λ u. IsOf u t) (sym p.2) of)

  all_mentioned : (t : Tree) → Contains t3 t → IsMentioned facts st t
  all_mentioned t has = elim (third.only t has) [
    | inl h2 ↦ elim (second.only t h2) [
      | inl h1 ↦ is_static (only_static t h1)
      | inr of ↦ of_constraint t of
    ]
    | inr of ↦ of_fact t of
  ]

  pub are_problem : (standings : List Standing) (asked : Pairs) (said : List ℕ) (known : Pairs) (numbers : List ℕ) →
      AreNumbered st t3 standings → HaveRead st.constraints (length st.constraints) t2 asked said →
      HaveRead (map stating facts) (length facts) t3 known numbers →
      IsProblem facts st t3 standings asked said known
  are_problem standings asked said known numbers h read stated = record {
    are_numbered = h;
    mentioned = λ i d lt. all_mentioned (get_or t3 i d) (i, lt, get_or_default t3 i (get_or t3 i d) d lt);
    static_first = third.kept 0 static (second.kept 0 static static_first);
    read = read_kept st.constraints (length st.constraints) asked said third read;
    stated = (numbers, stated);
  }
