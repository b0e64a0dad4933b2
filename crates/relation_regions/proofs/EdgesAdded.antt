-- Edges added, one after another.
use borrow.Author.Count.{below_more}
use Rattle.std.proofs.Common.{◌≡◌, ℕ, ◌<◌, ◌≤◌, ◌+◌, ◌-◌, List, [], ◌∷◌, ◌++◌, length, get_or, ◌∙◌, ap, refl, sym, subst, arith}
use Rattle.std.proofs.Common.{inl, inr, Result, Ok, Err, IfOk}
use Rattle.std.proofs.lemmas.Bool.{cases_lt}
use Rattle.relation_regions.specs.declared.graph.Graph.{Graph}
use Rattle.relation_regions.specs.declared.building.Pairs.{Pairs}
use Rattle.relation_regions.specs.Graphs.{IsGraph, HasSameEdges}
use Rattle.relation_regions.specs.Building.{ArePairs, Extends, HasPairs, HasStatic, AddsPairs, AddsStatic, IsBuilt}
use Rattle.relation_regions.specs.Building.{IsBuiltAlone}
use Rattle.relation_regions.proofs.Columns.{length_more, column_kept, column_last}

-- None was added yet.
extends_itself : (g : Graph) → IsGraph g → Extends g 0 g
extends_itself g graph = record {
  graph = graph;
  nodes = refl;
  count = omega arith;
  same_from = λ i lt. refl;
  same_to = λ i lt. refl;
}

pub no_pairs : (g : Graph) (p : Pairs) → IsGraph g → AddsPairs g p 0 g
no_pairs g p graph = record {
  extends = extends_itself g graph;
  has = record { longer = λ k lt. absurd (omega (arith, lt)); shorter = λ k lt. absurd (omega (arith, lt)) };
}

pub no_static : (g : Graph) → IsGraph g → AddsStatic g 0 g
no_static g graph = record {
  extends = extends_itself g graph;
  has = record { from_static = λ k lt. absurd (omega (arith, lt)); to_each = λ k lt. absurd (omega (arith, lt)) };
}

module _ (g h k : Graph) (n a b : ℕ) (e : Extends g n h) (graph : IsGraph k)
    (nodes : length k.latest.items ≡ length h.latest.items) (from_is : k.from.items ≡ h.from.items ++ a ∷ [])
    (to_is : k.to.items ≡ h.to.items ++ b ∷ []) where
  longer_to : length k.to.items ≡ length h.to.items + 1
  longer_to = ap (λ (l : List ℕ). length l) to_is ∙ length_more h.to.items b

  -- One more edge.
  pub extends_more : Extends g (n + 1) k
  extends_more = record {
    graph = graph;
    nodes = nodes ∙ e.nodes;
    count = omega (arith, longer_to, e.count);
    same_from = λ i lt. column_kept h.from.items k.from.items a i from_is
        (omega (arith, lt, e.count, e.graph.same_length)) ∙ e.same_from i lt;
    same_to = λ i lt. column_kept h.to.items k.to.items b i to_is (omega (arith, lt, e.count)) ∙ e.same_to i lt;
  }

  -- The edge of one more pair.
  pub pairs_more : (p : Pairs) → HasPairs (length g.to.items) p n h → a ≡ get_or p.longer.items n 0 →
      b ≡ get_or p.shorter.items n 0 → HasPairs (length g.to.items) p (n + 1) k
  pairs_more p has longer shorter = record {
    longer = below_more (λ j. get_or k.from.items (length g.to.items + j) 0 ≡ get_or p.longer.items j 0) n
        (λ j lt. column_kept h.from.items k.from.items a (length g.to.items + j) from_is
        (omega (arith, lt, e.count, e.graph.same_length)) ∙ has.longer j lt)
        (column_last h.from.items k.from.items a (length g.to.items + n) from_is
        (omega (arith, e.count, e.graph.same_length)) ∙ longer);
    shorter = below_more (λ j. get_or k.to.items (length g.to.items + j) 0 ≡ get_or p.shorter.items j 0) n
        (λ j lt. column_kept h.to.items k.to.items b (length g.to.items + j) to_is (omega (arith, lt, e.count)) ∙
        has.shorter j lt)
        (column_last h.to.items k.to.items b (length g.to.items + n) to_is (omega (arith, e.count)) ∙ shorter);
  }

  -- The edge to one more node.
  pub static_more : HasStatic (length g.to.items) n h → a ≡ 0 → b ≡ n → HasStatic (length g.to.items) (n + 1) k
  static_more has from to = record {
    from_static = below_more (λ j. get_or k.from.items (length g.to.items + j) 0 ≡ 0) n
        (λ j lt. column_kept h.from.items k.from.items a (length g.to.items + j) from_is
        (omega (arith, lt, e.count, e.graph.same_length)) ∙ has.from_static j lt)
        (column_last h.from.items k.from.items a (length g.to.items + n) from_is
        (omega (arith, e.count, e.graph.same_length)) ∙ from);
    to_each = below_more (λ j. get_or k.to.items (length g.to.items + j) 0 ≡ j) n
        (λ j lt. column_kept h.to.items k.to.items b (length g.to.items + j) to_is (omega (arith, lt, e.count)) ∙
        has.to_each j lt)
        (column_last h.to.items k.to.items b (length g.to.items + n) to_is (omega (arith, e.count)) ∙ to);
  }

-- Edges of pairs stand in what extends the graph.
pairs_kept : (first : ℕ) (p : Pairs) (bound n : ℕ) (g h : Graph) → HasPairs first p bound g → Extends g n h →
    first + bound ≤ length g.to.items → HasPairs first p bound h
pairs_kept first p bound n g h has e within = record {
  longer = λ k lt. e.same_from (first + k) (omega (arith, lt, within)) ∙ has.longer k lt;
  shorter = λ k lt. e.same_to (first + k) (omega (arith, lt, within)) ∙ has.shorter k lt;
}

-- The three added one after another.
pub built_of : (nodes : ℕ) (asked known : Pairs) (g0 g1 g2 g3 : Graph) → length g0.to.items ≡ 0 →
    length g0.latest.items ≡ nodes → AddsPairs g0 asked (length asked.shorter.items) g1 →
    AddsPairs g1 known (length known.shorter.items) g2 → AddsStatic g2 (length g2.latest.items) g3 →
    IsBuilt nodes asked known g3
built_of nodes asked known g0 g1 g2 g3 empty nodes_are a b s =
    let n = length asked.shorter.items in
    let m = length known.shorter.items in
    let len1 : length g1.to.items ≡ n = omega (arith, a.extends.count, empty) in
    let len2 : length g2.to.items ≡ n + m = omega (arith, b.extends.count, len1) in
    let size : length g2.latest.items ≡ nodes = b.extends.nodes ∙ (a.extends.nodes ∙ nodes_are) in
    let has1 : HasPairs 0 asked n g1 = subst (λ f. HasPairs f asked n g1) empty a.has in
    let has2 : HasPairs n known m g2 = subst (λ f. HasPairs f known m g2) len1 b.has in
    let has3 : HasStatic (n + m) (length g2.latest.items) g3 =
    subst (λ f. HasStatic f (length g2.latest.items) g3) len2 s.has in
    record {
      graph = s.extends.graph;
      nodes_are = s.extends.nodes ∙ size;
      count = omega (arith, s.extends.count, len2, size);
      has_asked = pairs_kept 0 asked n (length g2.latest.items) g2 g3
          (pairs_kept 0 asked n m g1 g2 has1 b.extends (omega (arith, len1))) s.extends (omega (arith, len2));
      has_known = pairs_kept n known m (length g2.latest.items) g2 g3 has2 s.extends (omega (arith, len2));
      has_static = subst (λ u. HasStatic (n + m) u g3) size has3;
    }

-- No pair.
pub no_pair : (nodes : ℕ) (p : Pairs) → p.longer.items ≡ [] → p.shorter.items ≡ [] → ArePairs nodes p
no_pair nodes p no_longer no_shorter =
    let none : length p.shorter.items ≡ 0 = ap (λ (l : List ℕ). length l) no_shorter in
    record {
      each_longer = ap (λ (l : List ℕ). length l) no_longer ∙ sym none;
      longer_in = λ k lt. absurd (omega (arith, lt, none));
      shorter_in = λ k lt. absurd (omega (arith, lt, none));
    }

pub alone_of : {X : Type 0} (nodes : ℕ) (none known : Pairs) → none.shorter.items ≡ [] → (r : Result Graph X) →
    IfOk r (IsBuilt nodes none known) → IfOk r (IsBuiltAlone nodes known)
alone_of nodes none known empty (Ok g) h =
    record { none = none; empty = ap (λ (l : List ℕ). length l) empty; built = h }
alone_of nodes none known empty (Err x) h = tt

-- Two graphs that are built of the same pairs.
module _ (nodes : ℕ) (asked known : Pairs) (g h : Graph) (built : IsBuilt nodes asked known g)
    (again : IsBuilt nodes asked known h) where
  abbrev A : ℕ
  A = length asked.shorter.items

  abbrev F : ℕ
  F = length known.shorter.items

  -- An edge at a place that is counted from another one.
  counted_on : (xs ys : List ℕ) (first k i z : ℕ) → first + k ≡ i → get_or xs (first + k) 0 ≡ z →
      get_or ys (first + k) 0 ≡ z → get_or ys i 0 ≡ get_or xs i 0
  counted_on xs ys first k i z e p q =
      ap (λ j. get_or ys j 0) (sym e) ∙ (q ∙ (sym p ∙ ap (λ j. get_or xs j 0) e))

  same_edges : (xs ys : List ℕ) (a f s : ℕ → ℕ) →
      ((k : ℕ) → k < A → get_or xs (0 + k) 0 ≡ a k) → ((k : ℕ) → k < A → get_or ys (0 + k) 0 ≡ a k) →
      ((k : ℕ) → k < F → get_or xs (A + k) 0 ≡ f k) → ((k : ℕ) → k < F → get_or ys (A + k) 0 ≡ f k) →
      ((k : ℕ) → k < nodes → get_or xs (A + F + k) 0 ≡ s k) → ((k : ℕ) → k < nodes → get_or ys (A + F + k) 0 ≡ s k) →
      (i : ℕ) → i < length g.to.items → get_or ys i 0 ≡ get_or xs i 0
  same_edges xs ys a f s xa ya xf yf xs' ys' i lt = elim (cases_lt i A) [
    | inl first ↦
        let e : 0 + i ≡ i = omega arith in
        counted_on xs ys 0 i i (a i) e (xa i first) (ya i first)
    | inr le ↦ elim (cases_lt i (A + F)) [
      | inl second ↦
          let k = i - A in
          let e : A + k ≡ i = omega (arith, le) in
          let k_lt : k < F = omega (arith, le, second) in
          counted_on xs ys A k i (f k) e (xf k k_lt) (yf k k_lt)
      | inr far ↦
          let k = i - (A + F) in
          let e : A + F + k ≡ i = omega (arith, far) in
          let k_lt : k < nodes = omega (arith, far, lt, built.count) in
          counted_on xs ys (A + F) k i (s k) e (xs' k k_lt) (ys' k k_lt)
    ]
  ]

  pub built_alike : HasSameEdges g h
  built_alike = record {
    nodes = again.nodes_are ∙ sym built.nodes_are;
    count = again.count ∙ sym built.count;
    same_from = same_edges g.from.items h.from.items (λ k. get_or asked.longer.items k 0)
        (λ k. get_or known.longer.items k 0) (λ k. 0) built.has_asked.longer again.has_asked.longer
        built.has_known.longer again.has_known.longer built.has_static.from_static again.has_static.from_static;
    same_to = same_edges g.to.items h.to.items (λ k. get_or asked.shorter.items k 0)
        (λ k. get_or known.shorter.items k 0) (λ k. k) built.has_asked.shorter again.has_asked.shorter
        built.has_known.shorter again.has_known.shorter built.has_static.to_each again.has_static.to_each;
  }
