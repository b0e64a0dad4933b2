-- Reasons noted, and edges added for them, one after another.
use borrow.Author.Count.{below_more}
use Rattle.std.proofs.Common.{◌≡◌, ℕ, ◌<◌, ◌≤◌, ◌+◌, List, [], ◌∷◌, ◌++◌, length, get_or, sym, ◌∙◌, ap, refl, subst, arith}
use Rattle.std.proofs.Common.{Option, Some, None, IsSome, is_some, true, false, Bool, inl, inr, replicate}
use Rattle.std.proofs.Math.ListN.{set}
use Rattle.std.proofs.lemmas.Bool.{cases_eq, cases_lt}
use Rattle.std.proofs.lemmas.List.{get_or_append_left, get_or_push, get_or-set_same, get_or-set_other, length-set}
use Rattle.std.proofs.lemmas.List.{get_or_default, get_or-replicate, get_or_past, length-replicate}
use Rattle.relation_regions.specs.declared.graph.Graph.{Graph}
use Rattle.relation_regions.specs.declared.search.Search.{Search}
use Rattle.relation_regions.specs.declared.standing.Standing.{Standing}
use Rattle.relation_regions.specs.declared.standing.Standing.TheVariants.{Named, Placeholder, Variable}
use Rattle.relation_regions.specs.Graphs.{IsGraph, Reaches, HasSameEdges}
use Rattle.relation_regions.specs.Searches.{IsSearch, IsFound, FindsAll}
use Rattle.relation_regions.specs.Standings.{is_beyond, is_placeholder, standing_of, IsBeyond}
use Rattle.relation_regions.specs.Widening.{AreReasons, HaveReasons, IsWidened}
use Rattle.relation_regions.proofs.Columns.{length_more}
use Rattle.relation_regions.proofs.Found.{placed_kept}
use Rattle.relation_regions.proofs.Paths.{found_reaches}

-- Whether something stands at a place, as it is read there.
pub some_as_read : (xs : List (Option ℕ)) (x : ℕ) (r : Option ℕ) (b : Bool) → x < length xs → r ≡ get_or xs x r →
    is_some r ≡ b → is_some (get_or xs x None) ≡ b
some_as_read xs x r b lt read is = ap is_some (get_or_default xs x None r lt ∙ sym read) ∙ is

-- Nothing has a reason.
abbrev none : ℕ → List (Option ℕ)
none n = replicate n None

size : (n : ℕ) → length (none n) ≡ n
size n = length-replicate n None

none_reason : (n a : ℕ) → get_or (none n) a None ≡ None
none_reason n a = elim (cases_lt a n) [
  | inl lt ↦ get_or-replicate n a None None lt
  | inr le ↦ get_or_past (none n) a None (omega (arith, size n, le))
]

pub no_reasons : (g : Graph) (standings : List Standing) (reasons : List (Option ℕ)) →
    reasons ≡ replicate (length standings) None → AreReasons g standings reasons × HaveReasons g standings 0 reasons
no_reasons g standings reasons is =
    let nowhere : (a p : ℕ) → get_or reasons a None ≡ Some p → ⊥ = λ a p e.
    let f : get_or reasons a None ≡ None = ap (λ l. get_or l a None) is ∙ none_reason (length standings) a in
    absurd (cc (e, f)) in (
      record {
        one_each = ap (λ (l : List (Option ℕ)). length l) is ∙ size (length standings);
        in_graph = λ a p e. absurd (nowhere a p e);
        beyond = λ a p e. absurd (nowhere a p e);
        reaches = λ a p e. absurd (nowhere a p e);
      },
      λ a p lt. absurd (omega (arith, lt)),
    )

-- Only a placeholder is beyond another region.
beyond_placeholder : (s p : Standing) → is_beyond s p ≡ true → is_placeholder p ≡ true
beyond_placeholder Named Named e = absurd cc
beyond_placeholder (Placeholder u) Named e = absurd cc
beyond_placeholder (Variable u) Named e = absurd cc
beyond_placeholder s (Placeholder v) e = refl
beyond_placeholder Named (Variable v) e = absurd cc
beyond_placeholder (Placeholder u) (Variable v) e = absurd cc
beyond_placeholder (Variable u) (Variable v) e = absurd cc

pub target_passed : (g : Graph) (standings : List Standing) (target : ℕ) (reasons : List (Option ℕ)) →
    HaveReasons g standings target reasons → is_placeholder (standing_of standings target) ≡ false →
    HaveReasons g standings (target + 1) reasons
target_passed g standings target reasons h other a p lt beyond r =
    below_more (λ p. IsBeyond standings a p → Reaches g a p → IsSome (get_or reasons a None)) target
    (λ p q b r. h a p q b r)
    (λ b r. absurd (cc (beyond_placeholder (standing_of standings a) (standing_of standings target) b, other)))
    p lt beyond r

-- A reason is put for one more.
reasons_more : (g : Graph) (standings : List Standing) (reasons : List (Option ℕ)) (node target : ℕ) →
    AreReasons g standings reasons → node < length reasons → target < length standings →
    IsBeyond standings node target → Reaches g node target →
    AreReasons g standings (set reasons node (Some target))
reasons_more g standings reasons node target h lt in_graph beyond reaches =
    let P : ℕ → ℕ → Type 0 = λ a p. (p < length standings) × IsBeyond standings a p × Reaches g a p in
    let all : (a p : ℕ) → get_or (set reasons node (Some target)) a None ≡ Some p → P a p = λ a p e.
    elim (cases_eq a node) [
      | inl same ↦
          let f : Some target ≡ Some p = sym (get_or-set_same reasons node (Some target) None lt) ∙
          (ap (λ u. get_or (set reasons node (Some target)) u None) (sym same) ∙ e) in
          let q : target ≡ p = cc in
          subst (λ u. P u p) (sym same) (subst (λ u. P node u) q (in_graph, beyond, reaches))
      | inr other ↦
          let f = sym (get_or-set_other reasons node a (Some target) None other) ∙ e in
          (h.in_graph a p f, h.beyond a p f, h.reaches a p f)
    ] in
    record {
      one_each = length-set reasons node (Some target) ∙ h.one_each;
      in_graph = λ a p e. (all a p e).0;
      beyond = λ a p e. (all a p e).1;
      reaches = λ a p e. (all a p e).2;
    }

-- Variables have their reasons while a target is looked at, of the nodes below one.
pub record IsNoted (g : Graph) (standings : List Standing) (found : Search) (target node : ℕ)
    (reasons : List (Option ℕ)) : Type 0 where
  pub are : AreReasons g standings reasons
  pub earlier : HaveReasons g standings target reasons
  pub looked_at : (a : ℕ) → a < node → IsFound found a → IsBeyond standings a target → IsSome (get_or reasons a None)

-- A node that was found and can't name the target is noted.
pub noted_yes : (g : Graph) (standings : List Standing) (found : Search) (target node : ℕ)
    (reasons reasons' : List (Option ℕ)) → IsNoted g standings found target node reasons → IsSearch g target found →
    node < length standings → target < length standings → IsFound found node → IsBeyond standings node target →
    reasons' ≡ set reasons node (Some target) → IsNoted g standings found target (node + 1) reasons'
noted_yes g standings found target node reasons reasons' h search lt in_graph is_found beyond is =
    let lt_r : node < length reasons = omega (arith, h.are.one_each) in
    let kept = placed_kept reasons node target lt_r in
    let new : IsNoted g standings found target (node + 1) (set reasons node (Some target)) = record {
      are = reasons_more g standings reasons node target h.are lt_r in_graph beyond
          (found_reaches g target found node search is_found);
      earlier = λ a p q b r. kept a (h.earlier a p q b r);
      looked_at = below_more
          (λ a. IsFound found a → IsBeyond standings a target →
          IsSome (get_or (set reasons node (Some target)) a None)) node
          (λ a q f b. kept a (h.looked_at a q f b))
          (λ f b. ap is_some (get_or-set_same reasons node (Some target) None lt_r));
    } in
    subst (λ r. IsNoted g standings found target (node + 1) r) (sym is) new

-- Another one is not.
pub noted_no : (g : Graph) (standings : List Standing) (found : Search) (target node : ℕ)
    (reasons reasons' : List (Option ℕ)) → IsNoted g standings found target node reasons →
    (IsFound found node → IsBeyond standings node target → ⊥) → reasons' ≡ reasons →
    IsNoted g standings found target (node + 1) reasons'
noted_no g standings found target node reasons reasons' h not_both is =
    subst (λ r. IsNoted g standings found target (node + 1) r) (sym is) (record {
      are = h.are;
      earlier = h.earlier;
      looked_at = below_more (λ a. IsFound found a → IsBeyond standings a target → IsSome (get_or reasons a None)) node
          h.looked_at (λ f b. absurd (not_both f b));
    })

-- Once all are looked at, each that reaches the target and can't name it has a reason.
pub all_noted : (g : Graph) (standings : List Standing) (found : Search) (target node : ℕ)
    (reasons : List (Option ℕ)) → FindsAll g target found → IsNoted g standings found target node reasons →
    ((a : ℕ) → IsFound found a → a < node) → HaveReasons g standings (target + 1) reasons
all_noted g standings found target node reasons all h in_graph a p lt =
    below_more (λ p. IsBeyond standings a p → Reaches g a p → IsSome (get_or reasons a None)) target
    (λ p q b r. h.earlier a p q b r)
    (λ b r. let f = all a r in h.looked_at a (in_graph a f) f b) p lt

-- What was found is a node.
pub found_in : (g : Graph) (target : ℕ) (found : Search) (a : ℕ) → IsSearch g target found → IsFound found a →
    a < length g.latest.items
found_in g target found a h f =
    elim (get_or found.places.items a None) as (λ o. get_or found.places.items a None ≡ o → is_some o ≡ true →
    a < length g.latest.items) [
      | None ↦ λ e s. absurd cc
      | Some k ↦ λ e s. let p = h.placed a k e in subst (λ u. u < length g.latest.items) p.1 (h.in_graph k p.0)
    ] refl f

-- No node has an edge yet.
pub widened_none : (g : Graph) (reasons : List (Option ℕ)) → IsGraph g → IsWidened g reasons 0 g
widened_none g reasons graph = record {
  graph = graph;
  nodes = refl;
  longer = omega arith;
  same_from = λ i q. refl;
  same_to = λ i q. refl;
  to_static = λ i p q. absurd (omega (arith, p, q));
  for_reasons = λ i p q. absurd (omega (arith, p, q));
  each = λ a q s. absurd (omega (arith, q));
}

-- A graph of the same edges was widened.
pub same_widened : (g h : Graph) (reasons : List (Option ℕ)) (bound : ℕ) (w : Graph) → HasSameEdges g h →
    IsWidened h reasons bound w → IsWidened g reasons bound w
same_widened g h reasons bound w same is = record {
  graph = is.graph;
  nodes = is.nodes ∙ same.nodes;
  longer = omega (arith, is.longer, same.count);
  same_from = λ i q. is.same_from i (omega (arith, q, same.count)) ∙ same.same_from i q;
  same_to = λ i q. is.same_to i (omega (arith, q, same.count)) ∙ same.same_to i q;
  to_static = λ i p q. is.to_static i (omega (arith, p, same.count)) q;
  for_reasons = λ i p q. is.for_reasons i (omega (arith, p, same.count)) q;
  each = λ a q s. let e = is.each a q s in (e.0, omega (arith, e.1, same.count), e.2, e.3);
}

-- One more edge.
pub widened_more : (g : Graph) (reasons : List (Option ℕ)) (node : ℕ) (w w' : Graph) → IsWidened g reasons node w →
    IsGraph w' → length w'.latest.items ≡ length w.latest.items → w'.from.items ≡ w.from.items ++ node ∷ [] →
    w'.to.items ≡ w.to.items ++ 0 ∷ [] → IsSome (get_or reasons node None) → IsWidened g reasons (node + 1) w'
widened_more g reasons node w w' h graph nodes from_is to_is some =
    let len_to : length w'.to.items ≡ length w.to.items + 1 =
    ap (λ (l : List ℕ). length l) to_is ∙ length_more w.to.items 0 in
    let at_from : (i : ℕ) → i < length w.to.items → get_or w'.from.items i 0 ≡ get_or w.from.items i 0 = λ i q.
    ap (λ l. get_or l i 0) from_is ∙
    get_or_append_left w.from.items (node ∷ []) 0 i (omega (arith, h.graph.same_length)) in
    let at_to : (i : ℕ) → i < length w.to.items → get_or w'.to.items i 0 ≡ get_or w.to.items i 0 = λ i q.
    ap (λ l. get_or l i 0) to_is ∙ get_or_append_left w.to.items (0 ∷ []) 0 i q in
    let last_from : get_or w'.from.items (length w.to.items) 0 ≡ node =
    ap (λ l. get_or l (length w.to.items) 0) from_is ∙
    get_or_push w.from.items node 0 (length w.to.items) h.graph.same_length in
    let last_to : get_or w'.to.items (length w.to.items) 0 ≡ 0 =
    ap (λ l. get_or l (length w.to.items) 0) to_is ∙ get_or_push w.to.items 0 0 (length w.to.items) refl in
    let Q : ℕ → Type 0 = λ a. IsSome (get_or reasons a None) in
    let P : ℕ → Type 0 = λ a. Q a → (i : ℕ) × (length g.to.items ≤ i) × (i < length w'.to.items) ×
    (get_or w'.from.items i 0 ≡ a) in
    record {
      graph = graph;
      nodes = nodes ∙ h.nodes;
      longer = omega (arith, h.longer, len_to);
      same_from = λ i q. at_from i (omega (arith, h.longer)) ∙ h.same_from i q;
      same_to = λ i q. at_to i (omega (arith, h.longer)) ∙ h.same_to i q;
      to_static = λ i p q. below_more (λ i. length g.to.items ≤ i → get_or w'.to.items i 0 ≡ 0) (length w.to.items)
          (λ i q p. at_to i q ∙ h.to_static i p q) (λ p. last_to) i (omega (arith, len_to)) p;
      for_reasons = λ i p q. below_more (λ i. length g.to.items ≤ i → Q (get_or w'.from.items i 0)) (length w.to.items)
          (λ i q p. subst Q (sym (at_from i q)) (h.for_reasons i p q)) (λ p. subst Q (sym last_from) some) i
          (omega (arith, len_to)) p;
      each = below_more P node
          (λ a q s. let e = h.each a q s in (e.0, e.1, omega (arith, e.2, len_to), at_from e.0 e.2 ∙ e.3))
          (λ s. (length w.to.items, h.longer, omega (arith, len_to), last_from));
    }

-- A node without a reason gets none.
pub widened_same : (g : Graph) (reasons : List (Option ℕ)) (node : ℕ) (w : Graph) → IsWidened g reasons node w →
    is_some (get_or reasons node None) ≡ false → IsWidened g reasons (node + 1) w
widened_same g reasons node w h without = record {
  graph = h.graph;
  nodes = h.nodes;
  longer = h.longer;
  same_from = h.same_from;
  same_to = h.same_to;
  to_static = h.to_static;
  for_reasons = h.for_reasons;
  each = below_more (λ a. IsSome (get_or reasons a None) → (i : ℕ) × (length g.to.items ≤ i) ×
      (i < length w.to.items) × (get_or w.from.items i 0 ≡ a)) node h.each (λ s. absurd (cc (without, s)));
}
