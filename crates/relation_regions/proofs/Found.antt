-- What finding one more node does to a search.
use borrow.Author.Count.{below_more}
use Rattle.std.proofs.Common.{◌≡◌, ℕ, ◌<◌, ◌+◌, List, [], ◌∷◌, ◌++◌, length, get_or, arith, sym, ◌∙◌, ap}
use Rattle.std.proofs.Common.{refl, subst, inl, inr, Option, Some, None, IsSome, is_some, cond, false}
use Rattle.std.specs.List.{count_by}
use Rattle.std.proofs.Math.ListN.{set}
use Rattle.std.proofs.lemmas.Bool.{cases_eq}
use Rattle.std.proofs.lemmas.Grind.{get_or_default_zero}
use Rattle.std.proofs.lemmas.List.{get_or_append_left, get_or_push, get_or-set_same, get_or-set_other, length-set}
use Rattle.std.proofs.lemmas.List.Sums.{sum_by-set}
use Rattle.relation_regions.specs.Searches.{IsStep, HasFound}
use Rattle.relation_regions.proofs.Columns.{length_more, all_below_more}

-- One that counts is put in the place of one that doesn't.
pub count_more : (xs : List (Option ℕ)) (i v : ℕ) → i < length xs → get_or xs i None ≡ None →
    count_by is_some (set xs i (Some v)) ≡ count_by is_some xs + 1
count_more xs i v lt e =
    let f : Option ℕ → ℕ = λ o. cond (is_some o) 1 0 in
    let s = sum_by-set f xs i (Some v) None lt in
    let z : f (get_or xs i None) ≡ 0 = ap f e in
    omega (arith, s, z)

-- What has a place keeps one.
pub placed_kept : (xs : List (Option ℕ)) (i v : ℕ) → i < length xs → (x : ℕ) → IsSome (get_or xs x None) →
    IsSome (get_or (set xs i (Some v)) x None)
placed_kept xs i v lt x h = elim (cases_eq x i) [
  | inl same ↦ ap is_some (ap (λ u. get_or (set xs i (Some v)) u None) same ∙ get_or-set_same xs i (Some v) None lt)
  | inr other ↦ ap is_some (get_or-set_other xs i x (Some v) None other) ∙ h
]

-- A step, by columns that say the same of it.
step_like : (from to nodes later : List ℕ) (k e o e' o' : ℕ) → IsStep from to nodes k e o → e' ≡ e → o' ≡ o →
    get_or later k 0 ≡ get_or nodes k 0 → get_or later o 0 ≡ get_or nodes o 0 → IsStep from to later k e' o'
step_like from to nodes later k e o e' o' s same_e same_o at_k at_o = record {
  back = omega (arith, s.back);
  edge = omega (arith, s.edge);
  leads_from = ap (λ i. get_or from i 0) same_e ∙ (s.leads_from ∙ sym at_k);
  leads_to = ap (λ i. get_or to i 0) same_e ∙ (s.leads_to ∙ (sym at_o ∙ sym (ap (λ i. get_or later i 0) same_o)));
}

module _ (from to : List ℕ) (count target : ℕ) (places : List (Option ℕ)) (nodes edges onward : List ℕ)
    (x edge next : ℕ) (h : HasFound from to count target places nodes edges onward) (lt : x < count)
    (edge_in : edge < length to) (next_in : next < length nodes) (leads_from : get_or from edge 0 ≡ x)
    (leads_to : get_or to edge 0 ≡ get_or nodes next 0) (unplaced : get_or places x None ≡ None) where
  abbrev more : List ℕ
  more = nodes ++ x ∷ []

  at_earlier : (k : ℕ) → k < length nodes → get_or more k 0 ≡ get_or nodes k 0
  at_earlier k q = get_or_append_left nodes (x ∷ []) 0 k q

  at_last : get_or more (length nodes) 0 ≡ x
  at_last = get_or_push nodes x 0 (length nodes) refl

  steps_grow : (k : ℕ) → k < length nodes + 1 → 0 < k →
      IsStep from to more k (get_or (edges ++ edge ∷ []) k 0) (get_or (onward ++ next ∷ []) k 0)
  steps_grow =
      let P : ℕ → Type 0 = λ k. 0 < k →
      IsStep from to more k (get_or (edges ++ edge ∷ []) k 0) (get_or (onward ++ next ∷ []) k 0) in
      let new : IsStep from to more (length nodes) edge next = record {
        back = next_in;
        edge = edge_in;
        leads_from = leads_from ∙ sym at_last;
        leads_to = leads_to ∙ sym (at_earlier next next_in);
      } in
      below_more P (length nodes)
      (λ k q p. let s = h.steps k p q in step_like from to nodes more k (get_or edges k 0) (get_or onward k 0)
      (get_or (edges ++ edge ∷ []) k 0) (get_or (onward ++ next ∷ []) k 0) s
      (get_or_append_left edges (edge ∷ []) 0 k (omega (arith, h.each_edge)))
      (get_or_append_left onward (next ∷ []) 0 k (omega (arith, h.each_onward))) (at_earlier k q)
      (at_earlier (get_or onward k 0) (omega (arith, s.back))))
      (λ p. step_like from to more more (length nodes) edge next (get_or (edges ++ edge ∷ []) (length nodes) 0)
      (get_or (onward ++ next ∷ []) (length nodes) 0) new
      (get_or_push edges edge 0 (length nodes) h.each_edge)
      (get_or_push onward next 0 (length nodes) h.each_onward) refl refl)

  placed_grow : (y k : ℕ) → get_or (set places x (Some (length nodes))) y None ≡ Some k →
      (k < length nodes + 1) × (get_or more k 0 ≡ y)
  placed_grow y k e =
      let lt_x : x < length places = omega (arith, h.all_nodes) in
      elim (cases_eq y x) [
        | inl same ↦
            let f : Some (length nodes) ≡ Some k = sym (get_or-set_same places x (Some (length nodes)) None lt_x) ∙
            (ap (λ u. get_or (set places x (Some (length nodes))) u None) (sym same) ∙ e) in
            let g : length nodes ≡ k = cc in
            (omega (arith, g), ap (λ u. get_or more u 0) (sym g) ∙ (at_last ∙ sym same))
        | inr other ↦
            let p = h.placed y k (sym (get_or-set_other places x y (Some (length nodes)) None other) ∙ e) in
            (omega (arith, p.0), at_earlier k p.0 ∙ p.1)
      ]

  -- One more node.
  pub found_grows : HasFound from to count target (set places x (Some (length nodes))) more (edges ++ edge ∷ [])
      (onward ++ next ∷ [])
  found_grows =
      let lt_x : x < length places = omega (arith, h.all_nodes) in
      record {
        all_nodes = length-set places x (Some (length nodes)) ∙ h.all_nodes;
        each_edge = omega (arith, length_more edges edge, length_more nodes x, h.each_edge);
        each_onward = omega (arith, length_more onward next, length_more nodes x, h.each_onward);
        some_found = omega (arith, length_more nodes x);
        target_first = at_earlier 0 h.some_found ∙ h.target_first;
        in_graph = all_below_more nodes x count h.in_graph lt;
        steps = λ k p q. steps_grow k (omega (arith, length_more nodes x)) p;
        placed = λ y k e. let p = placed_grow y k e in (omega (arith, length_more nodes x, p.0), p.1);
        target_placed = placed_kept places x (length nodes) lt_x target h.target_placed;
        counted = length_more nodes x ∙ (ap (λ n. n + 1) h.counted ∙
            sym (count_more places x (length nodes) lt_x unplaced));
      }

-- What is read to be none is none.
pub unplaced_from : (places : List (Option ℕ)) (x : ℕ) (r : Option ℕ) → r ≡ get_or places x r → is_some r ≡ false →
    get_or places x None ≡ None
unplaced_from places x None e h = sym e
unplaced_from places x (Some v) e h = absurd cc

-- The same of columns that are equal to these.
pub found_like : (from to : List ℕ) (count target : ℕ) (places : List (Option ℕ)) (nodes edges onward : List ℕ)
    (nodes' edges' onward' : List ℕ) (x edge next len : ℕ) (r : Option ℕ) →
    HasFound from to count target places nodes edges onward →
    ((i : ℕ) → i < length from → get_or from i 0 < count) → edge < length to → next < length nodes →
    x ≡ get_or from edge x → edge < length from → get_or to edge 0 ≡ get_or nodes next 0 → r ≡ get_or places x r →
    is_some r ≡ false → len ≡ length nodes → nodes' ≡ nodes ++ x ∷ [] → edges' ≡ edges ++ edge ∷ [] →
    onward' ≡ onward ++ next ∷ [] → HasFound from to count target (set places x (Some len)) nodes' edges' onward'
found_like from to count target places nodes edges onward nodes' edges' onward' x edge next len r h nodes_in edge_in next_in
    leads_from in_from leads_to read none len_is e f g =
    let from_x : get_or from edge 0 ≡ x = sym (leads_from ∙ get_or_default_zero from edge x in_from) in
    let lt : x < count = omega (arith, nodes_in edge in_from, from_x) in
    let y = found_grows from to count target places nodes edges onward x edge next h lt edge_in next_in from_x leads_to
    (unplaced_from places x r read none) in
    let F : ℕ → List ℕ → List ℕ → List ℕ → Type 0 =
    λ l u v w. HasFound from to count target (set places x (Some l)) u v w in
    subst (λ l. F l nodes' edges' onward') (sym len_is)
    (subst (λ u. F (length nodes) u edges' onward') (sym e)
    (subst (λ u. F (length nodes) (nodes ++ x ∷ []) u onward') (sym f)
    (subst (λ u. F (length nodes) (nodes ++ x ∷ []) (edges ++ edge ∷ []) u) (sym g) y)))
