-- A search: how it begins, and what stays while it goes on.
use borrow.Author.Count.{below_more}
use Rattle.std.proofs.Common.{◌≡◌, ℕ, ◌<◌, ◌≤◌, ◌+◌, ◌-◌, List, [], ◌∷◌, ◌++◌, length, get_or, arith, sym, ◌∙◌, ap, refl, subst}
use Rattle.std.proofs.Common.{inl, inr, Option, Some, None, IsSome, is_some, cond, replicate}
use Rattle.std.specs.List.{count_by}
use Rattle.std.proofs.Math.ListN.{set}
use Rattle.std.proofs.lemmas.Bool.{cases_eq, cases_lt}
use Rattle.std.proofs.lemmas.List.{get_or_append_left, get_or-set_same, get_or-set_other, get_or-replicate, get_or_past}
use Rattle.std.proofs.lemmas.List.{length-set, length-replicate}
use Rattle.std.proofs.lemmas.List.Folds.{sum_by-replicate}
use Rattle.relation_regions.specs.declared.graph.Graph.{Graph}
use Rattle.relation_regions.specs.declared.search.Search.{Search}
use Rattle.relation_regions.specs.Graphs.{IsGraph, IsLatest}
use Rattle.relation_regions.specs.Searches.{HasFound, Keeps, IsFound, HasPredecessors}
use Rattle.relation_regions.proofs.Columns.{length_more}
use Rattle.relation_regions.proofs.Found.{count_more, placed_kept}

-- The target alone has a place.
module _ (count target : ℕ) (lt : target < count) where
  abbrev none : List (Option ℕ)
  none = replicate count None

  size : length none ≡ count
  size = length-replicate count None

  within : target < length none
  within = omega (arith, size)

  none_counted : count_by is_some none ≡ 0
  none_counted = sum_by-replicate (λ (o : Option ℕ). cond (is_some o) 1 0) count None ∙ omega arith

  first_place : (x k : ℕ) → get_or (set none target (Some 0)) x None ≡ Some k → (k < 1) × (get_or (target ∷ []) k 0 ≡ x)
  first_place x k e = elim (cases_eq x target) [
    | inl same ↦
        let f : Some 0 ≡ Some k = sym (get_or-set_same none target (Some 0) None within) ∙
        (ap (λ u. get_or (set none target (Some 0)) u None) (sym same) ∙ e) in
        let g : 0 ≡ k = cc in
        (omega (arith, g), ap (λ i. get_or (target ∷ []) i 0) (sym g) ∙ sym same)
    | inr other ↦
        let f : get_or none x None ≡ Some k = sym (get_or-set_other none target x (Some 0) None other) ∙ e in
        elim (cases_lt x count) [
          | inl below ↦ (let g : None ≡ Some k = sym (get_or-replicate count x None None below) ∙ f in absurd cc)
          | inr past ↦ (let g : None ≡ Some k = sym (get_or_past none x None (omega (arith, size, past))) ∙ f in absurd cc)
        ]
  ]

  begun_at : (from to : List ℕ) → HasFound from to count target (set none target (Some 0)) (target ∷ []) (0 ∷ []) (0 ∷ [])
  begun_at from to = record {
    all_nodes = length-set none target (Some 0) ∙ size;
    each_edge = refl;
    each_onward = refl;
    some_found = omega arith;
    target_first = refl;
    in_graph = λ k q. let z : k ≡ 0 = omega (arith, q) in
        subst (λ i. get_or (target ∷ []) i 0 < count) (sym z) lt;
    steps = λ k p q. absurd (omega (arith, p, q));
    placed = first_place;
    target_placed = ap is_some (get_or-set_same none target (Some 0) None within);
    counted = sym (count_more none target 0 within (get_or-replicate count target None None lt) ∙ ap (λ n. n + 1) none_counted);
  }

-- The same of columns that are equal to these.
pub begun : (from to : List ℕ) (count target : ℕ) (places : List (Option ℕ)) (nodes edges onward : List ℕ) →
    target < count → places ≡ set (replicate count None) target (Some 0) → nodes ≡ target ∷ [] → edges ≡ 0 ∷ [] →
    onward ≡ 0 ∷ [] → HasFound from to count target places nodes edges onward
begun from to count target places nodes edges onward lt e f g h =
    let F : List (Option ℕ) → List ℕ → List ℕ → List ℕ → Type 0 = λ p u v w. HasFound from to count target p u v w in
    subst (λ p. F p nodes edges onward) (sym e)
    (subst (λ u. F (set (replicate count None) target (Some 0)) u edges onward) (sym f)
    (subst (λ v. F (set (replicate count None) target (Some 0)) (target ∷ []) v onward) (sym g)
    (subst (λ w. F (set (replicate count None) target (Some 0)) (target ∷ []) (0 ∷ []) w) (sym h)
    (begun_at count target lt from to))))

-- What is kept twice is kept.
pub keeps_itself : (s : Search) → Keeps s s
keeps_itself s = record { longer = omega arith; nodes = λ k lt. refl; places = λ x h. h }

pub keeps_on : (s t u : Search) → Keeps s t → Keeps t u → Keeps s u
keeps_on s t u a b = record {
  longer = omega (arith, a.longer, b.longer);
  nodes = λ k lt. b.nodes k (omega (arith, lt, a.longer)) ∙ a.nodes k lt;
  places = λ x h. b.places x (a.places x h);
}

-- One more node was found.
module _ (s t : Search) (x len : ℕ) (lt : x < length s.places.items)
    (placed : t.places.items ≡ set s.places.items x (Some len)) where
  pub kept_more : t.nodes.items ≡ s.nodes.items ++ x ∷ [] → Keeps s t
  kept_more added = record {
    longer = omega (arith, ap (λ (l : List ℕ). length l) added ∙ length_more s.nodes.items x);
    nodes = λ k q. ap (λ l. get_or l k 0) added ∙ get_or_append_left s.nodes.items (x ∷ []) 0 k q;
    places = λ y h. subst (λ (l : List (Option ℕ)). IsSome (get_or l y None)) (sym placed)
        (placed_kept s.places.items x len lt y h);
  }

pub found_now : (places : List (Option ℕ)) (x len y : ℕ) → x < length places → y ≡ x →
    IsSome (get_or (set places x (Some len)) y None)
found_now places x len y lt e = subst (λ z. IsSome (get_or (set places x (Some len)) z None)) (sym e)
    (ap is_some (get_or-set_same places x (Some len) None lt))

module _ (g : Graph) (graph : IsGraph g) where
  -- The latest edge to a node leads to it, and none behind that does.
  pub latest_first : (s : Search) (node left : ℕ) → node < length g.latest.items → left ≡ get_or g.latest.items node 0 →
      IsLatest g.to.items left node left × (left ≤ length g.to.items) × HasPredecessors g s left node
  latest_first s node left lt is =
      let l = subst (λ n. IsLatest g.to.items (length g.to.items) node n) (sym is) (graph.latest_ones node lt) in (
        record { within = omega arith; leads = l.leads; none_later = λ j p q e. omega (arith, p, q) },
        l.within,
        λ i le below e. absurd (l.none_later i le below e),
      )

  -- The node of one more edge is found, and no edge between that and the next leads to the node.
  pub predecessors_more : (s t : Search) (node left next : ℕ) → 0 < left → left ≤ length g.to.items →
      get_or g.to.items (left - 1) 0 ≡ node → next ≡ get_or g.earlier.items (left - 1) 0 →
      HasPredecessors g s left node → Keeps s t → IsFound t (get_or g.from.items (left - 1) 0) →
      HasPredecessors g t next node
  predecessors_more s t node left next some within leads next_is before keeps found = λ i le below e.
      let l = graph.earlier_ones (left - 1) (omega (arith, some, within)) in
      elim (cases_lt i left) [
        | inr far ↦ keeps.places (get_or g.from.items i 0) (before i far below e)
        | inl near ↦ elim (cases_eq i (left - 1)) [
          | inl same ↦ subst (λ j. IsFound t (get_or g.from.items j 0)) (sym same) found
          | inr other ↦ absurd (l.none_later i (omega (arith, le, next_is)) (omega (arith, near, other)) (e ∙ sym leads))
        ]
      ]

  -- The next edge is the latest before this one.
  pub latest_next : (node left next : ℕ) → 0 < left → left ≤ length g.to.items →
      get_or g.to.items (left - 1) 0 ≡ node → next ≡ get_or g.earlier.items (left - 1) 0 →
      IsLatest g.to.items next node next × (next < left)
  latest_next node left next some within leads next_is =
      let l = graph.earlier_ones (left - 1) (omega (arith, some, within)) in (
        record {
          within = omega arith;
          leads = λ p. subst (λ n. get_or g.to.items (n - 1) 0 ≡ node) (sym next_is) (l.leads (omega (arith, p, next_is)) ∙ leads);
          none_later = λ j p q e. omega (arith, p, q);
        },
        omega (arith, l.within, next_is, some),
      )

  -- The nodes at the first places are done, and one more.
  pub done_more : (s t : Search) (done : ℕ) → done < length s.nodes.items →
      ((k : ℕ) → k < done → HasPredecessors g s 0 (get_or s.nodes.items k 0)) → Keeps s t →
      HasPredecessors g t 0 (get_or s.nodes.items done 0) →
      (k : ℕ) → k < done + 1 → HasPredecessors g t 0 (get_or t.nodes.items k 0)
  done_more s t done lt before keeps new =
      let P : ℕ → Type 0 = λ k. HasPredecessors g t 0 (get_or t.nodes.items k 0) in
      below_more P done
      (λ k q. subst (λ n. HasPredecessors g t 0 n) (sym (keeps.nodes k (omega (arith, q, lt))))
      (λ i le below e. keeps.places (get_or g.from.items i 0) (before k q i le below e)))
      (subst (λ n. HasPredecessors g t 0 n) (sym (keeps.nodes done lt)) new)
