-- Paths: joined, and followed back by what is closed under edges.
use Rattle.std.proofs.Common.{◌≡◌, ℕ, ◌<◌, ◌≤◌, suc, zero, List, [], ◌∷◌, ◌++◌, length, get_or, sym, ◌∙◌, ap}
use Rattle.std.proofs.Common.{refl, subst, Option, Some, None, IsSome, is_some, true, false, append_assoc, arith, unwrap_or}
use Rattle.std.proofs.lemmas.List.{append-nil, get_or_default}
use Rattle.std.proofs.lemmas.Grind.{get_or_default_zero}
use Rattle.relation_regions.specs.declared.graph.Graph.{Graph}
use Rattle.relation_regions.specs.declared.search.Search.{Search}
use Rattle.relation_regions.specs.Graphs.{IsPath, Reaches}
use Rattle.relation_regions.specs.Searches.{IsSearch, IsFound, HasPredecessors, IsStep, FindsAll}

module _ (from to : List ℕ) where
  -- One path after another.
  pub joined : (path rest : List ℕ) (a b c : ℕ) → IsPath from to path a b → IsPath from to rest b c →
      IsPath from to (path ++ rest) a c
  joined [] rest a b c p q = subst (λ x. IsPath from to rest x c) (sym p) q
  joined (i ∷ path) rest a b c p q = (p.0, p.1, joined path rest (get_or to i 0) b c p.2 q)

  -- What holds of the end, and along each edge of its start if of its end, holds of the start.
  pub followed_back : (P : ℕ → Type 0) → ((i : ℕ) → i < length to → P (get_or to i 0) → P (get_or from i 0)) →
      (path : List ℕ) (a b : ℕ) → IsPath from to path a b → P b → P a
  followed_back P closed [] a b p h = subst P (sym p) h
  followed_back P closed (i ∷ path) a b p h =
      subst P p.1 (closed i p.0 (followed_back P closed path (get_or to i 0) b p.2 h))

-- What is there has a place.
pub some_place : (places : List (Option ℕ)) (x : ℕ) → IsSome (get_or places x None) →
    (k : ℕ) × (get_or places x None ≡ Some k)
some_place places x h =
    elim (get_or places x None) as (λ o. is_some o ≡ true → (k : ℕ) × (o ≡ Some k)) [
      | None ↦ λ e. absurd cc
      | Some k ↦ λ e. (k, refl)
    ] h

-- Once all from which an edge leads to a found node are found, all are from which the target is reached.
pub closed_finds_all : (g : Graph) (target : ℕ) (s : Search) → IsSearch g target s →
    ((k : ℕ) → k < length s.nodes.items → HasPredecessors g s 0 (get_or s.nodes.items k 0)) → FindsAll g target s
closed_finds_all g target s h closed x p =
    followed_back g.from.items g.to.items (λ y. IsFound s y)
    (λ i lt found. let k = some_place s.places.items (get_or g.to.items i 0) found in
    let q = h.placed (get_or g.to.items i 0) k.0 k.1 in closed k.0 q.0 i (omega arith) lt (sym q.1))
    p.0 x target p.1 h.target_placed

-- One more edge of a way that is followed.
pub path_more : (from to path nodes : List ℕ) (a target place e next : ℕ) → IsStep from to nodes place e next →
    ((rest : List ℕ) → IsPath from to rest (get_or nodes place 0) target → IsPath from to (path ++ rest) a target) →
    (rest : List ℕ) → IsPath from to rest (get_or nodes next 0) target →
    IsPath from to ((path ++ e ∷ []) ++ rest) a target
path_more from to path nodes a target place e next s h rest p =
    subst (λ l. IsPath from to l a target) (sym (append_assoc path (e ∷ []) rest))
    (h (e ∷ rest) (s.edge, s.leads_from, subst (λ x. IsPath from to rest x target) (sym s.leads_to) p))

-- Where a followed way begins: at the place of the node.
pub path_start : (g : Graph) (target : ℕ) (s : Search) (node k : ℕ) (r : Option ℕ) (done : List ℕ) →
    IsSearch g target s → node < length s.places.items → IsFound s node → r ≡ get_or s.places.items node r →
    k ≡ unwrap_or r 0 → done ≡ [] → (k < length s.nodes.items) × ((rest : List ℕ) →
    IsPath g.from.items g.to.items rest (get_or s.nodes.items k 0) target →
    IsPath g.from.items g.to.items (done ++ rest) node target)
path_start g target s node k None done h lt found read is empty =
    let e : get_or s.places.items node None ≡ None = sym read in
    let f : is_some (get_or s.places.items node None) ≡ false = ap is_some e in
    absurd (cc (f, found))
path_start g target s node k (Some v) done h lt found read is empty =
    let p = h.placed node v (get_or_default s.places.items node None (Some v) lt ∙ sym read) in (
      subst (λ i. i < length s.nodes.items) (sym is) p.0,
      λ rest q. subst (λ l. IsPath g.from.items g.to.items (l ++ rest) node target) (sym empty)
          (subst (λ x. IsPath g.from.items g.to.items rest x target) p.1
          (subst (λ i. IsPath g.from.items g.to.items rest (get_or s.nodes.items i 0) target) is q)),
    )

-- The next place of a way that is followed.
pub path_next : (g : Graph) (target : ℕ) (s : Search) (node place e next : ℕ) (done done' : List ℕ) →
    IsSearch g target s → 0 < place → place < length s.nodes.items → e ≡ get_or s.edges.items place e →
    next ≡ get_or s.onward.items place next → done' ≡ done ++ e ∷ [] →
    ((rest : List ℕ) → IsPath g.from.items g.to.items rest (get_or s.nodes.items place 0) target →
    IsPath g.from.items g.to.items (done ++ rest) node target) → (next < length s.nodes.items) × ((rest : List ℕ) →
    IsPath g.from.items g.to.items rest (get_or s.nodes.items next 0) target →
    IsPath g.from.items g.to.items (done' ++ rest) node target)
path_next g target s node place e next done done' h some lt read_e read_next is leads =
    let e_is : e ≡ get_or s.edges.items place 0 =
    read_e ∙ get_or_default_zero s.edges.items place e (omega (arith, h.each_edge)) in
    let next_is : next ≡ get_or s.onward.items place 0 =
    read_next ∙ get_or_default_zero s.onward.items place next (omega (arith, h.each_onward)) in
    let step : IsStep g.from.items g.to.items s.nodes.items place e next =
    subst (λ u. IsStep g.from.items g.to.items s.nodes.items place u next) (sym e_is)
    (subst (λ u. IsStep g.from.items g.to.items s.nodes.items place (get_or s.edges.items place 0) u)
    (sym next_is) (h.steps place some lt)) in (
      omega (arith, step.back),
      λ rest p. subst (λ l. IsPath g.from.items g.to.items (l ++ rest) node target) (sym is)
          (path_more g.from.items g.to.items done s.nodes.items node target place e next step leads rest p),
    )

-- Where it ends: at the target.
pub path_end : (g : Graph) (target : ℕ) (s : Search) (node place : ℕ) (done : List ℕ) → IsSearch g target s →
    place ≤ 0 → ((rest : List ℕ) → IsPath g.from.items g.to.items rest (get_or s.nodes.items place 0) target →
    IsPath g.from.items g.to.items (done ++ rest) node target) → IsPath g.from.items g.to.items done node target
path_end g target s node place done h at_first leads =
    let z : place ≡ 0 = omega arith in
    subst (λ l. IsPath g.from.items g.to.items l node target) (append-nil done)
    (leads [] (ap (λ i. get_or s.nodes.items i 0) z ∙ h.target_first))

-- What is found reaches the target: by the steps from its place.
place_reaches : (g : Graph) (target : ℕ) (s : Search) → IsSearch g target s → (rounds k : ℕ) → k < rounds →
    k < length s.nodes.items → Reaches g (get_or s.nodes.items k 0) target
place_reaches g target s h zero k lt q = absurd (omega arith)
place_reaches g target s h (suc n) zero lt q = ([], h.target_first)
place_reaches g target s h (suc n) (suc k) lt q =
    let step = h.steps (suc k) (omega arith) q in
    let next = get_or s.onward.items (suc k) 0 in
    let r = place_reaches g target s h n next (omega (arith, step.back)) (omega (arith, step.back)) in (
      get_or s.edges.items (suc k) 0 ∷ r.0,
      (step.edge, step.leads_from, subst (λ x. IsPath g.from.items g.to.items r.0 x target) (sym step.leads_to) r.1),
    )

pub found_reaches : (g : Graph) (target : ℕ) (s : Search) (x : ℕ) → IsSearch g target s → IsFound s x →
    Reaches g x target
found_reaches g target s x h found =
    let k = some_place s.places.items x found in
    let p = h.placed x k.0 k.1 in
    subst (λ y. Reaches g y target) p.1 (place_reaches g target s h (suc k.0) k.0 (omega arith) p.0)
