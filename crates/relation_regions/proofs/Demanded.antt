-- What is forced by the edges of built graphs is what pairs demand.
use Rattle.std.proofs.Common.{◌≡◌, ℕ, ◌<◌, ◌+◌, ◌-◌, List, [], ◌∷◌, ◌++◌, length, get_or, sym, ◌∙◌, ap, subst, arith}
use Rattle.std.proofs.Common.{inl, inr, Result, Ok, Err, IfOk}
use Rattle.std.proofs.lemmas.Bool.{cases_lt}
use Rattle.relation_regions.specs.declared.graph.Graph.{Graph}
use Rattle.relation_regions.specs.declared.building.Pairs.{Pairs}
use Rattle.relation_regions.specs.declared.standing.Standing.{Standing}
use Rattle.relation_regions.specs.declared.decide.Decision.{Decision}
use Rattle.relation_regions.specs.declared.decide.Decision.TheVariants.{Met, Unmet}
use Rattle.relation_regions.specs.Graphs.{IsPath, Reaches}
use Rattle.relation_regions.specs.Building.{IsBuilt}
use Rattle.relation_regions.specs.Standings.{IsForced, by_edge, by_universe, itself, through, Any, Among}
use Rattle.relation_regions.specs.Deciding.{IsMet, IsUnmet, IsDecision}
use Rattle.relation_regions.specs.Demands.{IsDemanded, by_asked, by_known, from_static, by_universe as demanded_by_universe}
use Rattle.relation_regions.specs.Demands.{itself as demanded_itself, through as demanded_through, IsKnown, is_stated}
use Rattle.relation_regions.specs.Demands.{static_first, is_itself, goes_through, Meets, Refutes, IfMet, IfUnmet}
use Rattle.relation_regions.proofs.Paths.{joined}

-- A place counted from 0.
from_zero : (xs : List ℕ) (k : ℕ) → get_or xs (0 + k) 0 ≡ get_or xs k 0
from_zero xs k = let e : 0 + k ≡ k = omega arith in ap (λ j. get_or xs j 0) e

module _ (standings : List Standing) (asked known : Pairs) (g : Graph)
    (built : IsBuilt (length standings) asked known g) where
  abbrev A : ℕ
  A = length asked.shorter.items

  abbrev F : ℕ
  F = length known.shorter.items

  module _ (C : ℕ → Type 0) where
    -- What is demanded is forced.
    pub demanded_forced : (a b : ℕ) → IsDemanded standings asked known C a b →
        IsForced g.from.items g.to.items A standings C a b
    demanded_forced a b (by_asked k lt c e f) =
        let i_lt : k < length g.to.items = omega (arith, lt, built.count) in
        by_edge k i_lt (λ q. c) (sym (from_zero g.from.items k) ∙ (built.has_asked.longer k lt ∙ e))
        (sym (from_zero g.to.items k) ∙ (built.has_asked.shorter k lt ∙ f))
    demanded_forced a b (by_known k lt e f) =
        let i_lt : A + k < length g.to.items = omega (arith, lt, built.count) in
        by_edge (A + k) i_lt (λ q. absurd (omega (arith, q))) (built.has_known.longer k lt ∙ e)
        (built.has_known.shorter k lt ∙ f)
    demanded_forced a b (from_static e lt) =
        let i_lt : A + F + b < length g.to.items = omega (arith, lt, built.count) in
        by_edge (A + F + b) i_lt (λ q. absurd (omega (arith, q))) (built.has_static.from_static b lt ∙ sym e)
        (built.has_static.to_each b lt)
    demanded_forced a b (demanded_by_universe p e beyond h) = by_universe p e beyond (demanded_forced a p h)
    demanded_forced a b (demanded_itself e) = itself e
    demanded_forced a b (demanded_through {b = m} h k) = through (demanded_forced a m h) (demanded_forced m b k)

    -- An edge is demanded.
    edge_demanded : (i : ℕ) → i < length g.to.items → (i < A → C i) →
        IsDemanded standings asked known C (get_or g.from.items i 0) (get_or g.to.items i 0)
    edge_demanded i lt chosen = elim (cases_lt i A) [
      | inl first ↦ by_asked i first (chosen first)
          (sym (built.has_asked.longer i first) ∙ from_zero g.from.items i)
          (sym (built.has_asked.shorter i first) ∙ from_zero g.to.items i)
      | inr le ↦ elim (cases_lt i (A + F)) [
        | inl second ↦
            let k = i - A in
            let k_lt : k < F = omega (arith, le, second) in
            let e : A + k ≡ i = omega (arith, le) in
            by_known k k_lt (sym (built.has_known.longer k k_lt) ∙ ap (λ j. get_or g.from.items j 0) e)
            (sym (built.has_known.shorter k k_lt) ∙ ap (λ j. get_or g.to.items j 0) e)
        | inr far ↦
            let k = i - (A + F) in
            let k_lt : k < length standings = omega (arith, far, lt, built.count) in
            let e : A + F + k ≡ i = omega (arith, far) in
            let from_is : get_or g.from.items i 0 ≡ 0 =
            sym (ap (λ j. get_or g.from.items j 0) e) ∙ built.has_static.from_static k k_lt in
            let to_is : get_or g.to.items i 0 ≡ k =
            sym (ap (λ j. get_or g.to.items j 0) e) ∙ built.has_static.to_each k k_lt in
            from_static from_is (subst (λ u. u < length standings) (sym to_is) k_lt)
      ]
    ]

    -- What is forced is demanded.
    pub forced_demanded : (a b : ℕ) → IsForced g.from.items g.to.items A standings C a b →
        IsDemanded standings asked known C a b
    forced_demanded a b (by_edge i lt chosen e f) =
        subst (λ u. IsDemanded standings asked known C u b) e
        (subst (λ u. IsDemanded standings asked known C (get_or g.from.items i 0) u) f (edge_demanded i lt chosen))
    forced_demanded a b (by_universe p e beyond h) = demanded_by_universe p e beyond (forced_demanded a p h)
    forced_demanded a b (itself e) = demanded_itself e
    forced_demanded a b (through {b = m} h k) = demanded_through (forced_demanded a m h) (forced_demanded m b k)

module _ (standings : List Standing) (none known : Pairs) (g : Graph) (empty : length none.shorter.items ≡ 0)
    (built : IsBuilt (length standings) none known g) where
  abbrev E : ℕ
  E = length none.shorter.items

  abbrev K : ℕ
  K = length known.shorter.items

  -- What is known is reached.
  pub known_reached : (a b : ℕ) → IsKnown standings known a b → Reaches g a b
  known_reached a b (is_stated k lt e f) =
      let i_lt : E + k < length g.to.items = omega (arith, lt, built.count) in
      ((E + k) ∷ [], (i_lt, built.has_known.longer k lt ∙ e, built.has_known.shorter k lt ∙ f))
  known_reached a b (static_first e lt) =
      let i_lt : E + K + b < length g.to.items = omega (arith, lt, built.count) in
      ((E + K + b) ∷ [], (i_lt, built.has_static.from_static b lt ∙ sym e, built.has_static.to_each b lt))
  known_reached a b (is_itself e) = ([], e)
  known_reached a b (goes_through {b = m} h k) =
      let p = known_reached a m h in let q = known_reached m b k in
      (p.0 ++ q.0, joined g.from.items g.to.items p.0 q.0 a m b p.1 q.1)

  -- An edge is known.
  edge_known : (i : ℕ) → i < length g.to.items → IsKnown standings known (get_or g.from.items i 0) (get_or g.to.items i 0)
  edge_known i lt = elim (cases_lt i K) [
    | inl first ↦
        let e : E + i ≡ i = omega (arith, empty) in
        is_stated i first (sym (built.has_known.longer i first) ∙ ap (λ j. get_or g.from.items j 0) e)
        (sym (built.has_known.shorter i first) ∙ ap (λ j. get_or g.to.items j 0) e)
    | inr far ↦
        let k = i - K in
        let k_lt : k < length standings = omega (arith, far, lt, built.count, empty) in
        let e : E + K + k ≡ i = omega (arith, far, empty) in
        let from_is : get_or g.from.items i 0 ≡ 0 =
        sym (ap (λ j. get_or g.from.items j 0) e) ∙ built.has_static.from_static k k_lt in
        let to_is : get_or g.to.items i 0 ≡ k =
        sym (ap (λ j. get_or g.to.items j 0) e) ∙ built.has_static.to_each k k_lt in
        static_first from_is (subst (λ u. u < length standings) (sym to_is) k_lt)
  ]

  path_known : (path : List ℕ) (a b : ℕ) → IsPath g.from.items g.to.items path a b → IsKnown standings known a b
  path_known [] a b e = is_itself e
  path_known (i ∷ path) a b e = goes_through
      (subst (λ u. IsKnown standings known u (get_or g.to.items i 0)) e.1 (edge_known i e.0))
      (path_known path (get_or g.to.items i 0) b e.2)

  -- What is reached is known.
  pub reached_known : (a b : ℕ) → Reaches g a b → IsKnown standings known a b
  reached_known a b p = path_known p.0 a b p.1

module _ (standings : List Standing) (asked known none : Pairs) (g alone : Graph) (empty : length none.shorter.items ≡ 0)
    (built : IsBuilt (length standings) asked known g) (built_alone : IsBuilt (length standings) none known alone) where
  -- What is decided of the graphs is so of the pairs.
  meets : (values : List (ℕ × ℕ)) → IsMet alone g (length asked.shorter.items) standings values →
      Meets standings asked known values
  meets values h = record {
    all_known = λ a b ga gb d. reached_known standings none known alone empty built_alone a b
        (h.all_known a b ga gb (demanded_forced standings asked known g built Any a b d));
    each = λ a b va gb d. h.each a b va gb (demanded_forced standings asked known g built Any a b d);
    only = λ a b c. let p = h.only a b c in (p.0, p.1, forced_demanded standings asked known g built Any a b p.2);
  }

  refutes : (longer shorter : ℕ) (by : List ℕ) →
      IsUnmet alone g (length asked.shorter.items) standings longer shorter by →
      Refutes standings asked known longer shorter by
  refutes longer shorter by h = record {
    longer_given = h.longer_given;
    shorter_given = h.shorter_given;
    asked_for = h.asked_for;
    demanded = forced_demanded standings asked known g built (Among by) longer shorter h.forced;
    unknown = λ k. h.unknown (known_reached standings none known alone empty built_alone longer shorter k);
  }

  pub met_answer : {X : Type 0} (r : Result Decision X) (n : ℕ) → n ≡ length asked.shorter.items →
      IfOk r (IsDecision alone g n standings) → IfOk r (IfMet standings asked known)
  met_answer (Ok (Met values)) n e h =
      meets values.items (subst (λ u. IsMet alone g u standings values.items) e h)
  met_answer (Ok (Unmet longer shorter by)) n e h = tt
  met_answer (Err x) n e h = tt

  pub unmet_answer : {X : Type 0} (r : Result Decision X) (n : ℕ) → n ≡ length asked.shorter.items →
      IfOk r (IsDecision alone g n standings) → IfOk r (IfUnmet standings asked known)
  unmet_answer (Ok (Met values)) n e h = tt
  unmet_answer (Ok (Unmet longer shorter by)) n e h =
      refutes longer shorter by.items (subst (λ u. IsUnmet alone g u standings longer shorter by.items) e h)
  unmet_answer (Err x) n e h = tt
