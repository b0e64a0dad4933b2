-- What is forced, and what is reached in the widened graph.
use Rattle.std.proofs.Common.{◌≡◌, ℕ, zero, suc, ◌<◌, ◌≤◌, List, [], ◌∷◌, ◌++◌, length, get_or, sym, ◌∙◌, ap, refl, subst}
use Rattle.std.proofs.Common.{arith, Option, Some, None, true, inl, inr, ◌⊎◌}
use Rattle.std.specs.List.{Contains}
use Rattle.std.proofs.lemmas.Bool.{cases_lt}
use Rattle.std.proofs.lemmas.List.{get_or_past}
use Rattle.std.proofs.lemmas.List.Elements.{Contains-append_right}
use Rattle.relation_regions.specs.declared.graph.Graph.{Graph}
use Rattle.relation_regions.specs.declared.standing.Standing.{Standing}
use Rattle.relation_regions.specs.declared.standing.Standing.TheVariants.{Named, Placeholder, Variable}
use Rattle.relation_regions.specs.Graphs.{IsPath, Reaches}
use Rattle.relation_regions.specs.Standings.{is_beyond, standing_of, IsBeyond, IsForced, by_edge, by_universe, itself}
use Rattle.relation_regions.specs.Standings.{through, Any}
use Rattle.relation_regions.specs.Widening.{AreReasons, HaveReasons, IsWidened}
use Rattle.relation_regions.specs.Deciding.{EdgeIsForced, Forced}
use Rattle.relation_regions.proofs.Paths.{joined, some_place}

-- Nothing is beyond a region with a name, or none.
nothing_beyond : (s : Standing) → is_beyond s Named ≡ true → ⊥
nothing_beyond Named h = absurd cc
nothing_beyond (Placeholder u) h = absurd cc
nothing_beyond (Variable u) h = absurd cc

-- What is beyond a variable is a node.
pub beyond_in : (standings : List Standing) (a p : ℕ) → IsBeyond standings a p → p < length standings
beyond_in standings a p h = elim (cases_lt p (length standings)) [
  | inl lt ↦ lt
  | inr le ↦ absurd (nothing_beyond (standing_of standings a)
      (sym (ap (λ s. is_beyond (standing_of standings a) s) (get_or_past standings p Named le)) ∙ h))
]

-- One more of a list.
pub contains_pushed : (xs : List ℕ) (x : ℕ) → Contains (xs ++ x ∷ []) x
contains_pushed xs x = Contains-append_right xs (x ∷ []) x (0, omega arith, refl)

-- Each edge of a path is one of the graph.
pub path_in : (from to path : List ℕ) (a b : ℕ) → IsPath from to path a b → (k : ℕ) → k < length path →
    get_or path k 0 < length to
path_in from to [] a b p k lt = absurd (omega arith)
path_in from to (i ∷ path) a b p zero lt = p.0
path_in from to (i ∷ path) a b p (suc k) lt = path_in from to path (get_or to i 0) b p.2 k (omega arith)

module _ (from to : List ℕ) (asked : ℕ) (standings : List Standing) where
  -- By more of what is asked no less is forced.
  pub forced_more : (C D : ℕ → Type 0) → ((i : ℕ) → C i → D i) → (a b : ℕ) → IsForced from to asked standings C a b →
      IsForced from to asked standings D a b
  forced_more C D more a b (by_edge i lt chosen e f) = by_edge i lt (λ q. more i (chosen q)) e f
  forced_more C D more a b (by_universe p e beyond h) = by_universe p e beyond (forced_more C D more a p h)
  forced_more C D more a b (itself e) = itself e
  forced_more C D more a b (through {b = m} h k) =
      through (forced_more C D more a m h) (forced_more C D more m b k)

  -- A path forces what it leads from to outlive what it leads to, by its edges that are asked for.
  pub path_forced : (C : ℕ → Type 0) (path : List ℕ) (a b : ℕ) →
      ((k : ℕ) → k < length path → get_or path k 0 < asked → C (get_or path k 0)) → IsPath from to path a b →
      IsForced from to asked standings C a b
  path_forced C [] a b has p = itself p
  path_forced C (i ∷ path) a b has p =
      let first : IsForced from to asked standings C a (get_or to i 0) =
      by_edge i p.0 (λ q. has 0 (omega arith) q) p.1 refl in
      through first (path_forced C path (get_or to i 0) b (λ k lt q. has (suc k) (omega arith) q) p.2)

module _ (g w : Graph) (asked : ℕ) (standings : List Standing) where
  -- A path of the widened graph, of whose edges each is forced.
  pub wide_path_forced : (C : ℕ → Type 0) (path : List ℕ) (a b : ℕ) →
      ((k : ℕ) → k < length path → EdgeIsForced g w asked standings C (get_or path k 0)) →
      IsPath w.from.items w.to.items path a b → IsForced g.from.items g.to.items asked standings C a b
  wide_path_forced C [] a b each p = itself p
  wide_path_forced C (i ∷ path) a b each p =
      let first : IsForced g.from.items g.to.items asked standings C a (get_or w.to.items i 0) =
      subst (λ x. IsForced g.from.items g.to.items asked standings C x (get_or w.to.items i 0)) p.1
      (each 0 (omega arith)) in
      through first (wide_path_forced C path (get_or w.to.items i 0) b (λ k lt. each (suc k) (omega arith)) p.2)

  module _ (reasons : List (Option ℕ)) (bound : ℕ) (h : IsWidened g reasons bound w) (are : AreReasons g standings reasons)
    where
      -- An edge of the graph itself, if it is chosen where it is asked for.
      pub own_edge : (C : ℕ → Type 0) (i : ℕ) → i < length g.to.items → (i < asked → C i) →
          EdgeIsForced g w asked standings C i
      own_edge C i lt chosen = by_edge i lt chosen (sym (h.same_from i lt)) (sym (h.same_to i lt))

      -- An edge to 'static, if its node is forced to outlive its reason.
      pub static_edge : (C : ℕ → Type 0) (i p : ℕ) → length g.to.items ≤ i → i < length w.to.items →
          get_or reasons (get_or w.from.items i 0) None ≡ Some p →
          IsForced g.from.items g.to.items asked standings C (get_or w.from.items i 0) p →
          EdgeIsForced g w asked standings C i
      static_edge C i p le lt e forced =
          by_universe p (h.to_static i le lt) (are.beyond (get_or w.from.items i 0) p e) forced

      any_edge : (i : ℕ) → i < length w.to.items → EdgeIsForced g w asked standings Any i
      any_edge i lt = elim (cases_lt i (length g.to.items)) [
        | inl own ↦ own_edge Any i own (λ q. tt)
        | inr le ↦
            let r = some_place reasons (get_or w.from.items i 0) (h.for_reasons i le lt) in
            let p = are.reaches (get_or w.from.items i 0) r.0 r.1 in
            static_edge Any i r.0 le lt r.1 (path_forced g.from.items g.to.items asked standings Any p.0
            (get_or w.from.items i 0) r.0 (λ k q s. tt) p.1)
      ]

      -- What is reached in the widened graph is forced.
      pub reached_forced : (a b : ℕ) → Reaches w a b → Forced g asked standings a b
      reached_forced a b p = wide_path_forced Any p.0 a b
          (λ k lt. any_edge (get_or p.0 k 0) (path_in w.from.items w.to.items p.0 a b p.1 k lt)) p.1

      -- An edge of the graph is one of the widened one.
      own_reaches : (i : ℕ) → i < length g.to.items → Reaches w (get_or g.from.items i 0) (get_or g.to.items i 0)
      own_reaches i lt = (i ∷ [], (omega (arith, h.longer), h.same_from i lt, h.same_to i lt))

      -- What reaches a node in the widened graph does so in the graph, or reaches 'static.
      either_way : (path : List ℕ) (a p : ℕ) → IsPath w.from.items w.to.items path a p → Reaches g a p ⊎ Reaches w a 0
      either_way [] a p e = inl ([], e)
      either_way (i ∷ path) a p e = elim (cases_lt i (length g.to.items)) [
        | inl own ↦ elim (either_way path (get_or w.to.items i 0) p e.2) [
          | inl r ↦ inl (
            i ∷ r.0,
            (
              own,
              sym (h.same_from i own) ∙ e.1,
              subst (λ x. IsPath g.from.items g.to.items r.0 x p) (h.same_to i own) r.1,
            ),
          )
          | inr r ↦ inr (i ∷ r.0, (e.0, e.1, r.1))
        ]
        | inr le ↦ inr (i ∷ [], (e.0, e.1, h.to_static i le e.0))
      ]

      -- What is forced is reached in the widened graph.
      module _ (all : HaveReasons g standings (length standings) reasons) (whole : length standings ≤ bound) where
        to_static : (a p : ℕ) → a < bound → IsBeyond standings a p → Reaches w a p → Reaches w a 0
        to_static a p a_in beyond r = elim (either_way r.0 a p r.1) [
          | inl q ↦
              let e = h.each a a_in (all a p (beyond_in standings a p beyond) beyond q) in
              (e.0 ∷ [], (e.2, e.3, h.to_static e.0 e.1 e.2))
          | inr q ↦ q
        ]

        pub forced_reached : ((a p : ℕ) → IsBeyond standings a p → a < length standings) → (a b : ℕ) →
            Forced g asked standings a b → Reaches w a b
        forced_reached beyond_node a b (by_edge i lt chosen e f) = subst (λ x. Reaches w x b) e
            (subst (λ x. Reaches w (get_or g.from.items i 0) x) f (own_reaches i lt))
        forced_reached beyond_node a b (by_universe p e beyond k) = subst (λ x. Reaches w a x) (sym e)
            (to_static a p (omega (arith, beyond_node a p beyond)) beyond (forced_reached beyond_node a p k))
        forced_reached beyond_node a b (itself e) = ([], e)
        forced_reached beyond_node a b (through {b = m} k l) =
            let p = forced_reached beyond_node a m k in let q = forced_reached beyond_node m b l in
            (p.0 ++ q.0, joined w.from.items w.to.items p.0 q.0 a m b p.1 q.1)

-- What can't name a placeholder is a node.
pub none_names_less : (s : Standing) → is_beyond Named s ≡ true → ⊥
none_names_less Named h = absurd cc
none_names_less (Placeholder u) h = absurd cc
none_names_less (Variable u) h = absurd cc

pub beyond_node : (standings : List Standing) (a p : ℕ) → IsBeyond standings a p → a < length standings
beyond_node standings a p h = elim (cases_lt a (length standings)) [
  | inl lt ↦ lt
  | inr le ↦ absurd (none_names_less (standing_of standings p)
      (sym (ap (λ s. is_beyond s (standing_of standings p)) (get_or_past standings a Named le)) ∙ h))
]
