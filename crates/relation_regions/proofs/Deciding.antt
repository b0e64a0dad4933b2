-- Steps of deciding: what is added to lists, and what is known of one more target.
use borrow.Author.Count.{below_more}
use Rattle.std.proofs.Common.{◌≡◌, ℕ, zero, suc, ◌<◌, ◌≤◌, ◌+◌, List, [], ◌∷◌, ◌++◌, length, get_or, sym, ◌∙◌, ap, refl, subst}
use Rattle.std.proofs.Common.{arith, Option, Some, None, IsSome, is_some, unwrap_or, false, inl, inr, All, IsFalse, true, Result, Ok, Err, IfOk, MatchOption}
use Rattle.std.specs.List.{Contains}
use Rattle.std.proofs.lemmas.List.Elements.{Contains-append_left, Contains-append_right, Contains-append_cases, All-push}
use Rattle.std.proofs.lemmas.Grind.{get_or_default_zero}
use Rattle.relation_regions.specs.declared.graph.Graph.{Graph}
use Rattle.relation_regions.specs.declared.search.Search.{Search}
use Rattle.relation_regions.specs.declared.standing.Standing.{Standing}
use Rattle.relation_regions.specs.Graphs.{IsPath, Reaches}
use Rattle.relation_regions.specs.Searches.{IsSearch, IsFound, FindsAll}
use Rattle.relation_regions.specs.Standings.{is_given, standing_of, IsForced, Among}
use Rattle.relation_regions.specs.Widening.{AreReasons, HaveReasons, IsWidened}
use Rattle.relation_regions.specs.Deciding.{Adds, HasAsked, EdgeIsForced, IsGiven, IsVariable, AllKnown, AreValuesTo}
use Rattle.relation_regions.specs.Deciding.{IsUnknown, KnowsFound, IsFoundAgainst, IsAgainst, HasAskedPath, IsPassed, IsDecidedTo, IsMet}
use Rattle.relation_regions.proofs.Paths.{found_reaches}
use Rattle.relation_regions.proofs.Forcing.{contains_pushed, path_forced, static_edge, reached_forced, forced_reached}
use Rattle.relation_regions.proofs.Forcing.{beyond_node}

-- The one of a list of one.
single_at : {X : Type 0} (x y : X) (k : ℕ) → k < 1 → get_or (x ∷ []) k y ≡ y → x ≡ y
single_at x y zero lt e = e
single_at x y (suc k) lt e = absurd (omega arith)

contains_single : {X : Type 0} (x y : X) → Contains (x ∷ []) y → x ≡ y
contains_single x y c = single_at x y c.0 c.1 c.2

-- An edge that is asked for is added.
pub edge_added : (asked : ℕ) (old new : List ℕ) (x : ℕ) → x < asked → new ≡ old ++ x ∷ [] →
    Adds asked old new × Contains new x
edge_added asked old new x lt is = (
  record {
    kept = λ i c. subst (λ l. Contains l i) (sym is) (Contains-append_left old (x ∷ []) i c);
    asked_for = λ a. subst (λ l. All (λ i. i < asked) l) (sym is) (All-push (λ i. i < asked) old x a lt);
  },
  subst (λ l. Contains l x) (sym is) (contains_pushed old x),
)

-- Nothing is added.
pub adds_itself : (asked : ℕ) (by : List ℕ) → Adds asked by by
adds_itself asked by = record { kept = λ i c. c; asked_for = λ a. a }

-- The next edge of a path was looked at.
pub asked_more : (asked : ℕ) (path old mid new : List ℕ) (k edge : ℕ) → Adds asked old mid → HasAsked asked path k mid →
    edge ≡ get_or path k 0 → Adds asked mid new → (edge < asked → Contains new edge) →
    Adds asked old new × HasAsked asked path (k + 1) new
asked_more asked path old mid new k edge h has at more edge_in = (
  record { kept = λ i c. more.kept i (h.kept i c); asked_for = λ a. more.asked_for (h.asked_for a) },
  below_more (λ j. get_or path j 0 < asked → Contains new (get_or path j 0)) k
      (λ j q r. more.kept (get_or path j 0) (has j q r))
      (λ r. subst (λ e. Contains new e) at (edge_in (subst (λ e. e < asked) (sym at) r))),
)

-- What is read of an option that is there.
some_read : (o : Option ℕ) (k : ℕ) → IsSome o → k ≡ unwrap_or o 0 → o ≡ Some k
some_read None k some is = absurd (cc (some))
some_read (Some p) k some is = ap (λ i. Some i) (sym is)

-- The list of a path's edges that are asked for, by a slice of the path.
pub path_asked : (g : Graph) (asked a b : ℕ) (path slice by : List ℕ) → IsPath g.from.items g.to.items path a b →
    slice ≡ path → HasAsked asked slice (length slice) by → HasAskedPath g asked a b by
path_asked g asked a b path slice by leads same has = record {
  path = path;
  leads = leads;
  has = subst (λ l. HasAsked asked l (length l) by) same has;
}

-- What an edge of the widened graph leads from is a node.
pub edge_node : (g w : Graph) (standings : List Standing) (reasons : List (Option ℕ)) (bound : ℕ) →
    IsWidened g reasons bound w → (edge n : ℕ) → edge < length w.to.items → n ≡ get_or w.from.items edge n →
    length g.latest.items ≡ length standings → (n ≡ get_or w.from.items edge 0) × (n < length standings)
edge_node g w standings reasons bound h edge n lt read nodes =
    let in_from : edge < length w.from.items = omega (arith, (h.graph).same_length) in
    let is : n ≡ get_or w.from.items edge 0 = read ∙ get_or_default_zero w.from.items edge n in_from in
    (is, omega (arith, is, (h.graph).from_nodes edge in_from, h.nodes, nodes))

-- An edge to 'static is forced by what makes its node reach its reason.
module _ (g w : Graph) (asked : ℕ) (standings : List Standing) (reasons : List (Option ℕ)) (bound : ℕ)
    (h : IsWidened g reasons bound w) (are : AreReasons g standings reasons) (edge n k : ℕ)
    (le : length g.to.items ≤ edge) (lt : edge < length w.to.items) (read : n ≡ get_or w.from.items edge n)
    (nodes : length g.latest.items ≡ length standings) (is : k ≡ unwrap_or (get_or reasons n None) 0) where
  node_is : n ≡ get_or w.from.items edge 0
  node_is = (edge_node g w standings reasons bound h edge n lt read nodes).0

  pub reason_is : get_or reasons n None ≡ Some k
  reason_is = some_read (get_or reasons n None) k
      (subst (λ x. IsSome (get_or reasons x None)) (sym node_is) (h.for_reasons edge le lt)) is

  pub static_case : (by : List ℕ) → HasAskedPath g asked n k by → EdgeIsForced g w asked standings (Among by) edge
  static_case by p = static_edge g w asked standings reasons bound h are (Among by) edge k le lt
      (subst (λ x. get_or reasons x None ≡ Some k) node_is reason_is)
      (subst (λ x. IsForced g.from.items g.to.items asked standings (Among by) x k) node_is
      (path_forced g.from.items g.to.items asked standings (Among by) p.path n k p.has p.leads))

-- A variable that was found is added with the target.
pub value_added : (standings : List Standing) (found : Search) (target node : ℕ) (old mid new : List (ℕ × ℕ)) →
    AreValuesTo standings found target old mid node → node < length standings →
    IsFalse (is_given (standing_of standings node)) → IsFound found node → new ≡ mid ++ (node, target) ∷ [] →
    AreValuesTo standings found target old new (node + 1)
value_added standings found target node old mid new h lt free is_found is =
    let x : ℕ × ℕ = (node, target) in
    let more : List (ℕ × ℕ) = mid ++ x ∷ [] in
    let kept : (p : ℕ × ℕ) → Contains mid p → Contains more p = λ p c. Contains-append_left mid (x ∷ []) p c in
    let last : Contains more x = Contains-append_right mid (x ∷ []) x (0, omega arith, refl) in
    let Q : ℕ → ℕ → Type 0 = λ a b. (b ≡ target) × IsVariable standings a × IsFound found a in
    subst (λ l. AreValuesTo standings found target old l (node + 1)) (sym is) (record {
      kept = λ p c. kept p (h.kept p c);
      each = below_more (λ a. IsFalse (is_given (standing_of standings a)) → IsFound found a → Contains more (a, target))
          node (λ a q f g. kept (a, target) (h.each a q f g)) (λ f g. last);
      only = λ a b c. elim (Contains-append_cases mid (x ∷ []) (a, b) c) [
        | inl d ↦ h.only a b d
        | inr d ↦
            let e : x ≡ (a, b) = contains_single x (a, b) d in
            let e0 : node ≡ a = ap (λ p. p.0) e in
            let e1 : target ≡ b = ap (λ p. p.1) e in
            let at_node : Q node target = (refl, (lt, free), is_found) in
            inr (subst (λ u. Q u b) e0 (subst (λ u. Q node u) e1 at_node))
      ];
    })

-- Another node is not.
pub value_passed : (standings : List Standing) (found : Search) (target node : ℕ) (old mid new : List (ℕ × ℕ)) →
    AreValuesTo standings found target old mid node →
    (IsFalse (is_given (standing_of standings node)) → IsFound found node → ⊥) → new ≡ mid →
    AreValuesTo standings found target old new (node + 1)
value_passed standings found target node old mid new h not_both is =
    subst (λ l. AreValuesTo standings found target old l (node + 1)) (sym is) (record {
      kept = h.kept;
      each = below_more (λ a. IsFalse (is_given (standing_of standings a)) → IsFound found a → Contains mid (a, target))
          node h.each (λ f g. absurd (not_both f g));
      only = h.only;
    })

-- Of the given nodes that were found the known ones are those that a search of what is known found.
pub found_against : (known : Graph) (standings : List Standing) (found stated : Search) (target : ℕ) (r : Option ℕ) →
    IsSearch known target stated → FindsAll known target stated →
    MatchOption r (AllKnown standings found stated (length standings)) (IsUnknown standings found stated) →
    MatchOption r (KnowsFound known standings found target) (IsFoundAgainst known standings found target)
found_against known standings found stated target None search all h =
    λ a given is_found. found_reaches known target stated a search (h a given.0 given.1 is_found)
found_against known standings found stated target (Some a) search all h = record {
  given = h.given;
  reaches = h.reaches;
  unknown = λ r. h.unknown (all a r);
}

-- An option that is none, and one that is some.
pub is_nothing : (A B : Type 0) (P : ℕ → Type 0) (o : Option ℕ) → is_some o ≡ false → MatchOption o A P → B →
    MatchOption o (A × B) P
is_nothing A B P None e h b = (h, b)
is_nothing A B P (Some x) e h b = absurd cc

pub is_something : (A B : Type 0) (P : ℕ → Type 0) (o : Option ℕ) → is_some o ≡ true → MatchOption o A P →
    MatchOption o B P
is_something A B P None e h = absurd cc
is_something A B P (Some x) e h = h

-- A target that is given.
pub found_decided : {X : Type 0} (known w : Graph) (standings : List Standing) (found : Search) (target : ℕ)
    (values new : List (ℕ × ℕ)) → IsGiven standings target → IsSearch w target found → FindsAll w target found →
    (r : Result (Option ℕ) X) → IfOk r (λ o. MatchOption o (KnowsFound known standings found target ×
    AreValuesTo standings found target values new (length standings)) (IsFoundAgainst known standings found target)) →
    IfOk r (λ o. MatchOption o (IsPassed known w standings target values new) (IsAgainst known w standings target))
found_decided known w standings found target values new given search all (Ok None) h =
    let more = h.1 in
    record {
      known_to = λ a gt ga r. h.0 a ga (all a r);
      kept = more.kept;
      each = λ a gt va r. more.each a va.0 va.1 (all a r);
      only = λ a b c. elim (more.only a b c) [
        | inl d ↦ inl d
        | inr d ↦ inr (d.0, given, d.1, found_reaches w target found a search d.2)
      ];
    }
found_decided known w standings found target values new given search all (Ok (Some a)) h = record {
  longer_given = h.given;
  shorter_given = given;
  reaches = found_reaches w target found a search h.reaches;
  unknown = h.unknown;
}
found_decided known w standings found target values new given search all (Err x) h = tt

-- One that is not.
pub variable_passed : (known w : Graph) (standings : List Standing) (target : ℕ) (values : List (ℕ × ℕ)) →
    is_given (standing_of standings target) ≡ false → IsPassed known w standings target values values
variable_passed known w standings target values free =
    let not_given : IsGiven standings target → ⊥ = λ g. absurd (cc (g.1, free)) in
    record {
      known_to = λ a gt ga r. absurd (not_given gt);
      kept = λ p c. c;
      each = λ a gt va r. absurd (not_given gt);
      only = λ a b c. inl c;
    }

-- No target yet.
pub none_decided : (known w : Graph) (standings : List Standing) (values : List (ℕ × ℕ)) → values ≡ [] →
    IsDecidedTo known w standings 0 values
none_decided known w standings values empty = record {
  known_to = λ a b lt. absurd (omega (arith, lt));
  values_to = record {
    each = λ a b lt. absurd (omega (arith, lt));
    only = λ a b c. let d = subst (λ l. Contains l (a, b)) empty c in absurd (omega (arith, d.1));
  };
}

-- One more target.
pub target_decided : (known w : Graph) (standings : List Standing) (target : ℕ) (values new : List (ℕ × ℕ)) →
    IsDecidedTo known w standings target values → IsPassed known w standings target values new →
    IsDecidedTo known w standings (target + 1) new
target_decided known w standings target values new h more = record {
  known_to = λ a b lt ga. below_more (λ b. IsGiven standings b → Reaches w a b → Reaches known a b) target
      (λ b q gb r. h.known_to a b q ga gb r) (λ gb r. more.known_to a gb ga r) b lt;
  values_to = record {
    each = λ a b lt gb va. below_more (λ b. IsGiven standings b → Reaches w a b → Contains new (a, b)) target
        (λ b q gb r. more.kept (a, b) (h.values_to.each a b q gb va r))
        (λ gb r. more.each a gb va r) b lt gb;
    only = λ a b c. elim (more.only a b c) [
      | inl d ↦ h.values_to.only a b d
      | inr d ↦ (
        d.2,
        subst (λ x. IsGiven standings x) (sym d.0) d.1,
        subst (λ x. Reaches w a x) (sym d.0) d.3,
      )
    ];
  };
}

-- What is said of a pair that is there.
pub against_pair : (A : Type 0) (known w : Graph) (standings : List Standing) (o : Option (ℕ × ℕ)) (p : ℕ × ℕ) →
    o ≡ Some p → MatchOption o A (λ q. IsAgainst known w standings q.1 q.0) → IsAgainst known w standings p.1 p.0
against_pair A known w standings o p is h =
    subst (λ u. MatchOption u A (λ q. IsAgainst known w standings q.1 q.0)) is h

-- All targets.
pub all_decided : (known g w : Graph) (asked : ℕ) (standings : List Standing) (reasons slice : List (Option ℕ))
    (target : ℕ) (values : List (ℕ × ℕ)) → slice ≡ reasons → IsWidened g slice (length slice) w →
    AreReasons g standings reasons → HaveReasons g standings (length standings) reasons →
    IsDecidedTo known w standings target values → length standings ≤ target →
    length g.latest.items ≡ length standings → IsMet known g asked standings values
all_decided known g w asked standings reasons slice target values same wide are all h whole nodes =
    let wide' : IsWidened g reasons (length reasons) w = subst (λ r. IsWidened g r (length r) w) same wide in
    let bound : length standings ≤ length reasons = omega (arith, are.one_each) in
    let there = forced_reached g w asked standings reasons (length reasons) wide' are all bound (beyond_node standings) in
    let back = reached_forced g w asked standings reasons (length reasons) wide' are in
    record {
      all_known = λ a b ga gb f. h.known_to a b (omega (arith, gb.0)) ga gb (there a b f);
      edges = record { by = w; graph = wide.graph; nodes = wide.nodes ∙ nodes; reached = there; forced = back };
      each = λ a b va gb f. h.values_to.each a b (omega (arith, gb.0)) gb va (there a b f);
      only = λ a b c. let p = h.values_to.only a b c in (p.0, p.1, back a b p.2);
    }
