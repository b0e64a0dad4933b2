-- What is decided of numbers is so of their regions.
use Rattle.std.proofs.Common.{◌≡◌, ℕ, ◌<◌, List, length, get_or, sym, ◌∙◌, ap, subst, inl, inr, All, map, true, false}
use Rattle.std.specs.List.{Contains}
use Rattle.std.proofs.lemmas.List.{get_or-map, length-map}
use Rattle.relation_terms.specs.Trees.{Tree, Assign, apply}
use Rattle.relation_semantics.specs.Relation.{Interpretation, Outlives}
use Rattle.relation_semantics.specs.Stores.{Store, IsSound}
use Rattle.relation_regions.specs.declared.building.Pairs.{Pairs}
use Rattle.relation_regions.specs.declared.standing.Standing.{Standing}
use Rattle.relation_regions.specs.Deciding.{IsGiven as IsGivenNumber, IsVariable as IsVariableNumber}
use Rattle.relation_regions.specs.Demands.{IsDemanded, Meets, Refutes}
use Rattle.relation_regions.specs.Standings.{is_given, Any, Among}
use Rattle.relation_regions.specs.Worlds.{IsGiven, IsVariable}
use Rattle.relation_regions.specs.Solutions.{HasSolution, AlwaysOutlives, AreLeast, IsUnmetBy}
use Rattle.relation_regions.specs.Reading.{standing_in, numbered, no_constraint, IsProblem}
use Rattle.relation_regions.proofs.AWorld as world
use Rattle.relation_regions.proofs.AWorld.{one_value, demanded, given_number, solution}
use Rattle.relation_regions.proofs.Forms.{own_value, none_of_given, variable_of_other}
use Rattle.relation_regions.proofs.Generated.{contains_map, from_map}
use Rattle.relation_regions.proofs.InWorlds.{SpeaksOfGiven, demanded_holds}
use Rattle.relation_regions.proofs.Numbers.{standings_each, standing_at, region_at, mentioned_at}
use Rattle.relation_regions.proofs.Numbers.{number_of, said_known}

module _ {facts : List (Tree × Tree)} {st : Store} {trees : List Tree} {standings : List Standing} {asked : Pairs}
    {said : List ℕ} {known : Pairs} (problem : IsProblem facts st trees standings asked said known)
    (of_given : All SpeaksOfGiven facts) where
  abbrev T : ℕ → Tree
  T i = numbered trees i

  in_trees : (i : ℕ) → i < length standings → i < length trees
  in_trees i lt = subst (λ n. i < n) (standings_each problem) lt

  in_standings : (i : ℕ) → i < length trees → i < length standings
  in_standings i lt = subst (λ n. i < n) (sym (standings_each problem)) lt

  given_region : (i : ℕ) → IsGivenNumber standings i → IsGiven facts st (T i)
  given_region i h = record {
    mentioned = mentioned_at problem i (in_trees i h.0);
    no_variable = none_of_given st (T i) (sym (ap is_given (standing_at problem i (in_trees i h.0))) ∙ h.1);
  }

  variable_region : (i : ℕ) → IsVariableNumber standings i → IsVariable facts st (T i)
  variable_region i h =
      let lt = in_trees i h.0 in
      let v = variable_of_other st (T i) (region_at problem i lt).0
      (sym (ap is_given (standing_at problem i lt)) ∙ h.1) in
      record { mentioned = mentioned_at problem i lt; number = v.0; is = v.1 }

  variable_number : (x : Tree) → IsVariable facts st x → (i : ℕ) → i < length trees → T i ≡ x →
      IsVariableNumber standings i
  variable_number x v i lt e = (
    in_standings i lt,
    ap is_given (standing_at problem i lt) ∙ ap (λ t. is_given (standing_in st t)) (e ∙ v.is),
  )

  -- In a solution all that is demanded holds.
  solution_holds : (a b : ℕ) → IsDemanded standings asked known Any a b → AlwaysOutlives facts st (T a) (T b)
  solution_holds a b d w s sol = demanded_holds problem of_given (sol.exact).world Any
      (λ k lt any. (sol.satisfies).regions (get_or said k 0) no_constraint (((problem.read).each k lt).asks).0) a b d

  module _ (sound : IsSound st) {values : List (ℕ × ℕ)} (meets : Meets standings asked known values) where
    pub has_solution : HasSolution facts st
    has_solution = (
      world.w problem of_given sound meets,
      (
        world.s problem of_given sound meets,
        solution problem of_given sound meets,
      ),
    )

    -- The regions of a pair of numbers.
    abbrev pub regions_of : ℕ × ℕ → Tree × Tree
    regions_of v = (T v.0, T v.1)

    is_value : (a b : ℕ) → a < length trees → b < length trees → IsVariableNumber standings a →
        IsGivenNumber standings b →
        Outlives (world.w problem of_given sound meets) (world.V problem of_given sound meets a)
        (world.V problem of_given sound meets b) → Contains values (a, b)
    is_value a b a_lt b_lt v g o = elim (demanded problem of_given sound meets (world.V problem of_given sound meets a)
        (world.V problem of_given sound meets b) o) [
          | inl e ↦
              let same = one_value problem of_given sound meets a b a_lt b_lt e in
              let f : is_given (standing_in st (T a)) ≡ true = ap (λ i. is_given (standing_in st (T i))) same ∙
              (sym (ap is_given (standing_at problem b b_lt)) ∙ g.1) in
              let h : is_given (standing_in st (T a)) ≡ false = sym (ap is_given (standing_at problem a a_lt)) ∙ v.1 in
              absurd (cc (f, h))
          | inr r ↦
              let same_a = one_value problem of_given sound meets r.first a r.first_in a_lt (sym r.x_is) in
              let same_b = one_value problem of_given sound meets r.second b r.second_in b_lt (sym r.y_is) in
              meets.each a b v g (subst (λ u. IsDemanded standings asked known Any u b) same_a
              (subst (λ u. IsDemanded standings asked known Any r.first u) same_b r.related))
        ]

    all_values : (x y : Tree) → IsVariable facts st x → IsGiven facts st y → AlwaysOutlives facts st x y →
        Contains (map regions_of values) (x, y)
    all_values x y vx gy always =
        let a = number_of problem x vx.mentioned in
        let b = number_of problem y gy.mentioned in
        let s : Assign = world.s problem of_given sound meets in
        let w : Interpretation = world.w problem of_given sound meets in
        let o = always w s (solution problem of_given sound meets) in
        let o' : Outlives w (apply s (T a.number)) (apply s (T b.number)) =
        subst (λ u. Outlives w (apply s u) (apply s (T b.number))) (sym a.is)
        (subst (λ u. Outlives w (apply s x) (apply s u)) (sym b.is) o) in
        let has = is_value a.number b.number a.below b.below (variable_number x vx a.number a.below a.is)
        (given_number problem of_given sound meets y gy.no_variable b.number b.below b.is) o' in
        let there = contains_map regions_of values (a.number, b.number) has in
        subst (λ u. Contains (map regions_of values) (u, y)) a.is
        (subst (λ u. Contains (map regions_of values) (T a.number, u)) b.is there)

    only_values : (x y : Tree) → Contains (map regions_of values) (x, y) →
        IsVariable facts st x × IsGiven facts st y × AlwaysOutlives facts st x y
    only_values x y has =
        let p = from_map regions_of values (0, 0) (x, y) has in
        let i = (p.0).0 in
        let j = (p.0).1 in
        let h = meets.only i j p.1 in
        let e : T i ≡ x = ap (λ u. u.0) p.2 in
        let f : T j ≡ y = ap (λ u. u.1) p.2 in (
          subst (IsVariable facts st) e (variable_region i h.0),
          subst (IsGiven facts st) f (given_region j h.1),
          subst (λ u. AlwaysOutlives facts st u y) e
              (subst (λ u. AlwaysOutlives facts st (T i) u) f (solution_holds i j h.2)),
        )

    pub are_least : AreLeast facts st (map regions_of values)
    are_least = record { all = all_values; only = only_values }

  -- The number of what asks for a pair.
  abbrev pub said_at : ℕ → ℕ
  said_at k = get_or said k 0

  pub is_unmet : (longer shorter : ℕ) (by : List ℕ) → Refutes standings asked known longer shorter by →
      IsUnmetBy facts st (T longer) (T shorter) (map said_at by)
  is_unmet longer shorter by h =
      let gx = given_region longer h.longer_given in
      let gy = given_region shorter h.shorter_given in
      let x_lt = in_trees longer (h.longer_given).0 in
      let y_lt = in_trees shorter (h.shorter_given).0 in
      record {
        longer_given = gx;
        shorter_given = gy;
        recorded = λ i d lt.
            let lt' : i < length by = subst (λ n. i < n) (length-map by said_at) lt in
            let asks = ((problem.read).each (get_or by i 0) (h.asked_for i 0 lt')).asks in
            subst (λ j. j < length st.constraints) (sym (get_or-map said_at by i 0 d lt')) asks.0;
        forced = λ w s world holds.
            let o = demanded_holds problem of_given world (Among by)
            (λ k lt among. holds (said_at k) (contains_map said_at by k among) no_constraint) longer shorter h.demanded in
            let x_is = own_value s (T longer) (region_at problem longer x_lt).0 gx.no_variable in
            let y_is = own_value s (T shorter) (region_at problem shorter y_lt).0 gy.no_variable in
            subst (λ u. Outlives w u (T shorter)) x_is
            (subst (λ u. Outlives w (apply s (T longer)) u) y_is o);
        unsaid = λ say. h.unknown (said_known problem longer shorter x_lt y_lt say);
      }
