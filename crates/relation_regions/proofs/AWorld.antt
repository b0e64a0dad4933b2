-- A solution, where of given numbers nothing is demanded but what is known.
use Rattle.std.proofs.Common.{◌≡◌, ℕ, suc, ◌<◌, ◌+◌, List, ◌++◌, length, get_or, sym, ◌∙◌, ap, refl, subst, arith}
use Rattle.std.proofs.Common.{◌⊎◌, inl, inr, All, map, true, false}
use Rattle.std.specs.List.{Contains, sum_by, range_with_len}
use Rattle.std.proofs.lemmas.List.{get_or_default}
use Rattle.std.proofs.lemmas.List.Elements.{Contains-append_left, Contains-append_right, Contains-append_cases}
use Rattle.std.proofs.lemmas.List.Sums.{get_or-le-sum_by}
use Rattle.relation_terms.specs.Heads.{region_var, Leaf, variable, bound, placeholder, atom, unknown, Atom}
use Rattle.relation_terms.specs.Heads.{early_region}
use Rattle.relation_terms.specs.Trees.{Tree, leaf, node, bind, nil, cons, Assign, apply, Leaves}
use Rattle.relation_semantics.specs.Relation.{Interpretation, Outlives, itself as same_region, through as by_way}
use Rattle.relation_semantics.specs.Stores.{Store, Constraint, outlives_constraint, equal_constraint, ConstraintHolds}
use Rattle.relation_semantics.specs.Stores.{universe_of, IsSound, IsNamable}
use Rattle.relation_semantics.specs.ContextCalls.{IsNotVariable}
use Rattle.relation_regions.specs.declared.building.Pairs.{Pairs}
use Rattle.relation_regions.specs.declared.standing.Standing.{Standing}
use Rattle.relation_regions.specs.declared.standing.Standing.TheVariants.{Named, Placeholder, Variable}
use Rattle.relation_regions.specs.Deciding.{IsGiven as IsGivenNumber, IsVariable as IsVariableNumber}
use Rattle.relation_regions.specs.Demands.{IsDemanded, by_asked, by_known, from_static, by_universe, itself, through, Meets}
use Rattle.relation_regions.specs.Standings.{is_given, is_beyond, standing_of, IsBeyond, Any}
use Rattle.relation_regions.proofs.Forcing.{beyond_node}
use Rattle.relation_regions.specs.Worlds.{static, FactsSay, itself as said_itself, CannotName}
use Rattle.relation_regions.specs.Worlds.{IsGiven, IsWorld, IsSolution}
use Rattle.relation_regions.specs.Reading.{standing_in, numbered, no_constraint, IsPair, IsPairAt, IsProblem}
use Rattle.relation_regions.proofs.Forms.{variable_or_not, own_value, given_of_none, unnamable_beyond}
use Rattle.relation_regions.proofs.FreeRegions.{values_from, values_assign, values_meet, region_value}
use Rattle.relation_regions.proofs.Generated.{generated, pair_outlives, AreRelated, outlives_related, contains_below, from_below}
use Rattle.relation_regions.proofs.InWorlds.{SpeaksOfGiven}
use Rattle.relation_regions.proofs.Numbers.{fact_asks, standings_each, standing_at, region_at}
use Rattle.relation_regions.proofs.Numbers.{one_number, number_of, known_said}

-- The number in a region parameter.
abbrev pub atom_index : Atom → ℕ
atom_index (early_region i n) = i
atom_index x = 0

abbrev pub leaf_index : Leaf → ℕ
leaf_index (atom x) = atom_index x
leaf_index (variable k n) = 0
leaf_index (bound k d i) = 0
leaf_index (placeholder k u n) = 0
leaf_index unknown = 0

abbrev pub tree_index : Tree → ℕ
tree_index (leaf l) = leaf_index l
tree_index (node h ts) = 0
tree_index (bind ks t) = 0
tree_index nil = 0
tree_index (cons t ts) = 0

-- What can't name another region is a variable.
beyond_variable : (x y : Standing) → is_beyond x y ≡ true → is_given x ≡ false
beyond_variable (Variable u) y h = refl
beyond_variable Named Named h = absurd cc
beyond_variable Named (Placeholder v) h = absurd cc
beyond_variable Named (Variable v) h = absurd cc
beyond_variable (Placeholder u) Named h = absurd cc
beyond_variable (Placeholder u) (Placeholder v) h = absurd cc
beyond_variable (Placeholder u) (Variable v) h = absurd cc

-- A region parameter can be named.
parameter_namable : (u i m : ℕ) (p : Tree) → p ≡ leaf (atom (early_region i m)) → Leaves (IsNamable u) p
parameter_namable u i m p e = subst (λ t. Leaves (IsNamable u) t) (sym e) tt

-- The pair of a place.
abbrev pub pair_of : Pairs → ℕ → ℕ × ℕ
pair_of p k = (get_or p.longer.items k 0, get_or p.shorter.items k 0)

module _ {facts : List (Tree × Tree)} {st : Store} {trees : List Tree} {standings : List Standing} {asked : Pairs}
    {said : List ℕ} {known : Pairs} (problem : IsProblem facts st trees standings asked said known)
    (of_given : All SpeaksOfGiven facts) (sound : IsSound st) {values : List (ℕ × ℕ)}
    (meets : Meets standings asked known values) where
  abbrev T : ℕ → Tree
  T i = numbered trees i

  abbrev fresh : ℕ
  fresh = suc (sum_by tree_index trees)

  -- New regions with names for the variables.
  abbrev pub s : Assign
  s = values_from st fresh

  abbrev pub V : ℕ → Tree
  V i = apply s (T i)

  abbrev pub D : ℕ → ℕ → Type 0
  D a b = IsDemanded standings asked known Any a b

  abbrev asked_list : List (ℕ × ℕ)
  asked_list = map (pair_of asked) (range_with_len 0 (length asked.shorter.items))

  abbrev known_list : List (ℕ × ℕ)
  known_list = map (pair_of known) (range_with_len 0 (length known.shorter.items))

  abbrev static_list : List (ℕ × ℕ)
  static_list = map (λ b. (0, b)) (range_with_len 0 (length trees))

  abbrev pub pairs : List (ℕ × ℕ)
  pairs = asked_list ++ (known_list ++ (static_list ++ values))

  -- What is asked for, what is known, that 'static outlives all, and what variables have to outlive.
  abbrev pub w : Interpretation
  w = generated V pairs

  in_trees : (i : ℕ) → i < length standings → i < length trees
  in_trees i lt = subst (λ n. i < n) (standings_each problem) lt

  in_standings : (i : ℕ) → i < length trees → i < length standings
  in_standings i lt = subst (λ n. i < n) (sym (standings_each problem)) lt

  -- A pair of numbers that is demanded.
  abbrev pub IsDemandedPair : ℕ → ℕ → Type 0
  IsDemandedPair a b = (a < length trees) × (b < length trees) × D a b

  of_asked : (a b : ℕ) → Contains asked_list (a, b) → IsDemandedPair a b
  of_asked a b has =
      let p = from_below (pair_of asked) (length asked.shorter.items) (a, b) has in
      let h = (problem.read).each p.0 p.1 in
      let e : get_or asked.longer.items p.0 0 ≡ a = ap (λ u. u.0) p.2 in
      let f : get_or asked.shorter.items p.0 0 ≡ b = ap (λ u. u.1) p.2 in (
        subst (λ u. u < length trees) e ((h.pair).longer_at).0,
        subst (λ u. u < length trees) f ((h.pair).shorter_at).0,
        by_asked p.0 p.1 tt e f,
      )

  of_known : (a b : ℕ) → Contains known_list (a, b) → IsDemandedPair a b
  of_known a b has =
      let p = from_below (pair_of known) (length known.shorter.items) (a, b) has in
      let h = ((problem.stated).1).each p.0 p.1 in
      let e : get_or known.longer.items p.0 0 ≡ a = ap (λ u. u.0) p.2 in
      let f : get_or known.shorter.items p.0 0 ≡ b = ap (λ u. u.1) p.2 in (
        subst (λ u. u < length trees) e ((h.pair).longer_at).0,
        subst (λ u. u < length trees) f ((h.pair).shorter_at).0,
        by_known p.0 p.1 e f,
      )

  of_static : (a b : ℕ) → Contains static_list (a, b) → IsDemandedPair a b
  of_static a b has =
      let p = from_below (λ b. (0, b)) (length trees) (a, b) has in
      let e : 0 ≡ a = ap (λ u. u.0) p.2 in
      let f : p.0 ≡ b = ap (λ u. u.1) p.2 in
      let lt : b < length trees = subst (λ u. u < length trees) f p.1 in
      (subst (λ u. u < length trees) e problem.static_first.0, lt, from_static (sym e) (in_standings b lt))

  of_value : (a b : ℕ) → Contains values (a, b) → IsDemandedPair a b
  of_value a b has = let h = meets.only a b has in (in_trees a (h.0).0, in_trees b (h.1).0, h.2)

  pub demanded_pairs : (a b : ℕ) → Contains pairs (a, b) → IsDemandedPair a b
  demanded_pairs a b has = elim (Contains-append_cases asked_list (known_list ++ (static_list ++ values)) (a, b) has) [
    | inl h ↦ of_asked a b h
    | inr rest ↦ elim (Contains-append_cases known_list (static_list ++ values) (a, b) rest) [
      | inl h ↦ of_known a b h
      | inr others ↦ elim (Contains-append_cases static_list values (a, b) others) [
        | inl h ↦ of_static a b h
        | inr h ↦ of_value a b h
      ]
    ]
  ]

  asked_outlives : (k : ℕ) → k < length asked.shorter.items →
      Outlives w (V (get_or asked.longer.items k 0)) (V (get_or asked.shorter.items k 0))
  asked_outlives k lt = pair_outlives V pairs (get_or asked.longer.items k 0) (get_or asked.shorter.items k 0)
      (Contains-append_left asked_list (known_list ++ (static_list ++ values)) (pair_of asked k)
      (contains_below (pair_of asked) (length asked.shorter.items) k lt))

  known_outlives : (k : ℕ) → k < length known.shorter.items →
      Outlives w (V (get_or known.longer.items k 0)) (V (get_or known.shorter.items k 0))
  known_outlives k lt = pair_outlives V pairs (get_or known.longer.items k 0) (get_or known.shorter.items k 0)
      (Contains-append_right asked_list (known_list ++ (static_list ++ values)) (pair_of known k)
      (Contains-append_left known_list (static_list ++ values) (pair_of known k)
      (contains_below (pair_of known) (length known.shorter.items) k lt)))

  static_outlives : (b : ℕ) → b < length trees → Outlives w (V 0) (V b)
  static_outlives b lt = pair_outlives V pairs 0 b
      (Contains-append_right asked_list (known_list ++ (static_list ++ values)) (0, b)
      (Contains-append_right known_list (static_list ++ values) (0, b)
      (Contains-append_left static_list values (0, b) (contains_below (λ b. (0, b)) (length trees) b lt))))

  value_outlives : (a b : ℕ) → Contains values (a, b) → Outlives w (V a) (V b)
  value_outlives a b has = pair_outlives V pairs a b
      (Contains-append_right asked_list (known_list ++ (static_list ++ values)) (a, b)
      (Contains-append_right known_list (static_list ++ values) (a, b)
      (Contains-append_right static_list values (a, b) has)))

  static_standing : is_given (standing_of standings 0) ≡ true
  static_standing = ap is_given (standing_at problem 0 problem.static_first.0 ∙
      ap (standing_in st) problem.static_first.1)

  -- What is demanded holds.
  pub demanded_outlives : (a b : ℕ) → D a b → Outlives w (V a) (V b)
  demanded_outlives a b (by_asked k lt chosen e f) =
      subst (λ u. Outlives w (V u) (V b)) e
      (subst (λ u. Outlives w (V (get_or asked.longer.items k 0)) (V u)) f (asked_outlives k lt))
  demanded_outlives a b (by_known k lt e f) =
      subst (λ u. Outlives w (V u) (V b)) e
      (subst (λ u. Outlives w (V (get_or known.longer.items k 0)) (V u)) f (known_outlives k lt))
  demanded_outlives a b (from_static e lt) =
      subst (λ u. Outlives w (V u) (V b)) (sym e) (static_outlives b (in_trees b lt))
  demanded_outlives a b (by_universe p e beyond h) =
      let a_var : IsVariableNumber standings a = (
        beyond_node standings a p beyond,
        beyond_variable (standing_of standings a) (standing_of standings p) beyond,
      ) in
      let zero_given : IsGivenNumber standings 0 = (in_standings 0 problem.static_first.0, static_standing) in
      let has = meets.each a 0 a_var zero_given (by_universe p refl beyond h) in
      subst (λ u. Outlives w (V a) (V u)) (sym e) (value_outlives a 0 has)
  demanded_outlives a b (itself e) = same_region (ap V e)
  demanded_outlives a b (through {b = m} h k) = by_way (demanded_outlives a m h) (demanded_outlives m b k)

  -- The value of a number's region: it itself, or that of a variable.
  data Form (i : ℕ) : Type 0 where
    named : V i ≡ T i → tree_index (T i) < fresh → Form i
    free : (m : ℕ) → T i ≡ leaf (variable region_var m) → V i ≡ leaf (atom (early_region (fresh + m) 0)) → Form i

  form : (i : ℕ) → i < length trees → Form i
  form i lt = elim (variable_or_not (T i) (region_at problem i lt).0) [
    | inl h ↦ named (own_value s (T i) (region_at problem i lt).0 h)
        (omega (arith, get_or-le-sum_by tree_index trees i static lt))
    | inr v ↦ free v.0 v.1 (ap (apply s) v.1 ∙ region_value fresh st v.0 sound)
  ]

  same_tree : (a b : ℕ) → Form a → Form b → V a ≡ V b → T a ≡ T b
  same_tree a b (named e lt) (named e' lt') q = sym e ∙ (q ∙ e')
  same_tree a b (named e lt) (free m t e') q =
      let z : tree_index (T a) ≡ fresh + m = ap tree_index (sym e ∙ (q ∙ e')) in absurd (omega (arith, z, lt))
  same_tree a b (free m t e) (named e' lt) q =
      let z : tree_index (T b) ≡ fresh + m = ap tree_index (sym e' ∙ (sym q ∙ e)) in absurd (omega (arith, z, lt))
  same_tree a b (free m t e) (free m' t' e') q =
      let z : fresh + m ≡ fresh + m' = ap tree_index (sym e ∙ (q ∙ e')) in
      let y : m ≡ m' = omega (arith, z) in
      t ∙ (ap (λ j. leaf (variable region_var j)) y ∙ sym t')

  pub one_value : (a b : ℕ) → a < length trees → b < length trees → V a ≡ V b → a ≡ b
  one_value a b a_lt b_lt q = one_number problem a b a_lt b_lt (same_tree a b (form a a_lt) (form b b_lt) q)

  pub demand_joined : (a b c : ℕ) → D a b → D b c → D a c
  demand_joined a b c h k = through h k

  -- Two regions are those of two numbers of which the one is demanded to outlive the other.
  abbrev pub AreDemanded : Tree → Tree → Type 0
  AreDemanded x y = AreRelated V pairs (length trees) D demand_joined demanded_pairs one_value x y

  pub demanded : (x y : Tree) → Outlives w x y → (x ≡ y) ⊎ AreDemanded x y
  demanded x y h = outlives_related V pairs (length trees) D demand_joined demanded_pairs one_value x y h

  static_value : V 0 ≡ static
  static_value = ap (apply s) problem.static_first.1

  given_value : (x : Tree) → IsNotVariable region_var x → (i : ℕ) → i < length trees → T i ≡ x → V i ≡ x
  given_value x none i lt e =
      own_value s (T i) (region_at problem i lt).0 (subst (IsNotVariable region_var) (sym e) none) ∙ e

  pub given_number : (x : Tree) → IsNotVariable region_var x → (i : ℕ) → i < length trees → T i ≡ x →
      IsGivenNumber standings i
  given_number x none i lt e = (
    in_standings i lt,
    ap is_given (standing_at problem i lt) ∙ given_of_none st (T i) (region_at problem i lt).0
        (subst (IsNotVariable region_var) (sym e) none),
  )

  -- The number of a region variable, by its value.
  variable_number : (i n : ℕ) → Form i → s region_var n ≡ V i → T i ≡ leaf (variable region_var n)
  variable_number i n (named e lt) q =
      let z : tree_index (T i) ≡ fresh + n = ap tree_index (sym e ∙ (sym q ∙ region_value fresh st n sound)) in
      absurd (omega (arith, z, lt))
  variable_number i n (free m t e) q =
      let z : fresh + m ≡ fresh + n = ap tree_index (sym e ∙ (sym q ∙ region_value fresh st n sound)) in
      let y : m ≡ n = omega (arith, z) in
      t ∙ ap (λ j. leaf (variable region_var j)) y

  -- The region of what a variable can't name is its value.
  unnamed_itself : (j u : ℕ) (p : Tree) → Form j → p ≡ V j → (Leaves (IsNamable u) p → ⊥) → p ≡ T j
  unnamed_itself j u p (named e lt) is cannot = is ∙ e
  unnamed_itself j u p (free m t e) is cannot = absurd (cannot (parameter_namable u (fresh + m) 0 p (is ∙ e)))

  uniform_case : (n : ℕ) (p : Tree) → CannotName st n p → (s region_var n ≡ p) ⊎ AreDemanded (s region_var n) p →
      Outlives w (s region_var n) static
  uniform_case n p cannot (inl e) = absurd (cannot (parameter_namable (universe_of st region_var n) (fresh + n) 0 p
      (sym e ∙ region_value fresh st n sound)))
  uniform_case n p cannot (inr r) =
      let i = r.first in
      let j = r.second in
      let u = universe_of st region_var n in
      let t_i = variable_number i n (form i r.first_in) r.x_is in
      let t_j = unnamed_itself j u p (form j r.second_in) r.y_is cannot in
      let at_i : standing_of standings i ≡ Variable u =
      standing_at problem i r.first_in ∙ ap (standing_in st) t_i in
      let e : is_beyond (Variable u) (standing_in st (T j)) ≡ true =
      unnamable_beyond st u (T j) (region_at problem j r.second_in)
      (subst (λ t. Leaves (IsNamable u) t → ⊥) t_j cannot) in
      let beyond : IsBeyond standings i j = ap (λ v. is_beyond v (standing_of standings j)) at_i ∙
      (ap (λ v. is_beyond (Variable u) v) (standing_at problem j r.second_in) ∙ e) in
      let o = demanded_outlives i 0 (by_universe j refl beyond r.related) in
      subst (λ x. Outlives w x static) (sym r.x_is) (subst (λ x. Outlives w (V i) x) static_value o)

  fact_outlives : (x y : Tree) → Contains facts (x, y) → Outlives w x y
  fact_outlives x y has =
      let h = ((problem.stated).1).covered has.0 has.1 x y (fact_asks facts x y has) in
      let p : IsPairAt trees known h.0 x y = h.1 in
      let given : SpeaksOfGiven (x, y) = subst SpeaksOfGiven has.2 (of_given has.0 (x, y) has.1) in
      let i = get_or known.longer.items h.0 0 in
      let j = get_or known.shorter.items h.0 0 in
      subst (λ u. Outlives w u y) (given_value x given.0 i p.longer_at.0 p.longer_at.1)
      (subst (λ u. Outlives w (V i) u) (given_value y given.1 j p.shorter_at.0 p.shorter_at.1)
      (known_outlives h.0 p.below))

  pub world : IsWorld facts st w s
  world = record {
    facts_hold = fact_outlives;
    longest = λ t m.
        let h = number_of problem t m in
        subst (λ u. Outlives w u (apply s t)) static_value
        (subst (λ u. Outlives w (V 0) u) (ap (apply s) h.is) (static_outlives h.number h.below));
    uniform = λ n p made cannot h. uniform_case n p cannot (demanded (s region_var n) p h);
  }

  nothing_else : (x y : Tree) → IsGiven facts st x → IsGiven facts st y → (x ≡ y) ⊎ AreDemanded x y →
      FactsSay facts x y
  nothing_else x y gx gy (inl e) = said_itself e
  nothing_else x y gx gy (inr r) =
      let a = number_of problem x gx.mentioned in
      let b = number_of problem y gy.mentioned in
      let x_value = given_value x gx.no_variable a.number a.below a.is in
      let y_value = given_value y gy.no_variable b.number b.below b.is in
      let same_a = one_value r.first a.number r.first_in a.below (sym r.x_is ∙ sym x_value) in
      let same_b = one_value r.second b.number r.second_in b.below (sym r.y_is ∙ sym y_value) in
      let d : D a.number b.number = subst (λ u. D u b.number) same_a (subst (λ u. D r.first u) same_b r.related) in
      let k = meets.all_known a.number b.number (given_number x gx.no_variable a.number a.below a.is)
      (given_number y gy.no_variable b.number b.below b.is) d in
      subst (λ u. FactsSay facts u y) a.is
      (subst (λ u. FactsSay facts (T a.number) u) b.is (known_said problem a.number b.number k))

  pair_holds : (k : ℕ) (x y : Tree) → IsPairAt trees asked k x y → Outlives w (apply s x) (apply s y)
  pair_holds k x y p =
      subst (λ u. Outlives w (apply s u) (apply s y)) p.longer_at.1
      (subst (λ u. Outlives w (V (get_or asked.longer.items k 0)) (apply s u)) p.shorter_at.1
      (asked_outlives k p.below))

  constraint_holds : (q : Constraint) → ((a b : Tree) → IsPair q a b → (k : ℕ) × IsPairAt trees asked k a b) →
      ConstraintHolds w s q
  constraint_holds (outlives_constraint x y) has = let h = has x y (refl, refl) in pair_holds h.0 x y h.1
  constraint_holds (equal_constraint x y) has =
      let h = has x y (inl (refl, refl)) in
      let k = has y x (inr (refl, refl)) in
      (pair_holds h.0 x y h.1, pair_holds k.0 y x k.1)

  pub solution : IsSolution facts st w s
  solution = record {
    exact = record {
      world = world;
      nothing_else = λ x y gx gy h. nothing_else x y gx gy (demanded x y h);
    };
    satisfies = record {
      assigns = values_assign fresh st sound;
      bindings = values_meet fresh st sound;
      regions = λ j d lt. constraint_holds (get_or st.constraints j d) (λ a b asks. (problem.read).covered j lt a b
          (lt, subst (λ q. IsPair q a b) (get_or_default st.constraints j d no_constraint lt) asks));
    };
  }
