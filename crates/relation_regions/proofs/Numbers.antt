-- The regions of numbers, and what pairs of them say.
use Rattle.std.proofs.Common.{◌≡◌, ℕ, ◌<◌, List, length, get_or, sym, ◌∙◌, ap, refl, subst, ◌⊎◌, inl, inr, map}
use Rattle.std.specs.List.{Contains}
use Rattle.std.proofs.lemmas.List.{get_or_default, get_or-map, length-map}
use Rattle.relation_terms.specs.Trees.{Tree}
use Rattle.relation_semantics.specs.Stores.{Store, Constraint, outlives_constraint, equal_constraint, IsRegionIn}
use Rattle.relation_regions.specs.declared.building.Pairs.{Pairs}
use Rattle.relation_regions.specs.declared.standing.Standing.{Standing}
use Rattle.relation_regions.specs.declared.standing.Standing.TheVariants.{Named}
use Rattle.relation_regions.specs.Building.{ArePairs}
use Rattle.relation_regions.specs.Demands.{IsKnown, is_stated, static_first, is_itself, goes_through}
use Rattle.relation_regions.specs.Standings.{standing_of}
use Rattle.relation_regions.specs.Worlds.{static, IsOf, IsMentioned, is_static, by_constraint, by_fact, FactsSay, stated}
use Rattle.relation_regions.specs.Worlds.{from_static, itself, through}
use Rattle.relation_regions.specs.Reading.{standing_in, numbered, IsPair, no_constraint, Asks, stating, IsPairAt, HaveRead}
use Rattle.relation_regions.specs.Reading.{IsProblem}

-- What is read is pairs of numbers that there are.
pub read_pairs : (qs : List Constraint) (bound : ℕ) (trees : List Tree) (p : Pairs) (said : List ℕ) →
    HaveRead qs bound trees p said → ArePairs (length trees) p
read_pairs qs bound trees p said h = record {
  each_longer = h.each_longer;
  longer_in = λ k lt. ((h.each k lt).pair).longer_at.0;
  shorter_in = λ k lt. ((h.each k lt).pair).shorter_at.0;
}

-- A fact asks for what it states, and for nothing else.
pub fact_asked : (facts : List (Tree × Tree)) (j : ℕ) (a b : Tree) → Asks (map stating facts) j a b →
    Contains facts (a, b)
fact_asked facts j a b h =
    let none : Tree × Tree = (static, static) in
    let f : Tree × Tree = get_or facts j none in
    let lt : j < length facts = subst (λ n. j < n) (length-map facts stating) h.0 in
    let e : get_or (map stating facts) j no_constraint ≡ stating f = get_or-map stating facts j none no_constraint lt in
    let q : IsPair (stating f) a b = subst (λ z. IsPair z a b) e h.1 in
    let there : Contains facts f = (j, lt, get_or_default facts j f none lt) in
    subst (λ u. Contains facts (u, b)) (sym q.0) (subst (λ u. Contains facts (f.0, u)) (sym q.1) there)

pub fact_asks : (facts : List (Tree × Tree)) (a b : Tree) → (has : Contains facts (a, b)) →
    Asks (map stating facts) has.0 a b
fact_asks facts a b (j, lt, at_j) =
    let none : Tree × Tree = (static, static) in
    let e : get_or (map stating facts) j no_constraint ≡ stating (a, b) =
    get_or-map stating facts j (a, b) no_constraint lt ∙ ap stating at_j in (
      subst (λ n. j < n) (sym (length-map facts stating)) lt,
      subst (λ z. IsPair z a b) (sym e) (refl, refl),
    )

module _ {facts : List (Tree × Tree)} {st : Store} {trees : List Tree} {standings : List Standing} {asked : Pairs}
    {said : List ℕ} {known : Pairs} (problem : IsProblem facts st trees standings asked said known) where
  abbrev T : ℕ → Tree
  T i = numbered trees i

  pub standings_each : length standings ≡ length trees
  standings_each = ap (λ (l : List Standing). length l) (problem.are_numbered).stand ∙
      length-map trees (standing_in st)

  pub standing_at : (i : ℕ) → i < length trees → standing_of standings i ≡ standing_in st (T i)
  standing_at i lt = ap (λ l. get_or l i Named) (problem.are_numbered).stand ∙
      get_or-map (standing_in st) trees i static Named lt

  pub region_at : (i : ℕ) → i < length trees → IsRegionIn st (T i)
  region_at i lt = (problem.are_numbered).regions i static lt

  pub mentioned_at : (i : ℕ) → i < length trees → IsMentioned facts st (T i)
  mentioned_at i lt = problem.mentioned i static lt

  pub one_number : (i j : ℕ) → i < length trees → j < length trees → T i ≡ T j → i ≡ j
  one_number i j p q e = (problem.are_numbered).distinct i j p q e

  pub asked_pairs : ArePairs (length standings) asked
  asked_pairs = subst (λ n. ArePairs n asked) (sym standings_each)
      (read_pairs st.constraints (length st.constraints) trees asked said problem.read)

  pub known_pairs : ArePairs (length standings) known
  known_pairs = subst (λ n. ArePairs n known) (sym standings_each)
      (read_pairs (map stating facts) (length facts) trees known (problem.stated).0 (problem.stated).1)

  -- The number of a mentioned region.
  pub record HasNumber (t : Tree) : Type 0 where
    pub number : ℕ
    pub below : number < length trees
    pub is : T number ≡ t

  pair_number : (p : Pairs) (k : ℕ) (a b t : Tree) → IsPairAt trees p k a b → (t ≡ a) ⊎ (t ≡ b) → HasNumber t
  pair_number p k a b t h (inl e) = record {
    number = get_or p.longer.items k 0;
    below = h.longer_at.0;
    is = h.longer_at.1 ∙ sym e;
  }
  pair_number p k a b t h (inr e) = record {
    number = get_or p.shorter.items k 0;
    below = h.shorter_at.0;
    is = h.shorter_at.1 ∙ sym e;
  }

  -- A constraint that reading has passed asks for a pair, in which each of its regions stands.
  constraint_number : (q : Constraint) (t : Tree) → IsOf q t →
      ((a b : Tree) → IsPair q a b → (k : ℕ) × IsPairAt trees asked k a b) → HasNumber t
  constraint_number (outlives_constraint a b) t of asks =
      let h = asks a b (refl, refl) in pair_number asked h.0 a b t h.1 of
  constraint_number (equal_constraint a b) t of asks =
      let h = asks a b (inl (refl, refl)) in pair_number asked h.0 a b t h.1 of

  pub number_of : (t : Tree) → IsMentioned facts st t → HasNumber t
  number_of t (is_static e) = record {
    number = 0;
    below = problem.static_first.0;
    is = problem.static_first.1 ∙ sym e;
  }
  number_of t (by_constraint q (j, lt, at_j) of) =
      let e : get_or st.constraints j no_constraint ≡ q = get_or_default st.constraints j no_constraint q lt ∙ at_j in
      constraint_number q t of (λ a b asks. (problem.read).covered j lt a b
      (lt, subst (λ z. IsPair z a b) (sym e) asks))
  number_of t (by_fact a b has of) =
      let h = ((problem.stated).1).covered has.0 has.1 a b (fact_asks facts a b has) in
      pair_number known h.0 a b t h.1 of

  -- What is known of numbers the facts say of their regions.
  pub known_said : (a b : ℕ) → IsKnown standings known a b → FactsSay facts (T a) (T b)
  known_said a b (is_stated k lt e f) =
      let h = ((problem.stated).1).each k lt in
      let x : h.longer ≡ T a = sym ((h.pair).longer_at).1 ∙ ap T e in
      let y : h.shorter ≡ T b = sym ((h.pair).shorter_at).1 ∙ ap T f in
      let there = stated (fact_asked facts (get_or (problem.stated).0 k 0) h.longer h.shorter h.asks) in
      subst (λ u. FactsSay facts u (T b)) x (subst (λ u. FactsSay facts h.longer u) y there)
  known_said a b (static_first e lt) = from_static (ap T e ∙ problem.static_first.1)
  known_said a b (is_itself e) = itself (ap T e)
  known_said a b (goes_through {b = m} h k) = through (known_said a m h) (known_said m b k)

  -- To where what the facts say leads from a number: to 'static, or to a number.
  said_leads : (x y : Tree) → FactsSay facts x y → (a : ℕ) → a < length trees → T a ≡ x →
      IsKnown standings known a 0 ⊎ ((b : ℕ) × (b < length trees) × (T b ≡ y) × IsKnown standings known a b)
  said_leads x y (stated has) a lt e =
      let h = ((problem.stated).1).covered has.0 has.1 x y (fact_asks facts x y has) in
      let p : IsPairAt trees known h.0 x y = h.1 in
      let same : get_or known.longer.items h.0 0 ≡ a =
      one_number (get_or known.longer.items h.0 0) a p.longer_at.0 lt (p.longer_at.1 ∙ sym e) in
      inr (get_or known.shorter.items h.0 0, p.shorter_at.0, p.shorter_at.1, is_stated h.0 p.below same refl)
  said_leads x y (from_static is) a lt e =
      inl (is_itself (one_number a 0 lt problem.static_first.0 (e ∙ (is ∙ sym problem.static_first.1))))
  said_leads x y (itself is) a lt e = inr (a, lt, e ∙ is, is_itself refl)
  said_leads x y (through {b = m} h k) a lt e = elim (said_leads x m h a lt e) [
    | inl r ↦ inl r
    | inr r ↦ elim (said_leads m y k r.0 r.1 r.2) [
      | inl q ↦ inl (goes_through r.3 q)
      | inr q ↦ inr (q.0, q.1, q.2, goes_through r.3 q.3)
    ]
  ]

  -- What the facts say of the regions of numbers is known of the numbers.
  pub said_known : (a b : ℕ) → a < length trees → b < length trees → FactsSay facts (T a) (T b) →
      IsKnown standings known a b
  said_known a b p q h = elim (said_leads (T a) (T b) h a p refl) [
    | inl r ↦ goes_through r (static_first refl (subst (λ n. b < n) (sym standings_each) q))
    | inr r ↦ subst (λ u. IsKnown standings known a u) (one_number r.0 b r.1 q r.2) r.3
  ]
