-- What is read of constraints and facts is a problem of the context's.
use Rattle.std.proofs.Common.{◌≡◌, ℕ, ◌<◌, List, [], length, get_or, sym, ◌∙◌, ap, refl, subst, arith, map, All, Bool}
use Rattle.std.proofs.lemmas.List.{get_or-map, length-map}
use Rattle.relation_terms.specs.Interning.{AreEqualAsTrees, Sorted}
use Rattle.relation_terms.specs.Trees.{Tree}
use Rattle.relation_terms.specs.declared.predicate.regions.OutlivesPredicate.{OutlivesPredicate}
use Rattle.relation_terms.specs.declared.predicate.regions.RegionConstraint.{RegionConstraint}
use Rattle.relation_terms.specs.declared.terms.keys.RegionKey.{RegionKey}
use Rattle.relation_semantics.specs.Constraints.{constraint_of}
use Rattle.relation_semantics.specs.Contexts.{Context}
use Rattle.relation_semantics.specs.Stores.{Store, Constraint, IsRegionIn, IsTermIn, InContext, ConstraintIn, IsSound}
use Rattle.relation_regions.specs.declared.building.Pairs.{Pairs}
use Rattle.relation_regions.specs.Worlds.{static}
use Rattle.relation_regions.specs.Reading.{IsAt, HaveNumbers, GrowsBy, IsOfOne, HaveRead, stating}
use Rattle.relation_regions.specs.Reading.{Reader, read_trees, read_facts, AreOf}
use Rattle.relation_regions.specs.Reading.{GetsNumber, ReadsConstraints, ReadsFacts, ReadsProblem}
use Rattle.relation_regions.specs.Solving.{IsFactIn}
use Rattle.relation_regions.proofs.ReadPairs.{are_problem}
use Rattle.relation_regions.proofs.Sorts.{no_type, no_const}

-- The region 'static is every context's.
static_in : (st : Store) (t : Tree) → t ≡ static → IsRegionIn st t
unfolding IsTermIn InContext
static_in st t e = subst (λ u. IsRegionIn st u) (sym e) (tt, (tt, tt, tt))

-- No regions have numbers.
none_have : (st : Store) (trees : List Tree) → trees ≡ [] → HaveNumbers st trees
none_have st trees e =
    let none : HaveNumbers st [] = record {
      regions = λ i d lt. absurd (omega (arith, lt));
      distinct = λ i j lt. absurd (omega (arith, lt));
      fits = omega arith;
    } in
    subst (λ l. HaveNumbers st l) (sym e) none

-- Keys are read as a context means them.
abbrev pub read_by : {Key Id Name : Type 0} (c : Context Key Id Name) (eq : RegionKey Key → RegionKey Key → Bool) →
    AreEqualAsTrees (c.meaning).region eq → Sorted c.meaning → Reader eq
read_by c eq law sorted = record {
  store = c.store;
  region = (c.meaning).region;
  asked = constraint_of c.meaning;
  equal_as_trees = law;
  of_outlives = λ a b. refl;
  of_equal = λ a b. refl;
  no_type = λ k b h. no_type c.meaning c.store k sorted h.0;
  no_const = λ k b h. no_const c.meaning c.store k sorted h.0;
}

-- A recorded constraint is the context's.
pub recorded_in : {Q : Type 0} (f : Q → Constraint) (xs : List Q) (st : Store) → map f xs ≡ st.constraints → IsSound st →
    All (λ q. ConstraintIn st (f q)) xs
recorded_in f xs st e h i d lt =
    let below : i < length st.constraints =
    subst (λ l. i < length l) e (subst (λ n. i < n) (sym (length-map xs f)) lt) in
    let same = sym (ap (λ l. get_or l i (f d)) e) ∙ get_or-map f xs i d (f d) lt in
    subst (ConstraintIn st) same (h.constraints_in i (f d) below)

-- These are a context's.
pub are_of : {Key Id Name : Type 0} (c : Context Key Id Name) (eq : RegionKey Key → RegionKey Key → Bool)
    (law : AreEqualAsTrees (c.meaning).region eq) (sorted : Sorted c.meaning) (re_static : RegionKey Key)
    (constraints : List (RegionConstraint Key)) (facts : List (OutlivesPredicate Key (RegionKey Key))) →
    (c.meaning).region re_static ≡ static → map (constraint_of c.meaning) constraints ≡ (c.store).constraints →
    IsSound c.store → All (IsFactIn c) facts → AreOf (read_by c eq law sorted) re_static constraints facts
are_of c eq law sorted re_static constraints facts is recorded sound facts_in = record {
  is_static = is;
  recorded = recorded;
  constraints_in = recorded_in (constraint_of c.meaning) constraints c.store recorded sound;
  facts_in = λ i d lt. ((facts_in i d lt).longer_in, (facts_in i d lt).shorter_in);
}

module _ {Key : Type 0} (eq : RegionKey Key → RegionKey Key → Bool) (re_static : RegionKey Key)
    (constraints : List (RegionConstraint Key)) (facts : List (OutlivesPredicate Key (RegionKey Key)))
    (k0 k1 k2 k3 : List (RegionKey Key)) (n : ℕ) (asked : Pairs) (said : List ℕ) (known : Pairs) (numbers : List ℕ)
    (empty : k0 ≡ []) (first : GetsNumber eq re_static k0 k1 n)
    (second : ReadsConstraints eq constraints (length constraints) k1 k2 asked said) where
  -- All that is read is a problem.
  pub problem_read : ReadsFacts eq facts (length facts) k2 k3 known numbers →
      ReadsProblem eq re_static constraints facts k3 asked said known
  problem_read third r of standings stand =
      let st = r.store in
      let none : HaveNumbers st (read_trees r k0) = none_have st (read_trees r k0) (ap (map r.region) empty) in
      let one = first r none (static_in st (r.region re_static) of.is_static) in
      let two = second r one.numbers of.constraints_in in
      let three = third r two.numbers of.facts_in in
      let t0 = read_trees r k0 in
      let t1 = read_trees r k1 in
      let t2 = read_trees r k2 in
      let t3 = read_trees r k3 in
      let pair : OutlivesPredicate Key (RegionKey Key) → Tree × Tree = λ f. (r.region f.0, r.region f.1) in
      let read0 : HaveRead (map r.asked constraints) (length (map r.asked constraints)) t2 asked said =
      subst (λ b. HaveRead (map r.asked constraints) b t2 asked said) (sym (length-map constraints r.asked)) two.read in
      let read1 : HaveRead st.constraints (length st.constraints) t2 asked said =
      subst (λ q. HaveRead q (length q) t2 asked said) of.recorded read0 in
      let more1 : GrowsBy (IsOfOne st.constraints) t1 t2 = subst (λ q. GrowsBy (IsOfOne q) t1 t2) of.recorded two.more in
      let stated : HaveRead (map stating (read_facts r facts)) (length (read_facts r facts)) t3 known numbers =
      subst (λ b. HaveRead (map stating (read_facts r facts)) b t3 known numbers) (sym (length-map facts pair))
      three.read in
      are_problem (read_facts r facts) st t0 t1 t2 t3 (ap (map r.region) empty)
      (subst (λ u. GrowsBy (λ t. t ≡ u) t0 t1) of.is_static one.more) n
      (subst (λ u. IsAt t1 n u) of.is_static one.number_is) more1 three.more standings asked said known numbers
      (record {
        regions = (three.numbers).regions;
        stand = stand;
        distinct = (three.numbers).distinct;
        fits = (three.numbers).fits;
      }) read1 stated
