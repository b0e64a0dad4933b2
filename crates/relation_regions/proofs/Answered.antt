-- What is solved of a problem is so of the regions of the context.
use Rattle.std.proofs.Common.{◌≡◌, ℕ, ◌<◌, ◌≤◌, ◌^◌, List, [], ◌∷◌, length, get_or, sym, ◌∙◌, subst, arith, All}
use Rattle.std.proofs.Common.{Result, Ok, Err, IfOk}
use Rattle.std.specs.Prelude.{IsPermutation}
use Rattle.std.proofs.lemmas.List.{get_or_default, get_or-map, length-map}
use Rattle.std.proofs.lemmas.List.Sorted.{Contains-permutation, IsPermutation-sym}
use Rattle.relation_terms.specs.declared.predicate.regions.OutlivesPredicate.{OutlivesPredicate}
use Rattle.relation_terms.specs.declared.terms.keys.RegionKey.{RegionKey}
use Rattle.relation_terms.specs.Meaning.{Extends}
use Rattle.relation_terms.specs.Heads.{region_var}
use Rattle.relation_terms.specs.Trees.{Tree}
use Rattle.relation_semantics.specs.Contexts.{Context}
use Rattle.relation_semantics.specs.ContextCalls.{IsNotVariable}
use Rattle.relation_semantics.specs.Stores.{IsRegionIn, IsSound}
use Rattle.relation_regions.specs.declared.building.Pairs.{Pairs}
use Rattle.relation_regions.specs.declared.standing.Standing.{Standing}
use Rattle.relation_regions.specs.declared.decide.Decision.{Decision}
use Rattle.relation_regions.specs.declared.decide.Decision.TheVariants as decision
use Rattle.relation_regions.specs.declared.solving.Solved.{Solved}
use Rattle.relation_regions.specs.declared.solving.Solved.TheVariants.{Met, Unmet}
use Rattle.relation_regions.specs.Demands.{Meets, Refutes}
use Rattle.relation_regions.specs.Demands as demand
use Rattle.std.specs.Global.{Vec}
use Rattle.relation_regions.specs.Numbering.{AreBelow}
use Rattle.relation_regions.specs.Reading.{numbered, trees_of, IsProblem}
use Rattle.relation_regions.specs.Numbered.{AreWithin, IsAnswer}
use Rattle.relation_regions.specs.Solutions.{AreLeast, IsUnmetBy}
use Rattle.relation_regions.specs.Solving.{IsFactIn, region_pair, region_pairs, IfMet, IfValued, IfUnmet, IsAnswered}
use Rattle.relation_regions.proofs.Decided.{has_solution, are_least, is_unmet}
use Rattle.relation_regions.proofs.InWorlds.{SpeaksOfGiven}
use Rattle.relation_regions.proofs.RegionNumbers.{region_known}
use Rattle.relation_regions.proofs.Numbers.{standings_each, asked_pairs, known_pairs}

-- What is so of the trees of all pairs.
pub facts_speak : {Key Id Name : Type 0} (c : Context Key Id Name)
    (facts : List (OutlivesPredicate Key (RegionKey Key))) → All (IsFactIn c) facts →
    All SpeaksOfGiven (region_pairs c.meaning facts)
facts_speak {Key = Key} c facts all i d lt =
    let m = c.meaning in
    let i_lt : i < length facts = subst (λ n. i < n) (length-map facts (region_pair m)) lt in
    let f = get_or facts i (some_fact facts i i_lt) in
    let h = all i (some_fact facts i i_lt) i_lt in
    subst SpeaksOfGiven (sym (get_or-map (region_pair m) facts i (some_fact facts i i_lt) d i_lt))
    (h.longer_no_variable, h.shorter_no_variable)
  where
    some_fact : (facts : List (OutlivesPredicate Key (RegionKey Key))) (i : ℕ) → i < length facts →
        OutlivesPredicate Key (RegionKey Key)
    some_fact [] i lt = absurd (omega (arith, lt))
    some_fact (f ∷ fs) i lt = f

-- A fact of a context is one of a later context with the same record.
pub fact_later : {Key Id Name : Type 0} (c d : Context Key Id Name) (f : OutlivesPredicate Key (RegionKey Key)) →
    Extends c.meaning d.meaning → d.store ≡ c.store → IsFactIn c f → IsFactIn d f
fact_later c d f extends same h =
    let longer_is : (d.meaning).region f.0 ≡ (c.meaning).region f.0 =
    extends.region f.0 (region_known c.store ((c.meaning).region f.0) h.longer_in) in
    let shorter_is : (d.meaning).region f.1 ≡ (c.meaning).region f.1 =
    extends.region f.1 (region_known c.store ((c.meaning).region f.1) h.shorter_in) in
    record {
      longer_in = subst (λ st. IsRegionIn st ((d.meaning).region f.0)) (sym same)
          (subst (λ t. IsRegionIn c.store t) (sym longer_is) h.longer_in);
      shorter_in = subst (λ st. IsRegionIn st ((d.meaning).region f.1)) (sym same)
          (subst (λ t. IsRegionIn c.store t) (sym shorter_is) h.shorter_in);
      longer_no_variable = subst (IsNotVariable region_var) (sym longer_is) h.longer_no_variable;
      shorter_no_variable = subst (IsNotVariable region_var) (sym shorter_is) h.shorter_no_variable;
    }

-- The facts of a context are facts of such a later one.
pub facts_kept : {Key Id Name : Type 0} (c d : Context Key Id Name)
    (facts : List (OutlivesPredicate Key (RegionKey Key))) → Extends c.meaning d.meaning → d.store ≡ c.store →
    All (IsFactIn c) facts → All (IsFactIn d) facts
facts_kept c d facts extends same all i x lt = fact_later c d (get_or facts i x) extends same (all i x lt)

-- The numbers of values are below the count of regions.
pub values_below : {Key : Type 0} (keys : List (RegionKey Key)) (standings : List Standing) (asked known : Pairs)
    (values : List (ℕ × ℕ)) → length standings ≡ length keys → Meets standings asked known values →
    All (AreBelow (length keys)) values
values_below keys standings asked known values e meets i d lt =
    let v = get_or values i d in
    let h = meets.only v.0 v.1 (i, lt, get_or_default values i v d lt) in
    (subst (λ n. v.0 < n) e (h.0).0, subst (λ n. v.1 < n) e (h.1).0)

-- The places of pairs that are asked for are below the count of what asks for them.
pub places_below : (asked : Pairs) (said by : List ℕ) → length said ≡ length asked.shorter.items →
    All (λ k. k < length asked.shorter.items) by → All (λ k. k < length said) by
places_below asked said by e all i d lt = subst (λ n. get_or by i d < n) (sym e) (all i d lt)

-- What was decided, where it is known what.
pub met_of : (standings : List Standing) (asked known : Pairs) (d : Decision) (values : Vec (ℕ × ℕ)) →
    d ≡ decision.Met values → demand.IfMet standings asked known d → Meets standings asked known values.items
met_of standings asked known d values is h = subst (λ u. demand.IfMet standings asked known u) is h

pub unmet_of : (standings : List Standing) (asked known : Pairs) (d : Decision) (longer shorter : ℕ) (by : Vec ℕ) →
    d ≡ decision.Unmet longer shorter by → demand.IfUnmet standings asked known d →
    Refutes standings asked known longer shorter by.items
unmet_of standings asked known d longer shorter by is h = subst (λ u. demand.IfUnmet standings asked known u) is h

-- Values in another order.
pub meets_sorted : (standings : List Standing) (asked known : Pairs) (values values' : List (ℕ × ℕ)) →
    IsPermutation values values' → Meets standings asked known values → Meets standings asked known values'
meets_sorted standings asked known values values' p h = record {
  all_known = h.all_known;
  each = λ a b v g d. Contains-permutation values values' (a, b) p (h.each a b v g d);
  only = λ a b c. h.only a b (Contains-permutation values' values (a, b) (IsPermutation-sym values values' p) c);
}

-- What is answered of numbers is so of the regions of the context that have them.
module _ {Key Id Name : Type 0} (c : Context Key Id Name) (facts : List (OutlivesPredicate Key (RegionKey Key)))
    (keys : List (RegionKey Key)) {standings : List Standing} {asked : Pairs} {said : List ℕ} {known : Pairs}
    (problem : IsProblem (region_pairs c.meaning facts) c.store (trees_of c keys) standings asked said known) where
  -- A problem's numbers are within its columns.
  pub problem_within : AreWithin keys standings asked said known
  problem_within =
      let same : length (trees_of c keys) ≡ length keys = length-map keys (c.meaning).region in
      record {
        fits = subst (λ n. n ≤ 2 ^ 32) same (problem.are_numbered).fits;
        each_stands = standings_each problem ∙ same;
        each_said = (problem.read).each_said;
        asked_pairs = asked_pairs problem;
        known_pairs = known_pairs problem;
      }

  module _ (facts_in : All (IsFactIn c) facts) {E : Type 0} where
    module _ (sound : IsSound c.store) where
      met_answer : (r : Result (Solved Key) E) → IfOk r (IsAnswer keys standings asked said known) →
          IfOk r (IfMet c facts)
      met_answer (Ok (Met values)) h = has_solution problem (facts_speak c facts facts_in) sound h.meets
      met_answer (Ok (Unmet longer shorter by)) h = tt
      met_answer (Err e) h = tt

      least_answer : (r : Result (Solved Key) E) → IfOk r (IsAnswer keys standings asked said known) →
          IfOk r (IfValued c facts)
      least_answer (Ok (Met values)) h = subst (AreLeast (region_pairs c.meaning facts) c.store)
          (sym (h.values_are (c.meaning).region)) (are_least problem (facts_speak c facts facts_in) sound h.meets)
      least_answer (Ok (Unmet longer shorter by)) h = tt
      least_answer (Err e) h = tt

    unmet_answer : (r : Result (Solved Key) E) → IfOk r (IsAnswer keys standings asked said known) →
        IfOk r (IfUnmet c facts)
    unmet_answer (Ok (Met values)) h = tt
    unmet_answer (Ok (Unmet longer shorter by)) h =
        let P : Tree → Tree → List ℕ → Type 0 = IsUnmetBy (region_pairs c.meaning facts) c.store in
        let x = (c.meaning).region longer in
        let y = (c.meaning).region shorter in
        subst (λ u. P u y by.items) (sym (h.longer_at (c.meaning).region))
        (subst (λ u. P (numbered (trees_of c keys) h.first) u by.items) (sym (h.shorter_at (c.meaning).region))
        (subst (P (numbered (trees_of c keys) h.first) (numbered (trees_of c keys) h.second)) (sym h.by_is)
        (is_unmet problem (facts_speak c facts facts_in) h.first h.second h.places h.refutes)))
    unmet_answer (Err e) h = tt

    -- All that is answered.
    pub answered : IsSound c.store → (r : Result (Solved Key) E) → IfOk r (IsAnswer keys standings asked said known) →
        IfOk r (IsAnswered c facts)
    answered sound (Ok s) h = record {
      met = met_answer sound (Ok s) h;
      least = least_answer sound (Ok s) h;
      unmet = unmet_answer (Ok s) h;
    }
    answered sound (Err e) h = tt
