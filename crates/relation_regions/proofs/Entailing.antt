-- What is recorded of two bare values, when it is solved: whether facts entail that they are related.
use Rattle.std.proofs.Common.{◌≡◌, ◌↔◌, ℕ, ◌<◌, List, refl, ap, sym, ◌∙◌, subst, inl, inr, All, length, get_or}
use Rattle.std.proofs.lemmas.List.{get_or_default}
use Rattle.std.specs.List.{Contains, HoldsAt}
use Rattle.std.proofs.lemmas.List.Elements.{Contains-append_left, Contains-append_right, All-append, All-contains}
use Rattle.term_enums.specs.declared.Variance.{Variance}
use Rattle.relation_terms.specs.Heads.{Leaf, leaf_sort, region_sort, region_var}
use Rattle.relation_terms.specs.Trees.{Tree, leaf, Leaves, Assign, apply}
use Rattle.relation_semantics.specs.Relation.{Items, Interpretation, Outlives, itself, IsValueLeaf}
use Rattle.relation_semantics.specs.Stores.{Store, Constraint, outlives_constraint, equal_constraint, ConstraintHolds}
use Rattle.relation_semantics.specs.Asking.{Wanted, a_constraint, a_goal, IsOfItself, AsksFor}
use Rattle.relation_semantics.specs.ContextCalls.{IsNotVariable}
use Rattle.relation_semantics.specs.Goals.{Goal}
use Rattle.relation_semantics.specs.Recording.{IsJustAsked}
use Rattle.relation_semantics.proofs.Asking.{no_goal}
use Rattle.relation_semantics.proofs.Standing.{namable_mono}
use Rattle.relation_semantics.proofs.Trees.{Leaves_map, apply_ground}
use Rattle.relation_semantics.specs.Steps.{IsLater}
use Rattle.relation_semantics.specs.Stores.{IsNamable, universe_of}
use Rattle.relation_terms.proofs.Paths.{leaf_path}
use Rattle.context_relation.specs.Completing.{IsSoWanted, AreRelatedWhereAsked, AreNeverRelated}
use Rattle.relation_regions.specs.Worlds.{static, IsOf, IsMentioned, is_static, by_constraint, by_fact, FactsSay}
use Rattle.relation_regions.specs.Worlds.{IsGiven, IsWorld}
use Rattle.relation_regions.specs.Solutions.{HasSolution, IsUnmetBy}
use Rattle.relation_regions.specs.Entailment.{IsModel, FactsEntail, AreBareValues, RecordFollows}
use Rattle.relation_regions.proofs.AskedRegions.{IsRegionLeaf, asked_regions}
use Rattle.relation_regions.proofs.LeastWorlds.{said_outlives, least, all_static, only_said, is_model, is_world}

-- A region without variables.
pub record IsValueRegion (t : Tree) : Type 0 where
  pub no_variable : IsNotVariable region_var t
  pub own : (s : Assign) → apply s t ≡ t

value_region : (t : Tree) → IsRegionLeaf IsValueLeaf t → IsValueRegion t
value_region t h = record {
  no_variable = λ n e. subst IsValueLeaf (leaf_path (sym h.is ∙ e)) h.holds;
  own = λ s. apply_ground s t (subst (Leaves IsValueLeaf) (sym h.is) h.holds);
}

-- A leaf that 'static outlives, if it is a region.
abbrev IsBelowStatic : Interpretation → Leaf → Type 0
IsBelowStatic w l = leaf_sort l ≡ region_sort → Outlives w static (leaf l)

-- A constraint of a region with itself holds.
own_holds : (w : Interpretation) (s : Assign) (q : Constraint) → IsOfItself q → ConstraintHolds w s q
own_holds w s (outlives_constraint x y) e = itself (ap (apply s) e)
own_holds w s (equal_constraint x y) e = (itself (ap (apply s) e), itself (ap (apply s) (sym e)))

-- What holds of each two regions that a constraint speaks of carries over to the constraint.
carried : (w w' : Interpretation) (s s' : Assign) (q : Constraint) →
    ((x y : Tree) → IsOf q x → IsOf q y → Outlives w (apply s x) (apply s y) → Outlives w' (apply s' x) (apply s' y)) →
    ConstraintHolds w s q → ConstraintHolds w' s' q
carried w w' s s' (outlives_constraint x y) f h = f x y (inl refl) (inr refl) h
carried w w' s s' (equal_constraint x y) f h =
    (f x y (inl refl) (inr refl) h.0, f y x (inr refl) (inl refl) h.1)

-- Related nowhere is not entailed: there is a world of the facts.
pub never_entailed : (facts : List (Tree × Tree)) (c : Items) (st : Store) (e : Tree) (v : Variance) (a b : Tree) →
    AreNeverRelated c e v a b → ⊥ ↔ FactsEntail facts c e v a b
never_entailed facts c st e v a b never = (
  λ yes. absurd yes,
  λ entail. never (least facts st a b) (entail (least facts st a b) (is_model facts st a b)),
)

module _ (facts : List (Tree × Tree)) {c : Items} {e : Tree} {v : Variance} {a b : Tree} (before after : Store)
    {goals : List Goal} (bare : AreBareValues a b)
    (just : IsJustAsked c e v a b before.constraints after.constraints goals)
    (where_asked : AreRelatedWhereAsked c e v a b) where
  stands : (q : Constraint) → Contains just.constraints q → Contains after.constraints q
  stands q h = subst (λ l. Contains l q) (sym just.recorded)
      (Contains-append_right before.constraints just.constraints q h)

  value_regions : (q : Constraint) → AsksFor c (a_constraint q) v a b → (t : Tree) → IsOf q t → IsValueRegion t
  value_regions q asks t o =
      value_region t (asked_regions IsValueLeaf q t asks refl (bare.left_value).1 (bare.right_value).1 o)

  longest_in : (w : Interpretation) → IsModel facts w a b → (q : Constraint) → AsksFor c (a_constraint q) v a b →
      (t : Tree) → IsOf q t → Outlives w static t
  longest_in w model q asks t o =
      let h = asked_regions (IsBelowStatic w) q t asks refl model.left_longest model.right_longest o in
      subst (λ u. Outlives w static u) (sym h.is) (h.holds h.sort)

  -- What was recorded of the two, and can be solved, holds wherever the facts do and 'static outlives its regions.
  solved_holds : HasSolution facts after → (w : Interpretation) →
      ((x y : Tree) → Contains facts (x, y) → Outlives w x y) → (q : Constraint) → AsksFor c (a_constraint q) v a b →
      Contains just.constraints q → ((t : Tree) → IsOf q t → Outlives w static t) → (s : Assign) →
      ConstraintHolds w s q
  solved_holds (w', (s', solved)) w hold q asks has longest s = carried w' w s' s q pair
      (All-contains (ConstraintHolds w' s') after.constraints q (solved.satisfies).regions (stands q has))
    where
      given : (t : Tree) → IsOf q t → IsGiven facts after t
      given t o = record {
        mentioned = by_constraint q (stands q has) o;
        no_variable = (value_regions q asks t o).no_variable;
      }

      own : (r : Assign) (t : Tree) → IsOf q t → apply r t ≡ t
      own r t o = (value_regions q asks t o).own r

      pair : (x y : Tree) → IsOf q x → IsOf q y → Outlives w' (apply s' x) (apply s' y) →
          Outlives w (apply s x) (apply s y)
      pair x y o p h =
          let say : FactsSay facts x y = (solved.exact).nothing_else x y (given x o) (given y p)
          (subst (λ u. Outlives w' u y) (own s' x o) (subst (λ u. Outlives w' (apply s' x) u) (own s' y p) h)) in
          subst (λ u. Outlives w u (apply s y)) (sym (own s x o)) (subst (λ u. Outlives w x u) (sym (own s y p))
          (said_outlives facts w hold y (longest y p) x y say (itself refl)))

  -- What can be solved is entailed.
  pub entailed : HasSolution facts after → FactsEntail facts c e v a b
  entailed has w model = (where_asked w).1 so
    where
      so : (z : Wanted) → AsksFor c z v a b → (s : Assign) → IsSoWanted c w e s z
      so (a_goal p) asks s = absurd (no_goal p asks refl (bare.left_bare).1 (bare.right_bare).1)
      so (a_constraint q) asks s = elim (just.all_constraints q asks) [
        | inl i ↦ own_holds w s q i
        | inr i ↦ solved_holds has w model.facts_hold q asks i (longest_in w model q asks) s
      ]

  mentioned_more : (t : Tree) → IsMentioned facts before t → IsMentioned facts after t
  mentioned_more t (is_static i) = is_static i
  mentioned_more t (by_constraint q has o) = by_constraint q (subst (λ l. Contains l q) (sym just.recorded)
      (Contains-append_left before.constraints just.constraints q has)) o
  mentioned_more t (by_fact x y has o) = by_fact x y has o

  -- All constraints hold in the least world, where what was recorded before follows and the two are entailed to be related.
  all_hold : RecordFollows facts before → FactsEntail facts c e v a b →
      All (ConstraintHolds (least facts after a b) all_static) after.constraints
  all_hold follows entail =
      let w = least facts after a b in
      let asked : All (ConstraintHolds w all_static) just.constraints = λ i d lt.
      (where_asked w).0 (entail w (is_model facts after a b)) (a_constraint _) (just.constraints_asked i d lt) all_static in
      subst (λ l. All (ConstraintHolds w all_static) l) (sym just.recorded)
      (All-append (ConstraintHolds w all_static) before.constraints just.constraints
      (follows w all_static (is_world facts after a b before mentioned_more)) asked)

  -- What can't be solved refutes that, where what was recorded before follows of the facts.
  pub refuted : {longer shorter : Tree} {by : List ℕ} → RecordFollows facts before →
      IsUnmetBy facts after longer shorter by → ⊥ ↔ FactsEntail facts c e v a b
  refuted {longer} {shorter} {by} follows unmet = (λ yes. absurd yes, refutes)
    where
      refutes : FactsEntail facts c e v a b → ⊥
      refutes entail =
          let w = least facts after a b in
          let all = all_hold follows entail in
          let holds : (i : ℕ) → Contains by i → HoldsAt (ConstraintHolds w all_static) after.constraints i = λ i has d.
          all i d (All-contains (λ j. j < length after.constraints) by i unmet.recorded has) in
          unmet.unsaid (only_said facts after a b longer shorter
          (unmet.forced w all_static (is_world facts after a b after (λ t m. m)) holds))

  -- What was recorded before holds in each world of what is recorded after, where it follows of the facts.
  before_holds : IsLater before after → RecordFollows facts before → (w : Interpretation) (s : Assign) →
      IsWorld facts after w s → All (ConstraintHolds w s) before.constraints
  before_holds later follows w s world =
      let after_u = universe_of after region_var in
      let before_u = universe_of before region_var in
      let world_before : IsWorld facts before w s = record {
        facts_hold = world.facts_hold;
        longest = λ t m. world.longest t (mentioned_more t m);
        uniform = λ n p made cannot h. world.uniform n p (later.grows region_var n made)
            (λ names. cannot (Leaves_map (IsNamable (after_u n)) (IsNamable (before_u n))
            (namable_mono (after_u n) (before_u n) (later.universes_fall region_var n made)) p names)) h;
      } in
      follows w s world_before

  -- What was recorded follows still, where it can be solved.
  pub follows_still : IsLater before after → RecordFollows facts before → HasSolution facts after →
      RecordFollows facts after
  follows_still later follows has w s world =
      let asked : All (ConstraintHolds w s) just.constraints = λ i d lt.
      let q = get_or just.constraints i d in
      let in_list : Contains just.constraints q = (i, lt, get_or_default just.constraints i q d lt) in
      let asks = just.constraints_asked i d lt in
      solved_holds has w world.facts_hold q asks in_list (λ t o.
      subst (λ u. Outlives w static u) ((value_regions q asks t o).own s)
      (world.longest t (by_constraint q (stands q in_list) o))) s in
      subst (λ l. All (ConstraintHolds w s) l) (sym just.recorded)
      (All-append (ConstraintHolds w s) before.constraints just.constraints (before_holds later follows w s world) asked)
