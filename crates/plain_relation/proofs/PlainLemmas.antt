-- A relation of terms without variables.
use Rattle.std.proofs.Common.{◌≡◌, ◌≢◌, ℕ, ◌≤◌, refl, sym, ◌∙◌, subst, subst₂, arith, List, [], ◌∷◌, ◌++◌, All, IsTrue, map}
use Rattle.std.proofs.Common.{Option, Some, IfSome, Result, Ok, Err, inl, inr}
use Rattle.std.proofs.lemmas.List.{map-append}
use Rattle.std.proofs.lemmas.List.Elements.{All-nil}
use Rattle.term_enums.specs.declared.Variance.{Variance}
use Rattle.relation_terms.specs.declared.terms.keys.RegionKey.{RegionKey}
use Rattle.relation_terms.specs.declared.predicate.regions.RegionConstraint.{RegionConstraint}
use Rattle.relation_terms.specs.Heads.{environment, type_sort, region_sort, region_var, type_var, const_var, variable}
use Rattle.relation_terms.specs.Heads.{bound}
use Rattle.relation_terms.specs.Heads.{placeholder, atom, unknown}
use Rattle.relation_terms.specs.Trees.{Tree, leaf, node, bind, nil, cons, known, IsTerm, Assign, apply}
use Rattle.relation_terms.specs.Meaning.{Meaning}
use Rattle.relation_terms.proofs.Stays.{stays_same}
use Rattle.relation_folds.specs.declared.error.RelateFault.{RelateFault}
use Rattle.relation_folds.specs.declared.error.RelateFault.TheVariants.{Memory}
use Rattle.relation_semantics.specs.Relation.{Interpretation, Rel, RegionRule, regions, sort_of, at}
use Rattle.relation_semantics.specs.Stores.{IsTermIn, IsRegionIn, ConstraintIn, ConstraintHolds, Satisfies}
use Rattle.relation_semantics.specs.Errors.{IsDeferred}
use Rattle.relation_semantics.specs.Goals.{GoalInContext, Holds, MakesOneTree}
use Rattle.relation_semantics.specs.Steps.{AddsConstraint}
use Rattle.relation_semantics.specs.Outcomes.{Outcome, Exact}
use Rattle.relation_semantics.specs.Measures.{Goes}
use Rattle.relation_semantics.specs.Parts.{IsRigid}
use Rattle.relation_semantics.specs.Lawful.{items_of, Passes, Related, items_in}
use Rattle.relation_semantics.specs.Constraints.{constraint_at, constraint_of}
use Rattle.plain_relation.specs.Plain.{as_is, plain_settings, plain_store, plain_state, plain_manner}
use Rattle.relation_semantics.proofs.Full.{full_itself, full_by}
use Rattle.relation_semantics.proofs.Keeping.{one_itself, unified_itself}
use Rattle.relation_semantics.proofs.Trees.{all_leaves, apply_own, own_other}
use Rattle.context_relation.proofs.Constraints.{asked_in, asked_relates, asked_met}
use Rattle.relation_semantics.specs.Asking.{of_regions}
use Rattle.relation_semantics.proofs.Asking.{regions_ask_one, region_asked}
use Rattle.relation_semantics.proofs.Recording.{records_constraint}
use Rattle.relation_semantics.proofs.AskingSince.{regions_no_more}
use Rattle.relation_semantics.proofs.Standing.{made_of_term, term_within, term_sort_of}
use Rattle.relation_semantics.proofs.Growing.{constraint_sound, constraint_is_later, constraint_bound, constraint_weight}
use Rattle.relation_semantics.proofs.Growing.{constraint_holds, constraint_keeps}
use Rattle.relation_semantics.proofs.Passing.{passes_nowhere}
use Rattle.relation_semantics.proofs.Answering.{may_itself}
use Rattle.relation_semantics.proofs.AgreeingBefore.{regions_agreed}
use Rattle.relation_semantics.proofs.Beginning.{begins_by}
use Rattle.relation_semantics.proofs.Erased.{erase_region}
use Rattle.relation_semantics.proofs.OneUniverse.{keeps_pair, standing_keeps, binds_itself}
use Rattle.relation_semantics.proofs.BuildingSteps.{builds_none, built_itself}
use Rattle.variable_tables.proofs.Grows.{known_of_term}
use Rattle.relation_terms.proofs.Stays.{stays_arg}
use Rattle.relation_terms.specs.Meaning.{Extends}
use Rattle.relation_semantics.specs.Lawful.{WithMeaning, RegisteredIn}
use Rattle.relation_semantics.specs.Stores.{Store, IsSound, ConstraintIn, outlives_constraint, equal_constraint}
use Rattle.relation_terms.specs.declared.predicate.regions.RegionConstraint.TheVariants.{Outlives, Eq}
use Rattle.std.proofs.Common.{ap, ap₂, ◌∷◌}
use Rattle.std.proofs.lemmas.List.Elements.{All-head, All-tail}

-- Nothing is left to a goal.
pub none_left : (a b : Tree) → IsDeferred plain_settings a b → ⊥
none_left a b (inl (l, o)) = let e = l.1 in cc
none_left a b (inr (l, o)) = let e = l.0 in cc

module _ {Key Id Name : Type 0} (m : Meaning Key Id Name) where
  -- Without variables, and with no bound variable that escapes, a type has a form.
  pub formed : (cs : List (RegionConstraint Key)) (t : Tree) → IsTerm type_sort t → IsTermIn (plain_store m cs) t →
      IsRigid t
  formed cs (leaf (variable k n)) h i = absurd (let l = made_of_term (plain_store m cs) k n i in omega (arith, l))
  formed cs (leaf (bound k d j)) h i =
      absurd (let l = term_within (plain_store m cs) (leaf (bound k d j)) i in omega (arith, l))
  formed cs (leaf (placeholder k u n)) h i = term_sort_of type_var (leaf (placeholder k u n)) h
  formed cs (leaf (atom x)) h i = term_sort_of type_var (leaf (atom x)) h
  formed cs (leaf unknown) h i = absurd h
  formed cs (node g ts) h i = term_sort_of type_var (node g ts) h
  formed cs (bind ks t) h i = absurd h
  formed cs nil h i = absurd h
  formed cs (cons t ts) h i = absurd h

  -- No constant is a variable.
  pub no_const_variable : (cs : List (RegionConstraint Key)) (t : Tree) → IsTermIn (plain_store m cs) t → (n : ℕ) →
      t ≢ leaf (variable const_var n)
  no_const_variable cs t i n e = let l = made_of_term (plain_store m cs) const_var n
      (subst (IsTermIn (plain_store m cs)) e i) in omega (arith, l)

  -- A region stays one under each assignment.
  region_stays : (cs : List (RegionConstraint Key)) (s : Assign) (t : Tree) → IsRegionIn (plain_store m cs) t →
      sort_of (apply s t) ≡ region_sort
  region_stays cs s (leaf (variable k n)) h =
      absurd (let l = made_of_term (plain_store m cs) k n h.1 in omega (arith, l))
  region_stays cs s (leaf (bound k d j)) h = term_sort_of region_var (leaf (bound k d j)) h.0
  region_stays cs s (leaf (placeholder k u n)) h = term_sort_of region_var (leaf (placeholder k u n)) h.0
  region_stays cs s (leaf (atom x)) h = term_sort_of region_var (leaf (atom x)) h.0
  region_stays cs s (leaf unknown) h = absurd h.0
  region_stays cs s (node g ts) h = term_sort_of region_var (node g ts) h.0
  region_stays cs s (bind ks t) h = absurd h.0
  region_stays cs s nil h = absurd h.0
  region_stays cs s (cons t ts) h = absurd h.0

  -- A constraint was recorded.
  module _ (v : Variance) (cs : List (RegionConstraint Key)) (c : RegionConstraint Key)
      (is_in : ConstraintIn (plain_store m cs) (constraint_of m c)) where
    added : AddsConstraint (plain_store m cs) (plain_store m (cs ++ c ∷ [])) (constraint_of m c)
    added = record {
      same_entries = λ k. refl;
      same_universes = λ k. refl;
      one_more = map-append (constraint_of m) cs (c ∷ []);
      same_universe = refl;
      same_taint = refl;
      same_budget = refl;
    }

    goes : (n : ℕ) → Goes n (plain_store m cs) (plain_store m (cs ++ c ∷ []))
    goes n = record {
      later = constraint_is_later (plain_store m cs) (plain_store m (cs ++ c ∷ [])) (constraint_of m c) added;
      made = λ k h. refl;
      spent = 0;
      counts = omega arith;
      binds = let e = constraint_bound (plain_store m cs) (plain_store m (cs ++ c ∷ [])) (constraint_of m c) added in
          omega (arith, e);
      grows = λ k t above below. subst (λ z. z ≤ k)
          (constraint_weight (plain_store m cs) (plain_store m (cs ++ c ∷ [])) (constraint_of m c) added t) below;
    }

    recorded_passes : (n : ℕ) → Passes n (plain_state m v cs) (plain_state m v (cs ++ c ∷ []))
    recorded_passes n = record {
      extends = stays_same m;
      goes = goes n;
      added = [];
      lengthens = refl;
      goals_in = All-nil (RegisteredIn (plain_state m v cs) (plain_store m (cs ++ c ∷ [])));
      kept = refl;
      ambient = refl;
      lawful = λ l. constraint_sound (plain_store m cs) (plain_store m (cs ++ c ∷ [])) (constraint_of m c) added l
          is_in;
    }

  -- Two regions were related by what was recorded.
  module _ (v : Variance) (cs : List (RegionConstraint Key)) (c : RegionConstraint Key) (a b : RegionKey Key)
      (o : Option (RegionConstraint Key)) (asks : constraint_at v a b ≡ o) (some : o ≡ Some c)
      (left : IsRegionIn (plain_store m cs) (m.region a)) (right : IsRegionIn (plain_store m cs) (m.region b)) where
    is : constraint_at v a b ≡ Some c
    is = asks ∙ some

    of_store : ConstraintIn (plain_store m cs) (constraint_of m c)
    of_store = subst (λ o. IfSome o (λ c. ConstraintIn (plain_store m cs) (constraint_of m c))) is
        (asked_in m (plain_store m cs) a b v left right)

    relates : (w : Interpretation) (s : Assign) → ConstraintHolds w s (constraint_of m c) →
        RegionRule w v (apply s (m.region a)) (apply s (m.region b))
    relates w s = subst (λ o. IfSome o (λ c. ConstraintHolds w s (constraint_of m c) →
        RegionRule w v (apply s (m.region a)) (apply s (m.region b)))) is (asked_relates m a b w s v)

    met : (w : Interpretation) (s : Assign) → apply s (m.region a) ≡ apply s (m.region b) →
        ConstraintHolds w s (constraint_of m c)
    met w s e = subst (λ o. IfSome o (λ c. ConstraintHolds w s (constraint_of m c))) is
        (asked_met m a b w s v e)

    outcome : Outcome (items_in (plain_state m v cs)) (node environment nil) (at v) (plain_store m cs)
        (plain_store m (cs ++ c ∷ [])) [] [] (m.region a) (m.region b)
    outcome = record {
      later = (goes v cs c of_store 0).later;
      goals_in = All-nil (GoalInContext (plain_store m (cs ++ c ∷ [])));
      relates = λ w s sat all. regions (region_stays cs s (m.region a) left) (region_stays cs s (m.region b) right)
          (relates w s (constraint_holds (plain_store m cs) (plain_store m (cs ++ c ∷ [])) (constraint_of m c)
          (added v cs c of_store) w s sat));
      keeps = λ w s sat one. (
        s,
        (λ k n h. refl),
        (
          constraint_keeps (plain_store m cs) (plain_store m (cs ++ c ∷ []))
              (constraint_of m c) (added v cs c of_store) w s sat (met w s one),
          All-nil (MakesOneTree s),
        ),
      );
    }

    -- Regions are alike but for what erasure takes away, and what was recorded binds no variable.
    exactly : Exact (plain_store m cs) (plain_store m (cs ++ c ∷ [])) (m.region a) (m.region b)
    exactly = record {
      later = (goes v cs c of_store 0).later;
      shrinks = λ s sol. (
        sol,
        erase_region (apply s (m.region a)) (region_stays cs s (m.region a) left)
            ∙ sym (erase_region (apply s (m.region b)) (region_stays cs s (m.region b) right)),
      );
      keeps = λ s sol one. (s, (λ k n h. refl), sol);
    }

    itself_answered : IsTrue (known (m.region a)) →
        Related plain_manner (plain_state m v cs) (plain_state m v (cs ++ c ∷ [])) v (m.region a) (m.region b)
        m.region (Ok a)
    unfolding recorded_passes
    itself_answered k = record {
      passes = recorded_passes v cs c of_store _;
      verdict = record {
        outcome = outcome;
        answer = may_itself plain_manner (plain_state m v (cs ++ c ∷ [])) v (m.region a);
        known = k;
        agrees = λ z st began. (
          regions_agreed st began.sound plain_settings (items_of m) v (m.region a) (m.region b)
              (term_sort_of region_var (m.region a) left.0) (term_sort_of region_var (m.region b) right.0),
          begins_by (plain_state m v cs) (plain_state m v (cs ++ c ∷ [])) (stays_same m) (goes v cs c of_store 0).later
              refl refl st began,
        );
      };
      exact = λ q is pair. (
        (λ j n t found. absurd cc),
        exactly,
        keeps_pair (plain_store m cs) (plain_store m (cs ++ c ∷ [])) (m.region a) (m.region b)
            (standing_keeps (plain_store m cs) (plain_store m (cs ++ c ∷ [])) (λ k. refl) (λ k. refl)),
      );
      full = λ ha hb. full_by (goes v cs c of_store 0) (λ k. refl) (λ all. all);
      built = λ k ha hb all. builds_none k (plain_store m cs) (plain_store m (cs ++ c ∷ [])) all refl refl
          (λ o. record { entries = λ j i. refl; budget = refl }) (λ o b. refl);
      records = (
        λ promised bare. records_constraint (constraint_of m c) (stays_same m)
            (map-append (constraint_of m) cs (c ∷ [])) refl refl refl refl
            (of_regions (constraint_of m c) refl left_sort right_sort (region_asked m v a b c is))
            (λ z w. regions_ask_one (constraint_of m c) left_sort (region_asked m v a b c is) w),
        λ promised. regions_no_more plain_settings (items_of m) (plain_store m cs) (plain_store m (cs ++ c ∷ [])) v
            (m.region a) (m.region b) (constraint_of m c) left_sort right_sort (region_asked m v a b c is)
            (map-append (constraint_of m) cs (c ∷ [])),
      );
    }
      where
        left_sort : sort_of (m.region a) ≡ region_sort
        left_sort = term_sort_of region_var (m.region a) left.0

        right_sort : sort_of (m.region b) ≡ region_sort
        right_sort = term_sort_of region_var (m.region b) right.0

    pub regions_related : (ds : List (RegionConstraint Key)) (x : RegionKey Key) → ds ≡ cs ++ c ∷ [] → x ≡ a →
        IsTrue (known (m.region a)) →
        Related plain_manner (plain_state m v cs) (plain_state m v ds) v (m.region a) (m.region b) m.region (Ok x)
    regions_related ds x e d k = subst₂ (λ ds x. Related plain_manner (plain_state m v cs) (plain_state m v ds) v
        (m.region a) (m.region b) m.region (Ok x)) (sym e) (sym d) (itself_answered k)

  -- A growth was refused.
  module _ {X : Type 0} (v w : Variance) (cs : List (RegionConstraint Key)) (a b : Tree) (tree : X → Tree) where
    refused : Related plain_manner (plain_state m v cs) (plain_state m v cs) w a b tree (Err Memory)
    unfolding passes_nowhere
    refused = record {
      passes = passes_nowhere _ (plain_state m v cs);
      verdict = one_itself (at w) (plain_store m cs) a b;
      exact = λ k is pair. (binds_itself (plain_store m cs) a b, unified_itself (plain_store m cs) a b);
      full = λ ha hb. full_itself (plain_store m cs);
      built = built_itself (plain_store m cs) a b;
      records = tt;
    }

    pub not_recorded : (ds : List (RegionConstraint Key)) (r : Result X (RelateFault Key Id Name)) → ds ≡ cs →
        r ≡ Err Memory → Related plain_manner (plain_state m v cs) (plain_state m v ds) w a b tree r
    not_recorded ds r e d = subst₂ (λ ds r. Related plain_manner (plain_state m v cs) (plain_state m v ds) w a b tree r)
        (sym e) (sym d) refused

-- Terms without variables that were related are so under each interpretation by which what was recorded holds.
module _ {Key Id Name X : Type 0} (m n : Meaning Key Id Name) (v u : Variance) (ks cs : List (RegionConstraint Key))
    (a b : Tree) (tree : X → Tree) (x : X)
    (f : Related plain_manner (plain_state m v ks) (plain_state n u cs) v a b tree (Ok x)) where
  met_by_all : (w : Interpretation) → All (ConstraintHolds w as_is) (map (constraint_of n) cs) →
      Satisfies w (plain_store n cs) as_is
  met_by_all w all = record {
    assigns = λ k i h. absurd (omega (arith, h));
    bindings = λ k i t e. absurd (cc);
    regions = all;
  }

  each_own : (t : Tree) → apply as_is t ≡ t
  each_own t = apply_own as_is t (all_leaves _ (λ l. own_other as_is l (λ k i e. refl)) t)

  pub related_under : (w : Interpretation) → All (ConstraintHolds w as_is) (map (constraint_of n) cs) →
      Rel (items_of m) w (node environment nil) (at v) a b
  related_under w all = subst₂ (Rel (items_of m) w (node environment nil) (at v)) (each_own a) (each_own b)
      (((f.verdict).outcome).relates w as_is (met_by_all w all)
      (subst (All (Holds (items_of m) w as_is)) (f.passes).lengthens
      (All-nil (Holds (items_of m) w as_is))))

-- So constraints stand while the interner grows.
module _ {Key Id Name : Type 0} {m n : Meaning Key Id Name} (e : Extends m n) where
  constraint_stands : (st : Store) (c : RegionConstraint Key) → ConstraintIn st (constraint_of m c) →
      constraint_of n c ≡ constraint_of m c
  constraint_stands st (Outlives p) h =
      ap₂ outlives_constraint (stays_arg e p.0 (known_of_term st _ h.0.1)) (e.region p.1 (known_of_term st _ h.1.1))
  constraint_stands st (Eq p) h =
      ap₂ equal_constraint (e.region p.0 (known_of_term st _ h.0.1)) (e.region p.1 (known_of_term st _ h.1.1))

  constraints_stand : (st : Store) (cs : List (RegionConstraint Key)) →
      All (ConstraintIn st) (map (constraint_of m) cs) → map (constraint_of n) cs ≡ map (constraint_of m) cs
  constraints_stand st [] h = refl
  constraints_stand st (c ∷ cs) h =
      ap₂ ◌∷◌ (constraint_stands st c (All-head (ConstraintIn st) (constraint_of m c) (map (constraint_of m) cs) h))
      (constraints_stand st cs (All-tail (ConstraintIn st) (constraint_of m c) (map (constraint_of m) cs) h))

  store_stands : (cs : List (RegionConstraint Key)) → IsSound (plain_store m cs) → plain_store n cs ≡ plain_store m cs
  store_stands cs l = ap (λ ks. record (plain_store m cs) { constraints = ks })
      (constraints_stand (plain_store m cs) cs l.constraints_in)

  pub plain_grows : (v : Variance) (cs : List (RegionConstraint Key)) → IsSound (plain_store m cs) →
      WithMeaning (plain_state m v cs) n (plain_state n v cs)
  plain_grows v cs l = record {
    meaning = refl;
    store = store_stands cs l;
    goals = refl;
    kept = refl;
    ambient = refl;
    remembered = refl;
    lawful = λ l. subst IsSound (sym (store_stands cs l)) l;
  }
