-- Relating in a context, step by step.
use Rattle.std.proofs.Common.{◌≡◌, ◌≢◌, ℕ, ◌<◌, refl, sym, ap, ap₂, ◌∙◌, arith, subst, subst₂, [], All}
use Rattle.std.proofs.Common.{IsTrue, Some, IfSome, ◌++◌, max, min}
use Rattle.std.proofs.Common.{Result, Ok, Err, List, ◌∷◌}
use Rattle.std.proofs.lemmas.List.Elements.{All-nil}
use Rattle.std.proofs.lemmas.List.{append-nil}
use Rattle.term_enums.specs.declared.Variance.{Variance}
use Rattle.term_enums.specs.declared.Variance.TheVariants.{Covariant, Contravariant, Invariant}
use Rattle.term_enums.specs.declared.Variance.TheVariants.{Bivariant}
use Rattle.relation_terms.specs.declared.predicate.regions.OutlivesPredicate.{OutlivesPredicate}
use Rattle.relation_terms.specs.declared.predicate.regions.RegionConstraint.{RegionConstraint}
use Rattle.relation_terms.specs.declared.predicate.regions.RegionConstraint.TheVariants.{Outlives, Eq}
use Rattle.relation_terms.specs.declared.terms.generic_arg.GenericArgKind.TheVariants.{Lifetime}
use Rattle.relation_terms.specs.declared.terms.keys.TyKey.{TyKey}
use Rattle.relation_terms.specs.declared.terms.keys.RegionKey.{RegionKey}
use Rattle.relation_terms.specs.declared.terms.keys.ParamEnvKey.{ParamEnvKey}
use Rattle.relation_terms.specs.declared.terms.keys.PredicateKey.{PredicateKey}
use Rattle.relation_terms.specs.declared.terms.goal.Goal.{Goal as KeyedGoal}
use Rattle.term_enums.specs.Variances.{xform}
use Rattle.relation_terms.specs.Heads.{region_sort, VarKind, region_var, atom, variable}
use Rattle.relation_terms.specs.Heads.{bound, placeholder, unknown}
use Rattle.relation_terms.specs.Trees.{Tree, leaf, node, bind, nil, cons, Assign, apply, known}
use Rattle.relation_terms.specs.Meaning.{Meaning, Extends}
use Rattle.relation_terms.proofs.Stays.{stays_same}
use Rattle.relation_folds.specs.declared.error.RelateFault.{RelateFault}
use Rattle.relation_folds.specs.declared.error.RelateFault.TheVariants.{Memory, Budget, Unrelated}
use Rattle.relation_semantics.specs.declared.relate.Step.{Step}
use Rattle.term_enums.specs.declared.StructurallyRelateAliases.{StructurallyRelateAliases}
use Rattle.relation_semantics.specs.declared.relate.Step.TheVariants.{Done}
use Rattle.relation_semantics.specs.Relation.{Interpretation, RegionRule, regions, at, sort_of}
use Rattle.relation_semantics.specs.Asking.{region_at, of_regions}
use Rattle.relation_semantics.specs.Recording.{AreBare, IsJustAsked, AsksNoMore}
use Rattle.relation_semantics.specs.Errors.{as_pair}
use Rattle.relation_semantics.proofs.Asking.{regions_ask_one, region_asked}
use Rattle.relation_semantics.proofs.Recording.{records_constraint, just_asked}
use Rattle.relation_semantics.proofs.AskingSince.{regions_no_more}
use Rattle.relation_semantics.specs.Stores.{Store, IsRegionIn, IsSound}
use Rattle.relation_semantics.specs.Stores.{ConstraintHolds, all_bound}
use Rattle.relation_semantics.specs.Goals.{Goal, goals_of, KnowsGoal, Registered, GoalInContext, Holds, MakesOneTree}
use Rattle.relation_semantics.specs.Headline.{AnswersGoals, KeepsEqualTerms, IsFirstOrderPair}
use Rattle.relation_semantics.specs.Steps.{AddsConstraint, Equates, IsLater, StaysFull}
use Rattle.relation_semantics.specs.Alphabets.{StaysBuilt, IsGoalOf}
use Rattle.relation_semantics.specs.Outcomes.{Outcome}
use Rattle.relation_semantics.specs.Measures.{Goes}
use Rattle.relation_semantics.specs.Parts.{IsFormedConst}
use Rattle.relation_semantics.specs.Constraints.{constraint_at, constraint_of, asked_constraints}
use Rattle.relation_semantics.specs.Lawful.{Passes, Related, Stepped, items_of, Kept, Pair, State, WereRelated, MayBegin}
use Rattle.relation_semantics.proofs.Standing.{term_sort_of}
use Rattle.relation_semantics.proofs.AgreeingBefore.{regions_agreed}
use Rattle.relation_semantics.proofs.Beginning.{begins_by, begins_there}
use Rattle.relation_semantics.specs.Agreeing.{AgreeIn}
use Rattle.relation_semantics.specs.Lawful.{VerdictAs, WithMeaning, RegisteredIn, RecordsOf}
use Rattle.relation_semantics.proofs.Going.{goes_nowhere, goes_within, later_itself}
use Rattle.relation_semantics.proofs.Keeping.{one_itself, one_same, unified_itself, unified_same}
use Rattle.relation_semantics.proofs.Remembering.{none_related, were_related_later}
use Rattle.relation_semantics.proofs.Roots.{roots_goes}
use Rattle.relation_semantics.proofs.Full.{full_itself}
use Rattle.relation_semantics.proofs.Growing.{constraint_holds, constraint_keeps}
use Rattle.context_relation.proofs.Constraints.{asked_relates, asked_met}
use Rattle.relation_combining.proofs.OverContext.{standing, roots_step as roots_equated}
use Rattle.relation_semantics.proofs.Answering.{may_itself, same_environment}
use Rattle.relation_semantics.proofs.OneUniverse.{keeps_pair, binds_itself, binds_none, standing_keeps}
use Rattle.relation_combining.specs.Solving.{KnowsGoals, Held, held_by, kept_in, solving, solving_through, solver_manner}
use Rattle.relation_combining.specs.Solving.{HeldRelated, settings_by, solver_settings}
use Rattle.relation_semantics.specs.Errors.{ErrorOf}
use Rattle.relation_semantics.proofs.Registered.{goals_stay, goals_known, none_at_invariance, all_but_aliases, first_order_built, first_order_bindings}
use Rattle.relation_semantics.proofs.BuildingSteps.{built_itself, built_constraint}
use Rattle.relation_combining.proofs.Exactly.{region_value, regions_exactly}
use Rattle.relation_semantics.specs.Contexts.{Context}
use Rattle.relation_semantics.specs.Settings.{Setup}
use Rattle.relation_semantics.specs.ContextCalls.{Stands, Grows, Knows, KeepsSetup, KeepsOutliving, KeepsBeside}
use Rattle.relation_goals.specs.Emitting.{WithContext}
use Rattle.relation_goals.proofs.Constrained.{constraint_full}

-- Seen from the other side too the variance decides something.
pub decides_back : (v w : Variance) → v ≢ Bivariant → w ≡ xform v Contravariant → w ≢ Bivariant
decides_back Covariant w d e h = let z : Contravariant ≡ Bivariant = sym e ∙ h in cc
decides_back Contravariant w d e h = let z : Covariant ≡ Bivariant = sym e ∙ h in cc
decides_back Invariant w d e h = let z : Invariant ≡ Bivariant = sym e ∙ h in cc
decides_back Bivariant w d e h = d refl

-- What a constant of a form comes to is no variable.
pub formed_apart : (s : Assign) (t : Tree) (k : VarKind) (n : ℕ) → IsFormedConst t → apply s t ≢ leaf (variable k n)
formed_apart s (leaf (atom x)) k n f h = cc
formed_apart s (leaf (placeholder q u i)) k n f h = cc
formed_apart s (leaf (variable i p)) k n f h = f
formed_apart s (leaf (bound q d i)) k n f h = f
formed_apart s (leaf unknown) k n f h = f
formed_apart s (node i ts) k n f h = cc
formed_apart s (bind ks t) k n f h = f
formed_apart s nil k n f h = f
formed_apart s (cons t ts) k n f h = f

abbrev pub held_of : {Key : Type 0} → StructurallyRelateAliases → ℕ → List (Pair Key) → Setup Key →
    List (OutlivesPredicate Key (TyKey Key)) → Held Key
held_of aliases j ps s o =
    record { reference = j; structurally_relate_aliases = aliases; setup = s; outliving = o; memory = ps }

-- What is left as it is in a context is so in one that has grown from it.
module _ {Key Id Name : Type 0} (aliases : StructurallyRelateAliases) (j : ℕ) (ps : List (Pair Key))
    (c d : Context Key Id Name) where
  pub held_kept : KeepsSetup c d → KeepsOutliving c d → held_by aliases j ps d ≡ held_by aliases j ps c
  held_kept setup outliving = ap₂ (held_of aliases j ps) setup outliving

  pub held_grows : Grows c d → held_by aliases j ps d ≡ held_by aliases j ps c
  held_grows g = held_kept g.setup g.outliving

  pub held_stands : Stands c d → held_by aliases j ps d ≡ held_by aliases j ps c
  held_stands g = held_kept g.setup g.outliving

-- The pairs that are remembered stay related while keys are made and more is recorded and registered.
module _ {Key Id Name : Type 0} {j j' : Held Key} (held : j' ≡ j) (gs : List (KeyedGoal Key (PredicateKey Key)))
    {m n : Meaning Key Id Name} (grown : Extends m n) (was now : Store) (later : IsLater was now) (e : ParamEnvKey Key)
    (env : KnowsGoals m e gs) where
  pub held_related : (hs : List (KeyedGoal Key (PredicateKey Key))) (more : List Goal) →
      goals_of n hs ≡ goals_of m gs ++ more → HeldRelated j m was gs e → HeldRelated j' n now hs e
  held_related hs more lengthens h = subst (λ i. HeldRelated i n now hs e) (sym held)
      (subst₂ (λ g t. WereRelated (solver_manner (settings_by j)) (settings_by j) n now g t j.memory) (sym lengthens)
      (sym (grown.param_env e env.0)) (were_related_later (solver_manner (settings_by j)) (settings_by j) grown was now
      (goals_of m gs) more (m.param_env e) j.memory later h))

  pub held_still : HeldRelated j m was gs e → HeldRelated j' n now gs e
  held_still h = held_related gs [] (goals_stay grown gs env.1 ∙ sym (append-nil (goals_of m gs))) h

module _ {Key Id Name : Type 0} {j j' : Held Key} (held : j' ≡ j) (gs : List (KeyedGoal Key (PredicateKey Key))) where
  -- Work that recorded something, and registered no goal.
  unfoldable pub solver_passes : {N : ℕ} {m n : Meaning Key Id Name} {was now : Store} {L K : Type 0} (v : Variance)
      (e : ParamEnvKey Key) → Extends m n → KnowsGoals m e gs → Goes N was now →
      K → Passes N (solving j gs m was L v e) (solving j' gs n now K v e)
  solver_passes {m = m} {n = n} {was = was} {now = now} {L = L} v e grown env goes l = record {
    extends = grown;
    goes = goes;
    added = [];
    lengthens = goals_stay grown gs env.1 ∙ sym (append-nil (goals_of m gs));
    goals_in = All-nil (RegisteredIn (solving j gs m was L v e) now);
    kept = ap₂ kept_in held (grown.param_env e env.0);
    ambient = refl;
    lawful = λ k. (
      (l, held_still held gs grown was now goes.later e env k.0.1),
      (subst (λ t. IsTrue (known t)) (sym (grown.param_env e env.0)) env.0, goals_known grown gs env.1),
    );
  }

  -- A context that did no more than note that something was done.
  module _ (X : Type 0) (m n : Meaning Key Id Name) (was now : Store) (L K : Type 0) (v : Variance) (e : ParamEnvKey Key)
      (env : KnowsGoals m e gs) (same : n ≡ m) (l : K) (a b : Tree) where
    -- Memory ran out.
    pub memory_refused : (tree : X → Tree) (r : Result X (RelateFault Key Id Name)) → r ≡ Err Memory → now ≡ was →
        Goes 0 was now → all_bound now ≡ all_bound was → StaysFull was now → StaysBuilt was now [] a b →
        Related solver_manner (solving j gs m was L v e) (solving j' gs n now K v e) v a b tree r
    unfolding solver_passes
    memory_refused tree r is stays goes as_many full built = subst₂ (λ n r. Related solver_manner (solving j gs m was L v e)
        (solving j' gs n now K v e) v a b tree r)
        (sym same) (sym is)
        (record {
          passes = solver_passes v e (stays_same m) env (goes_within (omega arith) goes) l;
          verdict = one_same (at v) a b stays;
          exact = λ k is pair. (binds_none was now a b as_many, unified_same a b stays);
          full = λ ha hb. full;
          built = built;
          records = tt;
        })

  -- Two regions were related by what was recorded.
  module _ (m : Meaning Key Id Name) (was now : Store) (L K : Type 0) (v : Variance) (e : ParamEnvKey Key)
      (a b : RegionKey Key) (c : RegionConstraint Key) (is : constraint_at v a b ≡ Some c)
      (left : IsRegionIn was (m.region a)) (right : IsRegionIn was (m.region b))
      (goes : Goes 0 was now)
      (added : AddsConstraint was now (constraint_of m c)) where
    relates : (w : Interpretation) (s : Assign) → ConstraintHolds w s (constraint_of m c) →
        RegionRule w v (apply s (m.region a)) (apply s (m.region b))
    relates w s = subst (λ o. IfSome o (λ c. ConstraintHolds w s (constraint_of m c) →
        RegionRule w v (apply s (m.region a)) (apply s (m.region b)))) is (asked_relates m a b w s v)

    met : (w : Interpretation) (s : Assign) → apply s (m.region a) ≡ apply s (m.region b) →
        ConstraintHolds w s (constraint_of m c)
    met w s h = subst (λ o. IfSome o (λ c. ConstraintHolds w s (constraint_of m c))) is (asked_met m a b w s v h)

    outcome : Outcome (items_of m) (m.param_env e) (at v) was now (goals_of m gs) [] (m.region a)
        (m.region b)
    outcome = record {
      later = goes.later;
      goals_in = All-nil (GoalInContext now);
      relates = λ w s sat all. let before = (goes.later).shrinks w s sat in
          regions (region_value was s (m.region a) before.assigns left.0 left.1)
          (region_value was s (m.region b) before.assigns right.0 right.1)
          (relates w s (constraint_holds was now (constraint_of m c) added w s sat));
      keeps = λ w s sat one. (
        s,
        (λ k n h. refl),
        (
          constraint_keeps was now (constraint_of m c) added w s sat (met w s one),
          All-nil (MakesOneTree s),
        ),
      );
    }

    asks : region_at v (m.region a) (m.region b) ≡ Some (constraint_of m c)
    asks = region_asked m v a b c is

    pub regions_related : (n : Meaning Key Id Name) (k : RegionKey Key) → n ≡ m → k ≡ a → K →
        KnowsGoals m e gs → IsTrue (known (m.region a)) →
        Related solver_manner (solving j gs m was L v e) (solving j' gs n now K v e) v (m.region a) (m.region b) n.region (Ok k)
    unfolding solver_passes
    regions_related n k same is l env sure = subst₂
        (λ n k. Related solver_manner (solving j gs m was L v e) (solving j' gs n now K v e) v
        (m.region a) (m.region b) n.region (Ok k)) (sym same) (sym is) answer
      where
        answer : Related solver_manner (solving j gs m was L v e) (solving j' gs m now K v e) v (m.region a)
            (m.region b) m.region (Ok a)
        answer = record {
          passes = solver_passes v e (stays_same m) env (goes_within (omega arith) goes) l;
          verdict = record {
            outcome = outcome;
            answer = may_itself solver_manner (solving j' gs m now K v e) v (m.region a);
            known = sure;
            agrees = λ k st began. (
              regions_agreed st began.sound (solver_settings j.structurally_relate_aliases j.setup) (items_of m) v
                  (m.region a) (m.region b) left_sort right_sort,
              begins_by (solving j gs m was L v e) (solving j' gs m now K v e) (stays_same m) goes.later
                  (ap (λ i. kept_in i (m.param_env e)) held) (ap (λ i. i.memory) held) st began,
            );
          };
          exact = λ k is pair.
              let z = regions_exactly was now (m.region a) (m.region b) left right goes.later added.same_entries
              added.same_universes pair.bindings in (
                z.0,
                z.1,
                keeps_pair was now (m.region a) (m.region b)
                    (standing_keeps was now added.same_entries added.same_universes),
              );
          full = λ ha hb. constraint_full was now (constraint_of m c) added;
          built = built_constraint was now (m.region a) (m.region b) added.same_entries added.same_universe
              added.same_taint added.same_budget;
          records = (
            λ promised bare. records_constraint (constraint_of m c) (stays_same m) added.one_more refl
                (ap settings_by held) refl (ap (λ i. i.memory) held)
                (of_regions (constraint_of m c) refl left_sort right_sort asks)
                (λ z w. regions_ask_one (constraint_of m c) left_sort asks w),
            λ promised. regions_no_more (solver_settings j.structurally_relate_aliases j.setup) (items_of m) was now v
                (m.region a) (m.region b) (constraint_of m c) left_sort right_sort asks added.one_more,
          );
        }
          where
            left_sort : sort_of (m.region a) ≡ region_sort
            left_sort = term_sort_of region_var (m.region a) left.0

            right_sort : sort_of (m.region b) ≡ region_sort
            right_sort = term_sort_of region_var (m.region b) right.0

  -- The same by what the variance asks for.
  pub regions_recorded : (m : Meaning Key Id Name) (was now : Store) (L K : Type 0) (v : Variance) (e : ParamEnvKey Key)
      (a b : RegionKey Key) → v ≢ Bivariant → IsRegionIn was (m.region a) →
      IsRegionIn was (m.region b) → Goes 0 was now →
      IfSome (constraint_at v a b) (λ c. AddsConstraint was now (constraint_of m c)) →
      (n : Meaning Key Id Name) (k : RegionKey Key) → n ≡ m → k ≡ a → K → KnowsGoals m e gs →
      IsTrue (known (m.region a)) →
      Related solver_manner (solving j gs m was L v e) (solving j' gs n now K v e) v (m.region a) (m.region b) n.region (Ok k)
  regions_recorded m was now L K Covariant e a b d left right goes added =
      regions_related m was now L K Covariant e a b (Outlives (record { 0 = Lifetime a; 1 = b })) refl left right goes added
  regions_recorded m was now L K Contravariant e a b d left right goes added =
      regions_related m was now L K Contravariant e a b (Outlives (record { 0 = Lifetime b; 1 = a })) refl left right goes added
  regions_recorded m was now L K Invariant e a b d left right goes added =
      regions_related m was now L K Invariant e a b (Eq (record { 0 = a; 1 = b })) refl left right goes added
  regions_recorded m was now L K Bivariant e a b d left right goes added = absurd (d refl)

  -- A step that answers.
  pub answered_step : {X : Type 0} (F : Tree → Type 0) (m n : Meaning Key Id Name) (was now : Store) (L K : Type 0)
      (v : Variance) (e : ParamEnvKey Key) (a b : Tree) (tree : X → Tree) (t : X) →
      Related solver_manner (solving j gs m was L v e) (solving j' gs n now K v e) v a b tree (Ok t) →
      Stepped solver_manner F (solving j gs m was L v e) (solving j' gs n now K v e) a b tree (Ok (Done t))
  answered_step F m n was now L K v e a b tree t h =
      record { passes = h.passes; verdict = h.verdict; exact = h.exact; full = h.full; built = h.built }

  -- The relation is lawful after work over its context.
  pub still_lawful : {m n : Meaning Key Id Name} (was now : Store) {L K : Type 0} (v : Variance) (e : ParamEnvKey Key) →
      Extends m n → KnowsGoals m e gs → K → IsLater was now → (solving j gs m was L v e).lawful →
      (solving j gs n now K v e).lawful
  still_lawful was now v e grown env l later k = (
    (l, held_still {j = j} {j' = j} refl gs grown was now later e env k.0.1),
    (subst (λ t. IsTrue (known t)) (sym (grown.param_env e env.0)) env.0, goals_known grown gs env.1),
  )

  -- What was shown of work over its context is shown of the relation after it.
  pub as_solving : {m n : Meaning Key Id Name} (was now : Store) (L K : Type 0) (v : Variance) (e : ParamEnvKey Key) →
      Extends m n → KnowsGoals m e gs → (P : State Key Id Name → Type 0) →
      P (standing (solving j gs m was L v e) n now (solving j gs n now K v e).lawful) → P (solving j' gs n now K v e)
  as_solving {n = n} was now L K v e grown env P h = subst (λ i. P (solving i gs n now K v e)) (sym held)
      (subst₂ (λ goals t. P (record {
        meaning = n;
        store = now;
        goals = goals;
        kept = kept_in j t;
        ambient = v;
        remembered = j.memory;
        lawful = (solving j gs n now K v e).lawful;
      })) (sym (goals_stay grown gs env.1)) (sym (grown.param_env e env.0)) h)

  -- And the other way round.
  pub from_solving : {m n : Meaning Key Id Name} (was now : Store) (L K : Type 0) (v : Variance) (e : ParamEnvKey Key) →
      Extends m n → KnowsGoals m e gs → (P : State Key Id Name → Type 0) → P (solving j' gs n now K v e) →
      P (standing (solving j gs m was L v e) n now (solving j gs n now K v e).lawful)
  from_solving {n = n} was now L K v e grown env P h = subst₂ (λ goals t. P (record {
    meaning = n;
    store = now;
    goals = goals;
    kept = kept_in j t;
    ambient = v;
    remembered = j.memory;
    lawful = (solving j gs n now K v e).lawful;
  })) (goals_stay grown gs env.1) (grown.param_env e env.0) (subst (λ i. P (solving i gs n now K v e)) held h)

  -- Two roots of a kind were made one.
  pub roots_step : {X : Type 0} (F : Tree → Type 0) (m n : Meaning Key Id Name) (was now : Store) (L K : Type 0) (v : Variance)
      (e : ParamEnvKey Key) (k : VarKind) → k ≢ region_var → (i l : ℕ) (a b : Tree) (tree : X → Tree) (t : X) → n ≡ m →
      KnowsGoals m e gs → IsSound was → K → (i ≡ l → now ≡ was) →
      ((i ≡ l → ⊥) → Equates was now k (max i l) (min i l)) → a ≡ leaf (variable k i) →
      b ≡ leaf (variable k l) → tree t ≡ a →
      Stepped solver_manner F (solving j gs m was L v e) (solving j' gs n now K v e) a b tree (Ok (Done t))
  roots_step F m n was now L K v e k o i l a b tree t same env sound after still equates p q answer =
      let grown = subst (Extends m) (sym same) (stays_same m) in
      as_solving was now L K v e grown env
      (λ z. Stepped solver_manner F (solving j gs m was L v e) z a b tree (Ok (Done t)))
      (roots_equated (solving j gs m was L v e) F m n was now (solving j gs m was L v e).lawful
      (solving j gs n now K v e).lawful k o i l a b tree t same sound
      (still_lawful was now v e grown env after (roots_goes was now k o i l sound still equates 0).later) still equates p q
      answer)

  -- Memory ran out in a step, where the interner may know more.
  pub memory_step : {X : Type 0} (F : Tree → Type 0) (m n : Meaning Key Id Name) (was now : Store) (L K : Type 0)
      (v : Variance) (e : ParamEnvKey Key) (a b : Tree) (tree : X → Tree)
      (result : Result (Step X) (RelateFault Key Id Name)) → Extends m n → KnowsGoals m e gs → now ≡ was → K →
      result ≡ Err Memory →
      Stepped solver_manner F (solving j gs m was L v e) (solving j' gs n now K v e) a b tree result
  unfolding solver_passes
  memory_step F m n was now L K v e a b tree result grown env stays l is =
      subst₂ (λ now r. Stepped solver_manner F (solving j gs m was L v e) (solving j' gs n now K v e) a b tree r) (sym stays)
      (sym is) (record {
        passes = solver_passes v e grown env (goes_nowhere _ was) l;
        verdict = one_itself (at v) was a b;
        exact = λ k is pair. (binds_itself was a b, unified_itself was a b);
        full = λ ha hb. full_itself was;
        built = built_itself was a b;
      })

-- The reference that a relation holds need not be named, nor what it leaves as it was; and what it remembers may be
-- forgotten.
abbrev pub seen_from : {Key : Type 0} → Held Key → Held Key → Held Key
seen_from j i = record {
  reference = 0;
  structurally_relate_aliases = j.structurally_relate_aliases;
  setup = i.setup;
  outliving = i.outliving;
  memory = i.memory;
}

abbrev pub forgotten : {Key : Type 0} → Held Key → Held Key
forgotten i = record {
  reference = i.reference;
  structurally_relate_aliases = i.structurally_relate_aliases;
  setup = i.setup;
  outliving = i.outliving;
  memory = [];
}

abbrev without_name : {Key : Type 0} → StructurallyRelateAliases → Kept Key → Kept Key
without_name aliases k = record {
  environment = k.environment;
  settings = record {
    structurally_relate_aliases = aliases;
    next_solver = (k.settings).next_solver;
    coherence = (k.settings).coherence;
    declared_at_invariance = (k.settings).declared_at_invariance;
  };
  mode = k.mode;
  reference = 0;
  outliving = k.outliving;
}

module _ {Key Id Name X : Type 0} (j i : Held Key) (gs hs : List (KeyedGoal Key (PredicateKey Key)))
    (m n : Meaning Key Id Name) (was now : Store) (L K : Type 0) (v w : Variance) (e f : ParamEnvKey Key)
    (env : IsTrue (known (m.param_env e))) (a b : Tree) (tree : X → Tree)
    (result : Result X (RelateFault Key Id Name)) where
  abbrev state_at : Variance → Tree → State Key Id Name
  state_at u t = record {
    meaning = n;
    store = now;
    goals = goals_of n hs;
    kept = kept_in i t;
    ambient = u;
    remembered = i.memory;
    lawful = (K × WereRelated (solver_manner (settings_by i)) (settings_by i) n now (goals_of n hs) t i.memory) ×
        (IsTrue (known t) × All (KnowsGoal n) hs);
  }

  told_unnamed : Related solver_manner (solving j gs m was L v e) (solving i hs n now K v e) v a b tree result →
      Related solver_manner (solving (seen_from j j) gs m was L v e) (solving (seen_from j i) hs n now K v e) v a b tree result
  told_unnamed h = record {
    passes = record {
      extends = (h.passes).extends;
      goes = (h.passes).goes;
      added = (h.passes).added;
      lengthens = (h.passes).lengthens;
      goals_in = (h.passes).goals_in;
      kept = ap (without_name j.structurally_relate_aliases) (h.passes).kept;
      ambient = (h.passes).ambient;
      lawful = λ l. let z = (h.passes).lawful l in ((z.0.0, same_aliases z.0.1), z.1);
    };
    verdict = verdict result h.verdict;
    exact = h.exact;
    full = h.full;
    built = h.built;
    records = records result h.records;
  }
    where
      same_set : settings_by i ≡ settings_by (seen_from j i)
      same_set = ap (λ k. solver_settings (k.settings).structurally_relate_aliases i.setup) (h.passes).kept

      records : (r : Result X (RelateFault Key Id Name)) →
          RecordsOf as_pair solver_manner (solving j gs m was L v e) (solving i hs n now K v e) (at v) a b r →
          RecordsOf as_pair solver_manner (solving (seen_from j j) gs m was L v e) (solving (seen_from j i) hs n now K v e)
          (at v) a b r
      records (Err f) just = tt
      records (Ok t) just = (
        λ promised bare. let z = just.0 promised bare in record {
          constraints = z.constraints;
          goals = z.goals;
          recorded = z.recorded;
          registered = z.registered;
          constraints_asked = z.constraints_asked;
          goals_asked = z.goals_asked;
          covers = λ since c p held. let k = z.covers since c p held in
              (k.0, k.1, λ pair. k.2 (subst (λ s. AreBare s (n.ty p.1) (n.ty p.2)) (sym same_set) pair));
          all = z.all;
        },
        just.1,
      )

      same_aliases : HeldRelated i n now hs e → HeldRelated (seen_from j i) n now hs e
      same_aliases f = subst (λ k. WereRelated (solver_manner k) k n now (goals_of n hs) (n.param_env e) i.memory)
          (ap (λ k. solver_settings (k.settings).structurally_relate_aliases i.setup) (h.passes).kept) f

      verdict : (r : Result X (RelateFault Key Id Name)) →
          VerdictAs as_pair solver_manner (solving j gs m was L v e) (solving i hs n now K v e) ((h.passes).added) (at v) a b tree r →
          VerdictAs as_pair solver_manner (solving (seen_from j j) gs m was L v e) (solving (seen_from j i) hs n now K v e)
          ((h.passes).added) (at v) a b tree r
      verdict (Ok t) o = record {
        outcome = o.outcome;
        answer = record { related = (o.answer).related };
        known = o.known;
        agrees = λ k st began. let z = o.agrees k st began in
            (z.0, subst (λ s. MayBegin s n now i.memory st) same_set z.1);
      }
      verdict (Err (Unrelated g)) o = (
        o.0,
        subst (λ x. ErrorOf n (solver_settings x i.setup) (items_of n) now v g a b)
            (ap (λ k. (k.settings).structurally_relate_aliases) (h.passes).kept) o.1,
        o.2,
      )
      verdict (Err Budget) o = o
      verdict (Err Memory) o = o

  pub as_before : Related solver_manner (solving j gs m was L v e) (solving i hs n now K w f) v a b tree result →
      Related solver_manner (solving (seen_from j j) gs m was L v e) (solving (seen_from j i) hs n now K v e) v a b tree result
  as_before h =
      let environment = same_environment (h.passes).kept ∙ sym (((h.passes).extends).param_env e env) in
      told_unnamed (subst₂ (λ u t. Related solver_manner (solving j gs m was L v e) (state_at u t) v a b tree result)
      (h.passes).ambient environment h)

-- Of none that is remembered nothing is to be shown.
pub none_held : {Key Id Name : Type 0} (aliases : StructurallyRelateAliases) (j : ℕ) (c : Context Key Id Name)
    (gs : List (KeyedGoal Key (PredicateKey Key))) (e : ParamEnvKey Key) →
    HeldRelated (held_by aliases j [] c) c.meaning c.store gs e
none_held aliases j c gs e = none_related (solver_manner (solver_settings aliases c.setup)) (solver_settings aliases c.setup)
    c.meaning c.store (goals_of c.meaning gs) ((c.meaning).param_env e)

-- What was remembered may be forgotten.
module _ {Key Id Name X : Type 0} (j i : Held Key) (gs hs : List (KeyedGoal Key (PredicateKey Key)))
    (m n : Meaning Key Id Name) (was now : Store) (L K : Type 0) (v : Variance) (e : ParamEnvKey Key) (a b : Tree)
    (tree : X → Tree) (result : Result X (RelateFault Key Id Name)) where
  pub forgetting : Related solver_manner (solving j gs m was L v e) (solving i hs n now K v e) v a b tree result →
      Related solver_manner (solving j gs m was L v e) (solving (forgotten i) hs n now K v e) v a b tree result
  forgetting h = record {
    passes = record {
      extends = (h.passes).extends;
      goes = (h.passes).goes;
      added = (h.passes).added;
      lengthens = (h.passes).lengthens;
      goals_in = (h.passes).goals_in;
      kept = (h.passes).kept;
      ambient = (h.passes).ambient;
      lawful = λ l. let z = (h.passes).lawful l in
          ((z.0.0, none_related (solver_manner (settings_by i)) (settings_by i) n now (goals_of n hs) (n.param_env e)), z.1);
    };
    verdict = verdict result h.verdict;
    exact = h.exact;
    full = h.full;
    built = h.built;
    records = records result h.records;
  }
    where
      records : (r : Result X (RelateFault Key Id Name)) →
          RecordsOf as_pair solver_manner (solving j gs m was L v e) (solving i hs n now K v e) (at v) a b r →
          RecordsOf as_pair solver_manner (solving j gs m was L v e) (solving (forgotten i) hs n now K v e) (at v) a b r
      records (Err f) just = tt
      records (Ok t) just = (
        λ promised bare. let z = just.0 promised bare in record {
          constraints = z.constraints;
          goals = z.goals;
          recorded = z.recorded;
          registered = z.registered;
          constraints_asked = z.constraints_asked;
          goals_asked = z.goals_asked;
          covers = λ since c p held. let l : held.0 < 0 = held.1 in absurd (omega (arith, l));
          all = z.all;
        },
        just.1,
      )

      verdict : (r : Result X (RelateFault Key Id Name)) →
          VerdictAs as_pair solver_manner (solving j gs m was L v e) (solving i hs n now K v e) ((h.passes).added) (at v) a b tree r →
          VerdictAs as_pair solver_manner (solving j gs m was L v e) (solving (forgotten i) hs n now K v e) ((h.passes).added) (at v) a b
          tree r
      verdict (Ok t) o = record {
        outcome = o.outcome;
        answer = record { related = (o.answer).related };
        known = o.known;
        agrees = λ k st began. let z = o.agrees k st began in (
          z.0,
          record {
            sound = (z.1).sound;
            later = (z.1).later;
            agree = λ p held. let l : held.0 < 0 = held.1 in absurd (omega (arith, l));
          },
        );
      }
      verdict (Err (Unrelated g)) o = o
      verdict (Err Budget) o = o
      verdict (Err Memory) o = o

module _ {Key Id Name : Type 0} (aliases : StructurallyRelateAliases) (j : ℕ) (ps : List (Pair Key))
    (gs : List (KeyedGoal Key (PredicateKey Key))) where
  -- Another context in the place of the relation's changes nothing but what is recorded, and what keys mean.
  pub solver_with : (c d : Context Key Id Name) → Grows c d → IsLater c.store d.store → (v : Variance)
      (e : ParamEnvKey Key) → KnowsGoals c.meaning e gs →
      WithContext (solving_through aliases j ps gs c v e) d (solving_through aliases j ps gs d v e)
  solver_with c d h later v e env = record {
    meaning = refl;
    store = refl;
    goals = goals_stay h.extends gs env.1;
    kept = ap₂ kept_in (held_grows aliases j ps c d h) ((h.extends).param_env e env.0);
    ambient = refl;
    remembered = refl;
    lawful = λ k. (
      (h.lawful, held_still (held_grows aliases j ps c d h) gs h.extends c.store d.store later e env k.0.1),
      (subst (λ t. IsTrue (known t)) (sym ((h.extends).param_env e env.0)) env.0, goals_known h.extends gs env.1),
    );
  }

  -- Making terms changes nothing of the relation but what its interner knows.
  pub solver_grows : (c d : Context Key Id Name) (n : Meaning Key Id Name) → Extends c.meaning n → Knows c n d →
      (v : Variance) (e : ParamEnvKey Key) → KnowsGoals c.meaning e gs →
      WithMeaning (solving_through aliases j ps gs c v e) n (solving_through aliases j ps gs d v e)
  solver_grows c d n grown h v e env =
      let stays : (d.meaning).param_env e ≡ (c.meaning).param_env e =
      ap (λ z. z.param_env e) h.meaning ∙ grown.param_env e env.0 in
      let held = held_kept aliases j ps c d h.rest.setup h.rest.outliving in
      let extends : Extends c.meaning d.meaning = subst (Extends c.meaning) (sym h.meaning) grown in
      let later : IsLater c.store d.store = subst (IsLater c.store) (sym h.store) (later_itself c.store) in
      record {
        meaning = h.meaning;
        store = h.store;
        goals = ap (λ z. goals_of z gs) h.meaning ∙ goals_stay grown gs env.1;
        kept = ap₂ kept_in held stays;
        ambient = refl;
        remembered = refl;
        lawful = λ k. (
          (h.lawful, held_still held gs extends c.store d.store later e env k.0.1),
          (
            subst (λ t. IsTrue (known t)) (sym stays) env.0,
            subst (λ z. All (KnowsGoal z) gs) (sym h.meaning) (goals_known grown gs env.1),
          ),
        );
      }

-- What relating has shown, as a solver answers it.
module _ {Key Id Name X : Type 0} {j j' : Held Key} (m n : Meaning Key Id Name) (was now : Store) (L K : Type 0)
    (v : Variance) (e : ParamEnvKey Key) (a b : Tree) (tree : X → Tree) (hs : List (KeyedGoal Key (PredicateKey Key))) where
  pub answers_goals : (t : X) → Related solver_manner (solving j [] m was L v e) (solving j' hs n now K v e) v a b tree (Ok t) →
      AnswersGoals (items_of m) was now (goals_of n hs) (m.param_env e) v a b
  answers_goals t h = (
    λ w s sat all. ((h.verdict).outcome).relates w s sat (subst (All (Holds (items_of m) w s)) (h.passes).lengthens all),
    ((h.passes).goes).later.shrinks,
  )

  pub keeps_equal : (t : X) → Related solver_manner (solving j [] m was L v e) (solving j' hs n now K v e) v a b tree (Ok t) →
      KeepsEqualTerms was now (goals_of n hs) a b
  keeps_equal t h = λ w s sat one. let z = ((h.verdict).outcome).keeps w s sat one in
      (z.0, z.1, (z.2.0, subst (All (MakesOneTree z.0)) (sym (h.passes).lengthens) z.2.1))

  -- They agree by what there was, where nothing was remembered.
  pub relates_agreeing : (t : X) → j.memory ≡ [] → IsSound was →
      Related solver_manner (solving j [] m was L v e) (solving j' hs n now K v e) v a b tree (Ok t) →
      AgreeIn (solver_settings j.structurally_relate_aliases j.setup) (items_of m) was (at v) a b
  relates_agreeing t none sound h = ((h.verdict).agrees tt was (begins_there sound none)).0

  -- Of two bare terms just what they ask for was added, where nothing was remembered.
  pub adds_just_asked : (t : X) → j.memory ≡ [] →
      AreBare (solver_settings j.structurally_relate_aliases j.setup) a b →
      Related solver_manner (solving j [] m was L v e) (solving j' hs n now K v e) v a b tree (Ok t) →
      IsJustAsked (items_of m) (m.param_env e) v a b was.constraints now.constraints (goals_of n hs)
  adds_just_asked t none bare h = just_asked (items_of m) (m.param_env e) v a b none refl
      (same_environment (h.passes).kept) ((h.records).0 tt bare)

  -- Of terms that are gone into nothing else was.
  pub adds_no_more : (t : X) →
      Related solver_manner (solving j [] m was L v e) (solving j' hs n now K v e) v a b tree (Ok t) →
      AsksNoMore (solver_settings j.structurally_relate_aliases j.setup) (items_of m) was now v a b
  adds_no_more t h = (h.records).1 tt

  goals_registered : (result : Result X (RelateFault Key Id Name)) →
      Related solver_manner (solving j [] m was L v e) (solving j' hs n now K v e) v a b tree result →
      All (Registered (items_of m) (solver_settings j.structurally_relate_aliases j.setup) v (m.param_env e) was now)
      (goals_of n hs)
  goals_registered result h = subst (All (Registered (items_of m)
      (solver_settings j.structurally_relate_aliases j.setup) v (m.param_env e) was now)) (sym (h.passes).lengthens)
      (h.passes).goals_in

  pub registers_goals : (result : Result X (RelateFault Key Id Name)) → L × HeldRelated j m was [] e →
      KnowsGoals m e [] →
      Related solver_manner (solving j [] m was L v e) (solving j' hs n now K v e) v a b tree result →
      All (KnowsGoal n) hs × All (Registered (items_of m) (solver_settings j.structurally_relate_aliases j.setup) v
      (m.param_env e) was now) (goals_of n hs)
  registers_goals result l env h = (((h.passes).lawful (l, env)).1.1, goals_registered result h)

  -- At invariance none is of first-order terms in a first-order record: no alias stands there, and no opaque type.
  pub no_goals_exactly : (result : Result X (RelateFault Key Id Name)) → v ≡ Invariant → IsFirstOrderPair was a b →
      Related solver_manner (solving j [] m was L v e) (solving j' hs n now K v e) v a b tree result → hs ≡ []
  no_goals_exactly result is pair h = no_goals hs (none_at_invariance (goals_of n hs) v is refl asks
      (goals_registered result h))
    where
      asks : All (IsGoalOf all_but_aliases) (goals_of n hs)
      asks = subst (All (IsGoalOf all_but_aliases)) (sym (h.passes).lengthens)
          (h.built all_but_aliases (first_order_built a pair.left) (first_order_built b pair.right)
          (first_order_bindings was pair.bindings)).asks

      no_goals : (gs : List (KeyedGoal Key (PredicateKey Key))) → goals_of n gs ≡ [] → gs ≡ []
      no_goals [] q = refl
      no_goals (g ∷ gs) q = absurd cc

-- What was recorded of two regions is what their variance asks for, behind all that was.
pub asked_recorded : {Key Id Name : Type 0} (m : Meaning Key Id Name) (was now : Store) (v : Variance)
    (a b : RegionKey Key) → v ≢ Bivariant →
    IfSome (constraint_at v a b) (λ c. AddsConstraint was now (constraint_of m c)) →
    now.constraints ≡ was.constraints ++ asked_constraints m (constraint_at v a b)
asked_recorded m was now Covariant a b d h = h.one_more
asked_recorded m was now Contravariant a b d h = h.one_more
asked_recorded m was now Invariant a b d h = h.one_more
asked_recorded m was now Bivariant a b d h = absurd (d refl)

-- What no step changes stands in the context.
abbrev setup_of : {Key : Type 0} → Kept Key → Setup Key
setup_of k = record { is_next_solver = k.settings.next_solver; typing_mode = k.mode }

pub keeps_beside : {Key Id Name : Type 0} (aliases : StructurallyRelateAliases) (c d : Context Key Id Name) (e f : Tree) →
    kept_in (held_by aliases 0 [] d) f ≡ kept_in (held_by aliases 0 [] c) e → KeepsBeside c d
keeps_beside aliases c d e f g = record { setup = ap setup_of g; outliving = ap (λ k. k.outliving) g }
