-- Relating two binders in a context, round by round.
use Rattle.std.proofs.Common.{◌≡◌, ◌≢◌, ◌⊎◌, ℕ, ◌<◌, refl, sym, ap₂, ◌∙◌, arith, inl, inr, subst, subst₂, List, []}
use Rattle.std.proofs.Common.{IsTrue, Bool, true, false, ◌||◌, Option, Some, None, Result, Ok, Err}
use Rattle.std.proofs.lemmas.Bool.{false≢true, or_parts}
use Rattle.term_enums.specs.declared.Variance.{Variance}
use Rattle.term_enums.specs.declared.Variance.TheVariants.{Covariant, Contravariant, Invariant}
use Rattle.term_enums.specs.declared.Variance.TheVariants.{Bivariant}
use Rattle.relation_terms.specs.declared.terms.goal.Goal.{Goal as KeyedGoal}
use Rattle.relation_terms.specs.declared.terms.keys.ParamEnvKey.{ParamEnvKey}
use Rattle.relation_terms.specs.declared.terms.keys.PredicateKey.{PredicateKey}
use Rattle.relation_terms.specs.Heads.{BoundKind}
use Rattle.relation_terms.specs.Trees.{Tree, bind, known}
use Rattle.relation_terms.specs.Meaning.{Meaning, Extends, under}
use Rattle.relation_folds.specs.declared.error.RelateFault.{RelateFault}
use Rattle.relation_folds.specs.declared.error.RelateFault.TheVariants.{Memory}
use Rattle.relation_folds.specs.Visits.{bound_var_escapes}
use Rattle.term_enums.specs.declared.StructurallyRelateAliases.{StructurallyRelateAliases}
use Rattle.relation_semantics.specs.Relation.{StaysWithin}
use Rattle.relation_semantics.specs.Stores.{Store, InContext, IsTermIn, IsSound}
use Rattle.relation_semantics.specs.Steps.{ChangesNothing}
use Rattle.relation_semantics.specs.Measures.{Goes}
use Rattle.relation_semantics.specs.Bound.{AreBoundAs}
use Rattle.relation_semantics.specs.Lawful.{State, Pair, Asked, items_of}
use Rattle.relation_semantics.specs.Goals.{goals_of}
use Rattle.relation_semantics.specs.Contexts.{Context}
use Rattle.relation_semantics.specs.ContextCalls.{Grows}
use Rattle.relation_semantics.specs.Binders.{OpensFrom, MakesFirst}
use Rattle.relation_steps.specs.Rounds.{OneRound, RoundSteps, one_round, first_round, second_round, RoundLeads}
use Rattle.relation_steps.specs.Rounds.{RoundVerdict, Opened}
use Rattle.relation_combining.specs.Solving.{KnowsGoals, kept_in, solving_through, solver_manner}
use Rattle.relation_semantics.proofs.Beginning.{begins_by}
use Rattle.relation_semantics.proofs.Going.{goes_nowhere, goes_within, later_through}
use Rattle.relation_semantics.proofs.Keeping.{opening_keeps}
use Rattle.relation_semantics.proofs.Opened.{none_escapes, within_none}
use Rattle.relation_semantics.proofs.Opening.{covariant_step, contravariant_step, unused_step}
use Rattle.relation_combining.proofs.OverContext.{all_taken}
use Rattle.context_relation.proofs.Solving.{held_grows, solver_passes}
use Rattle.relation_combining.proofs.OpeningBoth.{opened_goes, body_scope, unused_stand_ins, bodies_error}
use Rattle.relation_combining.proofs.OpeningBoth.{bodies_agree}
use Rattle.relation_combining.proofs.OpeningBoth.{BothOpened, both_opened, bodies_smaller, bodies_built}
use Rattle.relation_semantics.specs.Alphabets.{Alphabet, IsBuiltOf, StaysBuilt, MayBind}
use Rattle.relation_semantics.proofs.MakingEach.{each_unbound}
use Rattle.relation_semantics.proofs.BuildingSteps.{built_itself, built_opened, first_writes}

-- A body in which something is bound outside uses what its binder binds.
one_uses : (t u : Tree) → (bound_var_escapes t || bound_var_escapes u) ≡ true → StaysWithin 0 t × StaysWithin 0 u → ⊥
one_uses t u h w = go (bound_var_escapes t) (bound_var_escapes u) (within_none 0 t w.0) (within_none 0 u w.1) h
  where
    go : (b d : Bool) → b ≡ false → d ≡ false → (b || d) ≡ true → ⊥
    go false false p q e = false≢true e
    go true d p q e = false≢true (sym p)
    go false true p q e = false≢true (sym q)

none_uses : (t u : Tree) → (bound_var_escapes t || bound_var_escapes u) ≡ false → StaysWithin 0 t × StaysWithin 0 u
none_uses t u h =
    let o = or_parts (bound_var_escapes t) (bound_var_escapes u) h in
    (none_escapes 0 t o.0, none_escapes 0 u o.1)

-- Two rounds relate two binders only at invariance, where a body uses what its binder binds.
two_rounds : (v : Variance) (t u : Tree) → v ≡ Invariant → (StaysWithin 0 t × StaysWithin 0 u → ⊥) →
    (v ≢ Invariant) ⊎ (StaysWithin 0 t × StaysWithin 0 u) → ⊥
two_rounds v t u is uses (inl n) = n is
two_rounds v t u is uses (inr w) = uses w

not_invariant : (v w : Variance) → v ≡ w → w ≢ Invariant → v ≢ Invariant
not_invariant v w is n h = n (sym is ∙ h)

covariant_apart : Covariant ≢ Invariant
covariant_apart h = cc

contravariant_apart : Contravariant ≢ Invariant
contravariant_apart h = cc

-- Of two rounds the one that is not the first.
pub other_round : (n : ℕ) → n < 2 → (n ≡ 0 → ⊥) → n ≡ 1
other_round n below o = omega (arith, below, o)

no_round : (n : ℕ) → n < 2 → (n ≡ 0 → ⊥) → (n ≡ 1 → ⊥) → ⊥
no_round n below o p = omega (arith, below, o, p)

-- Where a round opens neither binder first it is the other one, and one round relates both.
pub opens_neither : (v : Variance) (n : ℕ) → v ≢ Bivariant → n < 2 →
    ((n ≡ 0) × ((v ≡ Covariant) ⊎ (v ≡ Invariant)) → ⊥) →
    (((n ≡ 0) × (v ≡ Contravariant)) ⊎ ((n ≡ 1) × (v ≡ Invariant)) → ⊥) → (n ≡ 1) × (v ≢ Invariant)
opens_neither Covariant n d below s f = (other_round n below (λ h. s (h, inl refl)), covariant_apart)
opens_neither Contravariant n d below s f = (other_round n below (λ h. f (inl (h, refl))), contravariant_apart)
opens_neither Invariant n d below s f = absurd (no_round n below (λ h. s (h, inr refl)) (λ h. f (inr (h, refl))))
opens_neither Bivariant n d below s f = absurd (d refl)

-- The relation of a context before opening and after it.
module _ {Key Id Name : Type 0} (aliases : StructurallyRelateAliases) (j : ℕ) (ps : List (Pair Key))
    (gs : List (KeyedGoal Key (PredicateKey Key))) (c d : Context Key Id Name)
    (v : Variance) (e : ParamEnvKey Key) where
  abbrev before : State Key Id Name
  before = solving_through aliases j ps gs c v e

  abbrev after : State Key Id Name
  after = solving_through aliases j ps gs d v e

  opened : {T : Type 0} → KnowsGoals c.meaning e gs → Grows c d → Goes 0 c.store d.store → (round : ℕ) (a b : Tree)
      (tree : T → Tree) (result : Result (Option (T × T)) (RelateFault Key Id Name)) →
      RoundVerdict solver_manner before after [] round a b tree result → StaysBuilt c.store d.store [] a b →
      Opened solver_manner before after round a b tree result
  unfolding solver_passes
  opened env grows goes round a b tree result h built = record {
    passes = solver_passes (held_grows aliases j ps c d grows) gs v e grows.extends env (goes_within (omega arith) goes) grows.lawful;
    verdict = h;
    built = built;
  }

  -- A growth was refused.
  pub opening_refused : {T : Type 0} → KnowsGoals c.meaning e gs → IsSound c.store → Grows c d → (middle : Store) →
      ChangesNothing c.store middle → middle.tainted ≡ (c.store).tainted → (ks : List BoundKind) →
      MakesFirst middle.universe middle ks d.store → (round : ℕ) (a b : Tree)
      (tree : T → Tree) (result : Result (Option (T × T)) (RelateFault Key Id Name)) → result ≡ Err Memory →
      ((k : Alphabet) → IsBuiltOf k a → IsBuiltOf k b → MayBind k ks) → Opened solver_manner before after round a b tree result
  opening_refused env sound grows middle changes taint ks first round a b tree result is has =
      subst (Opened solver_manner before after round a b tree) (sym is)
      (opened env grows (opened_goes c.store middle d.store changes sound (each_unbound first.2)) round a b tree
      (Err Memory) (tt, opening_keeps c.store middle d.store changes sound (each_unbound first.2))
      (built_opened c.store d.store ks a b changes taint (each_unbound first.2) (first_writes ks first) has))

  -- Bodies that were opened.
  module _ (grown : Extends c.meaning d.meaning) (kept : after.kept ≡ before.kept) (round : ℕ)
      (ks ls : List BoundKind) (t u x y : Tree)
      (uses : StaysWithin 0 t × StaysWithin 0 u → ⊥) (left : IsTrue (known x)) (right : IsTrue (known y))
      (binds : AreBoundAs ks 0 t) (binds_too : AreBoundAs ls 0 u) where
    second_leads : BothOpened c.store d.store ls ks u t y x → round ≡ 0 → (v ≡ Covariant) ⊎ (v ≡ Invariant) →
        RoundLeads solver_manner before after [] round (bind ks t) (bind ls u) x y
    second_leads both zero_round at_variance = record {
      steps = steps at_variance;
      asked = record {
        left_known = left;
        right_known = right;
        left_in = both.instantiated_in;
        right_in = both.entered_in;
        left_taken = all_taken v x both.instantiated_by_lists;
        right_taken = all_taken v y both.entered_by_lists;
      };
      errors = λ m set i st f later sound o.
          bodies_error m set i st v f ks ls t u x y both.instantiated_for both.entered_for o;
      agrees = λ st began. (
        λ z. bodies_agree before.kept.settings (items_of c.meaning) v st began.sound
            (later_through began.later (both.goes).later) ks ls t u x y both.instantiated_for both.entered_for binds
            binds_too z,
        begins_by before after grown (both.goes).later kept refl st began,
      );
      built = bodies_built c.store ks ls t u x y both.instantiated_for both.entered_for;
      same_budget = both.same_budget;
      smaller = let h = both.smaller in omega (arith, h);
    }
      where
        steps : (v ≡ Covariant) ⊎ (v ≡ Invariant) → RoundSteps before after [] round (bind ks t) (bind ls u) x y
        steps (inl p) = one_round zero_round (inl (not_invariant v Covariant p covariant_apart))
            (covariant_step (items_of c.meaning) ((c.meaning).param_env e) v c.store d.store (goals_of c.meaning gs) []
            ks ls t u x y p
            (both.second (items_of c.meaning) ((c.meaning).param_env e) v (goals_of c.meaning gs)))
        steps (inr p) = first_round zero_round (two_rounds v t u p uses) refl refl
            (both.second (items_of c.meaning) ((c.meaning).param_env e) v (goals_of c.meaning gs))

    first_leads : BothOpened c.store d.store ks ls t u x y →
        ((round ≡ 0) × (v ≡ Contravariant)) ⊎ ((round ≡ 1) × (v ≡ Invariant)) →
        RoundLeads solver_manner before after [] round (bind ks t) (bind ls u) x y
    first_leads both at_variance = record {
      steps = steps at_variance;
      asked = record {
        left_known = left;
        right_known = right;
        left_in = both.entered_in;
        right_in = both.instantiated_in;
        left_taken = all_taken v x both.entered_by_lists;
        right_taken = all_taken v y both.instantiated_by_lists;
      };
      errors = λ m set i st f later sound o.
          bodies_error m set i st v f ks ls t u x y both.entered_for both.instantiated_for o;
      agrees = λ st began. (
        λ z. bodies_agree before.kept.settings (items_of c.meaning) v st began.sound
            (later_through began.later (both.goes).later) ks ls t u x y both.entered_for both.instantiated_for binds
            binds_too z,
        begins_by before after grown (both.goes).later kept refl st began,
      );
      built = bodies_built c.store ks ls t u x y both.entered_for both.instantiated_for;
      same_budget = both.same_budget;
      smaller = both.smaller;
    }
      where
        steps : ((round ≡ 0) × (v ≡ Contravariant)) ⊎ ((round ≡ 1) × (v ≡ Invariant)) →
            RoundSteps before after [] round (bind ks t) (bind ls u) x y
        steps (inl p) = one_round p.0 (inl (not_invariant v Contravariant p.1 contravariant_apart))
            (contravariant_step (items_of c.meaning) ((c.meaning).param_env e) v c.store d.store
            (goals_of c.meaning gs) [] ks ls t u x y p.1
            (both.first (items_of c.meaning) ((c.meaning).param_env e) v (goals_of c.meaning gs)))
        steps (inr p) = second_round p.0 (two_rounds v t u p.1 uses) refl refl
            (both.first (items_of c.meaning) ((c.meaning).param_env e) v (goals_of c.meaning gs))

  -- The same of what a context's calls say.
  module _ {T : Type 0} (env : KnowsGoals c.meaning e gs) (sound : IsSound c.store) (grows : Grows c d) (round : ℕ)
      (t u : Tree) (tree : Meaning Key Id Name → T → Tree) (x y : T)
      (some : (bound_var_escapes t || bound_var_escapes u) ≡ true) where
    same_kept : after.kept ≡ before.kept
    same_kept = ap₂ kept_in (held_grows aliases j ps c d grows) ((grows.extends).param_env e env.0)

    pub opens_second : (o p : Option (List BoundKind)) → Asked solver_manner before v (under o t) (under p u) →
        IsTrue (known (tree d.meaning y)) × IsTrue (known (tree d.meaning x)) ×
        OpensFrom c d (under p u) (under o t) (tree d.meaning y) (tree d.meaning x) → round ≡ 0 →
        (v ≡ Covariant) ⊎ (v ≡ Invariant) →
        Opened solver_manner before after round (under o t) (under p u) (tree d.meaning) (Ok (Some (x, y)))
    opens_second (Some ks) (Some ls) k h zero_round at_variance =
        let from = h.2 in
        let both = both_opened c.store from.0 d.store sound ls ks u t (tree d.meaning y) (tree d.meaning x) from.1
        from.2 k.right_in k.left_in k.right_taken.1 k.left_taken.1 in
        opened env grows both.goes round (bind ks t) (bind ls u) (tree d.meaning) (Ok (Some (x, y)))
        (second_leads grows.extends same_kept round ks ls t u (tree d.meaning x) (tree d.meaning y) (one_uses t u some) h.1 h.0
        k.left_taken.1.0 k.right_taken.1.0 both zero_round at_variance) (both.built (bind ks t) (bind ls u) (λ k h i. h.0))
    opens_second (Some ks) None k h zero_round at_variance = absurd (false≢true k.right_known)
    opens_second None p k h zero_round at_variance = absurd (false≢true k.left_known)

    pub opens_first : (o p : Option (List BoundKind)) → Asked solver_manner before v (under o t) (under p u) →
        IsTrue (known (tree d.meaning x)) × IsTrue (known (tree d.meaning y)) ×
        OpensFrom c d (under o t) (under p u) (tree d.meaning x) (tree d.meaning y) →
        ((round ≡ 0) × (v ≡ Contravariant)) ⊎ ((round ≡ 1) × (v ≡ Invariant)) →
        Opened solver_manner before after round (under o t) (under p u) (tree d.meaning) (Ok (Some (x, y)))
    opens_first (Some ks) (Some ls) k h at_variance =
        let from = h.2 in
        let both = both_opened c.store from.0 d.store sound ks ls t u (tree d.meaning x) (tree d.meaning y) from.1
        from.2 k.left_in k.right_in k.left_taken.1 k.right_taken.1 in
        opened env grows both.goes round (bind ks t) (bind ls u) (tree d.meaning) (Ok (Some (x, y)))
        (first_leads grows.extends same_kept round ks ls t u (tree d.meaning x) (tree d.meaning y) (one_uses t u some) h.0 h.1
        k.left_taken.1.0 k.right_taken.1.0 both at_variance) (both.built (bind ks t) (bind ls u) (λ k h i. i.0))
    opens_first (Some ks) None k h at_variance = absurd (false≢true k.right_known)
    opens_first None p k h at_variance = absurd (false≢true k.left_known)

-- The relation of a context that nothing happens to.
module _ {Key Id Name T : Type 0} (aliases : StructurallyRelateAliases) (j : ℕ) (ps : List (Pair Key))
    (gs : List (KeyedGoal Key (PredicateKey Key))) (c : Context Key Id Name)
    (v : Variance) (e : ParamEnvKey Key) (env : KnowsGoals c.meaning e gs) (grows : Grows c c) (t u : Tree)
    (round : ℕ) (tree : T → Tree) where
  abbrev there : State Key Id Name
  there = solving_through aliases j ps gs c v e

  -- The term under a binder that binds nothing that stands in it.
  unused_in : (ks : List BoundKind) (t : Tree) → IsTermIn c.store (bind ks t) → StaysWithin 0 t → IsTermIn c.store t
  unfolding IsTermIn InContext
  unused_in ks t h w = (h.0, w, h.2)

  -- Nothing is opened, and the bodies are related as they stand.
  pub opens_none : (o p : Option (List BoundKind)) → Asked solver_manner there v (under o t) (under p u) →
      v ≢ Bivariant → IsSound c.store → (bound_var_escapes t || bound_var_escapes u) ≡ false → round ≡ 0 → (x y : T) →
      tree x ≡ t → tree y ≡ u →
      Opened solver_manner there there round (under o t) (under p u) tree (Ok (Some (x, y)))
  opens_none (Some ks) (Some ls) k decides sound none zero_round x y p q =
      let w = none_uses t u none in
      opened aliases j ps gs c c v e env grows (goes_nowhere 0 c.store) round (bind ks t) (bind ls u) tree (Ok (Some (x, y)))
      (subst₂ (RoundLeads solver_manner there there [] round (bind ks t) (bind ls u)) (sym p) (sym q) (record {
        steps = one_round zero_round (inr w) (unused_step (items_of c.meaning) ((c.meaning).param_env e) v c.store
            (goals_of c.meaning gs) ks ls t u decides (body_scope c.store sound ks t k.left_in)
            (body_scope c.store sound ls u k.right_in) w.0 w.1);
        asked = record {
          left_known = k.left_known;
          right_known = k.right_known;
          left_in = unused_in ks t k.left_in w.0;
          right_in = unused_in ls u k.right_in w.1;
          left_taken = all_taken v t k.left_taken.1.1;
          right_taken = all_taken v u k.right_taken.1.1;
        };
        errors = λ m set i st f later sound o.
            bodies_error m set i st v f ks ls t u t u {now = c.store} (unused_stand_ins ks t w.0) (unused_stand_ins ls u w.1) o;
        agrees = λ st began. (
          λ z. bodies_agree there.kept.settings (items_of c.meaning) v st began.sound began.later ks ls t u t u
              (unused_stand_ins ks t w.0) (unused_stand_ins ls u w.1) k.left_taken.1.0 k.right_taken.1.0 z,
          began,
        );
        built = bodies_built c.store ks ls t u t u {now = c.store} (unused_stand_ins ks t w.0) (unused_stand_ins ls u w.1);
        same_budget = refl;
        smaller = bodies_smaller c.store ks ls t u;
      })) (built_itself c.store (bind ks t) (bind ls u))
  opens_none (Some ks) None k decides sound none zero_round x y p q = absurd (false≢true k.right_known)
  opens_none None o k decides sound none zero_round x y p q = absurd (false≢true k.left_known)

  -- Nothing is left after a round that relates the binders.
  pub no_more : (o p : Option (List BoundKind)) → Asked solver_manner there v (under o t) (under p u) → round ≡ 1 →
      (v ≢ Invariant) ⊎ ((bound_var_escapes t || bound_var_escapes u) ≡ false) →
      Opened solver_manner there there round (under o t) (under p u) tree (Ok None)
  no_more (Some ks) (Some ls) k is_last h = opened aliases j ps gs c c v e env grows (goes_nowhere 0 c.store) round (bind ks t)
      (bind ls u) tree (Ok None) (is_last, go h, refl, refl, refl) (built_itself c.store (bind ks t) (bind ls u))
    where
      go : (v ≢ Invariant) ⊎ ((bound_var_escapes t || bound_var_escapes u) ≡ false) →
          OneRound v (bind ks t) (bind ls u)
      go (inl n) = inl n
      go (inr n) = inr (none_uses t u n)
  no_more (Some ks) None k is_last h = absurd (false≢true k.right_known)
  no_more None p k is_last h = absurd (false≢true k.left_known)
