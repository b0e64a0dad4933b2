-- Pairs of types that the relation of a context remembers: what is found, what may be remembered, and what comes of steps.
use Rattle.std.proofs.Common.{◌≡◌, ◌⊎◌, ℕ, Bool, true, ◌&&◌, refl, sym, ◌∙◌, subst, subst₂, List, Contains, IsTrue, rules}
use Rattle.std.proofs.Common.{Some, None, Result, Ok, Err, OnErr}
use Rattle.std.specs.List.{list_any}
use Rattle.std.proofs.lemmas.Bool.{and_parts}
use Rattle.std.proofs.lemmas.List.Folds.{Any-from_list_any}
use Rattle.term_enums.specs.declared.Variance.{Variance}
use Rattle.term_enums.specs.declared.Variance.TheVariants.{Contravariant}
use Rattle.term_enums.specs.Variances.{xform}
use Rattle.term_enums.specs.contracts.VariancePartialEq.TheImpl.{ghosts}
use Rattle.relation_terms.specs.declared.terms.goal.Goal.{Goal as KeyedGoal}
use Rattle.relation_terms.specs.declared.terms.keys.ParamEnvKey.{ParamEnvKey}
use Rattle.relation_terms.specs.declared.terms.keys.PredicateKey.{PredicateKey}
use Rattle.relation_terms.specs.declared.terms.keys.TyKey.{TyKey}
use Rattle.relation_terms.specs.Heads.{type_sort, type_var}
use Rattle.relation_terms.specs.Trees.{Tree, IsTerm, known}
use Rattle.relation_folds.specs.declared.error.TypeError.TheVariants.{CyclicTy}
use Rattle.relation_folds.specs.declared.error.RelateFault.{RelateFault}
use Rattle.relation_semantics.specs.declared.relate.Step.{Step}
use Rattle.relation_semantics.specs.declared.relate.Step.TheVariants.{Done, Parts, Again}
use Rattle.term_enums.specs.declared.StructurallyRelateAliases.{StructurallyRelateAliases}
use Rattle.relation_semantics.specs.AliasGoals.{alias_at}
use Rattle.relation_semantics.specs.AskedAlone.{AsksAlone, IsTyVar, IsNoTyVar}
use Rattle.relation_semantics.specs.ContextCalls.{Instantiated}
use Rattle.relation_semantics.specs.Contexts.{Context}
use Rattle.relation_semantics.specs.Goals.{goal_of}
use Rattle.relation_semantics.specs.Parts.{IsRigid}
use Rattle.relation_semantics.specs.Steps.{Taints}
use Rattle.relation_semantics.specs.Relation.{at}
use Rattle.relation_semantics.specs.Lawful.{State, Pair, Manners, Stepped, Shown, HasRelated, RemembersRelated, RemembersAtMost, AgreesIn, MeansPair}
use Rattle.relation_semantics.proofs.Answering.{same_environment, same_settings}
use Rattle.relation_semantics.proofs.Remembering.{hit_is_step, related_as, were_related_more}
use Rattle.relation_semantics.proofs.Standing.{term_sort_of}
use Rattle.relation_semantics.proofs.Retelling.{shown_by}
use Rattle.relation_combining.specs.Combining.{Joins, MeetsTys, RegistersOne, RegistersNone, TaintsAlone, TysCombine, seen}
use Rattle.relation_combining.specs.Combining.{left_error, right_error, is_deferred, left_open, not_registered, not_left}
use Rattle.relation_steps.specs.Keyed.{ShownTys, SteppedTys, TysAskNone}
use Rattle.relation_steps.specs.Terms.{AskedTerms}
use Rattle.relation_combining.specs.Solving.{settings_by, held_by, solving_through, solver_manner}
use Rattle.context_relation.specs.Stepping.{CombinesTyVars, made_one, left_subtype, right_subtype, goal_refused}
use Rattle.context_relation.specs.Stepping.{CombinesShallowTys, two_variables, left_bound, left_asked, left_unasked, left_refused}
use Rattle.context_relation.specs.Stepping.{right_bound, right_asked, right_unasked, right_refused, no_ty_variables}
use Rattle.context_relation.specs.Stepping.{InstantiatesTyVar, BindsTyVar, BindsAsking, BindsUnasked, IsRemembered, StepsRead, met_again}
use Rattle.context_relation.specs.Stepping.{combined, not_remembered, RemembersAnswered}
use Rattle.context_relation.proofs.StepsAlone.{combined_registers}

-- The relation of a context that has put a pair into its memory, or not.
pub remembers : {Key Id Name A F : Type 0} (aliases : StructurallyRelateAliases) (j : ℕ) (ps qs : List (Pair Key))
    (gs : List (KeyedGoal Key (PredicateKey Key))) (c : Context Key Id Name) (v : Variance) (e : ParamEnvKey Key)
    (p : Pair Key) (res : Result A F) → HasRelated solver_manner (solving_through aliases j ps gs c v e) p →
    ((x : Pair Key) → Contains qs x → (x ≡ p) ⊎ Contains ps x) → OnErr res (qs ≡ ps) →
    RemembersAtMost (solving_through aliases j ps gs c v e) (solving_through aliases j qs gs c v e) p res
remembers aliases j ps qs gs c v e p res one members refused = record {
  meaning = refl;
  store = refl;
  goals = refl;
  kept = refl;
  ambient = refl;
  no_more = members;
  refused = refused;
  lawful = λ l. (
    (
      l.0.0,
      were_related_more (solver_manner (settings_by (held_by aliases j ps c))) (settings_by (held_by aliases j ps c))
          c.meaning c.store (solving_through aliases j ps gs c v e).goals ((c.meaning).param_env e) p ps qs members one l.0.1,
    ),
    l.1,
  );
}

module _ {Key Id Name : Type 0} (M : Manners) (r : State Key Id Name) (a b : TyKey Key) where
  -- A pair that is met again was related.
  pub met_related : RemembersRelated M r → IsRemembered r a b → HasRelated M r (r.ambient, a, b)
  met_related all z = related_as (M r.kept.settings) r.kept.settings r.meaning r.store r.goals r.kept.environment z.pair
      (r.ambient, a, b) z.variance z.left z.right (all z.pair z.is_in)

  -- So it is related by doing nothing.
  pub met_step : RemembersRelated M r → IsRemembered r a b → Stepped M IsRigid r r ((r.meaning).ty a)
      ((r.meaning).ty b) (r.meaning).ty (Ok (Done a))
  met_step all z = let h = met_related all z in
      hit_is_step M IsRigid r (r.meaning).ty a ((r.meaning).ty b) h.left_known h.shown
      (λ st began. subst (λ v. AgreesIn r st (at v) ((r.meaning).ty a) ((r.meaning).ty b)) z.variance
      (subst₂ (AgreesIn r st (at (z.pair).0)) z.left z.right (began.agree z.pair z.is_in).agree))

  -- A pair of known types that were related, of which no goal is asked alone.
  pub noted_pair : AskedTerms M None (λ m. m.ty) r a b → ShownTys M r a b → TysAskNone r a b →
      IsTerm type_sort ((r.meaning).ty a) → IsTerm type_sort ((r.meaning).ty b) → HasRelated M r (r.ambient, a, b)
  noted_pair asked shown none sa sb = record {
    left_known = asked.left_known;
    right_known = asked.right_known;
    shown = shown;
    registered = λ o g asks. absurd (none (term_sort_of type_var ((r.meaning).ty a) sa)
        (term_sort_of type_var ((r.meaning).ty b) sb) g asks);
  }

module _ {Key Id Name : Type 0} (r q : State Key Id Name) (a b : TyKey Key) where
  -- And one that a step has answered.
  pub answered_pair : (t : TyKey Key) → AskedTerms solver_manner None (λ m. m.ty) r a b →
      SteppedTys solver_manner r q a b (Ok (Done t)) → CombinesShallowTys r q a b (Ok (Done t)) →
      HasRelated solver_manner q (q.ambient, a, b)
  answered_pair t asked step h = record {
    left_known = subst (λ z. IsTrue (known z)) (sym x) asked.left_known;
    right_known = subst (λ z. IsTrue (known z)) (sym y) asked.right_known;
    shown = subst (λ v. Shown solver_manner q v ((q.meaning).ty a) ((q.meaning).ty b)) (sym (step.passes).ambient)
        (subst₂ (λ z w. Shown solver_manner q r.ambient z w) (sym x) (sym y) (shown_by solver_manner r.ambient
        ((r.meaning).ty a) ((r.meaning).ty b) (q.meaning).ty t step.passes step.verdict step.exact));
    registered = λ o g asks. subst (λ e. Contains q.goals (goal_of e g)) (sym (same_environment (step.passes).kept))
        (combined_registers r q a b t g (step.passes).extends asked.left_known (seen g asks) h);
  }
    where
      x : (q.meaning).ty a ≡ (r.meaning).ty a
      x = ((step.passes).extends).ty a asked.left_known

      y : (q.meaning).ty b ≡ (r.meaning).ty b
      y = ((step.passes).extends).ty b asked.right_known

      seen : (g : Tree) → AsksAlone q.kept.settings q.ambient ((q.meaning).ty a) ((q.meaning).ty b) g →
          AsksAlone r.kept.settings r.ambient ((r.meaning).ty a) ((r.meaning).ty b) g
      seen g asks = subst₂ (λ z w. AsksAlone r.kept.settings r.ambient z w g) x y
          (subst₂ (λ k v. AsksAlone k v ((q.meaning).ty a) ((q.meaning).ty b) g) (same_settings (step.passes).kept)
          (step.passes).ambient asks)

  -- Its keys mean what they did.
  pub answered_means : (t : TyKey Key) → AskedTerms solver_manner None (λ m. m.ty) r a b →
      SteppedTys solver_manner r q a b (Ok (Done t)) → MeansPair q (q.ambient, a, b) ((r.meaning).ty a) ((r.meaning).ty b)
  answered_means t asked step = (
    refl,
    ((step.passes).extends).ty a asked.left_known,
    ((step.passes).extends).ty b asked.right_known,
    asked.left_known,
    asked.right_known,
  )

  -- Where there is no answer nothing is remembered.
  pub unanswered : (step : Step (TyKey Key)) → ((t : TyKey Key) → step ≡ Done t → ⊥) → q.remembered ≡ r.remembered →
      RemembersAnswered r q a b (Ok step)
  unanswered (Done t) n e = absurd (n t refl)
  unanswered (Parts x y) n e = e
  unanswered (Again k l x y v u) n e = e

  pub not_answered : (res : Result (Step (TyKey Key)) (RelateFault Key Id Name)) (f : RelateFault Key Id Name) →
      res ≡ Err f → RemembersAnswered r q a b res
  not_answered res f is = subst (RemembersAnswered r q a b) (sym is) tt

  pub read_told : (C D : Result (Step (TyKey Key)) (RelateFault Key Id Name) → Type 0) →
      ((res : Result (Step (TyKey Key)) (RelateFault Key Id Name)) → C res → D res) →
      (res : Result (Step (TyKey Key)) (RelateFault Key Id Name)) → StepsRead r q a b C res → StepsRead r q a b D res
  read_told C D f res (met_again z l is) = met_again z l is
  read_told C D f res (combined h) = combined (f res h)
  read_told C D f res (not_remembered t h is) = not_remembered t (f (Ok (Done t)) h) is

-- What came of two types came of them in another state that is alike.
module _ {Key Id Name : Type 0} (r q s : State Key Id Name) (m : s.meaning ≡ q.meaning) (st : s.store ≡ q.store)
    (gs : s.goals ≡ q.goals) where
  one_alike : {p : Tree} → RegistersOne r q p → RegistersOne r s p
  one_alike h = record { store = st ∙ h.store; goals = gs ∙ h.goals }

  none_alike : RegistersNone r q → RegistersNone r s
  none_alike h = record { store = st ∙ h.store; goals = gs ∙ h.goals }

  taints_alike : TaintsAlone r q → TaintsAlone r s
  taints_alike h = record { meaning = m ∙ h.meaning; taints = subst (Taints r.store) (sym st) h.taints; goals = gs ∙ h.goals }

  module _ (a b : TyKey Key) (res : Result (Step (TyKey Key)) (RelateFault Key Id Name)) where
    tys_alike : TysCombine r q a b res → TysCombine r s a b res
    tys_alike (left_error e h is) = left_error e (taints_alike h) is
    tys_alike (right_error n e h is) = right_error n e (taints_alike h) is
    tys_alike (is_deferred p c l o e h is) = is_deferred p c l o e (one_alike h) is
    tys_alike (left_open c l o h is) = left_open c l o (one_alike h) is
    tys_alike (not_registered c l h is) = not_registered c l (none_alike h) is
    tys_alike (not_left c n g h) =
        not_left c n (gs ∙ g) (subst (λ z. MeetsTys r.meaning r.store z a b res) (sym st) h)

    variables_alike : CombinesTyVars r q a b res → CombinesTyVars r s a b res
    variables_alike (made_one i j is x y h n g o) =
        made_one i j is x y (subst (λ z. Joins r.store z type_var i j) (sym st) h) (m ∙ n) (gs ∙ g) o
    variables_alike (left_subtype is h o) = left_subtype is (one_alike h) o
    variables_alike (right_subtype is h o) = right_subtype is (one_alike h) o
    variables_alike (goal_refused d h o) = goal_refused d (none_alike h) o

  binds_alike : (v : Variance) (i : ℕ) (t : TyKey Key) (answer : Result (TyKey Key) (RelateFault Key Id Name)) →
      InstantiatesTyVar r q v i t answer → InstantiatesTyVar r s v i t answer
  binds_alike v i t answer h = subst₂ (λ n z. Instantiated (seen r.meaning r.store) (seen n z)
      r.kept.settings.structurally_relate_aliases v type_var i ((r.meaning).ty t) (λ m. m.ty) CyclicTy answer) (sym m)
      (sym st) h

  bound_alike : (v : Variance) (i : ℕ) (t : TyKey Key) (answer : Result (TyKey Key) (RelateFault Key Id Name)) →
      BindsTyVar r q v i t answer → BindsTyVar r s v i t answer
  bound_alike v i t answer h = record { instantiated = binds_alike v i t answer h.instantiated; goals = gs ∙ h.goals }

  asking_alike : (v : Variance) (i : ℕ) (t x : TyKey Key) (p : Tree) → BindsAsking r q v i t x p →
      BindsAsking r s v i t x p
  asking_alike v i t x p h = record {
    instantiated = binds_alike v i t (Ok x) h.instantiated;
    is_variable = subst (λ n. IsTyVar (n.ty x)) (sym m) h.is_variable;
    goals = gs ∙ h.goals;
  }

  unasked_alike : (v : Variance) (i : ℕ) (t x : TyKey Key) → BindsUnasked r q v i t x → BindsUnasked r s v i t x
  unasked_alike v i t x h = record {
    instantiated = binds_alike v i t (Ok x) h.instantiated;
    is_variable = subst (λ n. IsTyVar (n.ty x)) (sym m) h.is_variable;
    goals = gs ∙ h.goals;
  }

  pub combined_alike : (a b : TyKey Key) (res : Result (Step (TyKey Key)) (RelateFault Key Id Name)) →
      CombinesShallowTys r q a b res → CombinesShallowTys r s a b res
  combined_alike a b res (two_variables i j f g h) = two_variables i j f g (variables_alike a b res h)
  combined_alike a b res (left_bound i x f g h o is) =
      left_bound i x f g (bound_alike r.ambient i b (Ok x) h) (subst (λ n. IsNoTyVar (n.ty x)) (sym m) o) is
  combined_alike a b res (left_asked i x p f g d h is) = left_asked i x p f g
      (subst (λ n. alias_at r.ambient (n.ty x) ((r.meaning).ty b) ≡ Some p) (sym m) d) (asking_alike r.ambient i b x p h) is
  combined_alike a b res (left_unasked i x f g h is) = left_unasked i x f g (unasked_alike r.ambient i b x h) is
  combined_alike a b res (left_refused i e f g h is) = left_refused i e f g (bound_alike r.ambient i b (Err e) h) is
  combined_alike a b res (right_bound i x f g h o is) = right_bound i x f g
      (bound_alike (xform r.ambient Contravariant) i a (Ok x) h) (subst (λ n. IsNoTyVar (n.ty x)) (sym m) o) is
  combined_alike a b res (right_asked i x p f g d h is) = right_asked i x p f g
      (subst (λ n. alias_at r.ambient ((r.meaning).ty a) (n.ty x) ≡ Some p) (sym m) d)
      (asking_alike (xform r.ambient Contravariant) i a x p h) is
  combined_alike a b res (right_unasked i x f g h is) =
      right_unasked i x f g (unasked_alike (xform r.ambient Contravariant) i a x h) is
  combined_alike a b res (right_refused i e f g h is) =
      right_refused i e f g (bound_alike (xform r.ambient Contravariant) i a (Err e) h) is
  combined_alike a b res (no_ty_variables f g h) = no_ty_variables f g (tys_alike a b res h)
