-- What comes of two types before their parts are related, where one is an error or they are left to a goal.
use Rattle.std.proofs.Common.{◌≡◌, ◌≢◌, ◌∙◌, IsTrue, refl, sym, ap, subst, inl, inr, Some, None, IfSome}
use Rattle.std.proofs.Common.{Result, Ok, Err}
use Rattle.term_enums.specs.declared.Variance.{Variance}
use Rattle.term_enums.specs.declared.Variance.TheVariants.{Covariant, Contravariant, Invariant, Bivariant}
use Rattle.relation_terms.specs.declared.terms.keys.TyKey.{TyKey}
use Rattle.relation_terms.specs.Heads.{type_sort, type_var}
use Rattle.relation_terms.specs.Trees.{Tree, IsTerm, known}
use Rattle.relation_folds.specs.declared.error.RelateFault.{RelateFault}
use Rattle.relation_folds.specs.declared.error.RelateFault.TheVariants.{Memory}
use Rattle.relation_semantics.specs.declared.relate.Step.{Step}
use Rattle.relation_semantics.specs.declared.relate.Step.TheVariants.{Done}
use Rattle.relation_semantics.specs.AliasGoals.{alias_at}
use Rattle.relation_semantics.specs.Contexts.{Context}
use Rattle.relation_semantics.specs.Errors.{HaveNoError}
use Rattle.relation_semantics.specs.Goals.{ambiguous_predicate}
use Rattle.relation_semantics.specs.Lawful.{State}
use Rattle.relation_semantics.specs.Parts.{IsRigid}
use Rattle.relation_semantics.specs.Relation.{IsError, sort_of}
use Rattle.relation_semantics.specs.Stores.{IsSound}
use Rattle.relation_semantics.proofs.Standing.{term_context, term_sort_of}
use Rattle.relation_combining.specs.Combining.{TaintsAlone, KeepsKept, TysCombine, is_deferred, left_open, not_registered}
use Rattle.relation_goals.specs.Emitting.{IsOver, RegistersGoal, RegistersAlias}
use Rattle.relation_steps.specs.Keyed.{SteppedTys}
use Rattle.relation_steps.specs.Terms.{AskedTerms}
use Rattle.relation_combining.specs.Deferring.{LeftAs, StandsAs}
use Rattle.relation_combining.specs.declared.deferring.Deferring.TheVariants.{ToGoal, Open}
use Rattle.relation_combining.specs.declared.deferring.Standing.{Standing}
use Rattle.relation_combining.specs.declared.deferring.Standing.TheVariants.{Error}
use Rattle.relation_combining.specs.Solving.{solver_manner}
use Rattle.relation_combining.proofs.DeferredPairs.{clean}
use Rattle.relation_combining.proofs.DeferringSteps.{tys_to_goal, tys_left_open, goal_refused, left_tainted, right_tainted}

-- At a variance that decides, something is asked of an alias and another type.
pub alias_is_asked : (v : Variance) (a b : Tree) → v ≢ Bivariant → (p : Tree) × (alias_at v a b ≡ Some p)
alias_is_asked Covariant a b d = (_, refl)
alias_is_asked Contravariant a b d = (_, refl)
alias_is_asked Invariant a b d = (_, refl)
alias_is_asked Bivariant a b d = absurd (d refl)

-- Registering it leaves what is remembered.
pub alias_memory : {Key Id Name A F : Type 0} (r q : State Key Id Name) (a b : TyKey Key) (result : Result A F) →
    r.ambient ≢ Bivariant → RegistersAlias r q a b result → q.remembered ≡ r.remembered
alias_memory r q a b result d h = let z = alias_is_asked r.ambient ((r.meaning).ty a) ((r.meaning).ty b) d in
    (subst (λ o. IfSome o (λ p. RegistersGoal r q p result)) z.1 h).remembered

module _ {Key Id Name : Type 0} {r : State Key Id Name} {c : Context Key Id Name} (o : IsOver r c) (a b : TyKey Key) where
  -- How a type stands in the context, it does in the relation.
  pub stands_there : (t : TyKey Key) (x : Standing) → StandsAs x ((c.meaning).ty t) → StandsAs x ((r.meaning).ty t)
  stands_there t x h = subst (λ m. StandsAs x (m.ty t)) (sym o.meaning) h

  pub both_clean : (x y : Standing) → StandsAs x ((c.meaning).ty a) → StandsAs y ((c.meaning).ty b) → (x ≡ Error → ⊥) →
      (y ≡ Error → ⊥) → HaveNoError ((r.meaning).ty a) ((r.meaning).ty b)
  both_clean x y f g h k = (
    clean x ((r.meaning).ty a) (stands_there a x f) h,
    clean y ((r.meaning).ty b) (stands_there b y g) k,
  )

module _ {Key Id Name : Type 0} {r : State Key Id Name} {c : Context Key Id Name} (o : IsOver r c)
    (decides : r.ambient ≢ Bivariant) (sound : IsSound c.store) (a b : TyKey Key)
    (asked : AskedTerms solver_manner None (λ m. m.ty) r a b)
    (f : (t : TyKey Key) → IsTrue (known ((c.meaning).ty t)) → IsTerm type_sort ((c.meaning).ty t)) where
  abbrev ta : Tree
  ta = (r.meaning).ty a

  abbrev tb : Tree
  tb = (r.meaning).ty b

  sorted_there : (t : TyKey Key) → IsTrue (known ((r.meaning).ty t)) → IsTerm type_sort ((r.meaning).ty t)
  sorted_there t h = subst (λ m. IsTerm type_sort (m.ty t)) (sym o.meaning)
      (f t (subst (λ m. IsTrue (known (m.ty t))) o.meaning h))

  one_sort : sort_of ta ≡ sort_of tb
  one_sort = let x = term_sort_of type_var ta (sorted_there a asked.left_known) in
      let y = term_sort_of type_var tb (sorted_there b asked.right_known) in x ∙ sym y

  -- An error taints, and is the answer.
  pub error_left : (q : State Key Id Name) → TaintsAlone r q → KeepsKept r q → IsError ta →
      SteppedTys solver_manner r q a b (Ok (Done a))
  error_left q h k e = left_tainted IsRigid ta tb (q.meaning).ty h k (subst IsSound (sym o.store) sound)
      (term_context r.store ta asked.left_in) (term_context r.store tb asked.right_in)
      (sorted_there a asked.left_known) (sorted_there b asked.right_known) one_sort (inl e) a
      (ap (λ m. m.ty a) h.meaning) asked.left_known

  pub error_right : (q : State Key Id Name) → TaintsAlone r q → KeepsKept r q → IsError tb →
      SteppedTys solver_manner r q a b (Ok (Done b))
  error_right q h k e = right_tainted IsRigid ta tb (q.meaning).ty h k (subst IsSound (sym o.store) sound)
      (term_context r.store ta asked.left_in) (term_context r.store tb asked.right_in)
      (sorted_there a asked.left_known) (sorted_there b asked.right_known) one_sort (inr e) b
      (ap (λ m. m.ty b) h.meaning) asked.right_known

  -- An alias and another type are left to a goal, which was registered, or was not.
  module _ (q : State Key Id Name) (clean : HaveNoError ta tb) (A E : Type 0) where
    pub to_goal : (x : A) → LeftAs r.kept.settings ta tb ToGoal → RegistersAlias {A = A} {F = E} r q a b (Ok x) →
        SteppedTys solver_manner r q a b (Ok (Done a)) × TysCombine r q a b (Ok (Done a))
    to_goal x l h = registered (alias_is_asked r.ambient ta tb decides)
      where
        registered : (p : Tree) × (alias_at r.ambient ta tb ≡ Some p) →
            SteppedTys solver_manner r q a b (Ok (Done a)) × TysCombine r q a b (Ok (Done a))
        registered p = let g = subst (λ z. IfSome z (λ y. RegistersGoal {A = A} {F = E} r q y (Ok x))) p.1 h in (
          tys_to_goal p.0 g a b asked (sorted_there a asked.left_known) (sorted_there b asked.right_known) l.0 l.1 p.1,
          is_deferred p.0 clean l.0 l.1 p.1 (record { store = g.store; goals = g.goals }) refl,
        )

    pub not_to_goal : (e : E) (res : Result (Step (TyKey Key)) (RelateFault Key Id Name)) →
        LeftAs r.kept.settings ta tb ToGoal → RegistersAlias {A = A} {F = E} r q a b (Err e) → res ≡ Err Memory →
        SteppedTys solver_manner r q a b res × TysCombine r q a b res
    not_to_goal e res l h is = registered (alias_is_asked r.ambient ta tb decides)
      where
        registered : (p : Tree) × (alias_at r.ambient ta tb ≡ Some p) →
            SteppedTys solver_manner r q a b res × TysCombine r q a b res
        registered p = let g = subst (λ z. IfSome z (λ y. RegistersGoal {A = A} {F = E} r q y (Err e))) p.1 h in (
          subst (SteppedTys solver_manner r q a b) (sym is) (goal_refused IsRigid ta tb (q.meaning).ty p.0 g),
          not_registered clean (inl l) (record { store = g.store; goals = g.goals }) is,
        )

    -- An opaque type is left open.
    pub to_open : (x : A) → LeftAs r.kept.settings ta tb Open → RegistersGoal {A = A} {F = E} r q ambiguous_predicate (Ok x) →
        SteppedTys solver_manner r q a b (Ok (Done a)) × TysCombine r q a b (Ok (Done a))
    to_open x l g = (
      tys_left_open ambiguous_predicate g a b asked (sorted_there a asked.left_known) (sorted_there b asked.right_known) l.0
          l.1 refl,
      left_open clean l.0 l.1 (record { store = g.store; goals = g.goals }) refl,
    )

    pub not_to_open : (e : E) (res : Result (Step (TyKey Key)) (RelateFault Key Id Name)) →
        LeftAs r.kept.settings ta tb Open → RegistersGoal {A = A} {F = E} r q ambiguous_predicate (Err e) → res ≡ Err Memory →
        SteppedTys solver_manner r q a b res × TysCombine r q a b res
    not_to_open e res l g is = (
      subst (SteppedTys solver_manner r q a b) (sym is) (goal_refused IsRigid ta tb (q.meaning).ty ambiguous_predicate g),
      not_registered clean (inr l) (record { store = g.store; goals = g.goals }) is,
    )
