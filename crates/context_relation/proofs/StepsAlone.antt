-- What a step of the relation of a context does at once: of two types that are left to one goal it registers that alone, of
-- an error with another type it records that one was met, and two over one item it leaves to their parts.
use Rattle.std.proofs.Common.{◌≡◌, ◌≢◌, ◌⊎◌, ◌<◌, ℕ, inl, inr, ⊎_elim, arith, refl, sym, ap, ◌∙◌, subst, subst₂, [], ◌∷◌, Contains, Some, None}
use Rattle.std.proofs.Common.{Result, Ok, Err, IsTrue, false}
use Rattle.std.proofs.lemmas.Bool.{false≢true}
use Rattle.std.proofs.lemmas.List.Elements.{Contains-append_right}
use Rattle.relation_terms.specs.declared.terms.keys.TyKey.{TyKey}
use Rattle.relation_terms.specs.Trees.{Tree, known}
use Rattle.relation_terms.specs.Meaning.{Extends}
use Rattle.relation_folds.specs.declared.error.RelateFault.{RelateFault}
use Rattle.relation_folds.specs.declared.error.RelateFault.TheVariants.{Memory}
use Rattle.relation_semantics.specs.declared.relate.Step.{Step}
use Rattle.relation_semantics.specs.declared.relate.Step.TheVariants.{Done}
use Rattle.relation_semantics.specs.AliasGoals.{alias_at}
use Rattle.relation_semantics.specs.Errors.{itself, HaveNoError}
use Rattle.relation_semantics.specs.Goals.{Goal, goal_of, well_formed_predicate}
use Rattle.relation_semantics.specs.Lawful.{State, Manners, RemembersRelated, items_in}
use Rattle.relation_semantics.specs.Parts.{IsRigid}
use Rattle.relation_semantics.specs.Relation.{IsAlias, IsError}
use Rattle.relation_semantics.specs.Resolving.{formed}
use Rattle.relation_semantics.specs.Settings.{DefersAliases}
use Rattle.relation_semantics.proofs.AliasSteps.{reads_once}
use Rattle.relation_semantics.specs.AskedAlone.{AsksAlone, of_variables, of_alias, subtype_at, IsNoTyVar}
use Rattle.relation_steps.specs.Alone.{StepRegistersAlone, StepsAlone, StepsError, StepsOpen, StepsAtOnce, RecordsError}
use Rattle.relation_steps.specs.Alone.{LeavesNoPair, LeavesParts}
use Rattle.relation_steps.specs.Arguments.{AreOverItem}
use Rattle.relation_steps.specs.Bivariance.{HasOpenArgument, AsksOfOver}
use Rattle.relation_steps.specs.Keyed.{NotedTys, TysAskOpen}
use Rattle.relation_combining.specs.Solving.{solver_manner}
use Rattle.relation_recursion.proofs.OverItems.{error_not_over, alias_not_over, opaque_not_over, left_no_leaf, right_no_leaf}
use Rattle.relation_combining.specs.Combining.{RegistersOne, RegistersNone, TysCombine, MeetsTys, equated, left_unlike}
use Rattle.relation_combining.specs.Combining.{left_bound as number_on_left, right_bound as number_on_right, right_unlike}
use Rattle.relation_combining.specs.Combining.{ty_variable, by_parts}
use Rattle.relation_combining.specs.Combining.{left_error, right_error, is_deferred, left_open, not_registered, not_left}
use Rattle.context_relation.specs.Stepping.{CombinesTyVars, made_one, left_subtype, right_subtype, goal_refused}
use Rattle.context_relation.specs.Stepping.{CombinesShallowTys, two_variables, left_bound, left_asked, left_unasked, left_refused}
use Rattle.context_relation.specs.Stepping.{right_bound, right_asked, right_unasked, right_refused, no_ty_variables}
use Rattle.context_relation.specs.Stepping.{StepsRead, met_again, combined, not_remembered}
use Rattle.context_relation.specs.Stepping.{StepsTys, one_type, without_variables, resolved_first}
use Rattle.relation_combining.specs.Variables.{one_has_variable}
use Rattle.std.proofs.lemmas.Option.{same_Some}

-- What a step that registers one goal, or none, says of that goal.
module _ {Key Id Name : Type 0} (r q : State Key Id Name) where
  one_alone : (a : TyKey Key) (t p : Tree) → (q.meaning).ty a ≡ t → RegistersOne r q p →
      StepRegistersAlone r q (q.meaning).ty t p (Ok (Done a))
  one_alone a t p e h = (e, (h.store, inl h.goals))

  none_alone : (t p : Tree) → RegistersNone r q → StepRegistersAlone r q (q.meaning).ty t p (Err Memory)
  none_alone t p h = h.store

  module _ (a b : TyKey Key) (res : Result (Step (TyKey Key)) (RelateFault Key Id Name)) (extends : Extends r.meaning q.meaning)
      (a_known : IsTrue (known ((r.meaning).ty a))) where
    abbrev Alone : Tree → Type 0
    Alone p = StepRegistersAlone r q (q.meaning).ty ((r.meaning).ty a) p res

    done : (p : Tree) → RegistersOne r q p → res ≡ Ok (Done a) → Alone p
    done p h is = subst (StepRegistersAlone r q (q.meaning).ty ((r.meaning).ty a) p) (sym is)
        (one_alone a ((r.meaning).ty a) p (extends.ty a a_known) h)

    stopped : (p : Tree) → RegistersNone r q → res ≡ Err Memory → Alone p
    stopped p h is = subst (StepRegistersAlone r q (q.meaning).ty ((r.meaning).ty a) p) (sym is)
        (none_alone ((r.meaning).ty a) p h)

    same_goal : (x p : Tree) → Some x ≡ Some p → RegistersOne r q x → RegistersOne r q p
    same_goal x p e h = subst (RegistersOne r q) (same_Some x p e) h

    -- Of two type variables.
    variables_alone : (p : Tree) → subtype_at r.ambient ((r.meaning).ty a) ((r.meaning).ty b) ≡ Some p →
        CombinesTyVars r q a b res → Alone p
    variables_alone p e (made_one i j is x y joins m g o) =
        absurd (none (subst (λ v. subtype_at v ((r.meaning).ty a) ((r.meaning).ty b) ≡ Some p) is e))
      where
        none : None ≡ Some p → ⊥
        none e = cc
    variables_alone p e (left_subtype is h o) =
        done p (same_goal _ p (subst (λ v. subtype_at v ((r.meaning).ty a) ((r.meaning).ty b) ≡ Some p) is e) h) o
    variables_alone p e (right_subtype is h o) =
        done p (same_goal _ p (subst (λ v. subtype_at v ((r.meaning).ty a) ((r.meaning).ty b) ≡ Some p) is e) h) o
    variables_alone p e (goal_refused directed h o) = stopped p h o

    -- Of an alias and another type.
    alias_alone : (p : Tree) → DefersAliases r.kept.settings → IsAlias ((r.meaning).ty a) ⊎ IsAlias ((r.meaning).ty b) →
        HaveNoError ((r.meaning).ty a) ((r.meaning).ty b) → alias_at r.ambient ((r.meaning).ty a) ((r.meaning).ty b) ≡ Some p →
        TysCombine r q a b res → Alone p
    alias_alone p l o clean e (left_error h t is) = absurd (clean.0 h)
    alias_alone p l o clean e (right_error n h t is) = absurd (clean.1 h)
    alias_alone p l o clean e (is_deferred z c k i d h is) = done p (same_goal _ p (sym d ∙ e) h) is
    alias_alone p l o clean e (left_open c k i h is) = absurd (false≢true (sym k.0 ∙ l.0))
    alias_alone p l o clean e (not_registered c k h is) = stopped p h is
    alias_alone p l o clean e (not_left c n g h) = absurd (n (inl (l, o)))

    -- Of two that were resolved shallowly.
    shallow_alone : (p : Tree) → AsksAlone r.kept.settings r.ambient ((r.meaning).ty a) ((r.meaning).ty b) p →
        CombinesShallowTys r q a b res → Alone p
    shallow_alone p (of_variables x y e) (two_variables i j f g h) = variables_alone p e h
    shallow_alone p (of_variables x y e) (left_bound i z f n h o is) = absurd (n y.0 y.1)
    shallow_alone p (of_variables x y e) (left_asked i z w f n d h is) = absurd (n y.0 y.1)
    shallow_alone p (of_variables x y e) (left_unasked i z f n h is) = absurd (n y.0 y.1)
    shallow_alone p (of_variables x y e) (left_refused i z f n h is) = absurd (n y.0 y.1)
    shallow_alone p (of_variables x y e) (right_bound i z f n h o is) = absurd (n x.0 x.1)
    shallow_alone p (of_variables x y e) (right_asked i z w f n d h is) = absurd (n x.0 x.1)
    shallow_alone p (of_variables x y e) (right_unasked i z f n h is) = absurd (n x.0 x.1)
    shallow_alone p (of_variables x y e) (right_refused i z f n h is) = absurd (n x.0 x.1)
    shallow_alone p (of_variables x y e) (no_ty_variables n o h) = absurd (n x.0 x.1)
    shallow_alone p (of_alias l o clean n m e) (two_variables i j f g h) = absurd (n i f)
    shallow_alone p (of_alias l o clean n m e) (left_bound i z f g h u is) = absurd (n i f)
    shallow_alone p (of_alias l o clean n m e) (left_asked i z w f g d h is) = absurd (n i f)
    shallow_alone p (of_alias l o clean n m e) (left_unasked i z f g h is) = absurd (n i f)
    shallow_alone p (of_alias l o clean n m e) (left_refused i z f g h is) = absurd (n i f)
    shallow_alone p (of_alias l o clean n m e) (right_bound i z f g h u is) = absurd (m i f)
    shallow_alone p (of_alias l o clean n m e) (right_asked i z w f g d h is) = absurd (m i f)
    shallow_alone p (of_alias l o clean n m e) (right_unasked i z f g h is) = absurd (m i f)
    shallow_alone p (of_alias l o clean n m e) (right_refused i z f g h is) = absurd (m i f)
    shallow_alone p (of_alias l o clean n m e) (no_ty_variables f g h) = alias_alone p l o clean e h

  -- So the goal is registered that is asked of two that were answered.
  pub combined_registers : (a b t : TyKey Key) (p : Tree) → Extends r.meaning q.meaning → IsTrue (known ((r.meaning).ty a)) →
      AsksAlone r.kept.settings r.ambient ((r.meaning).ty a) ((r.meaning).ty b) p →
      CombinesShallowTys r q a b (Ok (Done t)) → Contains q.goals (goal_of r.kept.environment p)
  combined_registers a b t p extends k asks h =
      ⊎_elim (λ e. subst (λ gs. Contains gs the_goal) (sym e) (Contains-append_right r.goals (the_goal ∷ []) the_goal
      (0, omega arith, refl))) (λ z. subst (λ gs. Contains gs the_goal) (sym z.1) z.0)
      (shallow_alone a b (Ok (Done t)) extends k p asks h).1.1
    where
      the_goal : Goal
      the_goal = goal_of r.kept.environment p

  -- What a step of a pair as it is read registers: of one that is remembered, what was when it was related.
  module _ (M : Manners) (promised : (M r.kept.settings).registers_alone) (related : RemembersRelated M r) (x y : TyKey Key)
      (p : Tree) (asks : AsksAlone r.kept.settings r.ambient ((r.meaning).ty x) ((r.meaning).ty y) p)
      (Combines : Result (Step (TyKey Key)) (RelateFault Key Id Name) → Type 0)
      (alone : (res : Result (Step (TyKey Key)) (RelateFault Key Id Name)) → Combines res →
      StepRegistersAlone r q (q.meaning).ty ((r.meaning).ty x) p res) where
    read_alone : (res : Result (Step (TyKey Key)) (RelateFault Key Id Name)) → StepsRead r q x y Combines res →
        StepRegistersAlone r q (q.meaning).ty ((r.meaning).ty x) p res
    read_alone res (met_again z l is) = subst (StepRegistersAlone r q (q.meaning).ty ((r.meaning).ty x) p) (sym is) (
      ap (λ m. m.ty x) l.meaning,
      (
        l.store,
        inr (
          (related z.pair z.is_in).registered promised p
              (subst (λ v. AsksAlone r.kept.settings v ((r.meaning).ty (z.pair).1) ((r.meaning).ty (z.pair).2) p) (sym z.variance)
              (subst₂ (λ t u. AsksAlone r.kept.settings r.ambient t u p) (sym z.left) (sym z.right) asks)),
          l.goals,
        ),
      ),
    )
    read_alone res (combined h) = alone res h
    read_alone res (not_remembered t h is) = subst (StepRegistersAlone r q (q.meaning).ty ((r.meaning).ty x) p) (sym is)
        (alone (Ok (Done t)) h).1.0

  -- Of an error with another type that is recorded, and nothing else.
  errors_combine : (a b : TyKey Key) (res : Result (Step (TyKey Key)) (RelateFault Key Id Name)) →
      IsError ((r.meaning).ty a) ⊎ IsError ((r.meaning).ty b) → TysCombine r q a b res → RecordsError r q × LeavesNoPair res
  errors_combine a b res o (left_error h t is) = ((t.taints, t.goals), subst LeavesNoPair (sym is) tt)
  errors_combine a b res o (right_error n h t is) = ((t.taints, t.goals), subst LeavesNoPair (sym is) tt)
  errors_combine a b res (inl e) (is_deferred z c k i d h is) = absurd (c.0 e)
  errors_combine a b res (inr e) (is_deferred z c k i d h is) = absurd (c.1 e)
  errors_combine a b res (inl e) (left_open c k i h is) = absurd (c.0 e)
  errors_combine a b res (inr e) (left_open c k i h is) = absurd (c.1 e)
  errors_combine a b res (inl e) (not_registered c k h is) = absurd (c.0 e)
  errors_combine a b res (inr e) (not_registered c k h is) = absurd (c.1 e)
  errors_combine a b res (inl e) (not_left c n g h) = absurd (c.0 e)
  errors_combine a b res (inr e) (not_left c n g h) = absurd (c.1 e)

  -- What comes of two types of which none is a variable.
  pub unless_variables : (a b : TyKey Key) → IsNoTyVar ((r.meaning).ty a) → IsNoTyVar ((r.meaning).ty b) →
      (res : Result (Step (TyKey Key)) (RelateFault Key Id Name)) → CombinesShallowTys r q a b res → TysCombine r q a b res
  unless_variables a b n m res (two_variables i j f g h) = absurd (n i f)
  unless_variables a b n m res (left_bound i x f g h o is) = absurd (n i f)
  unless_variables a b n m res (left_asked i x p f g d h is) = absurd (n i f)
  unless_variables a b n m res (left_unasked i x f g h is) = absurd (n i f)
  unless_variables a b n m res (left_refused i x f g h is) = absurd (n i f)
  unless_variables a b n m res (right_bound i x f g h o is) = absurd (m i f)
  unless_variables a b n m res (right_asked i x p f g d h is) = absurd (m i f)
  unless_variables a b n m res (right_unasked i x f g h is) = absurd (m i f)
  unless_variables a b n m res (right_refused i x f g h is) = absurd (m i f)
  unless_variables a b n m res (no_ty_variables f g h) = h

  -- What is said of a step is said of one of a pair as it is read, if it is said of a refused growth: nothing is
  -- remembered, so the pair is not met again.
  read_anew : (x y : TyKey Key) → r.remembered ≡ [] →
      (Combines Says : Result (Step (TyKey Key)) (RelateFault Key Id Name) → Type 0) →
      ((res : Result (Step (TyKey Key)) (RelateFault Key Id Name)) → Combines res → Says res) →
      ((t : TyKey Key) → Says (Ok (Done t)) → Says (Err Memory)) →
      (res : Result (Step (TyKey Key)) (RelateFault Key Id Name)) → StepsRead r q x y Combines res → Says res
  read_anew x y none Combines Says f refused res (met_again z l is) =
      let is_in = subst (λ ps. Contains ps z.pair) none z.is_in in
      let c : is_in.0 < 0 = is_in.1 in absurd (omega (arith, c))
  read_anew x y none Combines Says f refused res (combined h) = f res h
  read_anew x y none Combines Says f refused res (not_remembered t h is) =
      subst Says (sym is) (refused t (f (Ok (Done t)) h))

  steps_error : (M : Manners) (a b : TyKey Key) (res : Result (Step (TyKey Key)) (RelateFault Key Id Name)) →
      (one_has_variable r.meaning a b ≡ false → IsRigid ((r.meaning).ty a) × IsRigid ((r.meaning).ty b)) →
      StepsTys r q a b res → StepsError M r q ((r.meaning).ty a) ((r.meaning).ty b) res
  steps_error M a b res forms (one_type e l is) promised none differ s t x y f g n m o = absurd (differ e)
  steps_error M a b res forms (without_variables u e h) promised none differ s t x y f g n m o =
      let z = forms e in
      let left = reads_once r.store ((r.meaning).ty a) x ((r.meaning).ty a) f.reads (itself refl) f.shallow (formed z.0) in
      let right = reads_once r.store ((r.meaning).ty b) y ((r.meaning).ty b) g.reads (itself refl) g.shallow (formed z.1) in
      read_anew a b none (TysCombine r q a b) (λ p. RecordsError r q × LeavesNoPair p)
      (λ p. errors_combine a b p (subst₂ (λ u w. IsError u ⊎ IsError w) left right o)) (λ z k. (k.0, tt)) res h
  steps_error M a b res forms (resolved_first k l u e f' g' h) promised none differ s t x y f g n m o =
      let left = reads_once r.store ((r.meaning).ty a) x ((r.meaning).ty k) f.reads (f'.reads).reads f.shallow f'.shallow in
      let right = reads_once r.store ((r.meaning).ty b) y ((r.meaning).ty l) g.reads (g'.reads).reads g.shallow g'.shallow in
      read_anew k l none (CombinesShallowTys r q k l) (λ p. RecordsError r q × LeavesNoPair p)
      (λ p c. errors_combine k l p (subst₂ (λ u w. IsError u ⊎ IsError w) left right o)
      (unless_variables k l (subst IsNoTyVar left n) (subst IsNoTyVar right m) p c)) (λ z k. (k.0, tt)) res h

  -- Two over one item are left to be related by their parts.
  items_combine : (a b : TyKey Key) (d : ℕ) (ts us : Tree) → AreOverItem d ((r.meaning).ty a) ((r.meaning).ty b) ts us →
      Extends r.meaning q.meaning → IsTrue (known ((r.meaning).ty a)) → IsTrue (known ((r.meaning).ty b)) →
      (res : Result (Step (TyKey Key)) (RelateFault Key Id Name)) → TysCombine r q a b res →
      LeavesParts (q.meaning).ty ((r.meaning).ty a) ((r.meaning).ty b) res
  items_combine a b d ts us over e ka kb res (left_error h t is) = absurd (error_not_over over (inl h))
  items_combine a b d ts us over e ka kb res (right_error n h t is) = absurd (error_not_over over (inr h))
  items_combine a b d ts us over e ka kb res (is_deferred z c k i p h is) = absurd (alias_not_over over i)
  items_combine a b d ts us over e ka kb res (left_open c k i h is) = absurd (opaque_not_over over i)
  items_combine a b d ts us over e ka kb res (not_registered c k h is) =
      subst (LeavesParts (q.meaning).ty ((r.meaning).ty a) ((r.meaning).ty b)) (sym is) tt
  items_combine a b d ts us over e ka kb res (not_left c n g h) = meets h
    where
      leaves : (x : Result (Step (TyKey Key)) (RelateFault Key Id Name)) → res ≡ x →
          LeavesParts (q.meaning).ty ((r.meaning).ty a) ((r.meaning).ty b) x →
          LeavesParts (q.meaning).ty ((r.meaning).ty a) ((r.meaning).ty b) res
      leaves x is h = subst (LeavesParts (q.meaning).ty ((r.meaning).ty a) ((r.meaning).ty b)) (sym is) h

      meets : MeetsTys r.meaning r.store q.store a b res →
          LeavesParts (q.meaning).ty ((r.meaning).ty a) ((r.meaning).ty b) res
      meets (equated k i j n f g o is) = absurd (left_no_leaf _ over f)
      meets (number_on_left k i f o is) = absurd (left_no_leaf _ over f)
      meets (number_on_right k i f o is) = absurd (right_no_leaf _ over f)
      meets (left_unlike o s is) = leaves _ is tt
      meets (right_unlike o s is) = leaves _ is tt
      meets (ty_variable o s is) = leaves _ is tt
      meets (by_parts n o s is) = leaves _ is (e.ty a ka, e.ty b kb)

  steps_open : (M : Manners) (a b : TyKey Key) (res : Result (Step (TyKey Key)) (RelateFault Key Id Name)) →
      Extends r.meaning q.meaning → IsTrue (known ((r.meaning).ty a)) → IsTrue (known ((r.meaning).ty b)) →
      (one_has_variable r.meaning a b ≡ false → IsRigid ((r.meaning).ty a) × IsRigid ((r.meaning).ty b)) →
      StepsTys r q a b res → StepsOpen M r q (q.meaning).ty ((r.meaning).ty a) ((r.meaning).ty b) res
  steps_open M a b res extends ka kb forms (one_type e l is) promised none differ s t x y f g d ts us over =
      absurd (differ e)
  steps_open M a b res extends ka kb forms (without_variables u e h) promised none differ s t x y f g d ts us over =
      let z = forms e in
      let left = reads_once r.store ((r.meaning).ty a) x ((r.meaning).ty a) f.reads (itself refl) f.shallow (formed z.0) in
      let right = reads_once r.store ((r.meaning).ty b) y ((r.meaning).ty b) g.reads (itself refl) g.shallow (formed z.1) in
      let o = subst₂ (λ u w. AreOverItem d u w ts us) left right over in
      subst₂ (λ u w. LeavesParts (q.meaning).ty u w res) (sym left) (sym right)
      (read_anew a b none (TysCombine r q a b) (LeavesParts (q.meaning).ty ((r.meaning).ty a) ((r.meaning).ty b))
      (items_combine a b d ts us o extends ka kb) (λ z k. tt) res h)
  steps_open M a b res extends ka kb forms (resolved_first k l u e f' g' h) promised none differ s t x y f g d ts us over =
      let left = reads_once r.store ((r.meaning).ty a) x ((r.meaning).ty k) f.reads (f'.reads).reads f.shallow f'.shallow in
      let right = reads_once r.store ((r.meaning).ty b) y ((r.meaning).ty l) g.reads (g'.reads).reads g.shallow g'.shallow in
      let o = subst₂ (λ u w. AreOverItem d u w ts us) left right over in
      subst₂ (λ u w. LeavesParts (q.meaning).ty u w res) (sym left) (sym right)
      (read_anew k l none (CombinesShallowTys r q k l) (LeavesParts (q.meaning).ty ((r.meaning).ty k) ((r.meaning).ty l))
      (λ p c. items_combine k l d ts us o extends (f'.reads).sure (g'.reads).sure p
      (unless_variables k l (λ i e. left_no_leaf _ o e) (λ i e. right_no_leaf _ o e) p c)) (λ z k. tt) res h)

  -- A step of two types registers alone what is asked of them.
  steps_alone : (M : Manners) (a b : TyKey Key) (res : Result (Step (TyKey Key)) (RelateFault Key Id Name)) →
      RemembersRelated M r → Extends r.meaning q.meaning → IsTrue (known ((r.meaning).ty a)) →
      (one_has_variable r.meaning a b ≡ false → IsRigid ((r.meaning).ty a) × IsRigid ((r.meaning).ty b)) →
      StepsTys r q a b res → StepsAlone M r q (q.meaning).ty ((r.meaning).ty a) ((r.meaning).ty b) res
  steps_alone M a b res related extends k forms (one_type e l is) promised differ s t x y p f g asks = absurd (differ e)
  steps_alone M a b res related extends k forms (without_variables n e h) promised differ s t x y p f g asks =
      let z = forms e in
      let left = reads_once r.store ((r.meaning).ty a) x ((r.meaning).ty a) f.reads (itself refl) f.shallow (formed z.0) in
      let right = reads_once r.store ((r.meaning).ty b) y ((r.meaning).ty b) g.reads (itself refl) g.shallow (formed z.1) in
      let asked = subst₂ (λ u w. AsksAlone r.kept.settings r.ambient u w p) left right asks in
      subst (λ w. StepRegistersAlone r q (q.meaning).ty w p res) (sym left)
      (read_alone M promised related a b p asked (TysCombine r q a b) (λ r o. formed_alone r asked o) res h)
    where
      formed_alone : (res : Result (Step (TyKey Key)) (RelateFault Key Id Name)) →
          AsksAlone r.kept.settings r.ambient ((r.meaning).ty a) ((r.meaning).ty b) p → TysCombine r q a b res →
          StepRegistersAlone r q (q.meaning).ty ((r.meaning).ty a) p res
      formed_alone res (of_variables u w d) h = absurd (subst IsRigid u.1 (forms e).0)
      formed_alone res (of_alias l o clean u w d) h = alias_alone a b res extends k p l o clean d h
  steps_alone M a b res related extends k forms (resolved_first l t' n e f' g' h) promised differ s t x y p f g asks =
      let left = reads_once r.store ((r.meaning).ty a) x ((r.meaning).ty l) f.reads (f'.reads).reads f.shallow f'.shallow in
      let right = reads_once r.store ((r.meaning).ty b) y ((r.meaning).ty t') g.reads (g'.reads).reads g.shallow g'.shallow in
      let asked = subst₂ (λ u w. AsksAlone r.kept.settings r.ambient u w p) left right asks in
      subst (λ w. StepRegistersAlone r q (q.meaning).ty w p res) (sym left)
      (read_alone M promised related l t' p asked (CombinesShallowTys r q l t')
      (λ r o. shallow_alone l t' r extends (f'.reads).sure p asked o) res h)

  -- What a step of two types does at once.
  pub steps_at_once : (M : Manners) (a b : TyKey Key) (res : Result (Step (TyKey Key)) (RelateFault Key Id Name)) →
      RemembersRelated M r → Extends r.meaning q.meaning → IsTrue (known ((r.meaning).ty a)) →
      IsTrue (known ((r.meaning).ty b)) →
      (one_has_variable r.meaning a b ≡ false → IsRigid ((r.meaning).ty a) × IsRigid ((r.meaning).ty b)) →
      StepsTys r q a b res → StepsAtOnce M r q (q.meaning).ty ((r.meaning).ty a) ((r.meaning).ty b) res
  steps_at_once M a b res related extends ka kb forms h = (
    steps_alone M a b res related extends ka forms h,
    steps_error M a b res forms h,
    steps_open M a b res extends ka kb forms h,
  )

-- What is registered of open arguments is asked.
pub asks_open : {Key Id Name X : Type 0} (r q : State Key Id Name) (a b : TyKey Key)
    (res : Result X (RelateFault Key Id Name)) → NotedTys r q a b res → AsksOfOver r q a b res →
    TysAskOpen solver_manner r q a b res
asks_open r q a b (Err f) noted registers = λ promised. tt
asks_open r q a b (Ok x) noted registers = λ promised directed d ts us over opens.
    let o = subst (λ st. HasOpenArgument (items_in r) st d ts ⊎ HasOpenArgument (items_in r) st d us) noted.store opens in
    let is = (registers d ts us over).both o in
    let one = goal_of r.kept.environment (well_formed_predicate ((r.meaning).ty a)) in
    let other = goal_of r.kept.environment (well_formed_predicate ((r.meaning).ty b)) in
    let both = one ∷ other ∷ [] in (
      subst (λ gs. Contains gs one) (sym is) (Contains-append_right r.goals both one (0, omega arith, refl)),
      subst (λ gs. Contains gs other) (sym is) (Contains-append_right r.goals both other (1, omega arith, refl)),
    )
