-- A pair that is left to a goal, or in which an error stands, as a step of a relation.
use Rattle.std.proofs.Common.{◌≡◌, ◌⊎◌, ℕ, Some, None, ◌+◌, refl, sym, ap, ◌∙◌, inl, inr, subst, arith, [], ◌∷◌, IsTrue, false, length, get_or, Ok, Err}
use Rattle.std.proofs.lemmas.Bool.{false≢true}
use Rattle.std.proofs.lemmas.List.{append-nil}
use Rattle.std.proofs.lemmas.List.Elements.{All-nil, All-cons}
use Rattle.term_enums.specs.declared.AliasRelationDirection.TheVariants.{Equate}
use Rattle.term_enums.specs.declared.Variance.TheVariants.{Invariant}
use Rattle.relation_terms.specs.declared.terms.keys.TyKey.{TyKey}
use Rattle.relation_terms.specs.declared.terms.keys.ConstKey.{ConstKey}
use Rattle.relation_terms.specs.Heads.{type_sort, const_sort, type_var, const_var, alias, opaque_alias, type_error, const_error, atom}
use Rattle.relation_terms.specs.Trees.{Tree, leaf, node, known, IsTerm}
use Rattle.relation_terms.specs.Meaning.{Extends}
use Rattle.relation_terms.proofs.Stays.{stays_same}
use Rattle.relation_folds.specs.declared.error.RelateFault.TheVariants.{Memory}
use Rattle.relation_semantics.specs.declared.relate.Step.TheVariants.{Done}
use Rattle.relation_semantics.specs.AliasGoals.{alias_at}
use Rattle.relation_semantics.specs.Errors.{IsOpaque, IsOpaqueBeside}
use Rattle.relation_semantics.specs.Goals.{goal_of, IsRegistered, of_alias, of_too_much, alias_relate_predicate, ambiguous_predicate}
use Rattle.relation_semantics.specs.Headline.{IsFirstOrderPair}
use Rattle.relation_semantics.specs.Alphabets.{Alphabet, IsBuiltOf, IsPredicateOf, IsGoalOf, HasOpaque, HasNoError, Builds}
use Rattle.relation_semantics.specs.Lawful.{State, Passes, Stepped, MayAnswer, RegisteredIn, BeganWith, AgreesIn, items_in}
use Rattle.relation_semantics.specs.Outcomes.{Outcome}
use Rattle.relation_semantics.specs.Parts.{IsRigid, IsFormedConst}
use Rattle.relation_semantics.specs.Relation.{at, sort_of, IsError, IsAlias}
use Rattle.relation_semantics.specs.Settings.{DefersAliases, LeavesOpaque}
use Rattle.relation_semantics.specs.OneUniverse.{BindsNoMore}
use Rattle.relation_semantics.specs.Steps.{BindsNoBinder}
use Rattle.relation_semantics.specs.Stores.{Store, IsSound, InContext, unbound, weight}
use Rattle.relation_semantics.proofs.AgreeingBefore.{left_agreed}
use Rattle.relation_semantics.proofs.Beginning.{begins_by}
use Rattle.relation_semantics.proofs.AliasOutcomes.{errors_relate, alias_goals_relate, alias_goals_relate_consts, ambiguous_relates}
use Rattle.relation_semantics.proofs.Answering.{may_itself}
use Rattle.relation_semantics.proofs.Full.{full_same, full_by}
use Rattle.relation_semantics.proofs.Going.{goes_within}
use Rattle.relation_semantics.proofs.Keeping.{one_same, unified_same}
use Rattle.relation_semantics.proofs.OneUniverse.{binds_itself}
use Rattle.relation_semantics.proofs.Passing.{relates_by}
use Rattle.relation_semantics.proofs.Registered.{alias_registered, alias_built}
use Rattle.relation_semantics.proofs.Standing.{term_context, term_sort_of}
use Rattle.relation_combining.specs.Combining.{TaintsAlone, KeepsKept}
use Rattle.relation_goals.specs.Emitting.{RegistersGoal}
use Rattle.relation_steps.specs.Keyed.{SteppedTys, SteppedConsts}
use Rattle.relation_steps.specs.Terms.{AskedTerms}
use Rattle.relation_combining.specs.Solving.{solver_manner}
use Rattle.relation_semantics.proofs.Deferring.{opaque_is_alias, beside_is_opaque}
use Rattle.relation_combining.proofs.GoalPasses.{goal_passes, no_goal_passes, begins_asking}
use Rattle.relation_combining.proofs.OpeningBoth.{changes_goes}
use Rattle.relation_semantics.proofs.Erased.{alias_not_first, error_not_first}
use Rattle.relation_semantics.proofs.BuildingSteps.{builds_asking, built_same, builds_tainted}
use Rattle.relation_steps.proofs.Errors.{error_agreed}

error_in_alphabet : (k : Alphabet) (t : Tree) → IsError t → IsBuiltOf k t → HasNoError k → ⊥
error_in_alphabet k (leaf (atom type_error)) e h n = false≢true (sym n.0 ∙ h)
error_in_alphabet k (leaf (atom const_error)) e h n = false≢true (sym n.1 ∙ h)
error_in_alphabet k (leaf (atom x)) e h n = e
error_in_alphabet k t e h n = e

module _ {Key Id Name K : Type 0} (F : Tree → Type 0) {r q : State Key Id Name} (a b : Tree) (tree : K → Tree) where
  -- One goal was registered.
  module _ (p : Tree) {A E : Type 0} {x : A} (h : RegistersGoal {F = E} r q p (Ok x))
      (asks : IsRegistered (items_in r) r.kept.settings r.ambient r.store r.store p) where
    -- It relates the two, and the answer is one that it does.
    pub goal_step : Outcome (items_in r) r.kept.environment (at r.ambient) r.store r.store r.goals (goal_of r.kept.environment p ∷ []) a b →
        (t : K) → MayAnswer solver_manner q r.ambient a (tree t) → IsTrue (known (tree t)) →
        ((st : Store) → BeganWith r st → AgreesIn r st (at r.ambient) a b) →
        (r.ambient ≡ Invariant → IsFirstOrderPair r.store a b → ⊥) →
        ((k : Alphabet) → IsBuiltOf k a → IsBuiltOf k b → IsPredicateOf k p) →
        Stepped solver_manner F r q a b tree (Ok (Done t))
    unfolding goal_passes
    goal_step outcome t answer sure agreeing not_first built = record {
      passes = goal_passes p h asks (weight r.store a + weight r.store b);
      verdict = record {
        outcome = subst (λ st. Outcome (items_in r) r.kept.environment (at r.ambient) r.store st r.goals (goal_of r.kept.environment p ∷ []) a b)
            (sym h.store) outcome;
        answer = answer;
        known = sure;
        agrees = λ z st began. (agreeing st began, begins_asking p h st began);
      };
      exact = λ z is pair. absurd (not_first is pair);
      full = λ ha hb. full_same h.store;
      built = λ k ha hb all. subst (λ st. Builds k r.store st (goal_of r.kept.environment p ∷ [])) (sym h.store)
          (builds_asking k r.store (goal_of r.kept.environment p ∷ [])
          (All-cons (IsGoalOf k) (goal_of r.kept.environment p) [] (built k ha hb) (All-nil (IsGoalOf k))) all);
    }

  -- Or it was not.
  pub goal_refused : (p : Tree) {A E : Type 0} {e : E} → RegistersGoal {A = A} r q p (Err e) →
      Stepped solver_manner F r q a b tree (Err Memory)
  unfolding no_goal_passes
  goal_refused p h = record {
    passes = no_goal_passes p h (weight r.store a + weight r.store b);
    verdict = one_same (at r.ambient) a b h.store;
    exact = λ z is pair. (
      subst (λ st. BindsNoMore r.store st a b) (sym h.store) (binds_itself r.store a b),
      unified_same a b h.store,
    );
    full = λ ha hb. full_same h.store;
    built = built_same a b h.store;
  }

  -- An error was met.
  module _ (h : TaintsAlone r q) (k : KeepsKept r q) (sound : IsSound r.store) where
    unfoldable taint_passes : (n : ℕ) → Passes n r q
    taint_passes n = record {
      extends = subst (Extends r.meaning) (sym h.meaning) (stays_same r.meaning);
      goes = goes_within (omega arith) (changes_goes r.store q.store (h.taints).nothing_else);
      added = [];
      lengthens = h.goals ∙ sym (append-nil r.goals);
      goals_in = All-nil (RegisteredIn r q.store);
      kept = k.kept;
      ambient = k.ambient;
      lawful = k.lawful;
    }

    module _ (a_in : InContext r.store a) (b_in : InContext r.store b) (sa : IsTerm type_sort a) (sb : IsTerm type_sort b)
        (same : sort_of a ≡ sort_of b) (one : IsError a ⊎ IsError b) where
      outcome : Outcome (items_in r) r.kept.environment (at r.ambient) r.store q.store r.goals [] a b
      outcome = errors_relate (items_in r) r.kept.environment r.ambient r.store q.store r.goals a b h.taints a_in b_in sa sb
          one

      not_first : IsError a ⊎ IsError b → IsFirstOrderPair r.store a b → ⊥
      not_first (inl e) pair = error_not_first a e pair.left
      not_first (inr e) pair = error_not_first b e pair.right

      in_alphabet : (k : Alphabet) → IsError a ⊎ IsError b → IsBuiltOf k a → IsBuiltOf k b → HasNoError k → ⊥
      in_alphabet k (inl e) ha hb n = error_in_alphabet k a e ha n
      in_alphabet k (inr e) ha hb n = error_in_alphabet k b e hb n

      still_plain : BindsNoBinder r.store → BindsNoBinder q.store
      still_plain all j n t e = all j n t (sym (ap (λ es. get_or es n unbound) ((h.taints).nothing_else.same_entries j)) ∙ e)

      taint_step : (t : K) → MayAnswer solver_manner q r.ambient a (tree t) → IsTrue (known (tree t)) →
          Stepped solver_manner F r q a b tree (Ok (Done t))
      unfolding taint_passes
      taint_step t answer sure = record {
        passes = taint_passes (weight r.store a + weight r.store b);
        verdict = record {
          outcome = outcome;
          answer = answer;
          known = sure;
          agrees = λ z st began. (
            error_agreed r.kept.settings (items_in r) st began.sound r.ambient a b one same,
            begins_by r q (subst (Extends r.meaning) (sym h.meaning) (stays_same r.meaning))
                (changes_goes r.store q.store (h.taints).nothing_else).later k.kept k.remembered st began,
          );
        };
        exact = λ z is pair. absurd (not_first one pair);
        full = λ ha hb. full_by (changes_goes r.store q.store (h.taints).nothing_else)
            (λ j. ap length ((h.taints).nothing_else.same_entries j)) still_plain;
        built = λ j ha hb all. builds_tainted j h.taints (in_alphabet j one ha hb) all;
      }

      -- The answer is the error.
      pub left_tainted : (t : K) → tree t ≡ a → IsTrue (known a) → Stepped solver_manner F r q a b tree (Ok (Done t))
      left_tainted t e sure = taint_step t
          (subst (MayAnswer solver_manner q r.ambient a) (sym e) (may_itself solver_manner q r.ambient a))
          (subst (λ z. IsTrue (known z)) (sym e) sure)

      pub right_tainted : (t : K) → tree t ≡ b → IsTrue (known b) → Stepped solver_manner F r q a b tree (Ok (Done t))
      unfolding taint_passes
      right_tainted t e sure = taint_step t
          (subst (MayAnswer solver_manner q r.ambient a) (sym e)
          (record { related = relates_by r.ambient a b (taint_passes 0) outcome }))
          (subst (λ z. IsTrue (known z)) (sym e) sure)

-- An opaque type is of a alphabet with such, and no first-order term.
opaque_in_alphabet : (k : Alphabet) (t : Tree) → IsOpaque t → IsBuiltOf k t → HasOpaque k
opaque_in_alphabet k (node (alias opaque_alias d) ts) o h = (d, h.0)
opaque_in_alphabet k t o h = absurd o

-- Two that are left to a goal are no first-order terms.
pub one_not_first : {st : Store} (a b : Tree) → IsAlias a ⊎ IsAlias b → IsFirstOrderPair st a b → ⊥
one_not_first a b (inl o) pair = alias_not_first a o pair.left
one_not_first a b (inr o) pair = alias_not_first b o pair.right

one_opaque : (a b : Tree) → IsOpaqueBeside a b ⊎ IsOpaqueBeside b a → IsOpaque a ⊎ IsOpaque b
one_opaque a b (inl o) = inl (beside_is_opaque a b o)
one_opaque a b (inr o) = inr (beside_is_opaque b a o)

-- Two types, or two constants, of which one goal was registered, as they are left to it.
module _ {Key Id Name A E : Type 0} {r q : State Key Id Name} {x : A} (p : Tree) (h : RegistersGoal {F = E} r q p (Ok x)) where
  module _ (a b : TyKey Key) (asked : AskedTerms solver_manner None (λ m. m.ty) r a b)
      (sa : IsTerm type_sort ((r.meaning).ty a)) (sb : IsTerm type_sort ((r.meaning).ty b)) where
    abbrev ta : Tree
    ta = (r.meaning).ty a

    abbrev tb : Tree
    tb = (r.meaning).ty b

    a_stays : (q.meaning).ty a ≡ ta
    a_stays = (h.extends).ty a asked.left_known

    one_sort : sort_of ta ≡ sort_of tb
    one_sort = term_sort_of type_var ta sa ∙ sym (term_sort_of type_var tb sb)

    answers_left : MayAnswer solver_manner q r.ambient ta ((q.meaning).ty a)
    answers_left = subst (MayAnswer solver_manner q r.ambient ta) (sym a_stays) (may_itself solver_manner q r.ambient ta)

    left_sure : IsTrue (known ((q.meaning).ty a))
    left_sure = subst (λ z. IsTrue (known z)) (sym a_stays) asked.left_known

    -- What the variance asks of an alias and another type.
    pub tys_to_goal : DefersAliases r.kept.settings → IsAlias ta ⊎ IsAlias tb → alias_at r.ambient ta tb ≡ Some p →
        SteppedTys solver_manner r q a b (Ok (Done a))
    tys_to_goal l o e = goal_step IsRigid ta tb (q.meaning).ty p h
        (alias_registered (items_in r) r.kept.settings r.ambient r.store r.store ta tb p l.1 e o a_context b_context)
        (alias_goals_relate (items_in r) r.kept.environment r.ambient r.store r.goals ta tb p a_context b_context sa sb e)
        a answers_left left_sure (λ st began. left_agreed st began.sound r.kept.settings (items_in r) r.ambient ta tb
        (inl (l, o)) one_sort) (λ z. one_not_first ta tb o) (λ k ha hb. alias_built k r.ambient ta tb p e ha hb)
      where
        a_context : InContext r.store ta
        a_context = term_context r.store ta asked.left_in

        b_context : InContext r.store tb
        b_context = term_context r.store tb asked.right_in

    -- That too much was met.
    pub tys_left_open : LeavesOpaque r.kept.settings → IsOpaqueBeside ta tb ⊎ IsOpaqueBeside tb ta → p ≡ ambiguous_predicate →
        SteppedTys solver_manner r q a b (Ok (Done a))
    tys_left_open l o e = goal_step IsRigid ta tb (q.meaning).ty p h (of_too_much l e)
        (subst (λ z. Outcome (items_in r) r.kept.environment (at r.ambient) r.store r.store r.goals
        (goal_of r.kept.environment z ∷ []) ta tb) (sym e)
        (ambiguous_relates (items_in r) r.kept.environment r.ambient r.store r.goals ta tb)) a answers_left left_sure
        (λ st began. left_agreed st began.sound r.kept.settings (items_in r) r.ambient ta tb (inr (l, o)) one_sort)
        (λ z. one_not_first ta tb (one_alias (one_opaque ta tb o)))
        (λ k ha hb. subst (IsPredicateOf k) (sym e) (alphabet k ha hb (one_opaque ta tb o)))
      where
        one_alias : IsOpaque ta ⊎ IsOpaque tb → IsAlias ta ⊎ IsAlias tb
        one_alias (inl d) = inl (opaque_is_alias ta d)
        one_alias (inr d) = inr (opaque_is_alias tb d)

        alphabet : (k : Alphabet) → IsBuiltOf k ta → IsBuiltOf k tb → IsOpaque ta ⊎ IsOpaque tb → HasOpaque k
        alphabet k ha hb (inl d) = opaque_in_alphabet k ta d ha
        alphabet k ha hb (inr d) = opaque_in_alphabet k tb d hb

  -- That an unevaluated constant and another one are one: the right one is the answer.
  pub consts_to_goal : (a b : ConstKey Key) → AskedTerms solver_manner None (λ m. m.const_) r a b →
      IsTerm const_sort ((r.meaning).const_ a) → IsTerm const_sort ((r.meaning).const_ b) →
      DefersAliases r.kept.settings → IsAlias ((r.meaning).const_ a) ⊎ IsAlias ((r.meaning).const_ b) →
      p ≡ alias_relate_predicate Equate ((r.meaning).const_ a) ((r.meaning).const_ b) →
      SteppedConsts solver_manner r q a b (Ok (Done b))
  unfolding goal_passes
  consts_to_goal a b asked sa sb l o e = goal_step IsFormedConst ta tb (q.meaning).const_ p h asks relates b
      (subst (MayAnswer solver_manner q r.ambient ta) (sym b_stays) (record {
        related = relates_by r.ambient ta tb (goal_passes p h asks 0) (subst (λ st. Outcome (items_in r) r.kept.environment
            (at r.ambient) r.store st r.goals (goal_of r.kept.environment p ∷ []) ta tb) (sym h.store) relates);
      })) (subst (λ z. IsTrue (known z)) (sym b_stays) asked.right_known)
      (λ st began. left_agreed st began.sound r.kept.settings (items_in r) r.ambient ta tb (inl (l, o)) one_sort)
      (λ z. one_not_first ta tb o)
      (λ k ha hb. subst (IsPredicateOf k) (sym e) (ha, (hb, tt)))
    where
      ta : Tree
      ta = (r.meaning).const_ a

      tb : Tree
      tb = (r.meaning).const_ b

      b_stays : (q.meaning).const_ b ≡ tb
      b_stays = (h.extends).const_ b asked.right_known

      one_sort : sort_of ta ≡ sort_of tb
      one_sort = term_sort_of const_var ta sa ∙ sym (term_sort_of const_var tb sb)

      asks : IsRegistered (items_in r) r.kept.settings r.ambient r.store r.store p
      asks = of_alias Equate ta tb l.1 e o (inl refl) (term_context r.store ta asked.left_in)
          (term_context r.store tb asked.right_in)

      relates : Outcome (items_in r) r.kept.environment (at r.ambient) r.store r.store r.goals
          (goal_of r.kept.environment p ∷ []) ta tb
      relates = subst (λ z. Outcome (items_in r) r.kept.environment (at r.ambient) r.store r.store r.goals
          (goal_of r.kept.environment z ∷ []) ta tb) (sym e) (alias_goals_relate_consts (items_in r) r.kept.environment
          r.ambient r.store r.goals ta tb (term_context r.store ta asked.left_in) (term_context r.store tb asked.right_in)
          sa sb)
