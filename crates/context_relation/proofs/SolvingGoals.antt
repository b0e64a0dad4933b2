-- Registering that of two type variables the one is a subtype of the other, as a step; and a goal as the relation of a
-- context registers it.
use Rattle.std.proofs.Common.{◌≡◌, ℕ, refl, sym, ap, ap₂, subst, true, false, Some, List, [], ◌∷◌, IsTrue, Result, Ok}
use Rattle.std.specs.Result.{IsErr}
use Rattle.std.proofs.lemmas.Bool.{and_from}
use Rattle.std.proofs.lemmas.List.Elements.{All-nil, All-cons, All-head}
use Rattle.std.proofs.lemmas.Option.{same_Some}
use Rattle.term_enums.specs.declared.Variance.{Variance}
use Rattle.term_enums.specs.declared.Variance.TheVariants.{Covariant, Contravariant, Invariant, Bivariant}
use Rattle.relation_terms.specs.declared.terms.goal.Goal.{Goal as KeyedGoal}
use Rattle.relation_terms.specs.declared.terms.keys.ParamEnvKey.{ParamEnvKey}
use Rattle.relation_terms.specs.declared.terms.keys.PredicateKey.{PredicateKey}
use Rattle.relation_terms.specs.Heads.{type_var, variable}
use Rattle.relation_terms.specs.Trees.{Tree, leaf, cons, nil, Assign, apply, known}
use Rattle.relation_semantics.specs.declared.relate.Step.TheVariants.{Done}
use Rattle.term_enums.specs.declared.StructurallyRelateAliases.{StructurallyRelateAliases}
use Rattle.relation_semantics.specs.AskedAlone.{subtype_at}
use Rattle.relation_semantics.specs.ContextCalls.{Grows}
use Rattle.relation_semantics.specs.Contexts.{Context}
use Rattle.relation_semantics.specs.Goals.{Goal, goal_of, subtype_predicate, IsOpen, IsDirected, IsRegistered, of_variables, Holds, MakesOneTree}
use Rattle.relation_semantics.specs.Alphabets.{IsPredicateOf}
use Rattle.relation_semantics.specs.Lawful.{State, Pair, Stepped, MayAnswer, items_in}
use Rattle.relation_semantics.specs.Outcomes.{Outcome}
use Rattle.relation_semantics.specs.Parts.{IsRigid}
use Rattle.relation_semantics.specs.Relation.{Interpretation, Rel, at}
use Rattle.relation_semantics.specs.Stores.{MayStandFor}
use Rattle.relation_semantics.proofs.AgreeingBefore.{root_agreed}
use Rattle.relation_semantics.proofs.Answering.{may_itself}
use Rattle.relation_semantics.proofs.Going.{later_itself}
use Rattle.relation_semantics.proofs.Registered.{registered_in}
use Rattle.relation_goals.specs.Emitting.{IsOver, AddsGoals, RegistersGoal, goals_in}
use Rattle.relation_combining.specs.Solving.{KnowsGoals, solving_through, solver_manner}
use Rattle.relation_combining.proofs.GoalPasses.{goal_in}
use Rattle.relation_combining.proofs.DeferringSteps.{goal_step}
use Rattle.relation_combining.proofs.Registering.{none_registered, one_registered, same_later}
use Rattle.context_relation.proofs.Solving.{solver_with}
use Rattle.relation_combining.proofs.Turning.{turned}
use Rattle.relation_folds.proofs.Lists.{All_back}

-- What holds of that a tree is a subtype of another, at covariance, and of that the other is one of it, at
-- contravariance, holds of what is asked of both.
pub subtype_asked : (P : Variance → Tree → Type 0) (a b : Tree) → P Covariant (subtype_predicate true a b) →
    P Contravariant (subtype_predicate false b a) → (v : Variance) (p : Tree) → subtype_at v a b ≡ Some p → P v p
subtype_asked P a b f g Covariant p e = subst (P Covariant) (same_Some (subtype_predicate true a b) p e) f
subtype_asked P a b f g Contravariant p e = subst (P Contravariant) (same_Some (subtype_predicate false b a) p e) g
subtype_asked P a b f g Invariant p e = absurd cc
subtype_asked P a b f g Bivariant p e = absurd cc

pub subtype_known : (v : Variance) (a b p : Tree) → subtype_at v a b ≡ Some p → IsTrue (known a) → IsTrue (known b) →
    IsTrue (known p)
subtype_known v a b p e h k = subtype_asked (λ v p. IsTrue (known p)) a b
    (and_from (known a) (known (cons b nil)) h (and_from (known b) true k refl))
    (and_from (known b) (known (cons a nil)) k (and_from (known a) true h refl)) v p e

pub directed_asks : (v : Variance) (a b : Tree) → IsDirected v → (p : Tree) × (subtype_at v a b ≡ Some p)
directed_asks Covariant a b d = (subtype_predicate true a b, refl)
directed_asks Contravariant a b d = (subtype_predicate false b a, refl)
directed_asks Invariant a b d = absurd d
directed_asks Bivariant a b d = absurd d

pub subtype_directed : (v : Variance) (a b p : Tree) → subtype_at v a b ≡ Some p → IsDirected v
subtype_directed v a b p e = subtype_asked (λ v p. IsDirected v) a b tt tt v p e

module _ {Key Id Name A E : Type 0} {r q : State Key Id Name} {x : A} (i k : ℕ) (a b p : Tree)
    (a_is : a ≡ leaf (variable type_var i)) (b_is : b ≡ leaf (variable type_var k)) (i_open : IsOpen r.store r.store i)
    (k_open : IsOpen r.store r.store k) (asks : subtype_at r.ambient a b ≡ Some p)
    (h : RegistersGoal {F = E} r q p (Ok x)) where
  in_order : IsRegistered (items_in r) r.kept.settings r.ambient r.store r.store p
  in_order = subtype_asked (λ v p. IsRegistered (items_in r) r.kept.settings v r.store r.store p) a b
      (of_variables true i k tt (ap₂ (subtype_predicate true) a_is b_is) i_open k_open)
      (of_variables false k i tt (ap₂ (subtype_predicate false) b_is a_is) k_open i_open) r.ambient p asks

  abbrev goal : Goal
  goal = goal_of r.kept.environment p

  holds : (w : Interpretation) (s : Assign) → Holds (items_in r) w s goal →
      Rel (items_in r) w r.kept.environment (at r.ambient) (apply s a) (apply s b)
  holds w s = subtype_asked (λ v p. Holds (items_in r) w s (goal_of r.kept.environment p) →
      Rel (items_in r) w r.kept.environment (at v) (apply s a) (apply s b)) a b (λ o. o) (λ o. turned o) r.ambient p asks

  equal : (s : Assign) → apply s a ≡ apply s b → MakesOneTree s goal
  equal s one = subtype_asked (λ v p. MakesOneTree s (goal_of r.kept.environment p)) a b one (sym one) r.ambient p asks

  outcome : Outcome (items_in r) r.kept.environment (at r.ambient) r.store r.store r.goals (goal ∷ []) a b
  outcome = record {
    later = later_itself r.store;
    goals_in = registered_in (goal ∷ []) (goal_in p h in_order);
    relates = λ w s sat all. holds w s
        (All-head (Holds (items_in r) w s) goal [] (All_back (Holds (items_in r) w s) r.goals (goal ∷ []) all));
    keeps = λ w s sat one. (
      s,
      (λ l n o. refl),
      (sat, All-cons (MakesOneTree s) goal [] (equal s one) (All-nil (MakesOneTree s))),
    );
  }

  -- The goal relates the two at the variance, and where they are one, its sides are.
  pub subtype_step : {K : Type 0} (tree : K → Tree) (t : K) → tree t ≡ a → IsTrue (known a) →
      Stepped solver_manner IsRigid r q a b tree (Ok (Done t))
  subtype_step tree t answer sure = goal_step IsRigid a b tree p h in_order outcome t
      (subst (MayAnswer solver_manner q r.ambient a) (sym answer) (may_itself solver_manner q r.ambient a))
      (subst (λ z. IsTrue (known z)) (sym answer) sure)
      (λ st began. root_agreed st r.store began.sound began.later r.kept.settings (items_in r) r.ambient type_var i a b
      i_open.1 a_is (subst (MayStandFor type_var) (sym b_is) tt))
      (λ is pair. absurd (subst IsDirected is (subtype_directed r.ambient a b p asks)))
      (λ alphabet ha hb. subtype_asked (λ v p. IsPredicateOf alphabet p) a b (ha, (hb, tt)) (hb, (ha, tt)) r.ambient p asks)

-- The relation of a context registers a predicate that it has made; or it could not make it.
module _ {Key Id Name : Type 0} (aliases : StructurallyRelateAliases) (j : ℕ) (ps : List (Pair Key))
    (gs : List (KeyedGoal Key (PredicateKey Key))) (c d : Context Key Id Name) (grows : Grows c d)
    (stays : d.store ≡ c.store) (v : Variance) (e : ParamEnvKey Key) (env : KnowsGoals c.meaning e gs) where
  over_itself : IsOver (solving_through aliases j ps gs c v e) c
  over_itself = record {
    meaning = refl;
    store = refl;
    solver = refl;
    coherence = refl;
    mode = refl;
    outliving = refl;
    lawful = λ l. l.0.0;
  }

  pub goal_not_made : {A F : Type 0} (t : Tree) (res : Result A F) → IsErr res →
      RegistersGoal (solving_through aliases j ps gs c v e) (solving_through aliases j ps gs d v e) t res
  goal_not_made t res h =
      none_registered over_itself (solver_with aliases j ps gs c d grows (same_later c d stays) v e env) grows.extends stays t res h

  pub goal_made : {A F : Type 0} {q : State Key Id Name} (p : PredicateKey Key) (t : Tree) →
      (d.meaning).predicate p ≡ t → (res : Result A F) →
      AddsGoals (solving_through aliases j ps gs d v e) q (goals_in (solving_through aliases j ps gs d v e) (p ∷ [])) res →
      RegistersGoal (solving_through aliases j ps gs c v e) q t res
  goal_made p t means res h =
      one_registered over_itself (solver_with aliases j ps gs c d grows (same_later c d stays) v e env) grows.extends stays p t means res h
