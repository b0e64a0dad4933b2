-- Goals that the relation of a context registers by the slice.
use Rattle.std.proofs.Common.{◌≡◌, refl, sym, ap, ◌∙◌, subst, List, [], ◌∷◌, ◌++◌, All, IsTrue, map, Result, Ok, Err}
use Rattle.std.specs.Result.{IsErr}
use Rattle.std.proofs.lemmas.Bool.{false≢true}
use Rattle.std.proofs.lemmas.List.Elements.{All-nil, All-cons, All-head, All-tail, All-append}
use Rattle.std.proofs.lemmas.List.{map-append}
use Rattle.term_enums.specs.declared.Variance.{Variance}
use Rattle.relation_terms.specs.declared.terms.goal.Goal.{Goal as KeyedGoal}
use Rattle.relation_terms.specs.declared.terms.keys.ParamEnvKey.{ParamEnvKey}
use Rattle.relation_terms.specs.declared.terms.keys.PredicateKey.{PredicateKey}
use Rattle.relation_terms.specs.Trees.{known}
use Rattle.relation_terms.specs.Meaning.{Meaning}
use Rattle.relation_goals.specs.Emitting.{AddsGoals, KnowsPredicate}
use Rattle.relation_semantics.specs.Goals.{Goal, goal_of, goals_of, KnowsGoal}
use Rattle.relation_combining.specs.Solving.{Held, HeldRelated, solving}
use Rattle.relation_semantics.specs.Stores.{Store}
use Rattle.relation_terms.proofs.Stays.{stays_same}
use Rattle.relation_semantics.proofs.Going.{later_itself}
use Rattle.context_relation.proofs.Solving.{held_related}

module _ {Key Id Name : Type 0} (m : Meaning Key Id Name) where
  -- Goals were put behind those that there were.
  pub goals_added : {A F : Type 0} (j : Held Key) (gs hs xs : List (KeyedGoal Key (PredicateKey Key))) (st : Store) (L : Type 0)
      (v : Variance) (e : ParamEnvKey Key) → hs ≡ gs ++ xs → All (KnowsGoal m) xs → (x : A) →
      AddsGoals {F = F} (solving j gs m st L v e) (solving j hs m st L v e) (goals_of m xs) (Ok x)
  goals_added j gs hs xs st L v e pushed sure x = record {
    meaning = refl;
    store = refl;
    goals = lengthens;
    kept = refl;
    ambient = refl;
    remembered = refl;
    lawful = λ l. (
      (l.0.0, held_related {j = j} {j' = j} refl gs (stays_same m) st st (later_itself st) e l.1 hs (goals_of m xs) lengthens l.0.1),
      (l.1.0, subst (All (KnowsGoal m)) (sym pushed) (All-append (KnowsGoal m) gs xs l.1.1 sure)),
    );
  }
    where
      lengthens : goals_of m hs ≡ goals_of m gs ++ goals_of m xs
      lengthens = ap (goals_of m) pushed
          ∙ map-append (λ g. goal_of (m.param_env g.param_env) (m.predicate g.predicate)) gs xs

  -- One was, of a known predicate.
  pub goal_added : {A F : Type 0} (j : Held Key) (gs hs : List (KeyedGoal Key (PredicateKey Key))) (st : Store) (L : Type 0)
      (v : Variance) (e : ParamEnvKey Key) (p : PredicateKey Key) → hs ≡ gs ++ record { param_env = e; predicate = p } ∷ [] →
      IsTrue (known (m.param_env e)) → KnowsPredicate m p → (x : A) →
      AddsGoals {F = F} (solving j gs m st L v e) (solving j hs m st L v e) (goal_of (m.param_env e) (m.predicate p) ∷ []) (Ok x)
  goal_added j gs hs st L v e p pushed env sure x = goals_added j gs hs (record { param_env = e; predicate = p } ∷ []) st L v e
      pushed (All-cons (KnowsGoal m) (record { param_env = e; predicate = p }) [] (env, sure) (All-nil (KnowsGoal m))) x

  -- None was, since a growth was refused.
  pub none_added : {A F : Type 0} (j : Held Key) (gs hs : List (KeyedGoal Key (PredicateKey Key))) (st : Store) (L : Type 0)
      (v : Variance) (e : ParamEnvKey Key) → hs ≡ gs → (added : List Goal) (res : Result A F) → IsErr res →
      AddsGoals (solving j gs m st L v e) (solving j hs m st L v e) added res
  none_added j gs hs st L v e same added (Ok x) h = absurd (false≢true h)
  none_added j gs hs st L v e same added (Err f) h = record {
    meaning = refl;
    store = refl;
    goals = ap (goals_of m) same;
    kept = refl;
    ambient = refl;
    remembered = refl;
    lawful = λ l. (
      (l.0.0, subst (λ gs. HeldRelated j m st gs e) (sym same) l.0.1),
      (l.1.0, subst (All (KnowsGoal m)) (sym same) l.1.1),
    );
  }

  -- The goals of known predicates in a known environment.
  pub known_goals : (e : ParamEnvKey Key) → IsTrue (known (m.param_env e)) → (ps : List (PredicateKey Key)) →
      All (KnowsPredicate m) ps → All (KnowsGoal m) (map (λ p. record { param_env = e; predicate = p }) ps)
  known_goals e k [] h = All-nil (KnowsGoal m)
  known_goals e k (p ∷ ps) h = All-cons (KnowsGoal m) (record { param_env = e; predicate = p })
      (map (λ p. record { param_env = e; predicate = p }) ps) (k, All-head (KnowsPredicate m) p ps h)
      (known_goals e k ps (All-tail (KnowsPredicate m) p ps h))

  pub goals_mean : (e : ParamEnvKey Key) (ps : List (PredicateKey Key)) →
      goals_of m (map (λ p. record { param_env = e; predicate = p }) ps)
      ≡ map (λ p. goal_of (m.param_env e) (m.predicate p)) ps
  goals_mean e [] = refl
  goals_mean e (p ∷ ps) = ap (λ gs. goal_of (m.param_env e) (m.predicate p) ∷ gs) (goals_mean e ps)
