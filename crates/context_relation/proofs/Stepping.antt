-- The cases of each step of the relation of a context.
use Rattle.std.proofs.Common.{◌≡◌, ◌≢◌, ℕ, refl, sym, ap, ◌∙◌, subst, List, [], ◌∷◌, ◌++◌}
use Rattle.std.proofs.Common.{Option, Some, None, Result, Ok, Err}
use Rattle.std.proofs.lemmas.Option.{same_Some}
use Rattle.term_enums.specs.declared.Variance.{Variance}
use Rattle.term_enums.specs.declared.Variance.TheVariants.{Covariant, Contravariant, Invariant}
use Rattle.term_enums.specs.declared.Variance.TheVariants.{Bivariant}
use Rattle.relation_terms.specs.declared.terms.goal.Goal.{Goal as KeyedGoal}
use Rattle.relation_terms.specs.declared.terms.keys.TyKey.{TyKey}
use Rattle.relation_terms.specs.declared.terms.keys.RegionKey.{RegionKey}
use Rattle.relation_terms.specs.declared.terms.keys.ParamEnvKey.{ParamEnvKey}
use Rattle.relation_terms.specs.declared.terms.keys.PredicateKey.{PredicateKey}
use Rattle.relation_terms.specs.Heads.{BoundKind}
use Rattle.relation_terms.specs.Trees.{Tree}
use Rattle.relation_terms.specs.Meaning.{under}
use Rattle.relation_folds.specs.declared.error.RelateFault.{RelateFault}
use Rattle.relation_folds.specs.declared.error.RelateFault.TheVariants.{Memory}
use Rattle.relation_semantics.specs.declared.relate.Step.{Step}
use Rattle.relation_semantics.specs.declared.relate.Step.TheVariants.{Done}
use Rattle.term_enums.specs.declared.StructurallyRelateAliases.{StructurallyRelateAliases}
use Rattle.relation_semantics.specs.Binders.{OpensFrom}
use Rattle.relation_semantics.specs.Contexts.{Context}
use Rattle.relation_semantics.specs.Goals.{goal_of, IsDirected}
use Rattle.relation_semantics.specs.Lawful.{State, Pair}
use Rattle.relation_combining.specs.Combining.{RegistersOne, seen}
use Rattle.relation_semantics.specs.AskedAlone.{subtype_at}
use Rattle.relation_goals.specs.Emitting.{AddsAsked, RegistersGoal}
use Rattle.relation_combining.specs.Solving.{solving_through}
use Rattle.context_relation.specs.Stepping.{LeavesAll, CombinesTyVars, goal_refused, left_subtype, right_subtype, StepsRegions}
use Rattle.context_relation.specs.Stepping.{left_outlives, right_outlives, both_outlive}

pub directed_decides : {v : Variance} → v ≢ Invariant → v ≢ Bivariant → IsDirected v
directed_decides {v} h g = go v refl
  where
    go : (w : Variance) → v ≡ w → IsDirected w
    go Covariant is = tt
    go Contravariant is = tt
    go Invariant is = absurd (h is)
    go Bivariant is = absurd (g is)

module _ {Key Id Name : Type 0} where
  -- Nothing happened.
  pub leaves_itself : (r : State Key Id Name) → LeavesAll r r
  leaves_itself r = record { meaning = refl; store = refl; goals = refl }

  -- What was opened, where of the context nothing else is looked at.
  pub opens_seen : (c d : Context Key Id Name) (o p : Option (List BoundKind)) (t u x y : Tree) →
      OpensFrom c d (under o t) (under p u) x y →
      OpensFrom (seen c.meaning c.store) (seen d.meaning d.store) (under o t) (under p u) x y
  opens_seen c d (Some ks) (Some ls) t u x y h = h
  opens_seen c d (Some ks) None t u x y h = absurd h
  opens_seen c d None p t u x y h = absurd h

-- What is asked of two type variables was registered, or a growth was refused.
module _ {Key Id Name A E : Type 0} {r q : State Key Id Name} (a b : TyKey Key) (p : Tree) where
  pub subtype_combines : {x : A} → subtype_at r.ambient ((r.meaning).ty a) ((r.meaning).ty b) ≡ Some p →
      RegistersGoal {F = E} r q p (Ok x) → CombinesTyVars r q a b (Ok (Done a))
  subtype_combines asks h = go r.ambient refl asks
    where
      registered : (t : Tree) → t ≡ p → RegistersOne r q t
      registered t is = record {
        store = h.store;
        goals = h.goals ∙ ap (λ z. r.goals ++ goal_of r.kept.environment z ∷ []) (sym is);
      }

      go : (w : Variance) → r.ambient ≡ w → subtype_at w ((r.meaning).ty a) ((r.meaning).ty b) ≡ Some p →
          CombinesTyVars r q a b (Ok (Done a))
      go Covariant is e = left_subtype is (registered _ (same_Some _ p e)) refl
      go Contravariant is e = right_subtype is (registered _ (same_Some _ p e)) refl
      go Invariant is e = absurd cc
      go Bivariant is e = absurd cc

  pub subtype_refused : {e : E} → IsDirected r.ambient → RegistersGoal {A = A} r q p (Err e) →
      (res : Result (Step (TyKey Key)) (RelateFault Key Id Name)) → res ≡ Err Memory → CombinesTyVars r q a b res
  subtype_refused directed h res is = goal_refused (λ e. subst IsDirected e directed)
      (record { store = h.store; goals = h.goals }) is

-- Between what the relation of a context is before a step and after it.
module _ {Key Id Name : Type 0} (aliases : StructurallyRelateAliases) (j : ℕ) (ps : List (Pair Key))
    (gs hs : List (KeyedGoal Key (PredicateKey Key))) (c d : Context Key Id Name) (v : Variance)
    (e : ParamEnvKey Key) where
  abbrev before : State Key Id Name
  before = solving_through aliases j ps gs c v e

  abbrev after : State Key Id Name
  after = solving_through aliases j ps hs d v e

  -- Regions were related by what was recorded of them.
  pub regions_step : (a b : RegionKey Key) → v ≢ Bivariant → AddsAsked c d v a b → StepsRegions before after a b (Ok a)
  regions_step a b decides added = go v refl added
    where
      go : (w : Variance) → v ≡ w → AddsAsked c d w a b → StepsRegions before after a b (Ok a)
      go Covariant is h = left_outlives is h refl
      go Contravariant is h = right_outlives is h refl
      go Invariant is h = both_outlive is h refl
      go Bivariant is h = absurd (decides is)
