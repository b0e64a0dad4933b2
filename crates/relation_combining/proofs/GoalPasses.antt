-- One goal was registered by a relation, or was not, as a part of the work.
use Rattle.std.proofs.Common.{ℕ, refl, sym, ◌∙◌, subst, [], ◌∷◌, All, Ok, Err}
use Rattle.std.proofs.lemmas.List.{append-nil}
use Rattle.std.proofs.lemmas.List.Elements.{All-nil, All-cons}
use Rattle.relation_terms.specs.Trees.{Tree}
use Rattle.relation_semantics.specs.Goals.{goal_of, IsRegistered}
use Rattle.relation_semantics.specs.Lawful.{State, Passes, RegisteredIn, BeganWith, items_in}
use Rattle.relation_semantics.specs.Measures.{Goes}
use Rattle.relation_semantics.specs.Steps.{IsLater}
use Rattle.relation_semantics.specs.Stores.{Store}
use Rattle.relation_semantics.proofs.Beginning.{begins_by}
use Rattle.relation_semantics.proofs.Going.{goes_nowhere, later_itself}
use Rattle.relation_goals.specs.Emitting.{RegistersGoal}

module _ {Key Id Name A E : Type 0} {r q : State Key Id Name} (p : Tree) where
  -- Relating may have begun with what it may have then.
  pub begins_asking : {x : A} → RegistersGoal {F = E} r q p (Ok x) → (st : Store) → BeganWith r st → BeganWith q st
  begins_asking h st began = begins_by r q h.extends (subst (IsLater r.store) (sym h.store) (later_itself r.store)) h.kept
      h.remembered st began

  module _ {x : A} (h : RegistersGoal {F = E} r q p (Ok x))
      (asks : IsRegistered (items_in r) r.kept.settings r.ambient r.store r.store p) where
    pub goal_in : All (RegisteredIn r r.store) (goal_of r.kept.environment p ∷ [])
    goal_in = All-cons (RegisteredIn r r.store) (goal_of r.kept.environment p) [] (record { environment = refl; asks = asks })
        (All-nil (RegisteredIn r r.store))

    unfoldable pub goal_passes : (n : ℕ) → Passes n r q
    goal_passes n = record {
      extends = h.extends;
      goes = subst (Goes n r.store) (sym h.store) (goes_nowhere n r.store);
      added = goal_of r.kept.environment p ∷ [];
      lengthens = h.goals;
      goals_in = subst (λ st. All (RegisteredIn r st) (goal_of r.kept.environment p ∷ [])) (sym h.store) goal_in;
      kept = h.kept;
      ambient = h.ambient;
      lawful = h.lawful;
    }

  unfoldable pub no_goal_passes : {e : E} → RegistersGoal {A = A} r q p (Err e) → (n : ℕ) → Passes n r q
  no_goal_passes h n = record {
    extends = h.extends;
    goes = subst (Goes n r.store) (sym h.store) (goes_nowhere n r.store);
    added = [];
    lengthens = h.goals ∙ sym (append-nil r.goals);
    goals_in = All-nil (RegisteredIn r q.store);
    kept = h.kept;
    ambient = h.ambient;
    lawful = h.lawful;
  }
