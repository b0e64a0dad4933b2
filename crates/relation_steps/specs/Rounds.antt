-- Opening two binders in rounds: which bodies each round leaves to be related.
use Rattle.std.specs.Prelude.{◌≡◌, ◌≢◌, ◌⊎◌, ◌+◌, ◌<◌, ◌||◌, ℕ, Bool, List, [], Option, Some, None, Result, Ok, Err}
use Rattle.relation_terms.specs.declared.terms.binder.Binder.{Binder}
use Rattle.term_enums.specs.declared.Variance.{Variance}
use Rattle.term_enums.specs.declared.Variance.TheVariants.{Invariant}
use Rattle.relation_terms.specs.declared.terms.part_kind.Part.{Part}
use Rattle.relation_terms.specs.Heads.{BoundKind}
use Rattle.relation_terms.specs.Trees.{Tree, bind}
use Rattle.relation_terms.specs.Meaning.{Meaning}
use Rattle.relation_terms.specs.Parts.{part_tree}
use Rattle.relation_folds.specs.declared.error.TypeError.{TypeError}
use Rattle.relation_folds.specs.declared.error.RelateFault.{RelateFault}
use Rattle.relation_folds.specs.Visits.{bound_var_escapes}
use Rattle.relation_semantics.specs.Binders.{binder_tree, OpensBoth}
use Rattle.relation_semantics.specs.Contexts.{Context}
use Rattle.relation_semantics.specs.Relation.{Items, Way, at, second_opened, first_opened, StaysWithin}
use Rattle.relation_semantics.specs.Stores.{Store, IsSound, IsTermIn, weight}
use Rattle.relation_semantics.specs.Goals.{Goal}
use Rattle.relation_semantics.specs.Steps.{IsLater}
use Rattle.relation_semantics.specs.Alphabets.{StaysBuilt, BuiltFrom}
use Rattle.relation_semantics.specs.Outcomes.{StepsTo, KeepsAll}
use Rattle.relation_semantics.specs.Settings.{Settings}
use Rattle.relation_semantics.specs.Errors.{ErrorOf}
use Rattle.relation_semantics.specs.Lawful.{State, Manners, Passes, Asked, OnlyMemory, BeganWith, AgreesIn, items_in}

-- One round relates two binders at a variance that is not invariance; or where neither body uses what its binder binds.
abbrev pub OneRound : Variance → Tree → Tree → Type 0
OneRound v (bind ks a) (bind ls b) = (v ≢ Invariant) ⊎ (StaysWithin 0 a × StaysWithin 0 b)
OneRound v a b = ⊥

module _ {Key Id Name : Type 0} where
  -- A step was taken to two bodies, which are to be related at the ambient variance.
  abbrev pub StepsToBodies : State Key Id Name → State Key Id Name → List Goal → Way → Tree → Tree → Tree → Tree →
      Type 0
  StepsToBodies r q added way a b x y =
      StepsTo (items_in r) r.kept.environment r.store q.store r.goals added way a b (at r.ambient) x y

  -- What relating two bodies does for the binders in a round: all of it; or, in each of two rounds, its part of that.
  pub data RoundSteps (r q : State Key Id Name) (added : List Goal) (round : ℕ) (a b x y : Tree) : Type 0 where
    one_round : round ≡ 0 → OneRound r.ambient a b → StepsToBodies r q added (at r.ambient) a b x y →
        RoundSteps r q added round a b x y
    first_round : {ks ls : List BoundKind} {t u : Tree} → round ≡ 0 → (OneRound r.ambient a b → ⊥) →
        a ≡ bind ks t → b ≡ bind ls u → StepsToBodies r q added (second_opened ks ls r.ambient) t u x y →
        RoundSteps r q added round a b x y
    second_round : {ks ls : List BoundKind} {t u : Tree} → round ≡ 1 → (OneRound r.ambient a b → ⊥) →
        a ≡ bind ks t → b ≡ bind ls u → StepsToBodies r q added (first_opened ks ls r.ambient) t u x y →
        RoundSteps r q added round a b x y

  -- A round led to two bodies. They are the relation's, weigh less, are built of what the binders are, and cost nothing
  -- of the budget; an error of theirs is one of the binders, which agree, by a record that relating may have begun with,
  -- if the bodies do.
  pub record RoundLeads (M : Manners) (r q : State Key Id Name) (added : List Goal) (round : ℕ)
      (a b x y : Tree) : Type 0 where
    pub steps : RoundSteps r q added round a b x y
    pub asked : Asked M q r.ambient x y
    pub errors : (m : Meaning Key Id Name) (k : Settings) (c : Items) (st : Store) (e : TypeError Key Id Name) →
        IsLater q.store st → IsSound st → ErrorOf m k c st r.ambient e x y → ErrorOf m k c st r.ambient e a b
    pub agrees : (st : Store) → BeganWith r st →
        (AgreesIn r st (at r.ambient) x y → AgreesIn r st (at r.ambient) a b) × BeganWith q st
    pub built : BuiltFrom r.store a b x y
    pub same_budget : (q.store).budget ≡ (r.store).budget
    pub smaller : weight q.store x + weight q.store y < weight r.store a + weight r.store b

  -- What a round of two binders says: it leads to bodies; nothing is left after one that relates them, and nothing was
  -- recorded, registered or remembered; or a growth was refused, and no solution is lost.
  abbrev pub RoundVerdict : {T : Type 0} → Manners → State Key Id Name → State Key Id Name → List Goal → ℕ → Tree →
      Tree → (T → Tree) → Result (Option (T × T)) (RelateFault Key Id Name) → Type 0
  RoundVerdict M r q added round a b tree (Ok (Some p)) = RoundLeads M r q added round a b (tree p.0) (tree p.1)
  RoundVerdict M r q added round a b tree (Ok None) =
      (round ≡ 1) × OneRound r.ambient a b × (q.store ≡ r.store) × (added ≡ []) × (q.remembered ≡ r.remembered)
  RoundVerdict {T} M r q added round a b tree (Err f) = OnlyMemory {X = T} (Err f) × KeepsAll r.store q.store

  -- A round was begun. Nothing was bound but of what the binders and the bindings were built of.
  pub record Opened {T : Type 0} (M : Manners) (r q : State Key Id Name) (round : ℕ) (a b : Tree) (tree : T → Tree)
      (result : Result (Option (T × T)) (RelateFault Key Id Name)) : Type 0 where
    pub passes : Passes (weight r.store a + weight r.store b) r q
    pub verdict : RoundVerdict M r q passes.added round a b tree result
    pub built : StaysBuilt r.store q.store passes.added a b

  -- The same of two parts.
  abbrev pub OpenedParts : Manners → State Key Id Name → State Key Id Name → ℕ → Part Key Id → Part Key Id →
      Result (Option (Part Key Id × Part Key Id)) (RelateFault Key Id Name) → Type 0
  OpenedParts M r q round a b result =
      Opened M r q round (part_tree r.meaning a) (part_tree r.meaning b) (part_tree q.meaning) result

-- Of binders whose bodies have these trees.
module _ {Key Id Name T : Type 0} (tree : Meaning Key Id Name → T → Tree) where
  -- Whether either body uses what its binder binds.
  abbrev pub one_uses_bound : Meaning Key Id Name → Binder Key T → Binder Key T → Bool
  one_uses_bound m a b = bound_var_escapes (tree m a.value) || bound_var_escapes (tree m b.value)

  -- The variables in a binder are the context's, and nothing in it is of a later universe or escapes a binder.
  abbrev pub HasBinder : Context Key Id Name → Binder Key T → Type 0
  HasBinder c a = IsTermIn c.store (binder_tree tree c.meaning a)

  -- Of two the one was entered, and then the other instantiated, in a context; or a growth was refused.
  abbrev pub Opens : {F : Type 0} → Context Key Id Name → Context Key Id Name → Binder Key T → Binder Key T →
      Result (T × T) F → Type 0
  Opens c d a b result = OpensBoth c d tree (binder_tree tree c.meaning a) (binder_tree tree c.meaning b) result

-- Of a relation's binders whose bodies have these trees.
module _ {Key Id Name T : Type 0} (M : Manners) (tree : Meaning Key Id Name → T → Tree) where
  -- Two that the relation takes at its ambient variance.
  abbrev pub AskedBinders : State Key Id Name → Binder Key T → Binder Key T → Type 0
  AskedBinders r a b = Asked M r r.ambient (binder_tree tree r.meaning a) (binder_tree tree r.meaning b)

  -- A round of them was begun.
  abbrev pub OpenedBinders : State Key Id Name → State Key Id Name → ℕ → Binder Key T → Binder Key T →
      Result (Option (T × T)) (RelateFault Key Id Name) → Type 0
  OpenedBinders r q round a b result = Opened M r q round (binder_tree tree r.meaning a)
      (binder_tree tree r.meaning b) (tree q.meaning) result
