-- That a goal was registered, or that an error was met, over a relation's context: what that is of the relation.
use Rattle.std.proofs.Common.{◌≡◌, IsTrue, true, refl, sym, ap, ap₂, ◌∙◌, subst, subst₂, Option, Some, None, IfSome, Result, Ok, Err, [], ◌∷◌}
use Rattle.std.proofs.lemmas.Bool.{and_from, false≢true}
use Rattle.std.specs.Result.{IsErr}
use Rattle.term_enums.specs.declared.AliasRelationDirection.{AliasRelationDirection}
use Rattle.term_enums.specs.declared.AliasRelationDirection.TheVariants.{Equate, Subtype}
use Rattle.term_enums.specs.declared.Variance.{Variance}
use Rattle.term_enums.specs.declared.Variance.TheVariants.{Covariant, Contravariant, Invariant, Bivariant}
use Rattle.relation_terms.specs.declared.terms.keys.PredicateKey.{PredicateKey}
use Rattle.relation_terms.specs.Meaning.{Extends}
use Rattle.relation_terms.specs.Trees.{Tree, cons, nil, known}
use Rattle.relation_semantics.specs.AliasGoals.{alias_at}
use Rattle.relation_semantics.specs.ContextCalls.{Stands}
use Rattle.relation_semantics.specs.Contexts.{Context}
use Rattle.relation_semantics.specs.Goals.{goal_of, alias_relate_predicate}
use Rattle.relation_semantics.specs.Lawful.{State}
use Rattle.relation_semantics.specs.Steps.{IsLater, Taints}
use Rattle.relation_semantics.proofs.Going.{later_itself}
use Rattle.relation_combining.specs.Combining.{TaintsAlone, KeepsKept}
use Rattle.relation_goals.specs.Emitting.{IsOver, WithContext, AddsGoals, KnowsPredicate, RegistersGoal, goals_in, with_goals}
use Rattle.relation_semantics.proofs.Registered.{alias_is}

-- What holds of whatever is there.
pub if_some : {A : Type 0} (o : Option A) (P : A → Type 0) → ((x : A) → o ≡ Some x → P x) → IfSome o P
if_some None P f = tt
if_some (Some x) P f = f x refl

-- A known alias goal.
pub alias_relate_known : (e : AliasRelationDirection) (a b : Tree) → IsTrue (known a) → IsTrue (known b) →
    IsTrue (known (alias_relate_predicate e a b))
alias_relate_known e a b h k = and_from (known a) (known (cons b nil)) h (and_from (known b) true k refl)

pub alias_known : (v : Variance) (a b p : Tree) → alias_at v a b ≡ Some p → IsTrue (known a) → IsTrue (known b) →
    IsTrue (known p)
alias_known Covariant a b p e h k = subst (λ z. IsTrue (known z)) (sym (alias_is e)) (alias_relate_known Subtype a b h k)
alias_known Contravariant a b p e h k = subst (λ z. IsTrue (known z)) (sym (alias_is e)) (alias_relate_known Subtype b a k h)
alias_known Invariant a b p e h k = subst (λ z. IsTrue (known z)) (sym (alias_is e)) (alias_relate_known Equate a b h k)
alias_known Bivariant a b p e h k = absurd cc

-- Nothing was recorded.
pub same_later : {Key Id Name : Type 0} (s d : Context Key Id Name) → d.store ≡ s.store → IsLater s.store d.store
same_later s d e = subst (IsLater s.store) (sym e) (later_itself s.store)

module _ {Key Id Name : Type 0} {r z : State Key Id Name} {s d : Context Key Id Name} (o : IsOver r s)
    (w : WithContext r d z) where
  pub tainted_alone : Stands s d → Taints s.store d.store → TaintsAlone r z
  tainted_alone h t = record {
    meaning = w.meaning ∙ h.meaning ∙ sym o.meaning;
    taints = subst₂ Taints (sym o.store) (sym w.store) t;
    goals = w.goals;
  }

  pub all_kept : KeepsKept r z
  all_kept = record { kept = w.kept; ambient = w.ambient; remembered = w.remembered; lawful = w.lawful }

  pub predicate_known : (p : PredicateKey Key) (t : Tree) → (d.meaning).predicate p ≡ t → IsTrue (known t) →
      KnowsPredicate z.meaning p
  predicate_known p t means k = subst (λ m. IsTrue (known (m.predicate p))) (sym w.meaning)
      (subst (λ x. IsTrue (known x)) (sym means) k)

  module _ (grown : Extends s.meaning d.meaning) (stays : d.store ≡ s.store) where
    grows_there : Extends r.meaning z.meaning
    grows_there = subst₂ Extends (sym o.meaning) (sym w.meaning) grown

    stays_there : z.store ≡ r.store
    stays_there = w.store ∙ stays ∙ sym o.store

    -- No predicate was made.
    pub none_registered : {A F : Type 0} (t : Tree) (res : Result A F) → IsErr res → RegistersGoal r z t res
    none_registered t (Ok x) h = absurd (false≢true h)
    none_registered t (Err f) h = record {
      extends = grows_there;
      store = stays_there;
      goals = w.goals;
      kept = w.kept;
      ambient = w.ambient;
      remembered = w.remembered;
      lawful = w.lawful;
    }

    -- One was, and then it was registered, or was not.
    pub one_registered : {A F : Type 0} {q : State Key Id Name} (p : PredicateKey Key) (t : Tree) →
        (d.meaning).predicate p ≡ t → (res : Result A F) → AddsGoals z q (goals_in z (p ∷ [])) res →
        RegistersGoal r q t res
    one_registered p t means res h = record {
      extends = subst (Extends r.meaning) (sym h.meaning) grows_there;
      store = h.store ∙ stays_there;
      goals = h.goals ∙ ap₂ (λ gs g. with_goals gs (g ∷ []) res) w.goals
          (ap₂ (λ k m. goal_of k.environment (m.predicate p)) w.kept w.meaning ∙ ap (goal_of r.kept.environment) means);
      kept = h.kept ∙ w.kept;
      ambient = h.ambient ∙ w.ambient;
      remembered = h.remembered ∙ w.remembered;
      lawful = λ l. h.lawful (w.lawful l);
    }
