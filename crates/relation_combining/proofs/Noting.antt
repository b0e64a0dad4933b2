-- Notes that a relation takes, one after another, and those that a relation over a context takes.
use Rattle.std.proofs.Common.{◌≡◌, ◌⊎◌, ◌∙◌, ℕ, refl, sym, ap₂, inl, inr, subst, arith, List, [], ◌++◌, All}
use Rattle.std.proofs.Common.{Contains, IsTrue, Result, Ok, Err}
use Rattle.std.proofs.lemmas.List.{append-nil}
use Rattle.std.proofs.lemmas.List.Elements.{All-nil, All-append}
use Rattle.relation_terms.specs.Trees.{Tree, known}
use Rattle.relation_terms.specs.Meaning.{Extends}
use Rattle.relation_folds.specs.declared.error.RelateFault.{RelateFault}
use Rattle.relation_terms.proofs.Stays.{stays_same}
use Rattle.relation_semantics.specs.Contexts.{Context}
use Rattle.relation_semantics.specs.ContextCalls.{Grows}
use Rattle.relation_goals.specs.Emitting.{AddsGoals, IsOver, WithContext, with_goals}
use Rattle.relation_semantics.specs.Measures.{Goes}
use Rattle.relation_semantics.specs.Goals.{Goal, IsQuiet}
use Rattle.relation_semantics.specs.Alphabets.{Alphabet, IsBuiltOf, BindsBuiltOf, IsGoalOf}
use Rattle.relation_semantics.specs.Lawful.{State, Pair, Passes, Noted, MeansPair, OnlyMemory, WithMeaning, RegisteredIn}
use Rattle.relation_semantics.specs.Recording.{AreBare}
use Rattle.relation_semantics.proofs.Answering.{same_settings}
use Rattle.relation_semantics.proofs.Going.{goes_nowhere}
use Rattle.relation_semantics.proofs.Passing.{passes_then, passes_nowhere}
use Rattle.relation_semantics.proofs.Retelling.{passes_grown}

module _ {Key Id Name : Type 0} where
  -- A pair of two terms is so while keys are added to.
  pair_later : {n : ℕ} {q p : State Key Id Name} {a b : Tree} → Passes n q p → (o : Pair Key) → MeansPair q o a b →
      MeansPair p o a b
  pair_later g o i = (
    i.0 ∙ sym g.ambient,
    (g.extends).ty o.1 (subst (λ t. IsTrue (known t)) (sym i.1) i.3) ∙ i.1,
    (g.extends).ty o.2 (subst (λ t. IsTrue (known t)) (sym i.2) i.4) ∙ i.2,
    i.3,
    i.4,
  )

  pub noted_then : {X Y : Type 0} {r q p : State Key Id Name} {a b : Tree} (x : Result X (RelateFault Key Id Name))
      (y : Result Y (RelateFault Key Id Name)) → Noted r q a b x → Noted q p a b y → Noted r p a b y
  unfolding passes_then
  noted_then {r = r} {q = q} {p = p} {a = a} {b = b} x y f g = record {
    passes = passes_then f.passes g.passes (omega arith);
    store = g.store ∙ f.store;
    quiet = All-append IsQuiet (f.passes).added (g.passes).added f.quiet g.quiet;
    built = λ k ha hb all. All-append (IsGoalOf k) (f.passes).added (g.passes).added (f.built k ha hb all)
        (g.built k ha hb (subst (BindsBuiltOf k) (sym f.store) all));
    none = none;
    remembers = λ o m. member o (g.remembers o m);
    fault = g.fault;
  }
    where
      none : AreBare r.kept.settings a b → (f.passes).added ++ (g.passes).added ≡ []
      none bare =
          let before : (f.passes).added ≡ [] = f.none bare in
          let after : (g.passes).added ≡ [] =
          g.none (subst (λ k. AreBare k a b) (sym (same_settings (f.passes).kept)) bare) in
          ap₂ (λ gs hs. gs ++ hs) before after

      older : (o : Pair Key) → MeansPair q o a b ⊎ Contains r.remembered o → MeansPair p o a b ⊎ Contains r.remembered o
      older o (inl i) = inl (pair_later g.passes o i)
      older o (inr c) = inr c

      member : (o : Pair Key) → MeansPair p o a b ⊎ Contains q.remembered o → MeansPair p o a b ⊎ Contains r.remembered o
      member o (inl i) = inl i
      member o (inr c) = older o (f.remembers o c)

  -- Only the interner's keys were added to.
  pub noted_with : {X : Type 0} {r q : State Key Id Name} {a b : Tree} → Extends r.meaning q.meaning →
      WithMeaning r q.meaning q → (x : Result X (RelateFault Key Id Name)) → OnlyMemory x → Noted r q a b x
  unfolding passes_grown passes_nowhere
  noted_with {r = r} {q = q} e w x fault = record {
    passes = passes_grown (passes_nowhere 0 r) e w;
    store = w.store;
    quiet = All-nil IsQuiet;
    built = λ k ha hb all. All-nil (IsGoalOf k);
    none = λ bare. refl;
    remembers = λ o m. inr (subst (λ ps. Contains ps o) w.remembered m);
    fault = fault;
  }

  -- Goals that ask nothing of two terms were added, or were not: of bare ones there are none.
  pub noted_added : {X A F : Type 0} {r q : State Key Id Name} {a b : Tree} (goals : List Goal) (result : Result A F) →
      AddsGoals r q goals result → All (RegisteredIn r r.store) goals → All IsQuiet goals →
      ((k : Alphabet) → IsBuiltOf k a → IsBuiltOf k b → BindsBuiltOf k r.store → All (IsGoalOf k) goals) →
      (AreBare r.kept.settings a b → goals ≡ []) →
      (x : Result X (RelateFault Key Id Name)) → OnlyMemory x → Noted r q a b x
  noted_added {X = X} {r = r} {q = q} {a = a} {b = b} goals result h asks quiet built none x fault = go result h.goals
    where
      noted : (added : List Goal) → q.goals ≡ r.goals ++ added → All (RegisteredIn r r.store) added →
          All IsQuiet added → ((k : Alphabet) → IsBuiltOf k a → IsBuiltOf k b → BindsBuiltOf k r.store →
          All (IsGoalOf k) added) → (AreBare r.kept.settings a b → added ≡ []) → Noted r q a b x
      noted added lengthens registered silent of_alphabet no_more = record {
        passes = record {
          extends = subst (λ m. Extends r.meaning m) (sym h.meaning) (stays_same r.meaning);
          goes = subst (Goes 0 r.store) (sym h.store) (goes_nowhere 0 r.store);
          added = added;
          lengthens = lengthens;
          goals_in = subst (λ k. All (RegisteredIn r k) added) (sym h.store) registered;
          kept = h.kept;
          ambient = h.ambient;
          lawful = h.lawful;
        };
        store = h.store;
        quiet = silent;
        built = of_alphabet;
        none = no_more;
        remembers = λ o m. inr (subst (λ ps. Contains ps o) h.remembered m);
        fault = fault;
      }

      go : {A F : Type 0} (res : Result A F) → q.goals ≡ with_goals r.goals goals res → Noted r q a b x
      go (Ok y) e = noted goals e asks quiet built none
      go (Err f) e = noted [] (e ∙ sym (append-nil r.goals))
          (All-nil (RegisteredIn r r.store)) (All-nil IsQuiet) (λ k ha hb all. All-nil (IsGoalOf k)) (λ bare. refl)

-- What a context's interner was added to, a relation over it was.
module _ {Key Id Name : Type 0} (r q : State Key Id Name) (c d : Context Key Id Name) (o : IsOver r c) (g : Grows c d)
    (w : WithMeaning r d.meaning q) where
  pub over_extends : Extends r.meaning q.meaning
  over_extends = subst (λ m. Extends m q.meaning) (sym o.meaning) (subst (λ m. Extends c.meaning m) (sym w.meaning) g.extends)

  pub over_with : WithMeaning r q.meaning q
  over_with = subst (λ m. WithMeaning r m q) (sym w.meaning) w

-- A context that took the place of another, and has recorded the same.
pub with_meaning : {Key Id Name : Type 0} {r q : State Key Id Name} {c d : Context Key Id Name} → IsOver r c →
    WithContext r d q → d.store ≡ c.store → WithMeaning r d.meaning q
with_meaning o w same = record {
  meaning = w.meaning;
  store = w.store ∙ same ∙ sym o.store;
  goals = w.goals;
  kept = w.kept;
  ambient = w.ambient;
  remembered = w.remembered;
  lawful = w.lawful;
}
