-- What relating may have begun with, while more is recorded and remembered.
use Rattle.std.proofs.Common.{◌≡◌, ◌⊎◌, ℕ, ◌<◌, sym, ap, ap₂, ◌∙◌, inl, inr, subst, subst₂, arith, List, [], Contains, IsTrue}
use Rattle.std.proofs.Common.{Result, ⊎_elim}
use Rattle.term_enums.specs.declared.Variance.{Variance}
use Rattle.relation_terms.specs.Trees.{Tree, known}
use Rattle.relation_terms.specs.Meaning.{Meaning, Extends}
use Rattle.relation_folds.specs.declared.error.RelateFault.{RelateFault}
use Rattle.relation_semantics.specs.Relation.{Way, at}
use Rattle.relation_semantics.specs.Settings.{Settings}
use Rattle.relation_semantics.specs.Steps.{IsLater}
use Rattle.relation_semantics.specs.Stores.{Store, IsSound}
use Rattle.relation_semantics.specs.Agreeing.{AgreeIn}
use Rattle.relation_semantics.specs.Lawful.{State, Pair, Passes, HasAgreed, MayBegin, BeganWith, AgreesIn, MeansPair, Noted}
use Rattle.relation_semantics.specs.Lawful.{RemembersAtMost, WithMeaning, items_of, items_in}
use Rattle.relation_semantics.proofs.Answering.{items_stay, same_items, same_settings}
use Rattle.relation_semantics.proofs.Going.{later_itself, later_through}

module _ {Key Id Name : Type 0} where
  -- A pair has agreed still, while keys are made.
  agreed_later : {m n : Meaning Key Id Name} → Extends m n → (k : Settings) (st : Store) (p : Pair Key) →
      HasAgreed k m st p → HasAgreed k n st p
  agreed_later {m} {n} grown k st p h =
      let x : n.ty p.1 ≡ m.ty p.1 = grown.ty p.1 h.left_known in
      let y : n.ty p.2 ≡ m.ty p.2 = grown.ty p.2 h.right_known in
      record {
        left_known = subst (λ t. IsTrue (known t)) (sym x) h.left_known;
        right_known = subst (λ t. IsTrue (known t)) (sym y) h.right_known;
        agree = subst₂ (λ t u. AgreeIn k (items_of n) st (at p.0) t u) (sym x) (sym y)
            (subst (λ c. AgreeIn k c st (at p.0) (m.ty p.1) (m.ty p.2)) (sym (items_stay grown)) h.agree);
      }

  -- It may have begun with a record still, if each pair that is remembered besides has agreed by it.
  pub begins_later : {m n : Meaning Key Id Name} → Extends m n → {k : Settings} {was now : Store} {ps qs : List (Pair Key)}
      {st : Store} → IsLater was now → ((p : Pair Key) → Contains qs p → Contains ps p ⊎ HasAgreed k n st p) →
      MayBegin k m was ps st → MayBegin k n now qs st
  begins_later {m} {n} grown {k = k} {st = st} l members h = record {
    sound = h.sound;
    later = later_through h.later l;
    agree = λ p c. ⊎_elim (λ d. agreed_later grown k st p (h.agree p d)) (λ a. a) (members p c);
  }

  -- With nothing remembered it may have begun with the record that there is.
  pub begins_there : {k : Settings} {m : Meaning Key Id Name} {st : Store} {ps : List (Pair Key)} → IsSound st → ps ≡ [] →
      MayBegin k m st ps st
  begins_there {st = st} sound none = record {
    sound = sound;
    later = later_itself st;
    agree = λ p c. let z = subst (λ qs. Contains qs p) none c in let h : z.0 < 0 = z.1 in absurd (omega (arith, h));
  }

  -- So while a relation works, and remembers what it did.
  pub begins_passing : {n : ℕ} {r q : State Key Id Name} → Passes n r q → (st : Store) →
      ((p : Pair Key) → Contains q.remembered p → Contains r.remembered p ⊎ HasAgreed q.kept.settings q.meaning st p) →
      BeganWith r st → BeganWith q st
  begins_passing {r = r} {q = q} g st members h = begins_later g.extends (g.goes).later members
      (subst (λ k. MayBegin k r.meaning r.store r.remembered st) (sym (same_settings g.kept)) h)

  pub begins_by : (r q : State Key Id Name) → Extends r.meaning q.meaning → IsLater r.store q.store → q.kept ≡ r.kept →
      q.remembered ≡ r.remembered → (st : Store) → BeganWith r st → BeganWith q st
  begins_by r q grown l kept e st h = begins_later grown l (λ p c. inl (subst (λ ps. Contains ps p) e c))
      (subst (λ k. MayBegin k r.meaning r.store r.remembered st) (sym (same_settings kept)) h)

  pub begins_on : {n : ℕ} {r q : State Key Id Name} → Passes n r q → q.remembered ≡ r.remembered → (st : Store) →
      BeganWith r st → BeganWith q st
  begins_on {r = r} {q = q} g e st h = begins_by r q g.extends (g.goes).later g.kept e st h

  -- What agrees by what was declared and set up then does so now, and the other way round.
  pub agrees_then : {n : ℕ} {r q : State Key Id Name} → Passes n r q → (st : Store) (way : Way) (a b : Tree) →
      AgreesIn q st way a b → AgreesIn r st way a b
  agrees_then g st way a b h =
      subst₂ (λ k c. AgreeIn k c st way a b) (same_settings g.kept) (same_items g) h

  pub agrees_now : {n : ℕ} {r q : State Key Id Name} → Passes n r q → (st : Store) (way : Way) (a b : Tree) →
      AgreesIn r st way a b → AgreesIn q st way a b
  agrees_now g st way a b h =
      subst₂ (λ k c. AgreeIn k c st way a b) (sym (same_settings g.kept)) (sym (same_items g)) h

  -- A pair of two terms that agree has agreed.
  pub meant_agreed : (q : State Key Id Name) (st : Store) (p : Pair Key) (a b : Tree) → MeansPair q p a b →
      AgreesIn q st (at q.ambient) a b → HasAgreed q.kept.settings q.meaning st p
  meant_agreed q st p a b i h = record {
    left_known = subst (λ t. IsTrue (known t)) (sym i.1) i.3;
    right_known = subst (λ t. IsTrue (known t)) (sym i.2) i.4;
    agree = subst (λ v. AgreesIn q st (at v) ((q.meaning).ty p.1) ((q.meaning).ty p.2)) (sym i.0)
        (subst₂ (AgreesIn q st (at q.ambient)) (sym i.1) (sym i.2) h);
  }

  -- So when something is noted of two terms that agree.
  pub begins_noting : {X : Type 0} {r q : State Key Id Name} {a b : Tree} {x : Result X (RelateFault Key Id Name)} →
      Noted r q a b x → (st : Store) → AgreesIn r st (at r.ambient) a b → BeganWith r st → BeganWith q st
  begins_noting {q = q} {a = a} {b = b} h st agreed began = begins_passing h.passes st (λ p c. ⊎_elim
      (λ i. inr (meant_agreed q st p a b i (subst (λ v. AgreesIn q st (at v) a b) (sym (h.passes).ambient)
      (agrees_now h.passes st (at _) a b agreed)))) (λ m. inl m) (h.remembers p c)) began

  -- And when a pair of such is remembered.
  pub begins_remembering : {A F : Type 0} {q s : State Key Id Name} {p : Pair Key} {res : Result A F} →
      RemembersAtMost q s p res → (st : Store) → HasAgreed q.kept.settings q.meaning st p → BeganWith q st → BeganWith s st
  begins_remembering {q = q} {s = s} {p = p} h st one began = subst₂ (λ k m. MayBegin k.settings m s.store s.remembered st)
      (sym h.kept) (sym h.meaning) (subst (λ now. MayBegin q.kept.settings q.meaning now s.remembered st) (sym h.store)
      (record {
        sound = began.sound;
        later = began.later;
        agree = λ x c. ⊎_elim (λ e. subst (HasAgreed q.kept.settings q.meaning st) (sym e) one) (λ d. began.agree x d)
            (h.no_more x c);
      }))

  -- Keys that are made change nothing of it.
  pub begins_grown : {q p : State Key Id Name} → Extends q.meaning p.meaning → WithMeaning q p.meaning p → (st : Store) →
      BeganWith q st → BeganWith p st
  begins_grown {q = q} {p = p} e w st h = subst₂ (λ k now. MayBegin k.settings p.meaning now p.remembered st) (sym w.kept)
      (sym w.store) (begins_later e (later_itself q.store) (λ x c. inl (subst (λ ps. Contains ps x) w.remembered c)) h)
