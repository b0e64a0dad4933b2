-- What was related at another ambient variance, was made anew, or is told in other words; and what stays as it is.
use Rattle.std.proofs.Common.{◌≡◌, inr, ℕ, ◌+◌, refl, sym, ap, ap₂, ◌∙◌, subst, subst₂, arith, List, ◌++◌, All, IsTrue, Result, Ok, Err, IfOk}
use Rattle.std.proofs.lemmas.List.Elements.{All-nil}
use Rattle.term_enums.specs.declared.Variance.{Variance}
use Rattle.relation_terms.specs.Trees.{Tree, apply, known}
use Rattle.term_enums.specs.declared.Variance.TheVariants.{Bivariant, Invariant}
use Rattle.relation_terms.specs.Meaning.{Extends}
use Rattle.term_enums.specs.Variances.{xform}
use Rattle.relation_terms.proofs.Stays.{extends_on}
use Rattle.relation_folds.specs.declared.error.RelateFault.{RelateFault}
use Rattle.relation_folds.specs.declared.error.RelateFault.TheVariants.{Memory, Budget, Unrelated}
use Rattle.relation_semantics.specs.Relation.{at, anything, Rel}
use Rattle.relation_semantics.specs.declared.relate.Step.TheVariants.{Done, Parts}
use Rattle.relation_folds.specs.Faults.{KnowsError}
use Rattle.relation_semantics.specs.Errors.{ErrorOf, IsDeferred, Meeting, as_pair, as_forms}
use Rattle.relation_semantics.specs.Asking.{AsksFor}
use Rattle.relation_semantics.specs.Recording.{AreBare, AsksNoMore}
use Rattle.relation_semantics.specs.Agreeing.{AgreeIn}
use Rattle.relation_semantics.specs.Stores.{Store, Satisfies, weight}
use Rattle.relation_semantics.specs.Goals.{Goal, GoalInContext, IsDirected, Holds, Relates, asked, IsQuiet, MakesOneTree}
use Rattle.relation_semantics.specs.Outcomes.{Outcome, NeverOne, Exact, KeepsOne, KeepsUnified}
use Rattle.relation_semantics.specs.Headline.{IsFirstOrderPair}
use Rattle.relation_semantics.specs.FirstOrder.{IsFirstOrderStore}
use Rattle.relation_semantics.specs.Steps.{StaysFullFor}
use Rattle.relation_semantics.specs.Alphabets.{StaysBuilt, NeedsVariable, IsGoalOf}
use Rattle.relation_semantics.specs.Measures.{Goes}
use Rattle.relation_semantics.specs.Lawful.{State, Manners, MayAnswer, Passes, Asked, Refuses, Answers, Related}
use Rattle.relation_semantics.specs.Lawful.{VerdictAs, RelatedAs, MayBegin, BeganWith, AgreesIn}
use Rattle.relation_semantics.specs.Lawful.{RecordsJust, RecordsJustAsked, RecordsNoMore, RecordsAs, RecordsOf}
use Rattle.relation_semantics.proofs.Asking.{nothing_at_bivariance}
use Rattle.relation_semantics.proofs.Recording.{stands_itself, turned_stands, grown_stands, records_trivial}
use Rattle.relation_semantics.proofs.Recording.{records_between}
use Rattle.relation_semantics.specs.Lawful.{ExactlyRelated, RegisteredIn}
use Rattle.relation_semantics.proofs.Keeping.{one_outcome}
use Rattle.relation_semantics.proofs.AskingSince.{no_more_same}
use Rattle.relation_semantics.specs.Lawful.{LeadsAgain, Shown, Noted, Turned, Stepped, OnlyMemory, WithMeaning, declared_by, items_of, items_in}
use Rattle.relation_semantics.proofs.Registered.{registered_as}
use Rattle.relation_semantics.proofs.Going.{later_itself, later_through}
use Rattle.relation_semantics.proofs.Shrinking.{first_order_before}
use Rattle.relation_semantics.proofs.Full.{full_itself}
use Rattle.relation_semantics.proofs.AgreeingBefore.{anything_agreed}
use Rattle.relation_semantics.proofs.Beginning.{begins_grown, agrees_now}
use Rattle.relation_semantics.proofs.Answering.{same_environment, same_settings, may_itself}
use Rattle.relation_folds.proofs.Folding.{if_ok_both}
use Rattle.relation_semantics.specs.OneUniverse.{KeepsUniverseOf, BindsNoMore}
use Rattle.relation_semantics.proofs.OneUniverse.{keeps_binds, leads_itself}
use Rattle.relation_semantics.proofs.Erased.{xform_invariant}
use Rattle.relation_semantics.proofs.Passing.{moved, invariant_is_not, passes_nowhere, passes_then, same_manner, manner_then, led_outcome, led_agrees, LeadsExactly, exact_fault, relates_by}
use Rattle.relation_semantics.proofs.PassingOn.{small}
use Rattle.relation_semantics.proofs.BuildingSteps.{built_itself}

module _ {Key Id Name : Type 0} where
  -- Relating may have begun with what it may have, at another ambient variance.
  begins_turned : {v : Variance} {r t : State Key Id Name} → Turned v r t → (st : Store) → BeganWith r st → BeganWith t st
  begins_turned {r = r} {t = t} there st h = subst₂ (λ k m. MayBegin k.settings m t.store t.remembered st) (sym there.kept)
      (sym there.meaning) (subst₂ (λ now ps. MayBegin r.kept.settings r.meaning now ps st) (sym there.store)
      (sym there.remembered) h)

  -- Another ambient variance, and the old one again.
  module _ {X : Type 0} {r t q u : State Key Id Name} (M : Manners) (v : Variance) (a b : Tree) (tree : X → Tree)
      (there : Turned v r t) (back : Turned r.ambient q u) (seen : IsDirected v → IsDirected r.ambient) where
    turned_passes : Passes (weight t.store a + weight t.store b) t q → Passes (weight r.store a + weight r.store b) r u
    turned_passes f = record {
      extends = subst₂ (λ m n. Extends m n) there.meaning (sym back.meaning) f.extends;
      goes = subst₂ (λ s z. Goes (weight s a + weight s b) s z) there.store (sym back.store) f.goes;
      added = f.added;
      lengthens = back.goals ∙ f.lengthens ∙ ap (λ gs. gs ++ f.added) there.goals;
      goals_in = registered_as t r q.store u.store f.added (ap items_of there.meaning)
          (same_environment there.kept) (same_settings there.kept) (λ o. seen (subst IsDirected there.ambient o)) there.store (sym back.store) f.goals_in;
      kept = back.kept ∙ f.kept ∙ there.kept;
      ambient = back.ambient;
      lawful = λ l. back.lawful (f.lawful (there.lawful l));
    }

    turned_refuses : (e : RelateFault Key Id Name) → Refuses t q v a b e → Refuses r u v a b e
    turned_refuses (Unrelated e) h = (
      subst (λ s. NeverOne (at v) s a b) there.store h.0,
      subst (λ k. ErrorOf u.meaning k (items_of u.meaning) u.store v e a b) (sym (same_settings back.kept))
          (subst₂ (λ m s. ErrorOf m q.kept.settings (items_of m) s v e a b) (sym back.meaning) (sym back.store) h.1),
      subst (λ m. KnowsError m e) (sym back.meaning) h.2,
    )
    turned_refuses Budget h = (
      ap (λ s. s.budget) back.store ∙ h.0,
      subst (λ s. NeedsVariable s a b) there.store h.1,
      subst₂ (λ s z. KeepsOne (at v) s z a b) there.store (sym back.store) h.2,
    )
    turned_refuses Memory h = subst₂ (λ s z. KeepsOne (at v) s z a b) there.store (sym back.store) h

    turned_answers : (added : List Goal) (z : Tree) → Answers M t q added v a b z → Answers M r u added v a b z
    turned_answers added z h = record {
      outcome = subst₂ (λ s k. Outcome (items_in r) r.kept.environment (at v) s k r.goals added a b) there.store (sym back.store)
          (moved (at v) t.store q.store added a b (ap items_of there.meaning) (same_environment there.kept)
          there.goals h.outcome);
      answer = record {
        related = λ w s sat all.
            subst₂ (λ c e. Rel c w e (at v) (apply s a) (apply s z)) (ap items_of (sym back.meaning))
            (sym (same_environment back.kept)) ((h.answer).related w s (subst (λ k. Satisfies w k s) back.store sat)
            (subst₂ (λ m gs. All (Holds (items_of m) w s) gs) back.meaning back.goals all));
      };
      known = h.known;
      agrees = λ k st began.
          let z = h.agrees (subst (λ j. (M j).relates_agreeing) (sym (same_settings there.kept)) k) st
          (begins_turned there st began) in (
            subst₂ (λ j m. AgreeIn j (items_of m) st (at v) a b) (same_settings there.kept) there.meaning z.0,
            begins_turned back st z.1,
          );
    }

    pub turned : (result : Result X (RelateFault Key Id Name)) → Related M t q v a b tree result →
        Related M r u v a b tree result
    unfolding turned_passes
    turned result f = record {
      passes = turned_passes f.passes;
      verdict = verdict result f.verdict;
      exact = subst₂ (λ s z. ExactlyRelated (M r.kept.settings) s z v a b result) there.store (sym back.store)
          (subst (λ k. ExactlyRelated (M k) t.store q.store v a b result) (same_settings there.kept) f.exact);
      full = subst₂ (λ s z. StaysFullFor s z a b) there.store (sym back.store) f.full;
      built = subst₂ (λ s z. StaysBuilt s z (f.passes).added a b) there.store (sym back.store) f.built;
      records = records result f.records;
    }
      where
        records : (res : Result X (RelateFault Key Id Name)) → RecordsOf as_pair M t q (at v) a b res →
            RecordsOf as_pair M r u (at v) a b res
        records (Ok x) just = (
          λ promised bare. subst (λ m. RecordsJust (λ z. AsksFor (items_of m) z v a b) r u) there.meaning
              (records_between (turned_stands there) there.remembered (turned_stands back) back.remembered
              (just.0 (subst (λ j. (M j).records_asked) (sym (same_settings there.kept)) promised)
              (subst (λ j. AreBare j a b) (sym (same_settings there.kept)) bare))),
          λ promised. subst₂ (λ s z. AsksNoMore r.kept.settings (items_in r) s z v a b) there.store (sym back.store)
              (subst₂ (λ j m. AsksNoMore j (items_of m) t.store q.store v a b) (same_settings there.kept) there.meaning
              (just.1 (subst (λ j. (M j).records_asked) (sym (same_settings there.kept)) promised))),
        )
        records (Err e) just = tt

        verdict : (res : Result X (RelateFault Key Id Name)) → VerdictAs as_pair M t q (f.passes).added (at v) a b tree res →
            VerdictAs as_pair M r u (f.passes).added (at v) a b tree res
        verdict (Ok x) h = turned_answers (f.passes).added (tree x) h
        verdict (Err e) h = turned_refuses e h

  -- Nothing is to be done at bivariance.
  pub unlooked : {X : Type 0} (M : Manners) (r : State Key Id Name) (v : Variance) (a b : Tree)
      (tree : X → Tree) (x : X) → v ≡ Bivariant → IsTrue (known a) → tree x ≡ a → Related M r r v a b tree (Ok x)
  unfolding passes_nowhere
  unlooked M r v a b tree x e k same = record {
    passes = passes_nowhere (weight r.store a + weight r.store b) r;
    verdict = record {
      outcome = record {
        later = later_itself r.store;
        goals_in = All-nil (GoalInContext r.store);
        relates = λ w s sat all. anything e;
        keeps = λ w s sat one. (s, (λ k n h. refl), (sat, All-nil (MakesOneTree s)));
      };
      answer = subst (MayAnswer M r v a) (sym same) (may_itself M r v a);
      known = subst (λ u. IsTrue (known u)) (sym same) k;
      agrees = λ j st began. (anything_agreed r.kept.settings (items_in r) st v a b e, began);
    };
    exact = λ k is pair. absurd (invariant_is_not (sym is ∙ e));
    full = λ ha hb. full_itself r.store;
    built = built_itself r.store a b;
    records = (
      λ promised bare. records_trivial (stands_itself r) refl (λ z asks. absurd (nothing_at_bivariance asks e)),
      λ promised. no_more_same r.kept.settings (items_in r) r.store r.store v a b refl,
    );
  }

  -- Nothing was noted.
  pub noted_nothing : {X : Type 0} (x : X) (r : State Key Id Name) (a b : Tree) → Noted r r a b (Ok x)
  unfolding passes_nowhere
  noted_nothing x r a b = record {
    passes = passes_nowhere 0 r;
    store = refl;
    quiet = All-nil IsQuiet;
    built = λ k ha hb all. All-nil (IsGoalOf k);
    none = λ bare. refl;
    remembers = λ p m. inr m;
    fault = tt;
  }

  -- The interner's keys were added to.
  unfoldable pub passes_grown : {n : ℕ} {r q p : State Key Id Name} → Passes n r q → Extends q.meaning p.meaning →
      WithMeaning q p.meaning p → Passes n r p
  passes_grown {n} {r} {q} {p} g e w = record {
    extends = extends_on g.extends e;
    goes = subst (Goes n r.store) (sym w.store) g.goes;
    added = g.added;
    lengthens = w.goals ∙ g.lengthens;
    goals_in = subst (λ s. All (RegisteredIn r s) g.added) (sym w.store) g.goals_in;
    kept = w.kept ∙ g.kept;
    ambient = w.ambient ∙ g.ambient;
    lawful = λ l. w.lawful (g.lawful l);
  }

  -- What was an answer stays one.
  may_with : {q p : State Key Id Name} (M : Manners) (v : Variance) (t u : Tree) → Extends q.meaning p.meaning →
      WithMeaning q p.meaning p → MayAnswer M q v t u → MayAnswer M p v t u
  may_with {q} {p} M v t u e w h = record {
    related = λ j s sat all.
        subst₂ (λ c k. Rel c j k (at v) (apply s t) (apply s u)) (sym same) (sym (same_environment w.kept))
        (h.related j s (subst (λ k. Satisfies j k s) w.store sat)
        (subst₂ (λ c gs. All (Holds c j s) gs) same w.goals all));
  }
    where
      same : items_in p ≡ items_in q
      same = ap₂ declared_by e.variances e.alias_variances

  module _ {X Y : Type 0} {x : Meeting} {r q p : State Key Id Name} (M : Manners) (v : Variance) (a b : Tree)
      (e : Extends q.meaning p.meaning) (w : WithMeaning q p.meaning p) (answer : Y → Tree) where
    -- An answer was made anew of the same value.
    pub remade : (tree : X → Tree) (t : X) → RelatedAs x M r q (at v) a b tree (Ok t) → (z : Y) →
        MayAnswer M q v a (answer z) → IsTrue (known (answer z)) → RelatedAs x M r p (at v) a b answer (Ok z)
    unfolding passes_grown
    remade tree t f z value sure = record {
      passes = passes_grown f.passes e w;
      verdict = record {
        outcome = subst (λ s. Outcome (items_in r) r.kept.environment (at v) r.store s r.goals (f.passes).added a b) (sym w.store)
            (f.verdict).outcome;
        answer = may_with M v a (answer z) e w value;
        known = sure;
        agrees = λ k st began. let z = (f.verdict).agrees k st began in (z.0, begins_grown e w st z.1);
      };
      exact = λ k is pair. subst (λ s. IsFirstOrderStore s × Exact r.store s a b × KeepsUniverseOf r.store s a b)
          (sym w.store) (f.exact k is pair);
      full = subst (λ s. StaysFullFor r.store s a b) (sym w.store) f.full;
      built = subst (λ s. StaysBuilt r.store s (f.passes).added a b) (sym w.store) f.built;
      records = records x f.records;
    }
      where
        just : RecordsJustAsked M r q v a b → RecordsJustAsked M r p v a b
        just g promised bare =
            records_between (stands_itself r) refl (grown_stands e w) w.remembered (g promised bare)

        more : RecordsNoMore M r q v a b → RecordsNoMore M r p v a b
        more g promised =
            subst (λ s. AsksNoMore r.kept.settings (items_in r) r.store s v a b) (sym w.store) (g promised)

        records : (x : Meeting) → RecordsAs x M r q (at v) a b → RecordsAs x M r p (at v) a b
        records as_pair g = (just g.0, more g.1)
        records as_forms g = λ none. (just (g none).0, more (g none).1)

    -- Or it could not be made.
    pub made_or_not : (tree : X → Tree) (t : X) → RelatedAs x M r q (at v) a b tree (Ok t) →
        (res : Result Y (RelateFault Key Id Name)) → OnlyMemory res →
        IfOk res (λ z. MayAnswer M q v a (answer z) × IsTrue (known (answer z))) →
        RelatedAs x M r p (at v) a b answer res
    unfolding passes_grown
    made_or_not tree t f (Ok z) only h = remade tree t f z h.0 h.1
    made_or_not tree t f (Err Memory) only h = record {
      passes = passes_grown f.passes e w;
      verdict = subst (λ s. KeepsOne (at v) r.store s a b) (sym w.store) (one_outcome (f.verdict).outcome);
      exact = λ k is pair. subst (λ s. BindsNoMore r.store s a b × KeepsUnified r.store s a b) (sym w.store)
          (keeps_binds r.store q.store a b (f.exact k is pair).2, ((f.exact k is pair).1).keeps);
      full = subst (λ s. StaysFullFor r.store s a b) (sym w.store) f.full;
      built = subst (λ s. StaysBuilt r.store s (f.passes).added a b) (sym w.store) f.built;
      records = tt;
    }
    made_or_not tree t f (Err g) only h = absurd only

    -- The form over what may be answered for the parts was made, or could not be.
    pub form_made : (tree : X → Tree) (t : X) → RelatedAs x M r q (at v) a b tree (Ok t) → (res : Result Y (RelateFault Key Id Name)) →
        OnlyMemory res → (formed made : Tree) → MayAnswer M q v a formed → made ≡ formed →
        IfOk res (λ z. IsTrue (known (answer z))) → IfOk res (λ z. answer z ≡ made) →
        RelatedAs x M r p (at v) a b answer res
    form_made tree t f res only formed made value same sure means = made_or_not tree t f res only
        (if_ok_both {P = λ z. IsTrue (known (answer z))} {Q = λ z. answer z ≡ made}
        {R = λ z. MayAnswer M q v a (answer z) × IsTrue (known (answer z))} res
        (λ z k is. (subst (MayAnswer M q v a) (sym (is ∙ same)) value, k)) sure means)

  -- Memory ran out.
  pub stopped : {X : Type 0} {w : Meeting} {r q : State Key Id Name} (M : Manners) (v : Variance) (a b : Tree) (tree : X → Tree) →
      (g : Passes (weight r.store a + weight r.store b) r q) → KeepsOne (at v) r.store q.store a b →
      ((M r.kept.settings).is_exact → v ≡ Invariant → IsFirstOrderPair r.store a b →
      BindsNoMore r.store q.store a b × KeepsUnified r.store q.store a b) → StaysFullFor r.store q.store a b →
      StaysBuilt r.store q.store g.added a b → RelatedAs {X = X} w M r q (at v) a b tree (Err Memory)
  stopped M v a b tree g k f h d = record { passes = g; verdict = k; exact = f; full = h; built = d; records = tt }

  -- A step that answers.
  pub step_done : {K : Type 0} {r q : State Key Id Name} (M : Manners) (F : Tree → Type 0) (a b : Tree) (tree : K → Tree)
      (t : K) → Stepped M F r q a b tree (Ok (Done t)) →
      RecordsJustAsked M r q r.ambient a b × RecordsNoMore M r q r.ambient a b → Related M r q r.ambient a b tree (Ok t)
  step_done M F a b tree t s just = record {
    passes = s.passes;
    verdict = s.verdict;
    exact = s.exact;
    full = s.full;
    built = s.built;
    records = just;
  }

  -- A step that refuses.
  pub step_refused : {K X : Type 0} {r q : State Key Id Name} (M : Manners) (F : Tree → Type 0) (a b : Tree)
      (tree : K → Tree) (answer : X → Tree) (e : RelateFault Key Id Name) → Stepped M F r q a b tree (Err e) →
      Related M r q r.ambient a b answer (Err e)
  step_refused {K} {X} {r} {q} M F a b tree answer e s = record {
    passes = s.passes;
    verdict = s.verdict;
    exact = λ k is pair. exact_fault K X r.store q.store a b e (s.exact k is pair);
    full = s.full;
    built = s.built;
    records = tt;
  }

  -- The same answer in other words, and the same fault.
  pub retold : {X Y : Type 0} {w : Meeting} {r q : State Key Id Name} (M : Manners) (v : Variance) (a b : Tree) (tree : X → Tree) (t : X)
      (answer : Y → Tree) (z : Y) → answer z ≡ tree t → RelatedAs w M r q (at v) a b tree (Ok t) →
      RelatedAs w M r q (at v) a b answer (Ok z)
  retold {r = r} {q = q} M v a b tree t answer z e f = record {
    passes = f.passes;
    verdict = subst (λ u. Answers M r q (f.passes).added v a b u) (sym e) f.verdict;
    exact = f.exact;
    full = f.full;
    built = f.built;
    records = f.records;
  }

  pub refused_again : {X Y : Type 0} {w : Meeting} {r q : State Key Id Name} (M : Manners) (v : Variance) (a b : Tree) (tree : X → Tree)
      (answer : Y → Tree) (e : RelateFault Key Id Name) → RelatedAs w M r q (at v) a b tree (Err e) →
      RelatedAs w M r q (at v) a b answer (Err e)
  refused_again {X} {Y} {r} {q} M v a b tree answer e f =
      record {
        passes = f.passes;
        verdict = f.verdict;
        exact = λ k is pair. exact_fault X Y r.store q.store a b e (f.exact k is pair);
        full = f.full;
        built = f.built;
        records = tt;
      }

  pub relates_now : {X : Type 0} {w : Meeting} {r q : State Key Id Name} (M : Manners) (v : Variance) (a b : Tree) (tree : X → Tree)
      (t : X) → RelatedAs w M r q (at v) a b tree (Ok t) → Relates (items_in q) q.store q.goals q.kept.environment v a b
  relates_now M v a b tree t f = relates_by v a b f.passes (f.verdict).outcome

  -- So all is known of two terms that were related that is known of such.
  pub shown_by : {X : Type 0} {r q : State Key Id Name} (M : Manners) (v : Variance) (a b : Tree) (tree : X → Tree) (t : X)
      (g : Passes (weight r.store a + weight r.store b) r q) → Answers M r q g.added v a b (tree t) →
      ExactlyRelated {Key = Key} {Id = Id} {Name = Name} (M r.kept.settings) r.store q.store v a b (Ok t) → Shown M q v a b
  shown_by {r = r} {q = q} M v a b tree t g verdict exact = record {
    relates = relates_by v a b g verdict.outcome;
    unifies = λ k is pair s sol.
        let bindings = first_order_before r.store q.store (g.goes).later pair.bindings in
        let o = exact (same_manner M (λ z. z.is_exact) g k) is
        (record { left = pair.left; right = pair.right; bindings = bindings }) in
        ((o.1).shrinks s sol).1;
  }

  -- So are the terms as a step read them, when the pair that it left is related.
  pub again_relates : {X : Type 0} {r q p : State Key Id Name} (M : Manners) (a b k l x y u : Tree) (v : Variance)
      (g : Passes (weight r.store a + weight r.store b) r q) (led : LeadsAgain M r q g.added a b k l v x y u)
      (exactly : LeadsExactly M r q a b x y) (built : StaysBuilt r.store q.store g.added a b) (tree : X → Tree) (t : X) →
      Related M q p (xform r.ambient v) x y tree (Ok t) → Relates (items_in p) p.store p.goals p.kept.environment r.ambient k l
  unfolding passes_then
  again_relates {r = r} {q = q} M a b k l x y u v g led exactly built tree t f =
      relates_by r.ambient k l (passes_then g f.passes (small M a b k l x y u v g led exactly built))
      (led_outcome g f.passes k l x y (xform r.ambient v) led.read_leads (f.verdict).outcome)

  pub shown_now : {X : Type 0} {w : Meeting} {r q : State Key Id Name} (M : Manners) (v : Variance) (a b : Tree) (tree : X → Tree)
      (t : X) → RelatedAs w M r q (at v) a b tree (Ok t) → Shown M q v a b
  shown_now M v a b tree t f = shown_by M v a b tree t f.passes f.verdict f.exact

  -- And of the terms as a step read them, when the pair that it left is related.
  pub again_shown : {X : Type 0} {r q p : State Key Id Name} (M : Manners) (a b k l x y u : Tree) (v : Variance)
      (g : Passes (weight r.store a + weight r.store b) r q) (led : LeadsAgain M r q g.added a b k l v x y u)
      (exactly : LeadsExactly M r q a b x y) (built : StaysBuilt r.store q.store g.added a b) (tree : X → Tree) (t : X) →
      Related M q p (xform r.ambient v) x y tree (Ok t) → Shown M p r.ambient k l
  again_shown {r = r} {q = q} {p = p} M a b k l x y u v g led exactly built tree t f = record {
    relates = again_relates M a b k l x y u v g led exactly built tree t f;
    unifies = λ z is pair s sol.
        let bindings = first_order_before r.store p.store (later_through (g.goes).later ((f.passes).goes).later)
        pair.bindings in
        let promised = same_manner M (λ z. z.is_exact) f.passes z in
        let read = led.read_exactly (same_manner M (λ z. z.is_exact) g promised) is
        (record { left = pair.left; right = pair.right; bindings = bindings }) in
        let one = ((f.exact promised (xform_invariant _ v is) read.0).1).shrinks s sol in
        ((read.1).shrinks s one.0 one.1).1;
  }

  -- They agree then, by what relating may have begun with.
  pub related_agrees : {X : Type 0} {w : Meeting} {r q : State Key Id Name} (M : Manners) (v : Variance) (a b : Tree)
      (tree : X → Tree) (t : X) → RelatedAs w M r q (at v) a b tree (Ok t) → v ≡ r.ambient → {x y : Tree} → x ≡ a →
      y ≡ b → (M r.kept.settings).relates_agreeing → (st : Store) → BeganWith r st → AgreesIn q st (at q.ambient) x y
  related_agrees {q = q} M v a b tree t f is {x} {y} i j promised st began =
      subst₂ (AgreesIn q st (at q.ambient)) (sym i) (sym j)
      (subst (λ w. AgreesIn q st (at w) a b) (is ∙ sym (f.passes).ambient)
      (agrees_now f.passes st (at v) a b ((f.verdict).agrees promised st began).0))

  pub again_agreed : {X : Type 0} {r q p : State Key Id Name} (M : Manners) (a b k l x y u : Tree) (v : Variance)
      (g : Passes (weight r.store a + weight r.store b) r q) (led : LeadsAgain M r q g.added a b k l v x y u)
      (exactly : LeadsExactly M r q a b x y) (built : StaysBuilt r.store q.store g.added a b) (tree : X → Tree) (t : X) →
      Related M q p (xform r.ambient v) x y tree (Ok t) → {i j : Tree} → i ≡ k → j ≡ l →
      (M r.kept.settings).relates_agreeing → (st : Store) → BeganWith r st → AgreesIn p st (at p.ambient) i j
  unfolding passes_then
  again_agreed {r = r} {q = q} {p = p} M a b k l x y u v g led exactly built tree t f c d promised st began =
      let both = passes_then g f.passes (small M a b k l x y u v g led exactly built) in
      subst₂ (AgreesIn p st (at p.ambient)) (sym c) (sym d)
      (subst (λ w. AgreesIn p st (at w) k l) (sym both.ambient) (agrees_now both st (at r.ambient) k l
      (led_agrees g p k l x y (xform r.ambient v) led.read_leads
      ((f.verdict).agrees (manner_then M (λ z. z.relates_agreeing) g promised)) st began).0))

-- A step that leaves the pair as it is.
module _ {Key Id Name K : Type 0} (M : Manners) (F : Tree → Type 0) (r : State Key Id Name) (tree : K → Tree) where
  itself_left : (a b : K) → Asked M r r.ambient (tree a) (tree b) → F (tree a) → F (tree b) →
      (IsDeferred r.kept.settings (tree a) (tree b) → ⊥) → Stepped M F r r (tree a) (tree b) tree (Ok (Parts a b))
  unfolding passes_nowhere
  itself_left a b k f g left = record {
    passes = passes_nowhere _ r;
    verdict = record {
      leads = record {
        steps = record {
          later = later_itself r.store;
          goals_in = All-nil (GoalInContext r.store);
          relates = λ w s sat all h. h;
          keeps = λ w s sat one. (s, (λ j i h. refl), (sat, All-nil (MakesOneTree s), one));
        };
        errors = λ m j c st e l g h. h;
        agrees = λ st began. (λ h. h, began);
      };
      asked = k;
      left_form = f;
      right_form = g;
      not_left = left;
      answers = λ t w s sat all h. h;
      built = λ k ha hb all. (ha, hb);
      same_budget = refl;
      not_larger = omega arith;
    };
    exact = λ is v pair. (
      pair,
      record {
        later = later_itself r.store;
        shrinks = λ s h u. (h, u);
        keeps = λ s h u. (s, (λ j i h. refl), (h, u));
      },
      leads_itself r.store (tree a) (tree b),
    );
    full = λ ha hb. full_itself r.store;
    built = built_itself r.store (tree a) (tree b);
  }

  pub parts_left : (a b x y : K) → x ≡ a → y ≡ b → Asked M r r.ambient (tree a) (tree b) → F (tree a) → F (tree b) →
      (IsDeferred r.kept.settings (tree a) (tree b) → ⊥) → Stepped M F r r (tree a) (tree b) tree (Ok (Parts x y))
  parts_left a b x y e d k f g left =
      subst₂ (λ x y. Stepped M F r r (tree a) (tree b) tree (Ok (Parts x y))) (sym e) (sym d) (itself_left a b k f g left)
