-- A pair to which a step led was related, and something noted after it: so the first pair was related.
use Rattle.std.proofs.Common.{◌≡◌, ◌↔◌, ◌⊎◌, inl, inr, Contains, ◌+◌, ◌≤◌, sym, ap, ◌∙◌, subst, subst₂, arith, ◌++◌, IsTrue, Result, Ok, Err}
use Rattle.std.proofs.Common.{get_or}
use Rattle.std.proofs.lemmas.List.{append-nil}
use Rattle.std.proofs.lemmas.List.Elements.{All-append}
use Rattle.term_enums.specs.declared.Variance.{Variance}
use Rattle.relation_terms.specs.Trees.{Tree, Assign, known}
use Rattle.term_enums.specs.Variances.{xform}
use Rattle.relation_folds.specs.declared.error.RelateFault.{RelateFault}
use Rattle.relation_folds.specs.declared.error.RelateFault.TheVariants.{Memory}
use Rattle.relation_semantics.specs.Relation.{at}
use Rattle.relation_semantics.specs.Errors.{IsDeferred, Meeting, as_pair, as_forms}
use Rattle.relation_semantics.specs.Asking.{Wanted, AsksFor}
use Rattle.relation_semantics.specs.Recording.{AreBare, AsksNoMore, LeadsAsking}
use Rattle.relation_semantics.specs.Stores.{Store, IsSound, Satisfies, weight}
use Rattle.relation_semantics.specs.Goals.{Goal, Holds, Request, asked, asks_too_much, asks_nothing, IsQuiet, AsksNoPair, HasOneTree, MakesOneTree}
use Rattle.relation_semantics.specs.Outcomes.{Outcome, KeepsUnified}
use Rattle.relation_semantics.specs.FirstOrder.{IsFirstOrderStore, IsErasedSolution}
use Rattle.relation_semantics.specs.Steps.{StaysFullFor}
use Rattle.relation_semantics.specs.Alphabets.{StaysBuilt, BuiltFrom}
use Rattle.relation_semantics.specs.Measures.{grown}
use Rattle.relation_semantics.specs.Lawful.{State, Manners, MayAnswer, Passes, Related}
use Rattle.relation_semantics.specs.Lawful.{RefusesAs, VerdictAs, RelatedAs, RelatedForms, Pair, MeansPair, BeganWith, AgreesIn}
use Rattle.relation_semantics.specs.Lawful.{RecordsJust, RecordsJustAsked, RecordsNoMore, RecordsAs, RecordsOf}
use Rattle.relation_semantics.proofs.Recording.{bare_no_alias}
use Rattle.relation_semantics.proofs.Recording.{records_remembering}
use Rattle.relation_semantics.specs.Lawful.{ExactlyRelated}
use Rattle.relation_semantics.proofs.Keeping.{one_outcome}
use Rattle.relation_semantics.proofs.AskingSince.{gone_into, no_more_led}
use Rattle.relation_semantics.specs.Lawful.{LeadsToParts, LeadsAgain, Noted, OnlyMemory, items_in}
use Rattle.relation_semantics.proofs.Registered.{registered_in, registered_both}
use Rattle.relation_semantics.proofs.Going.{le_grown, later_through}
use Rattle.relation_semantics.proofs.Full.{full_same, full_then, full_led, full_could}
use Rattle.relation_semantics.proofs.Building.{no_binder_from}
use Rattle.relation_semantics.proofs.Composing.{first_goals}
use Rattle.relation_semantics.proofs.Beginning.{begins_noting}
use Rattle.relation_semantics.proofs.Answering.{same_environment, same_settings, same_items, may_later}
use Rattle.relation_semantics.specs.OneUniverse.{KeepsUniverse}
use Rattle.relation_semantics.proofs.OneUniverse.{keeps_itself, keeps_binds, kept_then, binds_as_many}
use Rattle.relation_semantics.proofs.Erased.{xform_invariant}
use Rattle.relation_semantics.proofs.Passing.{exact_kept, passes_then, same_manner, manner_then, led_outcome, led_agrees, led_refuses, LeadsExactly, exact_led, exact_fault, memory_said, noted_bound, relates_by, carries_later, met_refuses, bare_led, records_led, seen_no_more}
use Rattle.relation_semantics.proofs.BuildingSteps.{built_led, builds_noting}

module _ {Key Id Name : Type 0} where
  -- The two forms to which a step led were related by their parts.
  pub parts_related : {X : Type 0} {r q p : State Key Id Name} (M : Manners) (F : Tree → Type 0) → IsSound p.store →
      (a b x y : Tree) (tree : X → Tree) (result : Result X (RelateFault Key Id Name))
      (g : Passes (weight r.store a + weight r.store b) r q) → LeadsToParts M F r q g.added a b x y →
      LeadsExactly M r q a b x y → StaysFullFor r.store q.store a b → StaysBuilt r.store q.store g.added a b →
      ((M r.kept.settings).records_asked → AreBare r.kept.settings a b → (x ≡ a) × (y ≡ b) ×
      RecordsJust (λ z. ⊥) r q) × ((M r.kept.settings).records_asked → LeadsAsking r.kept.settings (items_in r) r.store
      q.store r.ambient a b r.ambient x y) → RelatedForms M q p r.ambient x y tree result → Related M r p r.ambient a b tree result
  unfolding passes_then
  parts_related {X} {r} {q} {p} M F sound a b x y tree result g l exactly full built itself f = record {
    passes = passes_then g f.passes small;
    verdict = verdict result f.verdict;
    exact = exact_led (M r.kept.settings) r.store q.store p.store a b x y r.ambient r.ambient (λ e. e) exactly result
        (same_manner M (λ z. ExactlyRelated z q.store p.store r.ambient x y result) g f.exact);
    full = full_led a b x y full (no_binder_from r.store a b x y l.built) f.full;
    built = built_led g.added (f.passes).added a b x y built l.built f.built;
    records = records result f.records;
  }
    where
      records : (res : Result X (RelateFault Key Id Name)) → RecordsOf as_forms M q p (at r.ambient) x y res →
          RecordsOf as_pair M r p (at r.ambient) a b res
      records (Ok t) h = (
        λ promised bare.
            let i = itself.0 promised bare in
            let pair = bare_led g a b x y i.0 i.1 bare in
            records_led g f.passes r.ambient a b x y i.0 i.1 i.2 ((h (bare_no_alias q.kept.settings x y pair
            l.not_left)).0 (manner_then M (λ z. z.records_asked) g promised) pair),
        λ promised. no_more_led r.kept.settings (items_in r) r.store q.store p.store r.ambient r.ambient a b x y g.added
            ((f.passes).goes).later (itself.1 promised) built l.built
            (seen_no_more q.store p.store r.ambient x y g (λ k gone ha hb all.
            (h (gone_into q.kept.settings k x y gone ha hb l.not_left)).1
            (manner_then M (λ z. z.records_asked) g promised) k gone ha hb all)),
      )
      records (Err e) h = tt

      small : weight q.store x + weight q.store y ≤ grown (g.goes).spent (weight r.store a + weight r.store b)
      small =
          let h = le_grown (g.goes).spent (weight r.store a + weight r.store b) in
          let n = l.not_larger in omega arith

      verdict : (res : Result X (RelateFault Key Id Name)) →
          VerdictAs as_forms M q p (f.passes).added (at r.ambient) x y tree res →
          VerdictAs as_pair M r p (g.added ++ (f.passes).added) (at r.ambient) a b tree res
      verdict (Ok t) v = record {
        outcome = led_outcome g f.passes a b x y r.ambient l.leads v.outcome;
        answer = record {
          related = λ w s sat all. carries_later f.passes (at r.ambient) x (tree t) (at r.ambient) a (tree t)
              (l.answers (tree t)) w s sat all ((v.answer).related w s sat all);
        };
        known = v.known;
        agrees = λ k. led_agrees g p a b x y r.ambient l.leads (v.agrees (manner_then M (λ z. z.relates_agreeing) g k));
      }
      verdict (Err e) v = led_refuses g f.passes sound a b x y r.ambient l.leads built l.built e
          (met_refuses q p r.ambient x y (subst (λ k. IsDeferred k x y → ⊥) (sym (same_settings (f.passes).kept)) l.not_left) e v)

  -- The pair to which a step led was related, and the answer is the one that the step named.
  module _ {r q : State Key Id Name} (M : Manners) (a b k l x y u : Tree) (v : Variance)
      (g : Passes (weight r.store a + weight r.store b) r q) (led : LeadsAgain M r q g.added a b k l v x y u)
      (exactly : LeadsExactly M r q a b x y) (built : StaysBuilt r.store q.store g.added a b) where
    one_spent : (g.goes).spent ≡ 1
    one_spent = let c = (g.goes).counts in let f = led.falls in omega arith

    pub small : weight q.store x + weight q.store y ≤ grown (g.goes).spent (weight r.store a + weight r.store b)
    small = subst (λ n. weight q.store x + weight q.store y ≤ grown n (weight r.store a + weight r.store b))
        (sym one_spent) led.not_larger

    pub again_related : {X Y : Type 0} {p : State Key Id Name} (tree : X → Tree) (t : X) (answer : Y → Tree) (z : Y) → answer z ≡ u →
        ((M r.kept.settings).records_asked → AreBare r.kept.settings a b → ⊥) × ((M r.kept.settings).records_asked →
        LeadsAsking r.kept.settings (items_in r) r.store q.store r.ambient a b (xform r.ambient v) x y) →
        Related M q p (xform r.ambient v) x y tree (Ok t) → Related M r p r.ambient a b answer (Ok z)
    unfolding passes_then
    again_related {Y = Y} {p = p} tree t answer z e never f = record {
      passes = passes_then g f.passes small;
      verdict = record {
        outcome = led_outcome g f.passes a b x y (xform r.ambient v) led.leads (f.verdict).outcome;
        answer = subst (MayAnswer M p r.ambient a) (sym e) (record {
          related = λ w s sat all. carries_later f.passes (at (xform r.ambient v)) x y (at r.ambient) a u led.answers w s
              sat all (relates_by (xform r.ambient v) x y f.passes (f.verdict).outcome w s sat all);
        });
        known = subst (λ t. IsTrue (known t)) (sym e) led.answer_known;
        agrees = λ k. led_agrees g p a b x y (xform r.ambient v) led.leads
            ((f.verdict).agrees (manner_then M (λ z. z.relates_agreeing) g k));
      };
      exact = exact_led {Key = Key} {Id = Id} {Name = Name} {X = Y} (M r.kept.settings) r.store q.store p.store a b x y
          r.ambient (xform r.ambient v) (xform_invariant _ v) exactly (Ok z)
          (same_manner M (λ m. ExactlyRelated {Key = Key} {Id = Id} {Name = Name} m q.store p.store (xform r.ambient v) x y
          (Ok t)) g f.exact);
      full = λ ha hb. full_could led.may_instantiate;
      built = built_led g.added (f.passes).added a b x y built led.built f.built;
      records = (
        λ promised bare. absurd (never.0 promised bare),
        λ promised. no_more_led r.kept.settings (items_in r) r.store q.store p.store r.ambient (xform r.ambient v) a b x y
            g.added ((f.passes).goes).later (never.1 promised) built led.built
            (seen_no_more q.store p.store (xform r.ambient v) x y g
            ((f.records).1 (manner_then M (λ z. z.records_asked) g promised))),
      );
    }

    pub again_refused : {X Y : Type 0} {p : State Key Id Name} → IsSound p.store → (tree : X → Tree) (answer : Y → Tree)
        (e : RelateFault Key Id Name) → Related M q p (xform r.ambient v) x y tree (Err e) → Related M r p r.ambient a b answer (Err e)
    unfolding passes_then
    again_refused {X = X} {Y = Y} {p = p} sound tree answer e f = record {
      passes = passes_then g f.passes small;
      verdict = led_refuses g f.passes sound a b x y (xform r.ambient v) led.leads built led.built e f.verdict;
      exact = exact_led {X = Y} (M r.kept.settings) r.store q.store p.store a b x y r.ambient (xform r.ambient v)
          (xform_invariant _ v) exactly (Err e) (λ k is pair. exact_fault X Y q.store p.store x y e
          (f.exact (manner_then M (λ z. z.is_exact) g k) is pair));
      full = λ ha hb. full_could led.may_instantiate;
      built = built_led g.added (f.passes).added a b x y built led.built f.built;
      records = tt;
    }

  -- What is noted after two terms were related leaves them so.
  module _ {X Y : Type 0} {w : Meeting} {r q p : State Key Id Name} (M : Manners) (v : Variance) (a b : Tree)
      (tree : X → Tree) (t : X) (f : RelatedAs w M r q (at v) a b tree (Ok t)) (note : Result Y (RelateFault Key Id Name))
      {x y : Tree} (h : Noted q p x y note) (from : BuiltFrom r.store a b x y) where
    both : Passes (weight r.store a + weight r.store b) r p
    both = passes_then f.passes h.passes (omega arith)

    same_solutions : (s : Assign) → IsErasedSolution q.store s ↔ IsErasedSolution p.store s
    same_solutions s = (
      (λ y. subst (λ k. IsErasedSolution k s) (sym h.store) y),
      (λ y. subst (λ k. IsErasedSolution k s) h.store y),
    )

    one_tree : (s : Assign) (g : Goal) → IsQuiet g → MakesOneTree s g
    one_tree s g quiet = still (asked g.predicate) quiet
      where
        still : (q : Request) → AsksNoPair q → HasOneTree s q
        still asks_too_much h = tt
        still asks_nothing h = tt
        still q h = absurd h

    outcome : Outcome (items_in r) r.kept.environment (at v) r.store p.store r.goals ((f.passes).added ++ (h.passes).added) a b
    outcome = record {
      later = later_through ((f.passes).goes).later ((h.passes).goes).later;
      goals_in = registered_in ((f.passes).added ++ (h.passes).added) (registered_both r q p.store
          (f.passes).added (h.passes).added (same_items f.passes) (same_environment (f.passes).kept)
          (same_settings (f.passes).kept) (f.passes).ambient ((f.passes).goes).later ((h.passes).goes).later (f.passes).goals_in (h.passes).goals_in);
      relates = λ w s sat all. ((f.verdict).outcome).relates w s (((h.passes).goes).later.shrinks w s sat)
          (first_goals (Holds (items_in r) w s) r.goals (f.passes).added (h.passes).added all);
      keeps = λ w s sat one. let z = ((f.verdict).outcome).keeps w s sat one in (
        z.0,
        z.1,
        (
          subst (λ k. Satisfies w k z.0) (sym h.store) z.2.0,
          All-append (MakesOneTree z.0) (f.passes).added (h.passes).added z.2.1
              (λ k d i. one_tree z.0 (get_or (h.passes).added k d) (h.quiet k d i)),
        ),
      );
    }

    noted_built : StaysBuilt r.store p.store ((f.passes).added ++ (h.passes).added) a b
    noted_built k ha hb all =
        let z = from k ha hb all in
        let built = f.built k ha hb all in
        builds_noting k (f.passes).added (h.passes).added h.store built (h.built k z.0 z.1 built.binds)

    -- What two bare terms asked for was recorded, and the two may be remembered.
    noted_records : ((M r.kept.settings).records_asked → AreBare r.kept.settings a b →
        (x ≡ a) × (y ≡ b) × (q.ambient ≡ v)) →
        RecordsJustAsked M r q v a b → RecordsJustAsked M r p v a b
    noted_records same just promised bare = records_remembering (record {
      extends = (h.passes).extends;
      constraints = ap (λ s. s.constraints) h.store;
      goals = (h.passes).lengthens ∙ ap (λ gs. q.goals ++ gs) (h.none (bare_led f.passes a b x y s.0 s.1 bare))
          ∙ append-nil q.goals;
      settings = same_settings (h.passes).kept;
      environment = same_environment (h.passes).kept;
    }) (just promised bare) (λ o m. member o (h.remembers o m))
      where
        s : (x ≡ a) × (y ≡ b) × (q.ambient ≡ v)
        s = same promised bare

        member : (o : Pair Key) → MeansPair p o x y ⊎ Contains q.remembered o → (IsTrue (known ((p.meaning).ty o.1)) ×
            IsTrue (known ((p.meaning).ty o.2)) × ((z : Wanted) →
            AsksFor (items_in p) z o.0 ((p.meaning).ty o.1) ((p.meaning).ty o.2) → AsksFor (items_in r) z v a b)) ⊎
            Contains q.remembered o
        member o (inr m) = inr m
        member o (inl i) = inl (
          subst (λ t. IsTrue (known t)) (sym i.1) i.3,
          subst (λ t. IsTrue (known t)) (sym i.2) i.4,
          λ z asks. subst (λ u. AsksFor (items_in r) z u a b) (i.0 ∙ (h.passes).ambient ∙ s.2)
              (subst₂ (AsksFor (items_in r) z o.0) (i.1 ∙ s.0) (i.2 ∙ s.1)
              (subst (λ c. AsksFor c z o.0 ((p.meaning).ty o.1) ((p.meaning).ty o.2))
              (same_items h.passes ∙ same_items f.passes) asks)),
        )

    noted_no_more : RecordsNoMore M r q v a b → RecordsNoMore M r p v a b
    noted_no_more just promised =
        subst (λ s. AsksNoMore r.kept.settings (items_in r) r.store s v a b) (sym h.store) (just promised)

    pub noted_related : (answer : X → Tree) → answer t ≡ tree t → ((M r.kept.settings).records_asked →
        AreBare r.kept.settings a b → (x ≡ a) × (y ≡ b) × (q.ambient ≡ v)) →
        ((M r.kept.settings).relates_agreeing → (st : Store) → BeganWith r st → AgreesIn q st (at q.ambient) x y) →
        RelatedAs w M r p (at v) a b answer (Ok t)
    unfolding passes_then both
    noted_related answer e same agreed = record {
      passes = both;
      verdict = record {
        outcome = outcome;
        answer = subst (MayAnswer M p v a) (sym e) (may_later M v a (tree t) h.passes (f.verdict).answer);
        known = subst (λ u. IsTrue (known u)) (sym e) (f.verdict).known;
        agrees = λ k st began. let z = (f.verdict).agrees k st began in
            (z.0, begins_noting h st (agreed k st began) z.1);
      };
      exact = λ k is pair. let z = f.exact k is pair in (
        subst IsFirstOrderStore (sym h.store) z.0,
        exact_kept r.store q.store p.store a b ((h.passes).goes).later same_solutions z.1,
        kept_then r.store q.store p.store a b z.2 (subst (KeepsUniverse q.store) (sym h.store) (keeps_itself q.store)),
      );
      full = λ ha hb. full_then (f.full ha hb) (full_same h.store);
      built = noted_built;
      records = records w f.records;
    }
      where
        records : (w : Meeting) → RecordsAs w M r q (at v) a b → RecordsAs w M r p (at v) a b
        records as_pair just = (noted_records same just.0, noted_no_more just.1)
        records as_forms just = λ none. (noted_records same (just none).0, noted_no_more (just none).1)

    pub noted_refused : {Z : Type 0} (answer : Z → Tree) (e : RelateFault Key Id Name) → note ≡ Err e →
        RelatedAs {X = Z} w M r p (at v) a b answer (Err e)
    unfolding passes_then both
    noted_refused {Z} answer e n = record {
      passes = both;
      verdict = refuses e (subst OnlyMemory n h.fault);
      exact = λ k is pair. memory_said Z Y r.store p.store a b e (subst OnlyMemory n h.fault) (
        binds_as_many r.store q.store p.store a b (noted_bound h)
            (keeps_binds r.store q.store a b (f.exact k is pair).2),
        subst (λ s. KeepsUnified r.store s a b) (sym h.store) ((f.exact k is pair).1).keeps,
      );
      full = λ ha hb. full_then (f.full ha hb) (full_same h.store);
      built = noted_built;
      records = tt;
    }
      where
        refuses : (e : RelateFault Key Id Name) → OnlyMemory {X = Y} (Err e) → RefusesAs w r p (at v) a b e
        refuses Memory k = one_outcome outcome
        refuses e k = absurd k
