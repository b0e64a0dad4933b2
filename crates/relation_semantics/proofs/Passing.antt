-- Steps and calls over a relation, one after another.
use Rattle.std.proofs.Common.{◌≡◌, ◌↔◌, ◌⊎◌, inl, inr, ℕ, ◌+◌, ◌≤◌, refl, sym, ap, ◌∙◌, subst, subst₂, List, [], ◌++◌, All, Result, Ok, Err}
use Rattle.std.proofs.Common.{append_assoc}
use Rattle.std.proofs.lemmas.List.{append-nil}
use Rattle.std.proofs.lemmas.Bool.{false≢true}
use Rattle.std.specs.Result.{IsErr, IsErrAnd}
use Rattle.std.proofs.lemmas.List.Elements.{All-nil}
use Rattle.term_enums.specs.declared.Variance.{Variance}
use Rattle.relation_terms.specs.Trees.{Tree, Assign, apply}
use Rattle.term_enums.specs.declared.Variance.TheVariants.{Bivariant, Invariant}
use Rattle.relation_terms.proofs.Stays.{stays_same, extends_on}
use Rattle.relation_folds.specs.declared.error.RelateFault.{RelateFault}
use Rattle.relation_folds.specs.declared.error.RelateFault.TheVariants.{Memory, Budget, Unrelated}
use Rattle.relation_semantics.specs.Relation.{Items, Way, at, Rel}
use Rattle.relation_folds.proofs.Lists.{All_front}
use Rattle.relation_semantics.specs.Errors.{by_forms, IsDeferred, as_pair, as_forms}
use Rattle.relation_semantics.specs.Asking.{Wanted, AsksFor}
use Rattle.relation_semantics.specs.Recording.{AreBare, AsksNoMore}
use Rattle.relation_semantics.specs.Stores.{Store, IsSound, all_bound}
use Rattle.relation_semantics.specs.Goals.{Goal, Holds, Relates}
use Rattle.relation_semantics.specs.Outcomes.{Outcome, CarriesOver, Exact, ExactStep, KeepsUnified}
use Rattle.relation_semantics.specs.Headline.{IsFirstOrderPair}
use Rattle.relation_semantics.specs.FirstOrder.{IsErasedSolution}
use Rattle.relation_semantics.specs.Steps.{IsLater}
use Rattle.relation_semantics.specs.Alphabets.{StaysBuilt, BuiltFrom}
use Rattle.relation_semantics.specs.Measures.{grown}
use Rattle.relation_semantics.specs.Lawful.{State, Manner, Manners, Takes, Passes, Asked, Refuses, Related, Leads}
use Rattle.relation_semantics.specs.Lawful.{RefusesAs, VerdictAs, RelatedForms, BeganWith, AgreesIn}
use Rattle.relation_semantics.specs.Lawful.{RecordsJust, RecordsOf}
use Rattle.relation_semantics.proofs.Recording.{bare_no_alias}
use Rattle.relation_semantics.proofs.Recording.{records_as, records_then}
use Rattle.relation_semantics.specs.Lawful.{ExactResult, ExactlyRelated, RegisteredIn}
use Rattle.relation_semantics.proofs.Exactness.{exact_steps_compose}
use Rattle.relation_semantics.proofs.Keeping.{one_led, unified_led}
use Rattle.relation_semantics.proofs.AskingSince.{gone_into}
use Rattle.relation_semantics.specs.Lawful.{Noted, OnlyMemory, items_in}
use Rattle.relation_semantics.proofs.Registered.{registered_both}
use Rattle.relation_semantics.proofs.Going.{goes_nowhere, goes_within, goes_then, later_through}
use Rattle.relation_semantics.proofs.Composing.{steps_compose}
use Rattle.relation_semantics.proofs.Standing.{later_term}
use Rattle.relation_semantics.proofs.Beginning.{agrees_then}
use Rattle.relation_semantics.proofs.Answering.{same_environment, same_settings, same_items}
use Rattle.relation_semantics.specs.OneUniverse.{LeadsInUniverse, BindsNoMore}
use Rattle.relation_semantics.proofs.OneUniverse.{led_keeps, led_binds, led_fewer}
use Rattle.relation_semantics.proofs.BuildingSteps.{needs_led}

-- An outcome over other items, in another environment, after other goals, which are the same.
pub moved : {c d : Items} {e k : Tree} {gs hs : List Goal} (way : Way) (before after : Store) (added : List Goal)
    (a b : Tree) → c ≡ d → e ≡ k → gs ≡ hs → Outcome c e way before after gs added a b →
    Outcome d k way before after hs added a b
moved {c} {d} {e} {k} {gs} {hs} way before after added a b p q s f =
    subst (λ z. Outcome z k way before after hs added a b) p
    (subst (λ z. Outcome c z way before after hs added a b) q
    (subst (λ z. Outcome c e way before after z added a b) s f))

-- Invariance is not bivariance.
pub invariant_is_not : Invariant ≡ Bivariant → ⊥
invariant_is_not e = absurd cc

-- What is exact stays so where all solutions up to erasure stay.
pub exact_kept : (before middle after : Store) (a b : Tree) → IsLater middle after →
    ((s : Assign) → IsErasedSolution middle s ↔ IsErasedSolution after s) → Exact before middle a b →
    Exact before after a b
exact_kept before middle after a b l same f = record {
  later = later_through f.later l;
  shrinks = λ s sol. f.shrinks s ((same s).1 sol);
  keeps = λ s sol one. let z = f.keeps s sol one in (z.0, z.1, (same z.0).0 z.2);
}

module _ {Key Id Name : Type 0} where
  unfoldable pub passes_nowhere : (n : ℕ) (r : State Key Id Name) → Passes n r r
  passes_nowhere n r = record {
    extends = stays_same r.meaning;
    goes = goes_nowhere n r.store;
    added = [];
    lengthens = sym (append-nil r.goals);
    goals_in = All-nil (RegisteredIn r r.store);
    kept = refl;
    ambient = refl;
    lawful = λ l. l;
  }

  unfoldable pub passes_within : {n m : ℕ} {r q : State Key Id Name} → n ≤ m → Passes n r q → Passes m r q
  passes_within h g = record {
    extends = g.extends;
    goes = goes_within h g.goes;
    added = g.added;
    lengthens = g.lengthens;
    goals_in = g.goals_in;
    kept = g.kept;
    ambient = g.ambient;
    lawful = g.lawful;
  }

  unfoldable pub passes_then : {n m : ℕ} {r q p : State Key Id Name} → (g : Passes n r q) → Passes m q p →
      m ≤ grown (g.goes).spent n → Passes n r p
  passes_then {n} {m} {r} {q} {p} g f h = record {
    extends = extends_on g.extends f.extends;
    goes = goes_then g.goes f.goes h;
    added = g.added ++ f.added;
    lengthens = f.lengthens ∙ ap (λ gs. gs ++ f.added) g.lengthens ∙ append_assoc r.goals g.added f.added;
    goals_in = registered_both r q p.store g.added f.added (same_items g) (same_environment g.kept)
        (same_settings g.kept) g.ambient (g.goes).later (f.goes).later g.goals_in f.goals_in;
    kept = f.kept ∙ g.kept;
    ambient = f.ambient ∙ g.ambient;
    lawful = λ l. f.lawful (g.lawful l);
  }

  -- What a relation takes and promises stays, as its settings do.
  pub same_manner : {n : ℕ} {r q : State Key Id Name} (M : Manners) (P : Manner → Type 0) → Passes n r q →
      P (M q.kept.settings) → P (M r.kept.settings)
  same_manner M P g h = subst (λ k. P (M k)) (same_settings g.kept) h

  pub manner_then : {n : ℕ} {r q : State Key Id Name} (M : Manners) (P : Manner → Type 0) → Passes n r q →
      P (M r.kept.settings) → P (M q.kept.settings)
  manner_then M P g h = subst (λ k. P (M k)) (sym (same_settings g.kept)) h

  pub asked_later : {n : ℕ} {r q : State Key Id Name} (M : Manners) (v : Variance) (a b : Tree) → Passes n r q →
      Asked M r v a b → Asked M q v a b
  asked_later {n} {r} {q} M v a b g k =
      let l = (g.goes).later in record {
        left_known = k.left_known;
        right_known = k.right_known;
        left_in = later_term r.store q.store l.grows l.universe_stands a k.left_in;
        right_in = later_term r.store q.store l.grows l.universe_stands b k.right_in;
        left_taken = manner_then M (λ z. Takes z v a) g k.left_taken;
        right_taken = manner_then M (λ z. Takes z v b) g k.right_taken;
      }

  -- An outcome after other work, seen from before it.
  pub outcome_seen : {n : ℕ} {r q : State Key Id Name} (g : Passes n r q) (way : Way) (after : Store) (added : List Goal)
      (a b : Tree) → Outcome (items_in q) q.kept.environment way q.store after q.goals added a b →
      Outcome (items_in r) r.kept.environment way q.store after (r.goals ++ g.added) added a b
  outcome_seen {q = q} g way after added a b f =
      moved way q.store after added a b (same_items g) (same_environment g.kept) g.lengthens f

  -- What comes of the pair that a step left comes of the pair that it was asked about.
  pub led_outcome : {n m : ℕ} {r q p : State Key Id Name} (g : Passes n r q) (f : Passes m q p) (a b x y : Tree)
      (v : Variance) → Leads r q g.added a b v x y →
      Outcome (items_in q) q.kept.environment (at v) q.store p.store q.goals f.added x y →
      Outcome (items_in r) r.kept.environment (at r.ambient) r.store p.store r.goals (g.added ++ f.added) a b
  led_outcome {r = r} {q = q} {p = p} g f a b x y v l o =
      (steps_compose (items_in r) r.kept.environment (at r.ambient) (at v) r.store q.store p.store r.goals g.added f.added
      a b x y l.steps).0 (outcome_seen g (at v) p.store f.added x y o)

  -- So the pair that it was asked about agrees if the one that is left does.
  pub led_agrees : {n : ℕ} {r q : State Key Id Name} (g : Passes n r q) (p : State Key Id Name) (a b x y : Tree)
      (v : Variance) → Leads r q g.added a b v x y → ((st : Store) → BeganWith q st → AgreesIn q st (at v) x y × BeganWith p st) →
      (st : Store) → BeganWith r st → AgreesIn r st (at r.ambient) a b × BeganWith p st
  led_agrees g p a b x y v l h st began =
      let led = l.agrees st began in
      let z = h st led.1 in
      (led.0 (agrees_then g st (at v) x y z.0), z.1)

  pub led_refuses : {n m : ℕ} {r q p : State Key Id Name} (g : Passes n r q) (f : Passes m q p) → IsSound p.store →
      (a b x y : Tree) (v : Variance) → Leads r q g.added a b v x y → StaysBuilt r.store q.store g.added a b →
      BuiltFrom r.store a b x y → (e : RelateFault Key Id Name) → Refuses q p v x y e → Refuses r p r.ambient a b e
  led_refuses {r = r} {q = q} {p = p} g f sound a b x y v l built from (Unrelated e) h = (
    (steps_compose (items_in r) r.kept.environment (at r.ambient) (at v) r.store q.store p.store r.goals g.added f.added
        a b x y l.steps).1 h.0,
    l.errors p.meaning p.kept.settings (items_in p) p.store e (f.goes).later sound h.1,
    h.2,
  )
  led_refuses {p = p} g f sound a b x y v l built from Budget h =
      (h.0, needs_led g.added a b x y built from h.1, one_led p.store l.steps h.2)
  led_refuses {p = p} g f sound a b x y v l built from Memory h = one_led p.store l.steps h

  -- A step led exactly to another pair, and what comes of that.
  abbrev pub LeadsExactly : Manners → State Key Id Name → State Key Id Name → Tree → Tree → Tree → Tree → Type 0
  LeadsExactly M r q a b x y = (M r.kept.settings).is_exact → r.ambient ≡ Invariant → IsFirstOrderPair r.store a b →
      IsFirstOrderPair q.store x y × ExactStep r.store q.store a b x y × LeadsInUniverse r.store q.store a b x y

  pub exact_led : {X : Type 0} (M : Manner) (before middle after : Store) (a b x y : Tree) (v w : Variance) →
      (v ≡ Invariant → w ≡ Invariant) → (M.is_exact → v ≡ Invariant → IsFirstOrderPair before a b →
      IsFirstOrderPair middle x y × ExactStep before middle a b x y × LeadsInUniverse before middle a b x y) →
      (res : Result X (RelateFault Key Id Name)) → ExactlyRelated M middle after w x y res →
      ExactlyRelated M before after v a b res
  exact_led M before middle after a b x y v w also led (Ok t) f k is pair =
      let l = led k is pair in
      let o = f k (also is) l.0 in (
        o.0,
        (exact_steps_compose before middle after a b x y l.1).0 o.1,
        led_keeps before middle after a b x y l.2 o.2,
      )
  exact_led M before middle after a b x y v w also led (Err (Unrelated e)) f k is pair =
      let l = led k is pair in
      let o = f k (also is) l.0 in
      ((exact_steps_compose before middle after a b x y l.1).1 o.0, led_binds before middle after a b x y l.2 o.1)
  exact_led M before middle after a b x y v w also led (Err Budget) f k is pair =
      let l = led k is pair in
      let o = f k (also is) l.0 in
      (led_fewer before middle after a b x y l.2 o.0, unified_led after l.1 o.1)
  exact_led M before middle after a b x y v w also led (Err Memory) f k is pair =
      let l = led k is pair in
      let o = f k (also is) l.0 in
      (led_binds before middle after a b x y l.2 o.0, unified_led after l.1 o.1)

  -- A fault, of whatever was to be answered.
  pub exact_fault : (X Y : Type 0) (before after : Store) (a b : Tree) (e : RelateFault Key Id Name) →
      ExactResult {X = X} before after a b (Err e) → ExactResult {X = Y} before after a b (Err e)
  exact_fault X Y before after a b (Unrelated e) f = f
  exact_fault X Y before after a b Budget f = f
  exact_fault X Y before after a b Memory f = f

  pub memory_said : (X Y : Type 0) (before after : Store) (a b : Tree) (e : RelateFault Key Id Name) →
      OnlyMemory {X = Y} (Err e) → BindsNoMore before after a b × KeepsUnified before after a b →
      ExactResult {X = X} before after a b (Err e)
  memory_said X Y before after a b Memory k f = f
  memory_said X Y before after a b e k f = absurd k

  -- A note binds no further variable.
  pub noted_bound : {X : Type 0} {r q : State Key Id Name} {a b : Tree} {res : Result X (RelateFault Key Id Name)} →
      Noted r q a b res →
      all_bound q.store ≡ all_bound r.store
  noted_bound h = ap all_bound h.store

  -- What is related is so under the goals that are registered then.
  pub relates_by : {n : ℕ} {r q : State Key Id Name} (v : Variance) (a b : Tree) (g : Passes n r q) →
      Outcome (items_in r) r.kept.environment (at v) r.store q.store r.goals g.added a b →
      Relates (items_in q) q.store q.goals q.kept.environment v a b
  relates_by {r = r} {q = q} v a b g o = λ w s sat all.
      subst₂ (λ c e. Rel c w e (at v) (apply s a) (apply s b)) (sym (same_items g)) (sym (same_environment g.kept))
      (o.relates w s sat
      (subst (λ gs. All (Holds (items_in r) w s) gs) g.lengthens
      (subst (λ c. All (Holds c w s) q.goals) (same_items g) all)))

  -- What relates one pair by another does so still.
  pub carries_later : {n : ℕ} {q p : State Key Id Name} → Passes n q p → (way' : Way) (x y : Tree) (way : Way) (a b : Tree) →
      CarriesOver (items_in q) q.kept.environment q.store q.goals way' x y way a b →
      CarriesOver (items_in p) p.kept.environment p.store p.goals way' x y way a b
  carries_later {q = q} {p = p} g way' x y way a b h = λ w s sat all.
      subst₂ (λ c e. Rel c w e way' (apply s x) (apply s y) → Rel c w e way (apply s a) (apply s b)) (sym (same_items g))
      (sym (same_environment g.kept)) (h w s ((g.goes).later.shrinks w s sat) (All_front (Holds (items_in q) w s) q.goals g.added
      (subst (λ gs. All (Holds (items_in q) w s) gs) g.lengthens
      (subst (λ c. All (Holds c w s) p.goals) (same_items g) all))))

  -- A pair that was related as two forms, and isn't left to a goal, was related as it is met.
  pub met_refuses : (r q : State Key Id Name) (v : Variance) (a b : Tree) → (IsDeferred q.kept.settings a b → ⊥) →
      (e : RelateFault Key Id Name) → RefusesAs as_forms r q (at v) a b e → Refuses r q v a b e
  met_refuses r q v a b n (Unrelated e) h = (h.0, by_forms n h.1, h.2)
  met_refuses r q v a b n Budget h = h
  met_refuses r q v a b n Memory h = h

  pub forms_met : {X : Type 0} {r q : State Key Id Name} (M : Manners) (v : Variance) (a b : Tree) (tree : X → Tree)
      (result : Result X (RelateFault Key Id Name)) → (IsDeferred r.kept.settings a b → ⊥) →
      RelatedForms M r q v a b tree result → Related M r q v a b tree result
  forms_met {X} {r} {q} M v a b tree result n f = record {
    passes = f.passes;
    verdict = verdict result f.verdict;
    exact = f.exact;
    full = f.full;
    built = f.built;
    records = records result f.records;
  }
    where
      records : (res : Result X (RelateFault Key Id Name)) → RecordsOf as_forms M r q (at v) a b res →
          RecordsOf as_pair M r q (at v) a b res
      records (Ok t) h = (
        λ promised bare. (h (bare_no_alias r.kept.settings a b bare n)).0 promised bare,
        λ promised k gone ha hb all. (h (gone_into r.kept.settings k a b gone ha hb n)).1 promised k gone ha hb all,
      )
      records (Err e) h = tt

      verdict : (res : Result X (RelateFault Key Id Name)) → VerdictAs as_forms M r q (f.passes).added (at v) a b tree res →
          VerdictAs as_pair M r q (f.passes).added (at v) a b tree res
      verdict (Ok t) h = h
      verdict (Err e) h =
          met_refuses r q v a b (subst (λ k. IsDeferred k a b → ⊥) (sym (same_settings (f.passes).kept)) n) e h

  -- The terms to which a step of two bare ones led are these, and what they ask for is what those do.
  pub bare_led : {n : ℕ} {r q : State Key Id Name} (g : Passes n r q) (a b x y : Tree) → x ≡ a → y ≡ b →
      AreBare r.kept.settings a b → AreBare q.kept.settings x y
  bare_led g a b x y e d bare =
      subst₂ (λ k t. AreBare k t y) (sym (same_settings g.kept)) (sym e) (subst (AreBare _ a) (sym d) bare)

  pub records_led : {n m : ℕ} {r q p : State Key Id Name} (g : Passes n r q) (f : Passes m q p) (v : Variance)
      (a b x y : Tree) → x ≡ a → y ≡ b → RecordsJust (λ z. ⊥) r q → RecordsJust (λ z. AsksFor (items_in q) z v x y) q p →
      RecordsJust (λ z. AsksFor (items_in r) z v a b) r p
  records_led {r = r} {q = q} g f v a b x y e d before after =
      records_as (λ z w. inr (inr (subst (λ c. AsksFor c z v x y) (sym (same_items g))
      (subst₂ (AsksFor (items_in r) z v) (sym e) (sym d) w)))) to
      (records_then (same_environment f.kept) before after)
    where
      to : (z : Wanted) → ⊥ ⊎ AsksFor (items_in q) z v x y → AsksFor (items_in r) z v a b
      to z (inl o) = absurd o
      to z (inr w) = subst₂ (AsksFor (items_in r) z v) e d (subst (λ c. AsksFor c z v x y) (same_items g) w)

  -- No more than what is asked for was recorded, by the settings and the items of a state before.
  pub seen_no_more : {n : ℕ} {r q : State Key Id Name} (before after : Store) (v : Variance) (x y : Tree) →
      Passes n r q → AsksNoMore q.kept.settings (items_in q) before after v x y →
      AsksNoMore r.kept.settings (items_in r) before after v x y
  seen_no_more before after v x y g f =
      subst₂ (λ k c. AsksNoMore k c before after v x y) (same_settings g.kept) (same_items g) f

-- A result that is a fault.
pub as_err : {X F : Type 0} (res : Result X F) (f : F) → IsErr res → IsErrAnd res (λ e. e ≡ f) → res ≡ Err f
as_err (Ok x) f h p = absurd (false≢true h)
as_err (Err e) f h p = ap Err p
