-- Steps of a relation over a context: what its keys mean and what is recorded is the context's, and nothing is
-- registered.
use Rattle.std.proofs.Common.{◌≡◌, ◌≢◌, ◌⊎◌, ℕ, ◌+◌, refl, sym, ap, ap₂, ◌∙◌, arith, inl, inr, subst, subst₂, List, [], IsTrue}
use Rattle.std.proofs.Common.{◌≤◌, max, min, Ok, Err, true, false, nat_eq}
use native.Mathlib.Decide.{dec_le}
use Rattle.std.proofs.lemmas.Bool.Decides.{eqb_tells}
use Rattle.std.proofs.lemmas.List.Elements.{All-nil}
use Rattle.std.proofs.lemmas.List.{append-nil}
use Rattle.term_enums.specs.declared.Variance.{Variance}
use Rattle.term_enums.specs.declared.Variance.TheVariants.{Bivariant}
use Rattle.relation_terms.specs.declared.terms.keys.TyKey.{TyKey}
use Rattle.relation_terms.specs.Heads.{type_sort, VarKind, type_var, region_var, variable}
use Rattle.relation_terms.specs.Trees.{Tree, leaf, Assign, apply, IsTerm, known}
use Rattle.relation_terms.specs.Erasure.{erase}
use Rattle.relation_terms.specs.Meaning.{Meaning, Extends}
use Rattle.relation_terms.proofs.Stays.{stays_same, extends_on}
use Rattle.relation_folds.specs.declared.error.TypeError.{TypeError}
use Rattle.relation_folds.specs.declared.error.TypeError.TheVariants.{Sorts}
use Rattle.relation_folds.specs.declared.error.RelateFault.{RelateFault}
use Rattle.relation_folds.specs.declared.error.RelateFault.TheVariants.{Unrelated}
use Rattle.relation_folds.specs.Faults.{KnowsError}
use Rattle.relation_semantics.specs.declared.relate.Step.TheVariants.{Done, Parts}
use Rattle.term_enums.specs.declared.StructurallyRelateAliases.TheVariants.{No}
use Rattle.relation_semantics.specs.Settings.{Settings}
use Rattle.relation_semantics.specs.Relation.{Items, Interpretation, Rel, at, sort_of, IsError, same as same_rel}
use Rattle.relation_semantics.specs.Agreeing.{AgreeIn}
use Rattle.relation_semantics.proofs.AgreeingBefore.{same_agreed, root_agreed, root_agreed_back, read_agreed}
use Rattle.relation_semantics.proofs.Beginning.{begins_by}
use Rattle.relation_semantics.proofs.Standing.{itself_stands}
use Rattle.relation_semantics.proofs.StoreCalls.{number_stands}
use Rattle.relation_semantics.specs.Stores.{Store, unbound, entry_of, IsSound, Satisfies, IsMade, InContext, MayStandFor}
use Rattle.relation_semantics.specs.Stores.{weight, IsTermIn}
use Rattle.relation_semantics.specs.Goals.{Goal, GoalInContext, MakesOneTree}
use Rattle.relation_semantics.specs.Steps.{IsLater, Equates, InstantiatesNumber, StaysFull, IsNumberKind}
use Rattle.relation_semantics.specs.Alphabets.{StaysBuilt, IsBuiltOf}
use Rattle.relation_semantics.proofs.Building.{read_from}
use Rattle.relation_semantics.specs.Outcomes.{Exact, NoEqualTerms, NoUnifier}
use Rattle.relation_semantics.specs.Measures.{Goes}
use Rattle.relation_semantics.specs.Errors.{ErrorOf, IsDeferred, of_entries, IsReadAs, itself, by_class, by_binding}
use Rattle.relation_semantics.specs.FirstOrder.{IsFirstOrderStore}
use Rattle.relation_semantics.specs.Bound.{IsWellBound}
use Rattle.relation_semantics.specs.Lawful.{RegisteredIn, Passes, Asked, Takes, Stepped, items_of, Kept, Pair, State}
use Rattle.relation_combining.specs.Combining.{CanCombine, CanMeet}
use Rattle.relation_goals.specs.Emitting.{IsOver, WithContext}
use Rattle.relation_semantics.specs.Contexts.{Context}
use Rattle.relation_semantics.specs.ContextCalls.{Grows, Stands, BindingsAreWellBound}
use Rattle.relation_combining.specs.Solving.{solver_manner}
use Rattle.relation_semantics.proofs.Trees.{all_leaves}
use Rattle.relation_semantics.proofs.Going.{later_itself, goes_nowhere}
use Rattle.relation_semantics.proofs.Full.{full_itself}
use Rattle.relation_semantics.proofs.ReadAs.{read_value, read_later, read_weight}
use Rattle.relation_semantics.specs.OneUniverse.{KeepsUniverse}
use Rattle.relation_semantics.proofs.OneUniverse.{keeps_pair, binds_itself, reading_leads}
use Rattle.relation_semantics.proofs.Roots.{roots_goes, roots_equal, roots_keep, roots_exactly, roots_universe, roots_full, roots_built, exact_turned}
use Rattle.relation_semantics.proofs.Numbers.{number_goes, number_equal, number_keep, number_exactly, number_apart}
use Rattle.relation_semantics.proofs.Numbers.{number_universe, number_full}
use Rattle.relation_semantics.proofs.Numbers.{number_no_unifier, number_error, number_error_back}
use Rattle.relation_semantics.proofs.BuildingSteps.{built_itself, builds_number}
use Rattle.relation_combining.proofs.Exactly.{read_pair, reading_exact}

-- Two roots that are made one agreed.
roots_agreed : (st was now : Store) → IsSound st → IsLater st was → (set : Settings) (c : Items) (v : Variance)
    (k : VarKind) (i l : ℕ) (a b : Tree) → a ≡ leaf (variable k i) → b ≡ leaf (variable k l) →
    ((i ≡ l → ⊥) → Equates was now k (max i l) (min i l)) → AgreeIn set c st (at v) a b
roots_agreed st was now g before set c v k i l a b p q equates = go (eqb_tells i l)
  where
    free : Equates was now k (max i l) (min i l) → entry_of was k i ≡ unbound
    free e = of_either (dec_le i l)
      where
        of_either : Dec (i ≤ l) → entry_of was k i ≡ unbound
        of_either (yes h) = ap (entry_of was k) (let z : i ≡ min i l = omega arith in z) ∙ e.root_unbound
        of_either (no h) = ap (entry_of was k) (let z : i ≡ max i l = omega arith in z) ∙ (e.links).was_unbound

    go : ((nat_eq i l ≡ true) × (i ≡ l)) ⊎ ((nat_eq i l ≡ false) × (i ≢ l)) → AgreeIn set c st (at v) a b
    go (inl z) = same_agreed set c st v a b (p ∙ ap (λ n. leaf (variable k n)) z.1 ∙ sym q)
    go (inr z) = root_agreed st was g before set c v k i a b (free (equates z.1)) p
        (subst (MayStandFor k) (sym q) (itself_stands k l))

-- A relation over other keys and another record, with another invariant.
abbrev pub standing : {Key Id Name : Type 0} → State Key Id Name → Meaning Key Id Name → Store → Type 0 →
    State Key Id Name
standing r m st L = record {
  meaning = m;
  store = st;
  goals = r.goals;
  kept = r.kept;
  ambient = r.ambient;
  remembered = r.remembered;
  lawful = L;
}

-- What binds by its lists is taken at each variance, however the relation is set up.
abbrev pub any_settings : Settings
any_settings = record {
  structurally_relate_aliases = No;
  next_solver = true;
  coherence = false;
  declared_at_invariance = false;
}

pub all_taken : (v : Variance) (t : Tree) → IsWellBound t → Takes (solver_manner any_settings) v t
all_taken v t c = (all_leaves _ (λ l. tt) t, c)

-- What is read of what binds by its lists does so too, where all that is bound does.
pub read_by_lists : (st : Store) → BindingsAreWellBound st → (a u : Tree) → IsReadAs st a u → IsWellBound a → IsWellBound u
read_by_lists st all a u (itself e) h = subst IsWellBound e h
read_by_lists st all a u (by_class k n m e c r) h = read_by_lists st all (leaf (variable k m)) u r tt
read_by_lists st all a u (by_binding {u = x} k n e b r) h = read_by_lists st all x u r (all k n x b)

module _ {Key Id Name : Type 0} (r : State Key Id Name) where
  -- Work that recorded something, and registered no goal.
  unfoldable pub over_passes : {N : ℕ} {m n : Meaning Key Id Name} {was now : Store} {L K : Type 0} → Extends m n →
      Goes N was now → (L → K) → Passes N (standing r m was L) (standing r n now K)
  over_passes {m = m} {was = was} {now = now} {L = L} grown goes l = record {
    extends = grown;
    goes = goes;
    added = [];
    lengthens = sym (append-nil r.goals);
    goals_in = All-nil (RegisteredIn (standing r m was L) now);
    kept = refl;
    ambient = refl;
    lawful = l;
  }

  -- Two terms were made one, and one of them is the answer.
  pub one_step : {X : Type 0} (F : Tree → Type 0) (m n : Meaning Key Id Name) (was now : Store) (L K : Type 0) (a b : Tree) (tree : X → Tree) (t : X) → n ≡ m →
      Goes (weight was a + weight was b) was now → (L → K) →
      ((w : Interpretation) (s : Assign) → Satisfies w now s → apply s a ≡ apply s b) →
      ((w : Interpretation) (s : Assign) → Satisfies w was s → apply s a ≡ apply s b →
      Satisfies w now s) →
      (IsFirstOrderStore was → IsFirstOrderStore now × Exact was now a b) → KeepsUniverse was now → StaysFull was now →
      StaysBuilt was now [] a b →
      (tree t ≡ a) ⊎ (tree t ≡ b) → IsTrue (known (tree t)) →
      ((set : Settings) (c : Items) (st : Store) → IsSound st → IsLater st was → AgreeIn set c st (at r.ambient) a b) →
      Stepped solver_manner F (standing r m was L) (standing r n now K) a b tree (Ok (Done t))
  unfolding over_passes
  one_step {X} F m n was now L K a b tree t same goes l equal keep exactly universe full built answer sure agreeing =
      subst (λ n. Stepped solver_manner F (standing r m was L) (standing r n now K) a b tree (Ok (Done t))) (sym same) step
    where
      answers : (tree t ≡ a) ⊎ (tree t ≡ b) → (w : Interpretation) (s : Assign) → Satisfies w now s →
          apply s a ≡ apply s (tree t)
      answers (inl p) w s sat = ap (apply s) (sym p)
      answers (inr p) w s sat = equal w s sat ∙ ap (apply s) (sym p)

      step : Stepped solver_manner F (standing r m was L) (standing r m now K) a b tree (Ok (Done t))
      step = record {
        passes = over_passes (stays_same m) goes l;
        verdict = record {
          outcome = record {
            later = goes.later;
            goals_in = All-nil (GoalInContext now);
            relates = λ w s sat all. same_rel (equal w s sat);
            keeps = λ w s sat h. (s, (λ k n h. refl), (keep w s sat h, All-nil (MakesOneTree s)));
          };
          answer = record { related = λ w s sat all. same_rel (answers answer w s sat) };
          known = sure;
          agrees = λ k st began. (
            agreeing r.kept.settings (items_of m) st began.sound began.later,
            begins_by (standing r m was L) (standing r m now K) (stays_same m) goes.later refl refl st began,
          );
        };
        exact = λ k is pair. let z = exactly pair.bindings in (z.0, z.1, keeps_pair was now a b universe);
        full = λ ha hb. full;
        built = built;
      }

  -- Nothing was recorded, and an error tells two terms apart.
  pub unrelated_step : {X : Type 0} (F : Tree → Type 0) (m n : Meaning Key Id Name) (was now : Store) (L K : Type 0) (a b : Tree) (tree : X → Tree) (f : RelateFault Key Id Name)
      (g : TypeError Key Id Name) → n ≡ m → now ≡ was → (L → K) → f ≡ Unrelated g →
      NoEqualTerms was a b → NoUnifier was a b → ErrorOf m r.kept.settings (items_of m) was r.ambient g a b → KnowsError m g →
      Stepped solver_manner F (standing r m was L) (standing r n now K) a b tree (Err f)
  unfolding over_passes
  unrelated_step {X} F m n was now L K a b tree f g same stays l is apart no_unifier error sure =
      subst₂ (λ n now. Stepped solver_manner F (standing r m was L) (standing r n now K) a b tree (Err f)) (sym same)
      (sym stays) (subst (λ f. Stepped solver_manner F (standing r m was L) (standing r m was K) a b tree (Err f))
      (sym is) (record {
        passes = over_passes (stays_same m) (goes_nowhere _ was) l;
        verdict = (apart, error, sure);
        exact = λ k is pair. (no_unifier, binds_itself was a b);
        full = λ ha hb. full_itself was;
        built = built_itself was a b;
      }))

  -- Two roots of a kind were made one.
  pub roots_step : {X : Type 0} (F : Tree → Type 0) (m n : Meaning Key Id Name) (was now : Store) (L K : Type 0) (k : VarKind) → k ≢ region_var → (i l : ℕ) (a b : Tree) (tree : X → Tree) (t : X) → n ≡ m →
      IsSound was → (L → K) → (i ≡ l → now ≡ was) →
      ((i ≡ l → ⊥) → Equates was now k (max i l) (min i l)) → a ≡ leaf (variable k i) →
      b ≡ leaf (variable k l) → tree t ≡ a →
      Stepped solver_manner F (standing r m was L) (standing r n now K) a b tree (Ok (Done t))
  roots_step F m n was now L K k o i l a b tree t same sound after still equates p q answer =
      one_step F m n was now L K a b tree t same (roots_goes was now k o i l sound still equates _) after
      (λ w s sat. ap (apply s) p ∙ roots_equal was now k o i l sound still equates w s sat ∙ sym (ap (apply s) q))
      (λ w s sat one. roots_keep was now k o i l sound still equates w s sat
      (sym (ap (apply s) p) ∙ one ∙ ap (apply s) q))
      (λ h. let z = roots_exactly was now k o i l sound still equates h in
      (z.0, subst₂ (Exact was now) (sym p) (sym q) z.1))
      (roots_universe was now k o i l sound still equates) (roots_full was now k o i l sound still equates)
      (roots_built was now k o i l sound still equates a b p)
      (inl answer) (subst (λ z. IsTrue (known z)) (sym (answer ∙ p)) refl)
      (λ set c st g before. roots_agreed st was now g before set c r.ambient k i l a b p q equates)

  -- A root of a number variable was bound to the other side, a type of its kind.
  pub number_step : {X : Type 0} (F : Tree → Type 0) (m n : Meaning Key Id Name) (was now : Store) (L K : Type 0) (k : VarKind) (i : ℕ) (a b : Tree) (tree : X → Tree) (t : X) → n ≡ m →
      IsSound was → (L → K) →
      InstantiatesNumber was now k i b → a ≡ leaf (variable k i) → tree t ≡ b →
      IsTrue (known b) → Stepped solver_manner F (standing r m was L) (standing r n now K) a b tree (Ok (Done t))
  number_step F m n was now L K k i a b tree t same sound after h p answer sure =
      one_step F m n was now L K a b tree t same (number_goes was now k i b h sound _) after
      (λ w s sat. ap (apply s) p ∙ number_equal was now k i b h sound w s sat)
      (λ w s sat one. number_keep was now k i b h sound w s sat (sym (ap (apply s) p) ∙ one))
      (λ f. let z = number_exactly was now k i b h sound f in
      (z.0, subst (λ c. Exact was now c b) (sym p) z.1))
      (number_universe was now k i b h sound) (number_full was now k i b h sound)
      (λ j ha hb all. builds_number j b h (subst (IsBuiltOf j) p ha) hb all)
      (inr answer) (subst (λ z. IsTrue (known z)) (sym answer) sure)
      (λ set c st g before.
      root_agreed st was g before set c r.ambient k i a b (h.writes).was_unbound p (number_stands k b h.fits))

  pub number_step_back : {X : Type 0} (F : Tree → Type 0) (m n : Meaning Key Id Name) (was now : Store) (L K : Type 0) (k : VarKind) (i : ℕ) (a b : Tree) (tree : X → Tree) (t : X) → n ≡ m →
      IsSound was → (L → K) →
      InstantiatesNumber was now k i a → b ≡ leaf (variable k i) → tree t ≡ a →
      IsTrue (known a) → Stepped solver_manner F (standing r m was L) (standing r n now K) a b tree (Ok (Done t))
  number_step_back F m n was now L K k i a b tree t same sound after h p answer sure =
      one_step F m n was now L K a b tree t same (number_goes was now k i a h sound _) after
      (λ w s sat. sym (ap (apply s) p ∙ number_equal was now k i a h sound w s sat))
      (λ w s sat one. number_keep was now k i a h sound w s sat
      (sym (ap (apply s) p) ∙ sym one))
      (λ f. let z = number_exactly was now k i a h sound f in (
        z.0,
        exact_turned was now b a
            (subst (λ c. Exact was now c a) (sym p) z.1),
      ))
      (number_universe was now k i a h sound) (number_full was now k i a h sound)
      (λ j ha hb all. builds_number j a h (subst (IsBuiltOf j) p hb) ha all)
      (inl answer) (subst (λ z. IsTrue (known z)) (sym answer) sure)
      (λ set c st g before.
      root_agreed_back st was g before set c r.ambient k i a b (h.writes).was_unbound p (number_stands k a h.fits))

  -- Or the other side is a type that may not stand for it.
  module _ {X : Type 0} (F : Tree → Type 0) (m n : Meaning Key Id Name) (was now : Store) (L K : Type 0)
      (decides : r.ambient ≢ Bivariant) (p q : TyKey Key) (tree : X → Tree)
      (f : RelateFault Key Id Name) (same : n ≡ m) (stays : now ≡ was) (l : L → K)
      (is : f ≡ Unrelated (Sorts (record { expected = p; found = q }))) (k : VarKind) (number : IsNumberKind k) (i : ℕ)
      (made : IsMade was k i) (p_known : IsTrue (known (m.ty p))) (q_known : IsTrue (known (m.ty q)))
      (left : IsDeferred r.kept.settings (m.ty p) (m.ty q) → ⊥) where
    pub left_apart : m.ty p ≡ leaf (variable k i) → IsTerm type_sort (m.ty q) →
        ((l : ℕ) → m.ty q ≢ leaf (variable type_var l)) → InContext was (m.ty q) →
        (MayStandFor k (m.ty q) → ⊥) → (IsError (m.ty q) → ⊥) →
        Stepped solver_manner F (standing r m was L) (standing r n now K) (m.ty p) (m.ty q) tree (Err f)
    left_apart h s o g d clean = unrelated_step F m n was now L K (m.ty p) (m.ty q) tree f
        (Sorts (record { expected = p; found = q })) same stays l is
        (subst (λ z. NoEqualTerms was z (m.ty q)) (sym h)
        (number_apart was k number i made (m.ty q) s o g d))
        (subst (λ z. NoUnifier was z (m.ty q)) (sym h)
        (number_no_unifier was k number i made (m.ty q) s o g d))
        (number_error was k number i made (m.ty q) s o g d m r.kept.settings (items_of m) p q r.ambient decides left clean h
        refl)
        (p_known, q_known)

    pub right_apart : m.ty q ≡ leaf (variable k i) → IsTerm type_sort (m.ty p) →
        ((l : ℕ) → m.ty p ≢ leaf (variable type_var l)) → InContext was (m.ty p) →
        (MayStandFor k (m.ty p) → ⊥) → (IsError (m.ty p) → ⊥) →
        Stepped solver_manner F (standing r m was L) (standing r n now K) (m.ty p) (m.ty q) tree (Err f)
    right_apart h s o g d clean = unrelated_step F m n was now L K (m.ty p) (m.ty q) tree f
        (Sorts (record { expected = p; found = q })) same stays l is
        (λ w s' sat one. number_apart was k number i made (m.ty p) s o g d w s' sat
        (sym (ap (apply s') h) ∙ sym one))
        (λ s' sol one. number_no_unifier was k number i made (m.ty p) s o g d s' sol
        (ap (λ z. erase (apply s' z)) (sym h) ∙ sym one))
        (number_error_back was k number i made (m.ty p) s o g d m r.kept.settings (items_of m) p q r.ambient decides left
        clean refl h)
        (p_known, q_known)

  -- What is shown of two types as they are read is shown of the types.
  pub parts_step : (m : Meaning Key Id Name) (was : Store) (L K : Type 0) (l : L → K)
      {X : Type 0} (F : Tree → Type 0) (a b : Tree) (tree : X → Tree) (t u : X) → IsSound was →
      IsReadAs was a (tree t) → IsReadAs was b (tree u) → ((j : VarKind) (n : ℕ) → F (leaf (variable j n)) → ⊥) →
      Asked solver_manner (standing r m was L) r.ambient (tree t) (tree u) → F (tree t) → F (tree u) →
      (IsDeferred r.kept.settings (tree t) (tree u) → ⊥) →
      Stepped solver_manner F (standing r m was L) (standing r m was K) a b tree (Ok (Parts t u))
  unfolding over_passes
  parts_step m was L K l F a b tree t u g p q formed k f h left = record {
    passes = over_passes (stays_same m) (goes_nowhere _ was) l;
    verdict = record {
      leads = record {
        steps = record {
          later = later_itself was;
          goals_in = All-nil (GoalInContext was);
          relates = λ w s sat all o.
              subst₂ (Rel (items_of m) w r.kept.environment (at r.ambient))
              (sym (read_value was s sat.bindings a (tree t) p))
              (sym (read_value was s sat.bindings b (tree u) q)) o;
          keeps = λ w s sat one. (
            s,
            (λ j i h. refl),
            (
              sat,
              All-nil (MakesOneTree s),
              sym (read_value was s sat.bindings a (tree t) p) ∙ one
                  ∙ read_value was s sat.bindings b (tree u) q,
            ),
          );
        };
        errors = λ n j c st f l g o. of_entries (read_later was st l a (tree t) p)
            (read_later was st l b (tree u) q) o;
        agrees = λ st began. (
          λ z. read_agreed st was began.sound g began.later r.kept.settings (items_of m) r.ambient a b (tree t) (tree u) p
              q (λ j n e. absurd (formed j n (subst F e f))) (λ j n e. absurd (formed j n (subst F e h))) z,
          began,
        );
      };
      asked = record {
        left_known = k.left_known;
        right_known = k.right_known;
        left_in = k.left_in;
        right_in = k.right_in;
        left_taken = k.left_taken;
        right_taken = k.right_taken;
      };
      left_form = f;
      right_form = h;
      not_left = left;
      answers = λ z w s sat all o. subst (λ i. Rel (items_of m) w r.kept.environment (at r.ambient) i (apply s z))
          (sym (read_value was s sat.bindings a (tree t) p)) o;
      built = read_from was a b (tree t) (tree u) p q;
      same_budget = refl;
      not_larger = let i = read_weight was g a (tree t) p in
          let j = read_weight was g b (tree u) q in omega (arith, i, j);
    };
    exact = λ k is pair. (
      read_pair was a b (tree t) (tree u) p q pair,
      reading_exact was g a b (tree t) (tree u) p q,
      reading_leads was g a b (tree t) (tree u) p q,
    );
    full = λ ha hb. full_itself was;
    built = built_itself was a b;
  }

-- A relation has recorded what a context has.
module _ {Key Id Name : Type 0} {r : State Key Id Name} {c : Context Key Id Name} (o : IsOver r c) where
  before_is : r ≡ standing r c.meaning c.store r.lawful
  before_is = ap₂ (λ m st. standing r m st r.lawful) o.meaning o.store

  -- What is shown of it is shown of it over the context's keys and record.
  pub over_it : (P : State Key Id Name → Type 0) → P r → P (standing r c.meaning c.store r.lawful)
  over_it P h = subst P before_is h

-- Another context took the place of the relation's.
module _ {Key Id Name : Type 0} {r q : State Key Id Name} {c d : Context Key Id Name} (o : IsOver r c)
    (w : WithContext r d q) where
  abbrev made : Meaning Key Id Name → Store → List Goal → Kept Key → Variance → List (Pair Key) →
      State Key Id Name
  made m st gs k v ps = record {
    meaning = m;
    store = st;
    goals = gs;
    kept = k;
    ambient = v;
    remembered = ps;
    lawful = q.lawful;
  }

  after_is : q ≡ standing r d.meaning d.store q.lawful
  after_is = ap₂ (λ m st. made m st q.goals q.kept q.ambient q.remembered) w.meaning w.store
      ∙ ap₂ (λ gs k. made d.meaning d.store gs k q.ambient q.remembered) w.goals w.kept
      ∙ ap₂ (λ v ps. made d.meaning d.store r.goals r.kept v ps) w.ambient w.remembered

  -- What is shown of the contexts' keys and records is shown of the relation's.
  pub carried : (P : State Key Id Name → State Key Id Name → Type 0) →
      P (standing r c.meaning c.store r.lawful) (standing r d.meaning d.store q.lawful) → P r q
  carried P h = subst₂ P (sym (before_is o)) (sym after_is) h

-- Of a context whose keys stand no more is asked than of one whose keys grow.
pub stands_grows : {Key Id Name : Type 0} (c d : Context Key Id Name) → Stands c d → Grows c d
stands_grows c d h = record {
  extends = subst (Extends c.meaning) (sym h.meaning) (stays_same c.meaning);
  lawful = h.lawful;
  setup = h.setup;
  outliving = h.outliving;
}

-- A context that nothing happens to.
pub grows_itself : {Key Id Name : Type 0} (c : Context Key Id Name) → c.lawful → Grows c c
grows_itself c l = record { extends = stays_same c.meaning; lawful = l; setup = refl; outliving = refl }

-- One that grows twice.
pub grows_then : {Key Id Name : Type 0} (c d e : Context Key Id Name) → Grows c d → Grows d e → Grows c e
grows_then c d e f g = record {
  extends = extends_on f.extends g.extends;
  lawful = g.lawful;
  setup = g.setup ∙ f.setup;
  outliving = g.outliving ∙ f.outliving;
}

-- Two that are asked of a relation are met in the context that it is over.
pub can_meet : {Key Id Name A : Type 0} (tree : Meaning Key Id Name → A → Tree) (Is : Store → Tree → Type 0)
    {r : State Key Id Name} {s : Context Key Id Name} → IsOver r s → (a b : A) → CanCombine tree Is r a b →
    CanMeet tree Is s a b
can_meet tree Is o a b can =
    let k = can.asked in
    record {
      lawful = o.lawful can.lawful;
      a_known = subst (λ m. IsTrue (known (tree m a))) o.meaning k.left_known;
      b_known = subst (λ m. IsTrue (known (tree m b))) o.meaning k.right_known;
      a_in = subst₂ (λ st m. IsTermIn st (tree m a)) o.store o.meaning k.left_in;
      b_in = subst₂ (λ st m. IsTermIn st (tree m b)) o.store o.meaning k.right_in;
      a_taken = subst (λ m. IsWellBound (tree m a)) o.meaning k.left_taken.1;
      b_taken = subst (λ m. IsWellBound (tree m b)) o.meaning k.right_taken.1;
      a_shallow = subst₂ (λ st m. Is st (tree m a)) o.store o.meaning can.a_shallow;
      b_shallow = subst₂ (λ st m. Is st (tree m b)) o.store o.meaning can.b_shallow;
    }
