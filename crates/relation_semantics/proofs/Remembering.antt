-- Two terms that were related stay so while more is recorded and registered, and relating them again does nothing. So
-- what a relation remembers was related.
use Rattle.std.proofs.Common.{◌≡◌, ◌⊎◌, inl, inr, ℕ, ◌<◌, refl, sym, ap, ap₂, ◌∙◌, arith, subst, subst₂, List, [], ◌++◌, All, Contains, IsTrue}
use Rattle.std.proofs.Common.{⊎_elim, Result, Ok, Err}
use Rattle.std.proofs.lemmas.List.{append-nil}
use Rattle.std.proofs.lemmas.List.Elements.{All-nil, Contains-append_left}
use Rattle.term_enums.specs.declared.Variance.{Variance}
use Rattle.relation_terms.specs.Trees.{Tree, known}
use Rattle.relation_terms.specs.Meaning.{Meaning, Extends}
use Rattle.relation_folds.specs.declared.error.RelateFault.{RelateFault}
use Rattle.relation_folds.specs.declared.error.RelateFault.TheVariants.{Memory}
use Rattle.relation_folds.proofs.Lists.{All_front}
use Rattle.relation_semantics.specs.declared.relate.Step.TheVariants.{Done}
use Rattle.relation_semantics.specs.AskedAlone.{AsksAlone}
use Rattle.relation_semantics.specs.FirstOrder.{IsFirstOrderStore}
use Rattle.relation_semantics.specs.Relation.{Items, at}
use Rattle.relation_semantics.specs.Goals.{Goal, goal_of, GoalInContext, Holds, IsQuiet, MakesOneTree, Relates}
use Rattle.relation_semantics.specs.Alphabets.{IsGoalOf, StaysBuilt}
use Rattle.relation_semantics.specs.Measures.{Goes}
use Rattle.relation_semantics.specs.OneUniverse.{BindsNoMore, KeepsUniverseOf}
use Rattle.relation_semantics.specs.Outcomes.{Exact, Outcome, KeepsOne, KeepsUnified}
use Rattle.relation_semantics.specs.Settings.{Settings}
use Rattle.relation_semantics.specs.Steps.{IsLater, StaysFullFor}
use Rattle.relation_semantics.specs.Stores.{Store}
use Rattle.relation_semantics.specs.Lawful.{State, Pair, Manner, Manners, Passes, IsShown, Shown, WasRelated, WereRelated, RemembersAtMost, Noted, OnlyMemory, MeansPair}
use Rattle.relation_semantics.specs.Lawful.{Stepped, ExactlyRelated, RegisteredIn, BeganWith, AgreesIn, declared_by, items_of, items_in}
use Rattle.relation_semantics.proofs.Answering.{relates_still, may_itself}
use Rattle.relation_semantics.proofs.Beginning.{begins_remembering, meant_agreed, agrees_now}
use Rattle.relation_semantics.proofs.Full.{full_itself}
use Rattle.relation_semantics.proofs.Going.{later_itself}
use Rattle.relation_semantics.proofs.OneUniverse.{keeps_itself, keeps_pair, keeps_binds}
use Rattle.relation_semantics.proofs.Keeping.{one_outcome}
use Rattle.relation_semantics.proofs.Passing.{passes_nowhere, same_manner}
use Rattle.relation_semantics.proofs.Shrinking.{first_order_before, solved_before}
use Rattle.relation_semantics.proofs.BuildingSteps.{built_itself}

module _ (M : Manner) (k : Settings) where
  -- Of two terms, while what is recorded and registered grows.
  shown_later : (c : Items) (before after : Store) (goals more : List Goal) (e : Tree) (v : Variance) (a b : Tree) →
      IsLater before after → IsShown M k c before goals e v a b → IsShown M k c after (goals ++ more) e v a b
  shown_later c before after goals more e v a b l h = record {
    relates = λ w s sat all. h.relates w s (l.shrinks w s sat) (All_front (Holds c w s) goals more all);
    unifies = λ o is pair s sol. h.unifies o is (record {
      left = pair.left;
      right = pair.right;
      bindings = first_order_before before after l pair.bindings;
    }) s (solved_before before after l s sol);
  }

  module _ {Key Id Name : Type 0} where
    -- So of pairs, while keys are made.
    pub were_related_later : {m n : Meaning Key Id Name} → Extends m n → (was now : Store) (goals more : List Goal) (e : Tree)
        (ps : List (Pair Key)) → IsLater was now → WereRelated M k m was goals e ps →
        WereRelated M k n now (goals ++ more) e ps
    were_related_later {m} {n} grown was now goals more e ps l all p c =
        let h = all p c in
        let x : n.ty p.1 ≡ m.ty p.1 = grown.ty p.1 h.left_known in
        let y : n.ty p.2 ≡ m.ty p.2 = grown.ty p.2 h.right_known in
        let items : items_of n ≡ items_of m = ap₂ declared_by grown.variances grown.alias_variances in
        record {
          left_known = subst (λ t. IsTrue (known t)) (sym x) h.left_known;
          right_known = subst (λ t. IsTrue (known t)) (sym y) h.right_known;
          shown = subst₂ (λ t u. IsShown M k (items_of n) now (goals ++ more) e p.0 t u) (sym x) (sym y)
              (subst (λ c. IsShown M k c now (goals ++ more) e p.0 (m.ty p.1) (m.ty p.2)) (sym items)
              (shown_later (items_of m) was now goals more e p.0 (m.ty p.1) (m.ty p.2) l h.shown));
          registered = λ o g asks. Contains-append_left goals more (goal_of e g)
              (h.registered o g (subst₂ (λ t u. AsksAlone k p.0 t u g) x y asks));
        }

    module _ (m : Meaning Key Id Name) (st : Store) (goals : List Goal) (e : Tree) where
      -- With one pair more.
      pub were_related_more : (p : Pair Key) (ps qs : List (Pair Key)) →
          ((x : Pair Key) → Contains qs x → (x ≡ p) ⊎ Contains ps x) → WasRelated M k m st goals e p →
          WereRelated M k m st goals e ps → WereRelated M k m st goals e qs
      were_related_more p ps qs members one all x c =
          ⊎_elim (λ is. subst (WasRelated M k m st goals e) (sym is) one) (all x) (members x c)

      pub none_related : WereRelated M k m st goals e []
      none_related p c = let h : c.0 < 0 = c.1 in absurd (omega (arith, h))

      -- By other keys that mean the same.
      pub related_as : (p q : Pair Key) → p.0 ≡ q.0 → m.ty p.1 ≡ m.ty q.1 → m.ty p.2 ≡ m.ty q.2 →
          WasRelated M k m st goals e p → WasRelated M k m st goals e q
      related_as p q i x y h = record {
        left_known = subst (λ t. IsTrue (known t)) x h.left_known;
        right_known = subst (λ t. IsTrue (known t)) y h.right_known;
        shown = subst (λ v. IsShown M k (items_of m) st goals e v (m.ty q.1) (m.ty q.2)) i
            (subst₂ (λ t u. IsShown M k (items_of m) st goals e p.0 t u) x y h.shown);
        registered = λ o g asks. h.registered o g (subst (λ v. AsksAlone k v (m.ty p.1) (m.ty p.2) g) (sym i)
            (subst₂ (λ t u. AsksAlone k q.0 t u g) (sym x) (sym y) asks));
      }

module _ {Key Id Name : Type 0} (M : Manners) where
  -- What was shown of two terms is so of what is recorded and registered later.
  pub shown_stays : {n : ℕ} {r q : State Key Id Name} (v : Variance) (a b : Tree) → Passes n r q → Shown M r v a b →
      Shown M q v a b
  shown_stays {r = r} {q = q} v a b g h = record {
    relates = relates_still v a b g h.relates;
    unifies = λ k is pair s sol.
        let later = (g.goes).later in
        h.unifies (same_manner M (λ z. z.is_exact) g k) is (record {
          left = pair.left;
          right = pair.right;
          bindings = first_order_before r.store q.store later pair.bindings;
        }) s (solved_before r.store q.store later s sol);
  }

  module _ (r : State Key Id Name) (v : Variance) (a b : Tree) (h : Shown M r v a b) where
    -- They are related by what stands, and no equal pair is lost.
    pub hit_is_outcome : Outcome (items_in r) r.kept.environment (at v) r.store r.store r.goals [] a b
    hit_is_outcome = record {
      later = later_itself r.store;
      goals_in = All-nil (GoalInContext r.store);
      relates = λ w s sat all. h.relates w s sat (subst (All (Holds (items_in r) w s)) (append-nil r.goals) all);
      keeps = λ w s sat one. (s, (λ k n m. refl), (sat, All-nil (MakesOneTree s)));
    }

    -- Where exactness is promised, just the solutions that there are unify them.
    pub hit_is_exact : {X : Type 0} (t : X) →
        ExactlyRelated {Key = Key} {Id = Id} {Name = Name} (M r.kept.settings) r.store r.store v a b (Ok t)
    hit_is_exact t k is pair = (
      pair.bindings,
      record {
        later = later_itself r.store;
        shrinks = λ s sol. (sol, h.unifies k is pair s sol);
        keeps = λ s sol one. (s, (λ j n m. refl), sol);
      },
      keeps_pair r.store r.store a b (keeps_itself r.store),
    )

  -- So a step of them answers the left one, and nothing is done.
  pub hit_is_step : {K : Type 0} (F : Tree → Type 0) (r : State Key Id Name) (tree : K → Tree) (t : K) (b : Tree) →
      IsTrue (known (tree t)) → Shown M r r.ambient (tree t) b →
      ((st : Store) → BeganWith r st → AgreesIn r st (at r.ambient) (tree t) b) →
      Stepped M F r r (tree t) b tree (Ok (Done t))
  unfolding passes_nowhere
  hit_is_step F r tree t b sure h agreed = record {
    passes = passes_nowhere _ r;
    verdict = record {
      outcome = hit_is_outcome r r.ambient (tree t) b h;
      answer = may_itself M r r.ambient (tree t);
      known = sure;
      agrees = λ k st began. (agreed st began, began);
    };
    exact = hit_is_exact r r.ambient (tree t) b h t;
    full = λ ha hb. full_itself r.store;
    built = built_itself r.store (tree t) b;
  }

-- A relation that remembers one pair more.
relates_remembering : {Key Id Name A E : Type 0} {q s : State Key Id Name} {p : Pair Key} {res : Result A E} →
    RemembersAtMost q s p res → (v : Variance) (a b : Tree) → Relates (items_in q) q.store q.goals q.kept.environment v a b →
    Relates (items_in s) s.store s.goals s.kept.environment v a b
relates_remembering {q = q} {s = s} h v a b o =
    subst₂ (λ m k. Relates (items_of m) s.store s.goals k.environment v a b) (sym h.meaning) (sym h.kept)
    (subst₂ (λ st gs. Relates (items_in q) st gs q.kept.environment v a b) (sym h.store) (sym h.goals) o)

module _ {Key Id Name A E : Type 0} {r q s : State Key Id Name} {p : Pair Key} {res : Result A E}
    (h : RemembersAtMost q s p res) where
  unfoldable pub passes_remembering : {n : ℕ} → Passes n r q → Passes n r s
  passes_remembering {n} g = record {
    extends = subst (Extends r.meaning) (sym h.meaning) g.extends;
    goes = subst (Goes n r.store) (sym h.store) g.goes;
    added = g.added;
    lengthens = h.goals ∙ g.lengthens;
    goals_in = subst (λ st. All (RegisteredIn r st) g.added) (sym h.store) g.goals_in;
    kept = h.kept ∙ g.kept;
    ambient = h.ambient ∙ g.ambient;
    lawful = λ l. h.lawful (g.lawful l);
  }

  module _ {K : Type 0} (M : Manners) (F : Tree → Type 0) (a b : Tree) (tree : K → Tree) (t : K)
      (step : Stepped M F r q a b tree (Ok (Done t))) where
    -- What a step answered it answers still.
    pub step_remembering : MeansPair q p a b → Stepped M F r s a b tree (Ok (Done t))
    unfolding passes_remembering
    step_remembering pair = record {
      passes = passes_remembering step.passes;
      verdict = record {
        outcome = subst (λ st. Outcome (items_in r) r.kept.environment (at r.ambient) r.store st r.goals (step.passes).added
            a b) (sym h.store) (step.verdict).outcome;
        answer = record { related = relates_remembering h r.ambient a (tree t) ((step.verdict).answer).related };
        known = (step.verdict).known;
        agrees = λ k st began. let z = (step.verdict).agrees k st began in (
          z.0,
          begins_remembering h st (meant_agreed q st p a b pair (subst (λ v. AgreesIn q st (at v) a b)
              (sym (step.passes).ambient) (agrees_now step.passes st (at r.ambient) a b z.0))) z.1,
        );
      };
      exact = λ k is pair. subst (λ st. IsFirstOrderStore st × Exact r.store st a b × KeepsUniverseOf r.store st a b)
          (sym h.store) (step.exact k is pair);
      full = subst (λ st. StaysFullFor r.store st a b) (sym h.store) step.full;
      built = subst (λ st. StaysBuilt r.store st (step.passes).added a b) (sym h.store) step.built;
    }

    -- Or a growth was refused after it.
    pub step_not_remembered : Stepped M F r s a b tree (Err Memory)
    unfolding passes_remembering
    step_not_remembered = record {
      passes = passes_remembering step.passes;
      verdict = subst (λ st. KeepsOne (at r.ambient) r.store st a b) (sym h.store) (one_outcome (step.verdict).outcome);
      exact = λ k is pair. subst (λ st. BindsNoMore r.store st a b × KeepsUnified r.store st a b) (sym h.store)
          (keeps_binds r.store q.store a b (step.exact k is pair).2, ((step.exact k is pair).1).keeps);
      full = subst (λ st. StaysFullFor r.store st a b) (sym h.store) step.full;
      built = subst (λ st. StaysBuilt r.store st (step.passes).added a b) (sym h.store) step.built;
    }

-- That a pair is remembered is a note of it.
pub noted_remembering : {Key Id Name A E X : Type 0} {r q : State Key Id Name} {p : Pair Key} {res : Result A E} →
    RemembersAtMost r q p res → (a b : Tree) → MeansPair r p a b → (x : Result X (RelateFault Key Id Name)) → OnlyMemory x →
    Noted r q a b x
unfolding passes_remembering passes_nowhere
noted_remembering {r = r} {q = q} {p = p} h a b pair x fault = record {
  passes = passes_remembering h (passes_nowhere 0 r);
  store = h.store;
  quiet = All-nil IsQuiet;
  built = λ k ha hb all. All-nil (IsGoalOf k);
  none = λ bare. refl;
  remembers = λ o m. ⊎_elim (λ e. inl (subst (λ o. MeansPair q o a b) (sym e) (
    pair.0 ∙ sym h.ambient,
    ap (λ m. m.ty p.1) h.meaning ∙ pair.1,
    ap (λ m. m.ty p.2) h.meaning ∙ pair.2,
    pair.3,
    pair.4,
  ))) (λ c. inr c) (h.no_more o m);
  fault = fault;
}
