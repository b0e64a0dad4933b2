-- Instantiating variables and opening binders, as steps.
use Rattle.std.proofs.Common.{◌≡◌, ◌≢◌, ◌⊎◌, ℕ, suc, ◌<◌, refl, sym, ap, ap₂, ◌∙◌, arith, inl, inr, subst, subst₂, List, [], ◌++◌, map, All, length, get_or}
use Rattle.std.proofs.lemmas.List.Elements.{All-nil}
use Rattle.std.proofs.lemmas.List.{append-nil}
use Rattle.relation_terms.specs.Heads.{BoundKind, VarKind}
use Rattle.relation_terms.specs.Trees.{Tree, bind, Assign, apply, inst, Leaves}
use Rattle.term_enums.specs.declared.Variance.{Variance}
use Rattle.term_enums.specs.declared.Variance.TheVariants.{Covariant, Contravariant, Invariant, Bivariant}
use Rattle.relation_semantics.specs.Relation.{Items, Interpretation, at, second_opened, first_opened, Rel, covariant_binders, contravariant_binders, invariant_binders, open_second, open_first, FitKinds, Fresh, StaysWithin}
use Rattle.relation_semantics.specs.Stores.{Store, unbound, entry_term, bound_term, universe_of, IsMade, IsAssignment, IsInScope, IsNamable, MeetsBindings, Satisfies, ConstraintHolds}
use Rattle.relation_semantics.specs.Goals.{Goal, Holds, GoalInContext, MakesOneTree}
use Rattle.relation_semantics.specs.Steps.{IsLater, AgreeOn, HasExtension, AllNamable, ArePlaceholders, ChangesNothing, EntersForall, LeavesBody, EntersUniverse, InstantiatesBinder, Instantiates}
use Rattle.relation_semantics.specs.Outcomes.{StepsTo}
use Rattle.relation_semantics.specs.Binders.{placeholders_from}
use Rattle.relation_semantics.specs.StepLaws.{InstantiatingSteps, OpeningSteps, OneRoundRelates, TwoRoundsRelate, UnusedBindersRelate}
use Rattle.relation_semantics.proofs.Trees.{apply-inst, inst_within, StaysIn}
use Rattle.relation_semantics.proofs.Values.{value_namable, stays_in, stays_apply, variables_fit, fresh_later, placeholders_stay, placeholders_fit, placeholders_namable, some_values, some_values_fit, some_values_namable, placeholders_are, same_value, in_context}
use Rattle.relation_semantics.proofs.Classes.{entry_kept}
use Rattle.relation_semantics.proofs.Going.{later_itself, later_through}
use Rattle.relation_semantics.proofs.Composing.{extends_through, goals_both, first_goals, all_goals, values_still}
use Rattle.relation_terms.proofs.Paths.{kinds_path, bind_path}

-- A variable that was instantiated has its term's value.
pub instantiated_value : (before after : Store) (u : Variance) (k : VarKind) (n : ℕ) (source term : Tree) → Instantiates before after u k n source term → (s : Assign) → MeetsBindings after s → s k n ≡ apply s term
instantiated_value before after u k n source term f s h = h k n term (ap (entry_term k) f.now_bound)

pub instantiating_steps : InstantiatingSteps
instantiating_steps c e v u before after earlier k n source term ins f = (
  record {
    later = f.later;
    goals_in = All-nil (GoalInContext after);
    relates = λ w s sat all r. subst (λ z. Rel c w e (at v) z (apply s source)) (sym (value s sat.bindings)) r;
    keeps = λ w s sat q. let one = f.keeps w s sat q in (one.0, one.1, (one.2, All-nil (MakesOneTree one.0), equal w s one.0 q one.1 one.2));
  },
  record {
    later = f.later;
    goals_in = All-nil (GoalInContext after);
    relates = λ w s sat all r. subst (λ z. Rel c w e (at v) (apply s source) z) (sym (value s sat.bindings)) r;
    keeps = λ w s sat q. let one = f.keeps w s sat (sym q) in (one.0, one.1, (one.2, All-nil (MakesOneTree one.0), sym (equal w s one.0 (sym q) one.1 one.2)));
  },
)
  where
    value : (s : Assign) → MeetsBindings after s → s k n ≡ apply s term
    value s h = instantiated_value before after u k n source term f s h

    equal : (w : Interpretation) (s s' : Assign) → s k n ≡ apply s source → AgreeOn before s s' → Satisfies w after s' → apply s' term ≡ apply s' source
    equal w s s' q p sat = sym (value s' sat.bindings) ∙ sym (p k n f.made) ∙ q ∙ same_value before s s' source p ins

-- What is left as it is changes nothing.
pub same_changes : (st : Store) → ChangesNothing st st
same_changes st = record {
  same_entries = λ k. refl;
  same_universes = λ k. refl;
  same_constraints = refl;
  universe_stands = omega arith;
  taint_stands = λ h. h;
  same_budget = refl;
}

-- What changes nothing leaves the same assignments.
module _ (before after : Store) (h : ChangesNothing before after) where
  made_still : (k : VarKind) (n : ℕ) → IsMade before k n → IsMade after k n
  made_still k n m = subst (λ z. n < length z) (sym (h.same_entries k)) m

  made_then : (k : VarKind) (n : ℕ) → IsMade after k n → IsMade before k n
  made_then k n m = subst (λ z. n < length z) (h.same_entries k) m

  same_universe_of : (k : VarKind) (n : ℕ) → universe_of after k n ≡ universe_of before k n
  same_universe_of k n = ap (λ z. get_or z n 0) (h.same_universes k)

  same_bound_term : (k : VarKind) (n : ℕ) → bound_term after k n ≡ bound_term before k n
  same_bound_term k n = ap (λ z. entry_term k (get_or z n unbound)) (h.same_entries k)

  assigns_still : (s : Assign) → IsAssignment before s → IsAssignment after s
  assigns_still s a k n m = let p = a k n (made_then k n m) in (p.0, p.1, p.2, subst (λ u. Leaves (IsNamable u) (s k n)) (sym (same_universe_of k n)) p.3)

  assigns_then : (s : Assign) → IsAssignment after s → IsAssignment before s
  assigns_then s a k n m = let p = a k n (made_still k n m) in (p.0, p.1, p.2, subst (λ u. Leaves (IsNamable u) (s k n)) (same_universe_of k n) p.3)

  pub satisfies_still : (w : Interpretation) (s : Assign) → Satisfies w before s → Satisfies w after s
  satisfies_still w s sat = record {
    assigns = assigns_still s sat.assigns;
    bindings = λ k n t e. sat.bindings k n t (sym (same_bound_term k n) ∙ e);
    regions = subst (All (ConstraintHolds w s)) (sym h.same_constraints) sat.regions;
  }

  pub satisfied_then : (w : Interpretation) (s : Assign) → Satisfies w after s → Satisfies w before s
  satisfied_then w s sat = record {
    assigns = assigns_then s sat.assigns;
    bindings = λ k n t e. sat.bindings k n t (same_bound_term k n ∙ e);
    regions = subst (All (ConstraintHolds w s)) h.same_constraints sat.regions;
  }

  pub changes_later : IsLater before after
  changes_later = record {
    grows = made_still;
    entries_stand = λ k n. entry_kept after k _ _ (ap (λ z. get_or z n unbound) (h.same_entries k));
    constraints_stand = ([], h.same_constraints ∙ sym (append-nil before.constraints));
    universes_fall = λ k n m. let e = same_universe_of k n in omega arith;
    universe_stands = h.universe_stands;
    taint_stands = h.taint_stands;
    shrinks = satisfied_then;
  }

-- A binder that was entered: what stands for its body is the body with placeholders put in, and with values that its
-- context can name.
record IsEntered (before middle : Store) (ls : List BoundKind) (b b' : Tree) : Type 0 where
  universe : ℕ
  placeholders : List Tree
  are_placeholders : ArePlaceholders universe ls placeholders
  above : before.universe < universe
  shown : (s : Assign) → Leaves (StaysIn s) b → apply s b' ≡ inst placeholders 0 (apply s b)
  values : List Tree
  fit : FitKinds ls values
  namable : AllNamable middle.universe values
  kept : (s : Assign) → Leaves (StaysIn s) b → apply s b' ≡ inst values 0 (apply s b)

left_as_it_is : (before middle : Store) (ls : List BoundKind) (b b' : Tree) → LeavesBody before middle b b' → IsEntered before middle ls b b'
left_as_it_is before middle ls b b' h = record {
  universe = suc before.universe;
  placeholders = placeholders_from (suc before.universe) 0 ls;
  are_placeholders = placeholders_are (suc before.universe) 0 ls;
  above = omega arith;
  shown = λ s i. stays s i (placeholders_from (suc before.universe) 0 ls);
  values = some_values ls;
  fit = some_values_fit ls;
  namable = some_values_namable middle.universe ls;
  kept = λ s i. stays s i (some_values ls);
}
  where
    stays : (s : Assign) → Leaves (StaysIn s) b → (ts : List Tree) → apply s b' ≡ inst ts 0 (apply s b)
    stays s i ts = ap (apply s) h.body_is ∙ sym (inst_within ts 0 (apply s b) (stays_apply s 0 b i h.unused))

with_placeholders : (before middle : Store) (ls : List BoundKind) (b b' : Tree) → EntersUniverse before middle ls b b' → IsEntered before middle ls b b'
with_placeholders before middle ls b b' h = record {
  universe = middle.universe;
  placeholders = h.placeholders;
  are_placeholders = h.are_placeholders;
  above = h.above;
  shown = shown;
  values = h.placeholders;
  fit = placeholders_fit middle.universe ls h.placeholders h.are_placeholders;
  namable = placeholders_namable middle.universe ls h.placeholders h.are_placeholders;
  kept = shown;
}
  where
    shown : (s : Assign) → Leaves (StaysIn s) b → apply s b' ≡ inst h.placeholders 0 (apply s b)
    shown s i = ap (apply s) h.body_is ∙ apply-inst s h.placeholders 0 b i ∙ ap (λ z. inst z 0 (apply s b)) (placeholders_stay s middle.universe ls h.placeholders h.are_placeholders)

is_entered : (before middle : Store) (ls : List BoundKind) (b b' : Tree) → EntersForall before middle ls b b' → IsEntered before middle ls b b'
is_entered before middle ls b b' h = go h.opens
  where
    go : LeavesBody before middle b b' ⊎ ((StaysWithin 0 b → ⊥) × EntersUniverse before middle ls b b') → IsEntered before middle ls b b'
    go (inl p) = left_as_it_is before middle ls b b' p
    go (inr p) = with_placeholders before middle ls b b' p.1

-- One side entered, the other's variables made.
module _ (before middle after : Store) (ks ls : List BoundKind) (a b a' b' : Tree) (ina : Leaves (IsInScope before before.universe) a) (inb : Leaves (IsInScope before before.universe) b)
    (enters : EntersForall before middle ls b b') (makes : InstantiatesBinder middle after ks a a') where
  entered : IsEntered before middle ls b b'
  entered = is_entered before middle ls b b' enters

  opened_later : IsLater before after
  opened_later = later_through (changes_later before middle enters.changes_nothing) makes.makes.later

  stay : (s : Assign) → IsAssignment before s → (t : Tree) → Leaves (IsInScope before before.universe) t → Leaves (StaysIn s) t
  stay s h t i = stays_in before s before.universe t h i

  -- The values of the opened bodies.
  variable_side : (s : Assign) → IsAssignment before s → apply s a' ≡ inst (map (apply s) makes.variables) 0 (apply s a)
  variable_side s h = ap (apply s) makes.body_is ∙ apply-inst s makes.variables 0 a (stay s h a ina)

  fits : (s : Assign) → IsAssignment after s → FitKinds ks (map (apply s) makes.variables)
  fits s h = variables_fit middle after s middle.universe ks makes.variables h makes.makes.are_new

  fresh : (s : Assign) → IsAssignment before s → (x y : Tree) → Leaves (IsInScope before before.universe) x → Leaves (IsInScope before before.universe) y → Fresh ls entered.placeholders (apply s x) (apply s y)
  fresh s h x y i j = fresh_later before.universe entered.universe ls entered.placeholders (apply s x) (apply s y) entered.above entered.are_placeholders (value_namable before s before.universe x h i) (value_namable before s before.universe y h j)

  -- Where both bodies have one value, an extension makes the opened ones one.
  extends_opened : (w : Interpretation) (s : Assign) → Satisfies w before s → ks ≡ ls → apply s a ≡ apply s b → HasExtension before s (λ z. Satisfies w after z × All (MakesOneTree z) [] × (apply z a' ≡ apply z b'))
  extends_opened w s sat p q = go (makes.makes.unconstrained w s entered.values (satisfies_still before middle enters.changes_nothing w s sat) (subst (λ z. FitKinds z entered.values) (sym p) entered.fit) entered.namable)
    where
      same : (z : Assign) → AgreeOn before s z → Satisfies w before z → map (apply z) makes.variables ≡ entered.values → apply z a' ≡ apply z b'
      same z h satz r =
          variable_side z satz.assigns
          ∙ ap₂ (λ x y. inst x 0 y) r (sym (same_value before s z a h (in_context before before.universe a ina)) ∙ q ∙ same_value before s z b h (in_context before before.universe b inb))
          ∙ sym (entered.kept z (stay z satz.assigns b inb))

      go : HasExtension middle s (λ z. Satisfies w after z × (map (apply z) makes.variables ≡ entered.values)) → HasExtension before s (λ z. Satisfies w after z × All (MakesOneTree z) [] × (apply z a' ≡ apply z b'))
      go one = let h : AgreeOn before s one.0 = (λ k n m. one.1 k n (made_still before middle enters.changes_nothing k n m)) in
          (one.0, h, (one.2.0, All-nil (MakesOneTree one.0), same one.0 h (opened_later.shrinks w one.0 one.2.0) one.2.1))

pub opening_steps : OpeningSteps
opening_steps c e v before middle after earlier ks ls a b a' b' ina inb = (second, first)
  where
    second : EntersForall before middle ls b b' → InstantiatesBinder middle after ks a a' → StepsTo c e before after earlier [] (second_opened ks ls v) a b (at v) a' b'
    second f g = record {
      later = opened_later before middle after ks ls a b a' b' ina inb f g;
      goals_in = All-nil (GoalInContext after);
      relates = λ w s sat all r. let h : IsAssignment before s = ((opened_later before middle after ks ls a b a' b' ina inb f g).shrinks w s sat).assigns in
          open_second (map (apply s) g.variables) (entered before middle after ks ls a b a' b' ina inb f g).placeholders (fits before middle after ks ls a b a' b' ina inb f g s sat.assigns)
          (fresh before middle after ks ls a b a' b' ina inb f g s h a b ina inb)
          (subst₂ (Rel c w e (at v)) (variable_side before middle after ks ls a b a' b' ina inb f g s h) ((entered before middle after ks ls a b a' b' ina inb f g).shown s (stays_in before s before.universe b h inb)) r);
      keeps = λ w s sat q. extends_opened before middle after ks ls a b a' b' ina inb f g w s sat q.0 q.1;
    }

    turned : (w : Interpretation) (s : Assign) → HasExtension before s (λ z. Satisfies w after z × All (MakesOneTree z) [] × (apply z b' ≡ apply z a')) → HasExtension before s (λ z. Satisfies w after z × All (MakesOneTree z) [] × (apply z a' ≡ apply z b'))
    turned w s one = (one.0, one.1, (one.2.0, one.2.1, sym one.2.2))

    first : EntersForall before middle ks a a' → InstantiatesBinder middle after ls b b' → StepsTo c e before after earlier [] (first_opened ks ls v) a b (at v) a' b'
    first f g = record {
      later = opened_later before middle after ls ks b a b' a' inb ina f g;
      goals_in = All-nil (GoalInContext after);
      relates = λ w s sat all r. let h : IsAssignment before s = ((opened_later before middle after ls ks b a b' a' inb ina f g).shrinks w s sat).assigns in
          open_first (entered before middle after ls ks b a b' a' inb ina f g).placeholders (map (apply s) g.variables)
          (fresh before middle after ls ks b a b' a' inb ina f g s h a b ina inb) (fits before middle after ls ks b a b' a' inb ina f g s sat.assigns)
          (subst₂ (Rel c w e (at v)) ((entered before middle after ls ks b a b' a' inb ina f g).shown s (stays_in before s before.universe a h ina)) (variable_side before middle after ls ks b a b' a' inb ina f g s h) r);
      keeps = λ w s sat q. turned w s (extends_opened before middle after ls ks b a b' a' inb ina f g w s sat (sym q.0) (sym q.1));
    }

pub one_round_relates : OneRoundRelates
one_round_relates c e before after earlier added ks ls a b = (
  λ f. record { later = f.later; goals_in = f.goals_in; relates = λ w s sat all. covariant_binders refl (f.relates w s sat all); keeps = λ w s sat q. f.keeps w s sat (kinds_path q, bind_path q) },
  λ f. record { later = f.later; goals_in = f.goals_in; relates = λ w s sat all. contravariant_binders refl (f.relates w s sat all); keeps = λ w s sat q. f.keeps w s sat (kinds_path q, bind_path q) },
)

pub two_rounds_relate : TwoRoundsRelate
two_rounds_relate c e before middle after earlier first others ks ls a b ina inb f g = record {
  later = later_through f.later g.later;
  goals_in = goals_both middle after first others g.later f.goals_in g.goals_in;
  relates = λ w s sat all. invariant_binders refl (f.relates w s (g.later.shrinks w s sat) (first_goals (Holds c w s) earlier first others all)) (g.relates w s sat (all_goals (Holds c w s) earlier first others all));
  keeps = λ w s sat q. go w s (kinds_path q) (bind_path q) (f.keeps w s sat (kinds_path q, bind_path q));
}
  where
    go : (w : Interpretation) (s : Assign) → ks ≡ ls → apply s a ≡ apply s b → HasExtension before s (λ z. Satisfies w middle z × All (MakesOneTree z) first) → HasExtension before s (λ z. Satisfies w after z × All (MakesOneTree z) (first ++ others))
    go w s p q one = extends_through before middle after first others w s one.0 f.later f.goals_in one.1 one.2.1 (g.keeps w one.0 one.2.0 (p, values_still before s one.0 a b one.1 ina inb q))

-- Where a body uses no variable of its binder, what is put for them is not seen.
module _ (c : Items) (w : Interpretation) (e : Tree) (ks ls : List BoundKind) (a b : Tree) (u : ℕ) (na : Leaves (IsNamable u) a) (nb : Leaves (IsNamable u) b) (wa : StaysWithin 0 a) (wb : StaysWithin 0 b) where
  seen : (v : Variance) (ts us : List Tree) → Rel c w e (at v) a b → Rel c w e (at v) (inst ts 0 a) (inst us 0 b)
  seen v ts us r = subst₂ (Rel c w e (at v)) (sym (inst_within ts 0 a wa)) (sym (inst_within us 0 b wb)) r

  unused_second : (v : Variance) → Rel c w e (at v) a b → Rel c w e (second_opened ks ls v) a b
  unused_second v r = open_second (some_values ks) (placeholders_from (suc u) 0 ls) (some_values_fit ks) (fresh_later u (suc u) ls (placeholders_from (suc u) 0 ls) a b (omega arith) (placeholders_are (suc u) 0 ls) na nb) (seen v _ _ r)

  unused_first : (v : Variance) → Rel c w e (at v) a b → Rel c w e (first_opened ks ls v) a b
  unused_first v r = open_first (placeholders_from (suc u) 0 ks) (some_values ls) (fresh_later u (suc u) ks (placeholders_from (suc u) 0 ks) a b (omega arith) (placeholders_are (suc u) 0 ks) na nb) (some_values_fit ls) (seen v _ _ r)

  unused_rule : (v : Variance) → v ≢ Bivariant → Rel c w e (at v) a b → Rel c w e (at v) (bind ks a) (bind ls b)
  unused_rule Covariant n r = covariant_binders refl (unused_second Covariant r)
  unused_rule Contravariant n r = contravariant_binders refl (unused_first Contravariant r)
  unused_rule Invariant n r = invariant_binders refl (unused_second Invariant r) (unused_first Invariant r)
  unused_rule Bivariant n r = absurd (n refl)

pub unused_binders_relate : UnusedBindersRelate
unused_binders_relate c e v before after earlier added ks ls a b n ina inb wa wb f = record {
  later = f.later;
  goals_in = f.goals_in;
  relates = λ w s sat all. let h : IsAssignment before s = (f.later.shrinks w s sat).assigns in
      unused_rule c w e ks ls (apply s a) (apply s b) before.universe (value_namable before s before.universe a h ina) (value_namable before s before.universe b h inb)
      (stays_apply s 0 a (stays_in before s before.universe a h ina) wa) (stays_apply s 0 b (stays_in before s before.universe b h inb) wb) v n (f.relates w s sat all);
  keeps = λ w s sat q. f.keeps w s sat (bind_path q);
}

-- Opening two binders of which one round relates both is a step from them to their bodies.
pub covariant_step : (c : Items) (e : Tree) (v : Variance) (before after : Store) (earlier added : List Goal)
    (ks ls : List BoundKind) (a b x y : Tree) → v ≡ Covariant →
    StepsTo c e before after earlier added (second_opened ks ls v) a b (at v) x y →
    StepsTo c e before after earlier added (at v) (bind ks a) (bind ls b) (at v) x y
covariant_step c e v before after earlier added ks ls a b x y is f = record {
  later = f.later;
  goals_in = f.goals_in;
  relates = λ w s sat all r. covariant_binders is (f.relates w s sat all r);
  keeps = λ w s sat q. f.keeps w s sat (kinds_path q, bind_path q);
}

pub contravariant_step : (c : Items) (e : Tree) (v : Variance) (before after : Store) (earlier added : List Goal)
    (ks ls : List BoundKind) (a b x y : Tree) → v ≡ Contravariant →
    StepsTo c e before after earlier added (first_opened ks ls v) a b (at v) x y →
    StepsTo c e before after earlier added (at v) (bind ks a) (bind ls b) (at v) x y
contravariant_step c e v before after earlier added ks ls a b x y is f = record {
  later = f.later;
  goals_in = f.goals_in;
  relates = λ w s sat all r. contravariant_binders is (f.relates w s sat all r);
  keeps = λ w s sat q. f.keeps w s sat (kinds_path q, bind_path q);
}

-- Where neither body uses a variable of its binder nothing is opened.
pub unused_step : (c : Items) (e : Tree) (v : Variance) (st : Store) (earlier : List Goal) (ks ls : List BoundKind)
    (a b : Tree) → v ≢ Bivariant → Leaves (IsInScope st st.universe) a → Leaves (IsInScope st st.universe) b →
    StaysWithin 0 a → StaysWithin 0 b →
    StepsTo c e st st earlier [] (at v) (bind ks a) (bind ls b) (at v) a b
unused_step c e v st earlier ks ls a b n ina inb wa wb = record {
  later = later_itself st;
  goals_in = All-nil (GoalInContext st);
  relates = λ w s sat all r. unused_rule c w e ks ls (apply s a) (apply s b) st.universe
      (value_namable st s st.universe a sat.assigns ina) (value_namable st s st.universe b sat.assigns inb)
      (stays_apply s 0 a (stays_in st s st.universe a sat.assigns ina) wa)
      (stays_apply s 0 b (stays_in st s st.universe b sat.assigns inb) wb) v n r;
  keeps = λ w s sat q. (s, (λ k m h. refl), (sat, All-nil (MakesOneTree s), bind_path q));
}
