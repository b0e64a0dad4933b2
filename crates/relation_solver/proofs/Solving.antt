-- What a solver's answers mean, by induction on what it did.
use Rattle.std.proofs.Common.{◌≡◌, ◌⊎◌, ℕ, List, [], ◌∷◌, refl, sym, ◌∙◌, ap, subst, inl, inr, map, All}
use Rattle.std.specs.Prelude.{Contains}
use Rattle.std.proofs.lemmas.List.Elements.{All-contains}
use Rattle.relation_terms.specs.Trees.{Tree, Assign, apply, inst, Leaves}
use Rattle.relation_terms.specs.Erasure.{erase}
use Rattle.relation_semantics.specs.Relation.{FitKinds, IsValueLeaf}
use Rattle.relation_semantics.specs.Stores.{Store, InContext}
use Rattle.relation_semantics.specs.FirstOrder.{IsErasedSolution, Unifies}
use Rattle.relation_semantics.specs.Steps.{AllNamable, AgreeOn, AgreeErased, HasErasedExtension}
use Rattle.relation_semantics.specs.Outcomes.{Exact}
use Rattle.relation_semantics.proofs.Values.{same_value, variables_fit, variables_namable}
use Rattle.relation_semantics.proofs.Exactness.{same_erased, erased_through}
use Rattle.relation_semantics.proofs.StoreCalls.{bindings_are_met}
use Rattle.relation_semantics.proofs.Trees.{apply_ground}
use Rattle.relation_solver.specs.Rules.{AreClosed, Rule, IsShadowed, one, all, Follows, by_rule, none_left, and_next}
use Rattle.relation_solver.specs.Traces.{Without, first, later, Step, goal, goals, rule, rest, Answer, yes, no, Opens}
use Rattle.relation_solver.specs.Traces.{GivesWay, Takes, Did, took_alone, took_first, was_found, read_yes, read_no}
use Rattle.relation_solver.specs.Traces.{did_none, did_next}
use Rattle.relation_solver.specs.Traces.{no_rule, same_rule, other_rule, no_form, no_fit, no_stand, no_asks, no_first}
use Rattle.relation_solver.specs.Traces.{no_later}
use Rattle.relation_solver.specs.Solving.{YesIsSound, YesIsPrincipal, NoMeansNone, AllYesAreSound, AllYesArePrincipal}
use Rattle.relation_solver.specs.Solving.{SomeNoMeansNone}
use Rattle.relation_solver.proofs.Alike.{AreAlike, alike_sym, alike_trans, alike_values, all_later, one_in, rest_in}
use Rattle.relation_solver.proofs.Alike.{images_without, alike_one, alike_rest}
use Rattle.relation_solver.proofs.Opened.{opened_value, opened_values, before_making}
use Rattle.relation_solver.proofs.Opened.{opened_are_unconstrained}
use Rattle.relation_solver.proofs.Shadows.{shadow_value, unshadowed}

module _ (u : ℕ) (held : List Tree) (rules : List Rule) where
  -- What follows, follows for whatever is alike.
  pub follows_one : {g : Tree} (h : Tree) → erase g ≡ erase h → Follows u held rules (one g) → Follows u held rules (one h)
  follows_one h q (by_rule r xs g c f n w e k) = by_rule r xs h c f n w (sym q ∙ e) k

  pub follows_all : {gs : List Tree} (hs : List Tree) → AreAlike gs hs → Follows u held rules (all gs) →
      Follows u held rules (all hs)
  follows_all [] q none_left = none_left
  follows_all (h ∷ hs) q none_left = absurd q
  follows_all [] q (and_next g gs f k) = absurd q
  follows_all (h ∷ hs) q (and_next g gs f k) = and_next h hs (follows_one h q.0 f) (follows_all hs q.1 k)

  -- Of a list all follow just where one of it does and all others do.
  follows_together : {g : Tree} {gs hs : List Tree} → Without g gs hs → Follows u held rules (one g) →
      Follows u held rules (all hs) → Follows u held rules (all gs)
  follows_together {g = g} (first {xs = xs}) f k = and_next g xs f k
  follows_together (later {xs = xs} w) f (and_next g gs d k) = and_next g xs d (follows_together w f k)

  follows_of : {g : Tree} {gs hs : List Tree} → Without g gs hs → Follows u held rules (all gs) →
      Follows u held rules (one g)
  follows_of first (and_next g gs f k) = f
  follows_of (later w) (and_next g gs f k) = follows_of w k

  follows_rest : {g : Tree} {gs hs : List Tree} → Without g gs hs → Follows u held rules (all gs) →
      Follows u held rules (all hs)
  follows_rest first (and_next g gs f k) = k
  follows_rest (later {ys = ys} w) (and_next g gs f k) = and_next g ys f (follows_rest w k)

  module _ (closed : AreClosed held) where
    -- A yes is sound.
    abbrev Sound : Store → Step → Answer → Type 0
    Sound st (goal g) (yes st') = (s : Assign) → IsErasedSolution st' s →
        IsErasedSolution st s × Follows u held rules (one (apply s g))
    Sound st (goals gs) (yes st') = (s : Assign) → IsErasedSolution st' s →
        IsErasedSolution st s × Follows u held rules (all (map (apply s) gs))
    Sound st q a = Unit {0}

    taken_sound : (before middle after : Store) (r : Rule) (vars : List Tree) (g : Tree) → Contains rules r →
        Takes u held before middle r vars g → Sound middle (goals (map (inst vars 0) r.asks)) (yes after) →
        Sound before (goal g) (yes after)
    taken_sound before middle after r vars g c t k s h =
        let o = t.opens in
        let p = k s h in
        let e = t.exact.shrinks s p.0 in
        let xs = map (apply s) vars in (
          before_making before t.opened u r.binds vars o.makes s e.0,
          by_rule r xs (apply s g) c (variables_fit before t.opened s u r.binds vars e.0.0 o.makes.are_new)
              (variables_namable before t.opened s u r.binds vars e.0.0 o.makes.are_new)
              (unshadowed u held closed middle r vars o t.stands s p.0)
              (e.1 ∙ ap erase (opened_value s vars xs r.gives o.gives_closed refl))
              (subst (λ z. Follows u held rules (all z)) (opened_values s vars xs r.asks o.asks_closed refl) p.1),
        )

    sound : {st : Store} {q : Step} {a : Answer} → Did u held rules st q a → Sound st q a
    sound (took_alone before middle after r vars g c t d only) = taken_sound before middle after r vars g c t (sound d)
    sound (took_first before middle after r vars g c t d i w) = taken_sound before middle after r vars g c t (sound d)
    sound (was_found st g f) = λ s h. (h, f s h)
    sound (read_yes before after g h r d) = λ s k.
        let p = sound d s k in (p.0, follows_one (apply s g) (r.same s p.0) p.1)
    sound (read_no st g h r d) = tt
    sound (did_none st) = λ s h. (h, none_left)
    sound (did_next before middle after g gs hs w d l e) = λ s h.
        let p = sound e s h in
        let r = sound d s p.0 in
        (r.0, follows_together (images_without (apply s) w) r.1 p.1)
    sound (no_rule st g d) = tt
    sound (same_rule st r p g e) = tt
    sound (other_rule st r p g d) = tt
    sound (no_form st p g d) = tt
    sound (no_fit before opened p vars g o d) = tt
    sound (no_stand before opened middle p vars g o f d) = tt
    sound (no_asks before opened middle p vars g o f d) = tt
    sound (no_first st g gs hs w d) = tt
    sound (no_later before middle g gs hs w d l e) = tt

    -- A solution that goes on where a rule is opened with given values and related with a goal.
    pub record Fitted (before opened middle : Store) (s : Assign) (vars xs : List Tree) : Type 0 where
      pub at_opening : Assign
      pub agrees : AgreeOn before s at_opening
      pub values : map (apply at_opening) vars ≡ xs
      pub after : Assign
      pub agrees_after : AgreeErased opened at_opening after
      pub solves : IsErasedSolution middle after

    pub fitted : (before opened middle : Store) (r : Rule) (vars : List Tree) (g : Tree) → Opens u before opened r vars →
        Exact opened middle g (inst vars 0 r.gives) → InContext before g → (s : Assign) (xs : List Tree) →
        IsErasedSolution before s → FitKinds r.binds xs → AllNamable u xs → erase (apply s g) ≡ erase (inst xs 0 r.gives) →
        Fitted before opened middle s vars xs
    fitted before opened middle r vars g o f i s xs h fit nam e =
        let p = opened_are_unconstrained before opened u r.binds vars o.makes o.sound s xs h fit nam in
        let same : Unifies p.0 g (inst vars 0 r.gives) = ap erase (sym (same_value before s p.0 g p.1 i)) ∙
        (e ∙ ap erase (sym (opened_value p.0 vars xs r.gives o.gives_closed p.2.1))) in
        let k = f.keeps p.0 p.2.0 same in
        record {
          at_opening = p.0;
          agrees = p.1;
          values = p.2.1;
          after = k.0;
          agrees_after = k.1;
          solves = k.2;
        }

    -- It agrees with the solution that there was, and what the rule asks for has its values.
    module _ (before opened middle : Store) (r : Rule) (vars : List Tree) (g : Tree) (o : Opens u before opened r vars)
        (f : Exact opened middle g (inst vars 0 r.gives)) (s : Assign) (xs : List Tree)
        (t : Fitted before opened middle s vars xs) where
      pub fitted_agrees : AgreeErased before s t.after
      fitted_agrees j n m = ap erase (t.agrees j n m) ∙ t.agrees_after j n (o.makes.later.grows j n m)

      pub asks_alike : AreAlike (map (inst xs 0) r.asks) (map (apply t.after) (map (inst vars 0) r.asks))
      asks_alike = subst (λ z. AreAlike z (map (apply t.after) (map (inst vars 0) r.asks)))
          (opened_values t.at_opening vars xs r.asks o.asks_closed t.values)
          (alike_values opened t.at_opening t.after (map (inst vars 0) r.asks) t.agrees_after o.asks_in)

      asks_later : All (InContext middle) (map (inst vars 0) r.asks)
      asks_later = all_later opened middle f.later (map (inst vars 0) r.asks) o.asks_in

      goes_on : (P : Assign → Type 0) → HasErasedExtension middle t.after P → HasErasedExtension before s P
      goes_on P e = (
        e.0,
        λ k n m. fitted_agrees k n m ∙ e.1 k n (f.later.grows k n (o.makes.later.grows k n m)),
        e.2,
      )

      shadowed_then : GivesWay held middle r vars → IsShadowed held r xs
      shadowed_then w = record {
        clause = w.clause;
        had = w.had;
        of_rule = w.of_rule;
        of_environment = w.of_environment;
        same = ap erase (sym (apply_ground t.after w.had (All-contains (Leaves IsValueLeaf) held w.had closed w.of_environment))) ∙
            (w.same t.after t.solves ∙
            (sym (same_erased opened t.at_opening t.after (inst vars 0 w.clause) t.agrees_after
            (All-contains (λ z. InContext opened (inst vars 0 z)) r.shadowed_by w.clause o.shadows_in w.of_rule)) ∙
            ap erase (shadow_value u r vars o t.at_opening xs t.values w.clause w.of_rule)));
      }

    -- A yes keeps each solution under which the goal comes to what it comes to under some solution after.
    abbrev Extends : Store → Step → Answer → Type 0
    Extends st (goal g) (yes st') = InContext st g → (s s' : Assign) → IsErasedSolution st s →
        IsErasedSolution st' s' → erase (apply s g) ≡ erase (apply s' g) →
        HasErasedExtension st s (IsErasedSolution st')
    Extends st (goals gs) (yes st') = All (InContext st) gs → (s s' : Assign) → IsErasedSolution st s →
        IsErasedSolution st' s' → AreAlike (map (apply s) gs) (map (apply s') gs) →
        HasErasedExtension st s (IsErasedSolution st')
    Extends st q a = Unit {0}

    taken_extends : (before middle after : Store) (r : Rule) (vars : List Tree) (g : Tree) →
        Takes u held before middle r vars g → Did u held rules middle (goals (map (inst vars 0) r.asks)) (yes after) →
        Extends middle (goals (map (inst vars 0) r.asks)) (yes after) → Extends before (goal g) (yes after)
    taken_extends before middle after r vars g a d k i s s' h h' e =
        let o = a.opens in
        let p = sound d s' h' in
        let q = a.exact.shrinks s' p.0 in
        let xs = map (apply s') vars in
        let head = opened_value s' vars xs r.gives o.gives_closed refl in
        let t = fitted before a.opened middle r vars g o a.exact i s xs h
        (variables_fit before a.opened s' u r.binds vars q.0.0 o.makes.are_new)
        (variables_namable before a.opened s' u r.binds vars q.0.0 o.makes.are_new) (e ∙ (q.1 ∙ ap erase head)) in
        let asks = map (inst vars 0) r.asks in
        goes_on before a.opened middle r vars g o a.exact s xs t (IsErasedSolution after)
        (k (asks_later before a.opened middle r vars g o a.exact s xs t) t.after s' t.solves h'
        (subst (AreAlike (map (apply t.after) asks)) (sym (opened_values s' vars xs r.asks o.asks_closed refl))
        (alike_sym (map (inst xs 0) r.asks) (map (apply t.after) asks)
        (asks_alike before a.opened middle r vars g o a.exact s xs t))))

    extends : {st : Store} {q : Step} {a : Answer} → Did u held rules st q a → Extends st q a
    extends (took_alone before middle after r vars g c t d only) =
        taken_extends before middle after r vars g t d (extends d)
    extends (took_first before middle after r vars g c t d i w) =
        taken_extends before middle after r vars g t d (extends d)
    extends (was_found st g f) = λ i s s' h h' e. (s, (λ k n m. refl), h)
    extends (read_yes before after g h r d) = λ i s s' k k' e.
        let p = sound d s' k' in
        extends d r.is_in s s' k k' (r.same s k ∙ (e ∙ sym (r.same s' p.0)))
    extends (read_no st g h r d) = tt
    extends (did_none st) = λ i s s' h h' e. (s, (λ k n m. refl), h)
    extends (did_next before middle after g gs hs w d l e) = λ i s s' h h' a.
        let p = sound e s' h' in
        let r = extends d (one_in before w i) s s' h p.0 (alike_one (apply s) (apply s') w a) in
        let rests = rest_in before w i in
        erased_through before middle s r.0 (IsErasedSolution after) l r.1
        (extends e (all_later before middle l hs rests) r.0 s' r.2 h'
        (alike_trans (map (apply r.0) hs) (map (apply s) hs) (map (apply s') hs)
        (alike_sym (map (apply s) hs) (map (apply r.0) hs) (alike_values before s r.0 hs r.1 rests))
        (alike_rest (apply s) (apply s') w a)))
    extends (no_rule st g d) = tt
    extends (same_rule st r p g e) = tt
    extends (other_rule st r p g d) = tt
    extends (no_form st p g d) = tt
    extends (no_fit before opened p vars g o d) = tt
    extends (no_stand before opened middle p vars g o f d) = tt
    extends (no_asks before opened middle p vars g o f d) = tt
    extends (no_first st g gs hs w d) = tt
    extends (no_later before middle g gs hs w d l e) = tt

    -- A goal does not follow by a rule.
    abbrev FailsBy : Store → Rule → Tree → Type 0
    FailsBy st r g = (s : Assign) (xs : List Tree) → IsErasedSolution st s → FitKinds r.binds xs → AllNamable u xs →
        (IsShadowed held r xs → ⊥) → erase (apply s g) ≡ erase (inst xs 0 r.gives) →
        Follows u held rules (all (map (inst xs 0) r.asks)) → ⊥

    -- A yes is most general: each solution under which the goal follows goes on. A no is whole: under none it follows.
    abbrev Whole : Store → Step → Answer → Type 0
    Whole st (goal g) (yes st') = InContext st g → (s : Assign) → IsErasedSolution st s →
        Follows u held rules (one (apply s g)) → HasErasedExtension st s (IsErasedSolution st')
    Whole st (goals gs) (yes st') = All (InContext st) gs → (s : Assign) → IsErasedSolution st s →
        Follows u held rules (all (map (apply s) gs)) → HasErasedExtension st s (IsErasedSolution st')
    Whole st (goal g) no = InContext st g → (s : Assign) → IsErasedSolution st s →
        Follows u held rules (one (apply s g)) → ⊥
    Whole st (goals gs) no = All (InContext st) gs → (s : Assign) → IsErasedSolution st s →
        Follows u held rules (all (map (apply s) gs)) → ⊥
    Whole st (rule r g) no = InContext st g → FailsBy st r g
    Whole st (rest r q g) no = InContext st g → (q ≡ r) ⊎ FailsBy st q g
    Whole st q a = Unit {0}

    -- By the one rule that is left.
    alone : (before : Store) (r : Rule) (g : Tree) (s : Assign) (P : Type 0) → IsErasedSolution before s →
        ((q : Rule) → Contains rules q → (q ≡ r) ⊎ FailsBy before q g) →
        ((xs : List Tree) → FitKinds r.binds xs → AllNamable u xs → erase (apply s g) ≡ erase (inst xs 0 r.gives) →
        Follows u held rules (all (map (inst xs 0) r.asks)) → P) → Follows u held rules (one (apply s g)) → P
    alone before r g s P h only k (by_rule q xs t c fit nam stands e f) = go (only q c)
      where
        go : (q ≡ r) ⊎ FailsBy before q g → P
        go (inl w) = subst (λ z. (ys : List Tree) → FitKinds z.binds ys → AllNamable u ys →
            erase (apply s g) ≡ erase (inst ys 0 z.gives) → Follows u held rules (all (map (inst ys 0) z.asks)) → P)
            (sym w) k xs fit nam e f
        go (inr w) = absurd (w s xs h fit nam stands e f)

    by_some : {g : Tree} (P : Type 0) → ((q : Rule) (xs : List Tree) → Contains rules q → FitKinds q.binds xs →
        AllNamable u xs → (IsShadowed held q xs → ⊥) → erase g ≡ erase (inst xs 0 q.gives) →
        Follows u held rules (all (map (inst xs 0) q.asks)) → P) → Follows u held rules (one g) → P
    by_some P k (by_rule q xs g c fit nam stands e f) = k q xs c fit nam stands e f

    whole : {st : Store} {q : Step} {a : Answer} → Did u held rules st q a → Whole st q a
    whole (took_alone before middle after r vars g c a d only) = λ i s h w.
        alone before r g s (HasErasedExtension before s (IsErasedSolution after)) h
        (λ p cp. whole (only p cp) i)
        (λ xs fit nam e k.
        let o = a.opens in
        let t = fitted before a.opened middle r vars g o a.exact i s xs h fit nam e in
        let asks = map (inst vars 0) r.asks in
        goes_on before a.opened middle r vars g o a.exact s xs t (IsErasedSolution after)
        (whole d (asks_later before a.opened middle r vars g o a.exact s xs t) t.after t.solves
        (follows_all (map (apply t.after) asks) (asks_alike before a.opened middle r vars g o a.exact s xs t) k))) w
    whole (took_first before middle after r vars g c t d y same) = λ i s h w.
        let all_met = bindings_are_met after y in
        let s' = all_met.0 in
        let h' : IsErasedSolution after s' = (all_met.1, λ k n t e. ap erase (all_met.2 k n t e)) in
        let back = taken_sound before middle after r vars g c t (sound d) s' h' in
        taken_extends before middle after r vars g t d (extends d) i s s' h h' (same s s' h back.0)
    whole (was_found st g f) = λ i s h w. (s, (λ k n m. refl), h)
    whole (read_yes before after g h r d) = λ i s k w. whole d r.is_in s k (follows_one (apply s h) (sym (r.same s k)) w)
    whole (read_no st g h r d) = λ i s k w. whole d r.is_in s k (follows_one (apply s h) (sym (r.same s k)) w)
    whole (did_none st) = λ i s h w. (s, (λ k n m. refl), h)
    whole (did_next before middle after g gs hs a d l e) = λ i s h w.
        let images = images_without (apply s) a in
        let r = whole d (one_in before a i) s h (follows_of images w) in
        let rests = rest_in before a i in
        erased_through before middle s r.0 (IsErasedSolution after) l r.1
        (whole e (all_later before middle l hs rests) r.0 r.2
        (follows_all (map (apply r.0) hs) (alike_values before s r.0 hs r.1 rests) (follows_rest images w)))
    whole (no_rule st g d) = λ i s h w.
        by_some ⊥ (λ p xs c fit nam stands e k. whole (d p c) i s xs h fit nam stands e k) w
    whole (same_rule st r p g e) = λ i. inl e
    whole (other_rule st r p g d) = λ i. inr (whole d i)
    whole (no_form st p g d) = λ i s xs h fit nam stands e k. d s xs h fit nam e
    whole (no_fit before opened p vars g o d) = λ i s xs h fit nam stands e k.
        let b = opened_are_unconstrained before opened u p.binds vars o.makes o.sound s xs h fit nam in
        d b.0 b.2.0 (ap erase (sym (same_value before s b.0 g b.1 i)) ∙
        (e ∙ ap erase (sym (opened_value b.0 vars xs p.gives o.gives_closed b.2.1))))
    whole (no_stand before opened middle p vars g o f d) = λ i s xs h fit nam stands e k.
        let t = fitted before opened middle p vars g o f i s xs h fit nam e in
        stands (shadowed_then before opened middle p vars g o f s xs t d)
    whole (no_asks before opened middle p vars g o f d) = λ i s xs h fit nam stands e k.
        let t = fitted before opened middle p vars g o f i s xs h fit nam e in
        whole d (asks_later before opened middle p vars g o f s xs t) t.after t.solves
        (follows_all (map (apply t.after) (map (inst vars 0) p.asks))
        (asks_alike before opened middle p vars g o f s xs t) k)
    whole (no_first st g gs hs a d) = λ i s h w.
        whole d (one_in st a i) s h (follows_of (images_without (apply s) a) w)
    whole (no_later before middle g gs hs a d l e) = λ i s h w.
        let images = images_without (apply s) a in
        let r = whole d (one_in before a i) s h (follows_of images w) in
        let rests = rest_in before a i in
        whole e (all_later before middle l hs rests) r.0 r.2
        (follows_all (map (apply r.0) hs) (alike_values before s r.0 hs r.1 rests) (follows_rest images w))

pub yes_is_sound : YesIsSound
yes_is_sound u held rules before after g closed d = sound u held rules closed d

pub yes_is_principal : YesIsPrincipal
yes_is_principal u held rules before after g closed i d = whole u held rules closed d i

pub no_means_none : NoMeansNone
no_means_none u held rules before g closed i d = whole u held rules closed d i

pub all_yes_are_sound : AllYesAreSound
all_yes_are_sound u held rules before after gs closed d = sound u held rules closed d

pub all_yes_are_principal : AllYesArePrincipal
all_yes_are_principal u held rules before after gs closed i d = whole u held rules closed d i

pub some_no_means_none : SomeNoMeansNone
some_no_means_none u held rules before gs closed i d = whole u held rules closed d i
