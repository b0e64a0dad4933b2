-- What is exact up to erasure.
use Rattle.std.proofs.Common.{◌≡◌, ◌⊎◌, ◌↔◌, ℕ, zero, suc, ◌<◌, ◌≤◌, min, refl, sym, ap, ap₂, ◌∙◌, arith, inl, inr, subst, subst₂, Some, None, []}
use native.Mathlib.Decide.{dec_le}
use Rattle.relation_terms.specs.Heads.{VarKind, Leaf, variable}
use Rattle.relation_terms.specs.Trees.{Tree, leaf, node, bind, nil, cons, Assign, assigned, apply, Leaves, IsList, count, nth}
use Rattle.relation_terms.specs.Erasure.{erase, kept_parts}
use Rattle.relation_semantics.specs.Relation.{IsValueLeaf, StaysWithin}
use Rattle.relation_semantics.specs.Stores.{Store, Entry, same_as, entry_term, bound_term, universe_of, IsMade, IsMadeLeaf, InContext, IsNamable, IsAssignment, MayStandFor, IsSound}
use Rattle.relation_semantics.specs.FirstOrder.{Unifies, MeetsErased, IsErasedSolution}
use Rattle.relation_semantics.specs.Steps.{IsLater, AgreeErased, HasErasedExtension, WritesEntry, Equates}
use Rattle.relation_semantics.specs.Outcomes.{Exact, ExactFront}
use Rattle.relation_semantics.specs.StepLaws.{ExactsCompose, ExactStepsCompose, InstantiatingIsExactStep, ExactFrontGoesOn, ExactFrontEnds, ExactKeepsUnifiers}
use Rattle.relation_semantics.proofs.Trees.{Leaves_map}
use Rattle.relation_semantics.proofs.Only.{which}
use Rattle.relation_semantics.proofs.Values.{apply-nth, apply-list}
use Rattle.relation_semantics.proofs.Standing.{namable_mono, term_context}
use Rattle.relation_semantics.proofs.Written.{OtherTerm, term_stays, term_led, now_bound, others, unlike, made_after, made_before}
use Rattle.relation_semantics.proofs.Going.{later_through}
use Rattle.relation_semantics.proofs.Composing.{below_or}
use Rattle.relation_terms.proofs.Paths.{first_path, rest_path}

-- Assignments that agree up to erasure give a term of the context one erased value.
erased_leaf : (st : Store) (s s' : Assign) → AgreeErased st s s' → (l : Leaf) → IsMadeLeaf st l → erase (assigned s l) ≡ erase (assigned s' l)
erased_leaf st s s' h (variable k n) m = h k n m
erased_leaf st s s' h l m = refl

pub same_erased : (st : Store) (s s' : Assign) (t : Tree) → AgreeErased st s s' → InContext st t → erase (apply s t) ≡ erase (apply s' t)
unfolding InContext
same_erased st s s' (leaf l) h i = erased_leaf st s s' h l i
same_erased st s s' (node a t) h i = ap (λ z. node a (kept_parts a z)) (same_erased st s s' t h i)
same_erased st s s' (bind ks t) h i = ap (bind []) (same_erased st s s' t h i)
same_erased st s s' nil h i = refl
same_erased st s s' (cons t u) h i = ap₂ cons (same_erased st s s' t h i.0) (same_erased st s s' u h i.1)

pub erased_alike : (s s' : Assign) (t : Tree) → ((k : VarKind) (n : ℕ) → erase (s k n) ≡ erase (s' k n)) → erase (apply s t) ≡ erase (apply s' t)
erased_alike s s' (leaf (variable k n)) h = h k n
erased_alike s s' (leaf l) h = refl
erased_alike s s' (node a t) h = ap (λ z. node a (kept_parts a z)) (erased_alike s s' t h)
erased_alike s s' (bind ks t) h = ap (bind []) (erased_alike s s' t h)
erased_alike s s' nil h = refl
erased_alike s s' (cons t u) h = ap₂ cons (erased_alike s s' t h) (erased_alike s s' u h)

pub unifies_still : (st : Store) (s s' : Assign) (a b : Tree) → AgreeErased st s s' → InContext st a → InContext st b → Unifies s a b → Unifies s' a b
unifies_still st s s' a b h i j p = sym (same_erased st s s' a h i) ∙ p ∙ same_erased st s s' b h j

-- An extension, and then one from there.
pub erased_through : (before middle : Store) (s s' : Assign) (P : Assign → Type 0) → IsLater before middle → AgreeErased before s s' → HasErasedExtension middle s' P → HasErasedExtension before s P
erased_through before middle s s' P l h two = (two.0, (λ k n m. h k n m ∙ two.1 k n (l.grows k n m)), two.2)

pub exact_keeps_unifiers : ExactKeepsUnifiers
exact_keeps_unifiers before after a b ina inb f s sol = (f.keeps s sol, λ two. unifies_still before two.0 s a b (λ k n m. sym (two.1 k n m)) ina inb (f.shrinks two.0 two.2).1)

pub exacts_compose : ExactsCompose
exacts_compose before middle after a b xs ys inx iny f g = record {
  later = later_through f.later g.later;
  shrinks = λ s sol. let two = g.shrinks s sol in let one = f.shrinks s two.0 in (one.0, ap₂ cons one.1 two.1);
  keeps = λ s sol q. go s (rest_path q) (f.keeps s sol (first_path q));
}
  where
    go : (s : Assign) → Unifies s xs ys → HasErasedExtension before s (IsErasedSolution middle) → HasErasedExtension before s (IsErasedSolution after)
    go s q one = erased_through before middle s one.0 (IsErasedSolution after) f.later one.1 (g.keeps one.0 one.2 (unifies_still before s one.0 xs ys one.1 inx iny q))

pub exact_steps_compose : ExactStepsCompose
exact_steps_compose before middle after a b x y f = (then, λ n s sol q. let one = f.keeps s sol q in n one.0 one.2.0 one.2.1)
  where
    then : Exact middle after x y → Exact before after a b
    then g = record {
      later = later_through f.later g.later;
      shrinks = λ s sol. let two = g.shrinks s sol in f.shrinks s two.0 two.1;
      keeps = λ s sol q. let one = f.keeps s sol q in erased_through before middle s one.0 (IsErasedSolution after) f.later one.1 (g.keeps one.0 one.2.0 one.2.1);
    }

-- Unified lists have unified parts.
erased_nth : (i : ℕ) (t : Tree) → IsList t → erase (nth i t) ≡ nth i (erase t)
erased_nth zero (cons t ts) l = refl
erased_nth (suc i) (cons t ts) l = erased_nth i ts l
erased_nth zero nil l = refl
erased_nth (suc i) nil l = refl
erased_nth i (leaf x) l = absurd l
erased_nth i (node h ts) l = absurd l
erased_nth i (bind ks t) l = absurd l

pub unified_parts : (s : Assign) (i : ℕ) (xs ys : Tree) → IsList xs → IsList ys → Unifies s xs ys → Unifies s (nth i xs) (nth i ys)
unified_parts s i xs ys l m q = part xs l ∙ ap (nth i) q ∙ sym (part ys m)
  where
    part : (t : Tree) → IsList t → erase (apply s (nth i t)) ≡ nth i (erase (apply s t))
    part t k = ap erase (apply-nth s i t k) ∙ erased_nth i (apply s t) (apply-list s t k)

pub exact_front_goes_on : ExactFrontGoesOn
exact_front_goes_on i before middle after xs ys lx ly inx iny f = (then, λ n s sol q. let one = f.keeps s sol q in n one.0 one.2 (unified_parts one.0 i xs ys lx ly (unifies_still before s one.0 xs ys one.1 inx iny q)))
  where
    then : Exact middle after (nth i xs) (nth i ys) → ExactFront (suc i) before after xs ys
    then g = record {
      later = later_through f.later g.later;
      shrinks = λ s sol. f.shrinks s (g.shrinks s sol).0;
      unifies = λ s sol j l. at_place s sol j (below_or i j l);
      keeps = λ s sol q. let one = f.keeps s sol q in erased_through before middle s one.0 (IsErasedSolution after) f.later one.1 (g.keeps one.0 one.2 (unified_parts one.0 i xs ys lx ly (unifies_still before s one.0 xs ys one.1 inx iny q)));
    }
      where
        at_place : (s : Assign) → IsErasedSolution after s → (j : ℕ) → (j < i) ⊎ (j ≡ i) → Unifies s (nth j xs) (nth j ys)
        at_place s sol j (inl l) = f.unifies s (g.shrinks s sol).0 j l
        at_place s sol j (inr p) = subst (λ z. Unifies s (nth z xs) (nth z ys)) (sym p) (g.shrinks s sol).1

unified_places : (s : Assign) (xs ys : Tree) → IsList xs → IsList ys → count xs ≡ count ys → ((j : ℕ) → j < count xs → Unifies s (nth j xs) (nth j ys)) → Unifies s xs ys
unified_places s nil nil l m p f = refl
unified_places s (cons x xs) (cons y ys) l m p f = ap₂ cons (f 0 (omega arith)) (unified_places s xs ys l m (omega (arith, p)) (λ j k. f (suc j) (omega (arith, k))))
unified_places s nil (cons y ys) l m p f = absurd (omega (arith, p))
unified_places s (cons x xs) nil l m p f = absurd (omega (arith, p))
unified_places s nil ys l m p f = absurd m
unified_places s (cons x xs) ys l m p f = absurd m
unified_places s xs ys l m p f = absurd l

pub exact_front_ends : ExactFrontEnds
exact_front_ends before after xs ys lx ly n f = record {
  later = f.later;
  shrinks = λ s sol. (f.shrinks s sol, unified_places s xs ys lx ly n (f.unifies s sol));
  keeps = f.keeps;
}

-- Instantiating is an exact step.
pub instantiating_is_exact_step : InstantiatingIsExactStep
instantiating_is_exact_step u before after k n source term inc ins lacks f = (
  record { later = f.later; shrinks = λ s sol q. (earlier s sol, value s sol ∙ q); keeps = λ s sol q. go s q (f.keeps_erased lacks s sol q) },
  record { later = f.later; shrinks = λ s sol q. (earlier s sol, q ∙ sym (value s sol)); keeps = λ s sol q. turned s (go s (sym q) (f.keeps_erased lacks s sol (sym q))) },
)
  where
    value : (s : Assign) → IsErasedSolution after s → Unifies s (leaf (variable k n)) term
    value s sol = sol.1 k n term (ap (entry_term k) f.now_bound)

    unlike : (j : VarKind) (i : ℕ) (t : Tree) → bound_term before j i ≡ Some t → j ≡ k → i ≡ n → ⊥
    unlike j i t e p q = let z : bound_term before j i ≡ bound_term before k n = ap₂ (bound_term before) p q in let o : bound_term before k n ≡ None = ap (entry_term k) f.was_unbound in cc (z, e, o)

    earlier : (s : Assign) → IsErasedSolution after s → IsErasedSolution before s
    earlier s sol = (
      λ j i m. let a = sol.0 j i (f.later.grows j i m) in (a.0, a.1, a.2, subst (λ z. Leaves (IsNamable z) (s j i)) (f.same_universes j i m) a.3),
      λ j i t e. sol.1 j i t (ap (entry_term j) (f.others_stand j i (unlike j i t e)) ∙ e),
    )

    go : (s : Assign) → Unifies s (leaf (variable k n)) source → HasErasedExtension before s (IsErasedSolution after) → HasErasedExtension before s (λ z. IsErasedSolution after z × Unifies z term source)
    go s q one = (one.0, one.1, (one.2, sym (value one.0 one.2) ∙ sym (one.1 k n f.made) ∙ q ∙ same_erased before s one.0 source one.1 ins))

    turned : (s : Assign) → HasErasedExtension before s (λ z. IsErasedSolution after z × Unifies z term source) → HasErasedExtension before s (λ z. IsErasedSolution after z × Unifies z source term)
    turned s one = (one.0, one.1, (one.2.0, sym one.2.1))

-- One variable got an entry: what meets the bindings up to erasure.
module _ (before after : Store) (k : VarKind) (n : ℕ) (x : Entry) (t : Tree) (w : WritesEntry before after k n x) (e : entry_term k x ≡ Some t) where
  pub erased_binding : (s : Assign) → MeetsErased after s ↔ MeetsErased before s × Unifies s (leaf (variable k n)) t
  erased_binding s = (λ h. (earlier h, h k n t (now_bound before after k n x t w e)), λ h. later h.0 h.1)
    where
      earlier : MeetsErased after s → MeetsErased before s
      earlier h j m u q = go (others before after k n x t w e j m (unlike before after k n x t w e j m u q))
        where
          go : OtherTerm before after k n t j m → Unifies s (leaf (variable j m)) u
          go (term_stays r) = h j m u (r ∙ q)
          go (term_led a b c) = let is : leaf (variable k n) ≡ u = cc (b, q) in
              h j m t c ∙ sym (h k n t (now_bound before after k n x t w e)) ∙ ap (λ z. erase (apply s z)) is

      later : MeetsErased before s → Unifies s (leaf (variable k n)) t → MeetsErased after s
      later h p j m u q = go (which j k m n)
        where
          go : ((j ≡ k) × (m ≡ n)) ⊎ (j ≡ k → m ≡ n → ⊥) → Unifies s (leaf (variable j m)) u
          go (inl (a, b)) = let z : bound_term after j m ≡ bound_term after k n = ap₂ (bound_term after) a b in let o = now_bound before after k n x t w e in let tu : t ≡ u = cc (z, q, o) in ap₂ (λ c d. erase (s c d)) a b ∙ p ∙ ap (λ c. erase (apply s c)) tu
          go (inr o) = other (others before after k n x t w e j m o)
            where
              other : OtherTerm before after k n t j m → Unifies s (leaf (variable j m)) u
              other (term_stays r) = h j m u (sym r ∙ q)
              other (term_led a b c) = let is : t ≡ u = cc (c, q) in
                  h j m (leaf (variable k n)) b ∙ p ∙ ap (λ z. erase (apply s z)) is

  -- Where universes stand, it is exact.
  module _ (l : IsLater before after) (same : (j : VarKind) (i : ℕ) → universe_of after j i ≡ universe_of before j i) where
    pub entry_is_exact : Exact before after (leaf (variable k n)) t
    entry_is_exact = record {
      later = l;
      shrinks = λ s sol. let two = (erased_binding s).0 sol.1 in ((earlier s sol.0, two.0), two.1);
      keeps = λ s sol q. (s, (λ j i m. refl), (later s sol.0, (erased_binding s).1 (sol.1, q)));
    }
      where
        earlier : (s : Assign) → IsAssignment after s → IsAssignment before s
        earlier s h j i m = let a = h j i (made_after before after k n x t w e j i m) in (a.0, a.1, a.2, subst (λ z. Leaves (IsNamable z) (s j i)) (same j i) a.3)

        later : (s : Assign) → IsAssignment before s → IsAssignment after s
        later s h j i m = let a = h j i (made_before before after k n x t w e j i m) in (a.0, a.1, a.2, subst (λ z. Leaves (IsNamable z) (s j i)) (sym (same j i)) a.3)

-- Equating two variables, also where their universes differ.
choose : {A B : Type 0} → A ⊎ B → Tree → Tree → Tree
choose (inl a) x y = x
choose (inr b) x y = y

choose_left : {A B : Type 0} (w : A ⊎ B) (x y : Tree) → A → (B → A → ⊥) → choose w x y ≡ x
unfolding choose
choose_left (inl a) x y h n = refl
choose_left (inr b) x y h n = absurd (n b h)

choose_right : {A B : Type 0} (w : A ⊎ B) (x y : Tree) → B → (B → A → ⊥) → choose w x y ≡ y
unfolding choose
choose_right (inl a) x y h n = absurd (n h a)
choose_right (inr b) x y h n = refl

-- The assignment that gives one variable a value.
pub changed : VarKind → ℕ → Tree → Assign → Assign
changed k m t s j i = choose (which j k i m) t (s j i)

pub changed_same : (k : VarKind) (m : ℕ) (t : Tree) (s : Assign) → changed k m t s k m ≡ t
unfolding changed
changed_same k m t s = choose_left (which k k m m) t (s k m) (refl, refl) (λ o p. o p.0 p.1)

pub changed_other : (k : VarKind) (m : ℕ) (t : Tree) (s : Assign) (j : VarKind) (i : ℕ) → (j ≡ k → i ≡ m → ⊥) → changed k m t s j i ≡ s j i
unfolding changed
changed_other k m t s j i o = choose_right (which j k i m) t (s j i) o (λ o p. o p.0 p.1)

pub changed_case : (P : VarKind → ℕ → Tree → Type 0) (k : VarKind) (m : ℕ) (t : Tree) (s : Assign) → P k m t → (j : VarKind) (i : ℕ) → ((j ≡ k → i ≡ m → ⊥) → P j i (s j i)) → P j i (changed k m t s j i)
changed_case P k m t s p j i h = go (which j k i m)
  where
    go : ((j ≡ k) × (i ≡ m)) ⊎ (j ≡ k → i ≡ m → ⊥) → P j i (changed k m t s j i)
    go (inl (x, y)) = subst₂ (λ a b. P a b (changed k m t s a b)) (sym x) (sym y) (subst (P k m) (sym (changed_same k m t s)) p)
    go (inr o) = subst (P j i) (sym (changed_other k m t s j i o)) (h o)

module _ (before after : Store) (k : VarKind) (n m : ℕ) (q : Equates before after k n m) (g : IsSound before) (l : IsLater before after) (lowers : (j : VarKind) (i : ℕ) → universe_of after j i ≤ universe_of before j i) where
  abbrev to : Tree
  to = leaf (variable k m)

  abbrev lower : ℕ
  lower = min (universe_of before k n) (universe_of before k m)

  left_made : IsMade before k n
  left_made = q.links.made

  right_made : IsMade before k m
  right_made = let c = q.links.made in let s = q.smaller in omega arith

  earlier : (s : Assign) → IsAssignment after s → IsAssignment before s
  earlier s h j i p = let a = h j i (l.grows j i p) in (a.0, a.1, a.2, Leaves_map _ _ (namable_mono (universe_of after j i) (universe_of before j i) (lowers j i)) (s j i) a.3)

  -- An assignment whose value of the root both universes can name.
  later : (s : Assign) → IsAssignment before s → Leaves (IsNamable lower) (s k m) → IsAssignment after s
  later s h low j i p = let a = h j i p' in (a.0, a.1, a.2, names (which j k i m))
    where
      p' : IsMade before j i
      p' = made_before before after k n (same_as m) to q.links refl j i p

      names : ((j ≡ k) × (i ≡ m)) ⊎ (j ≡ k → i ≡ m → ⊥) → Leaves (IsNamable (universe_of after j i)) (s j i)
      names (inl (x, y)) = subst₂ (λ a b. Leaves (IsNamable (universe_of after a b)) (s a b)) (sym x) (sym y) (subst (λ u. Leaves (IsNamable u) (s k m)) (sym q.lowered) low)
      names (inr o) = subst (λ u. Leaves (IsNamable u) (s j i)) (sym (q.other_universes j i o)) (h j i p').3

  meets : (s s' : Assign) → AgreeErased before s s' → MeetsErased before s → MeetsErased before s'
  meets s s' a h j i t e = let b = g.bindings j i t e in sym (a j i b.made) ∙ h j i t e ∙ same_erased before s s' t a (term_context before t b.is_in)

  solution : (s s' : Assign) → AgreeErased before s s' → IsErasedSolution before s → Unifies s (leaf (variable k n)) to → IsAssignment after s' → HasErasedExtension before s (IsErasedSolution after)
  solution s s' a sol u h = (s', a, (h, (erased_binding before after k n (same_as m) to q.links refl s').1 (meets s s' a sol.1, sym (a k n left_made) ∙ u ∙ a k m right_made)))

  root_changed : Assign → Assign
  root_changed s = changed k m (s k n) s

  agree : (s : Assign) → Unifies s (leaf (variable k n)) to → AgreeErased before s (root_changed s)
  unfolding root_changed
  agree s u j i p = changed_case (λ j i z. erase (s j i) ≡ erase z) k m (s k n) s (sym u) j i (λ o. refl)

  fits : (s : Assign) → IsAssignment before s → universe_of before k n ≤ universe_of before k m → IsAssignment before (root_changed s)
  unfolding root_changed
  fits s h le j i p = changed_case (λ j i z. MayStandFor j z × Leaves IsValueLeaf z × StaysWithin 0 z × Leaves (IsNamable (universe_of before j i)) z) k m (s k n) s
      (let a = h k n left_made in (a.0, a.1, a.2, Leaves_map (IsNamable (universe_of before k n)) (IsNamable (universe_of before k m)) (namable_mono (universe_of before k n) (universe_of before k m) le) (s k n) a.3)) j i (λ o. h j i p)

  low : (u : ℕ) → u ≤ lower → (t : Tree) → Leaves (IsNamable u) t → Leaves (IsNamable lower) t
  low u le t h = Leaves_map (IsNamable u) _ (namable_mono u lower le) t h

  extends : (s : Assign) → IsErasedSolution before s → Unifies s (leaf (variable k n)) to → Dec (universe_of before k n ≤ universe_of before k m) → HasErasedExtension before s (IsErasedSolution after)
  unfolding root_changed
  extends s sol u (yes le) = solution s (root_changed s) (agree s u) sol u
      (later (root_changed s) (fits s sol.0 le) (subst (Leaves (IsNamable lower)) (sym (changed_same k m (s k n) s)) (low (universe_of before k n) (omega arith) (s k n) (sol.0 k n left_made).3)))
  extends s sol u (no gt) = solution s s (λ j i p. refl) sol u (later s sol.0 (low (universe_of before k m) (omega arith) (s k m) (sol.0 k m right_made).3))

  pub equating_exact : Exact before after (leaf (variable k n)) to
  equating_exact = record {
    later = l;
    shrinks = λ s sol. let two = (erased_binding before after k n (same_as m) to q.links refl s).0 sol.1 in ((earlier s sol.0, two.0), two.1);
    keeps = λ s sol u. extends s sol u (dec_le (universe_of before k n) (universe_of before k m));
  }
