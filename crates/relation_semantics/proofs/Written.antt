-- One variable got an entry: what all variables come to, which assignments are left, and that the store stays sound.
use Rattle.std.proofs.Common.{◌≡◌, ◌⊎◌, ◌↔◌, ℕ, zero, suc, ◌+◌, ◌*◌, ◌≤◌, ◌<◌, refl, sym, ap, ap₂, ◌∙◌, arith, inl, inr, subst, subst₂, Some, None, le_trans, [], All}
use Rattle.std.proofs.Math.Nat.{suc-add}
use Rattle.std.proofs.lemmas.List.{append-nil}
use Rattle.relation_terms.specs.Heads.{VarKind, region_var, Leaf, atom, variable, bound, placeholder, unknown}
use Rattle.relation_terms.specs.Trees.{Tree, leaf, node, bind, nil, cons, Assign, assigned, apply, Leaves, Occurs, size}
use Rattle.relation_semantics.specs.Relation.{Interpretation}
use Rattle.relation_semantics.specs.Stores.{Store, Entry, unbound, same_as, bound_to, entry_of, entry_term, bound_term, universe_of, IsMade, IsFree, IsInScope, IsNamable, MayStandFor, MayHave, IsTermIn, IsSound, MeetsBindings, Satisfies, OnlyShrinks, ConstraintHolds, ConstraintIn, resolve, resolved, rounds_for, all_taken, all_sum_over, sum_over, counts_term, weight}
use Rattle.relation_semantics.specs.Steps.{WritesEntry, StandsBeside, as_it_was, led_on, IsLater, EntryStands}
use Rattle.relation_semantics.proofs.Classes.{entry_kept, class_next}
use Rattle.relation_semantics.proofs.Trees.{Leaves_map, Leaves_map₂, Leaves-replace, apply_alike, apply-apply}
use Rattle.relation_semantics.proofs.Only.{only, only_same, only_other, which, absent, absent_leaves, only_size}
use Rattle.relation_semantics.proofs.Resolved.{HasTerm, is_free, is_bound, has_term, resolve_free, resolve_bound, resolve_none, resolve_start, settled_more, settled_term, general, over_free, resolved_free, resolved_meets}
use Rattle.relation_semantics.proofs.Standing.{scope_mono, own_scope, namable_mono, later_term, later_constraint}
use Rattle.relation_semantics.proofs.Tallies.{sum_over_alike, sum_over_written, all_more}

-- What comes of another variable's term: it stands; or it was the variable that got an entry, and is that one's term.
pub data OtherTerm (before after : Store) (k : VarKind) (n : ℕ) (t : Tree) (j : VarKind) (m : ℕ) : Type 0 where
  term_stays : bound_term after j m ≡ bound_term before j m → OtherTerm before after k n t j m
  term_led : j ≡ k → bound_term before j m ≡ Some (leaf (variable k n)) → bound_term after j m ≡ Some t →
      OtherTerm before after k n t j m

-- Where the entry is a term, all others stand.
pub others_bound : (before after : Store) (k : VarKind) (n : ℕ) (t : Tree) → WritesEntry before after k n (bound_to t) → (j : VarKind) (m : ℕ) → (j ≡ k → m ≡ n → ⊥) → entry_of after j m ≡ entry_of before j m
others_bound before after k n t w j m o = go (w.others_stand j m o)
  where
    go : StandsBeside before after k n (bound_to t) j m → entry_of after j m ≡ entry_of before j m
    go (as_it_was h) = h
    go (led_on r a b c d) = absurd (cc)

module _ (before after : Store) (k : VarKind) (n : ℕ) (x : Entry) (t : Tree) (w : WritesEntry before after k n x) (e : entry_term k x ≡ Some t) where
  pub unbound_before : bound_term before k n ≡ None
  unbound_before = ap (entry_term k) w.was_unbound

  pub now_bound : bound_term after k n ≡ Some t
  now_bound = ap (entry_term k) w.written ∙ e

  pub others : (j : VarKind) (m : ℕ) → (j ≡ k → m ≡ n → ⊥) → OtherTerm before after k n t j m
  others j m o = go (w.others_stand j m o)
    where
      go : StandsBeside before after k n x j m → OtherTerm before after k n t j m
      go (as_it_was h) = term_stays (ap (entry_term j) h)
      go (led_on r a b c d) = term_led a (ap (entry_term j) b ∙ ap (λ z. Some (leaf (variable z n))) a)
          (ap (entry_term j) d ∙ ap (λ z. Some (leaf (variable z r))) a ∙ sym (ap (entry_term k) c) ∙ e)

  pub free_stays : (j : VarKind) (m : ℕ) → (j ≡ k → m ≡ n → ⊥) → bound_term before j m ≡ None → bound_term after j m ≡ None
  free_stays j m o q = go (others j m o)
    where
      go : OtherTerm before after k n t j m → bound_term after j m ≡ None
      go (term_stays h) = h ∙ q
      go (term_led a b c) = absurd (cc (b, q))

  was_free_too : (j : VarKind) (m : ℕ) → (j ≡ k → m ≡ n → ⊥) → bound_term after j m ≡ None → bound_term before j m ≡ None
  was_free_too j m o q = go (others j m o)
    where
      go : OtherTerm before after k n t j m → bound_term before j m ≡ None
      go (term_stays h) = sym h ∙ q
      go (term_led a b c) = absurd (cc (c, q))

  -- A variable with a term is another.
  pub unlike : (j : VarKind) (m : ℕ) (u : Tree) → bound_term before j m ≡ Some u → j ≡ k → m ≡ n → ⊥
  unlike j m u q a b = let z : bound_term before j m ≡ bound_term before k n = ap₂ (bound_term before) a b in cc (z, q, unbound_before)

  pub made_after : (j : VarKind) (i : ℕ) → IsMade before j i → IsMade after j i
  made_after j i h = subst (λ z. i < z) (sym (w.as_many j)) h

  pub made_before : (j : VarKind) (i : ℕ) → IsMade after j i → IsMade before j i
  made_before j i h = subst (λ z. i < z) (w.as_many j) h

  -- What is counted of entries.
  pub kind_more : (f : Entry → ℕ) → f unbound ≡ 0 → ((p q : ℕ) → f (same_as p) ≡ f (same_as q)) → sum_over f (after.entries k) ≡ f x + sum_over f (before.entries k)
  kind_more f z alike = sum_over_written f (before.entries k) (after.entries k) n z (w.as_many k) w.made w.was_unbound (λ m o. counts m (w.others_stand k m (λ _ q. o q))) ∙ ap (λ y. f y + sum_over f (before.entries k)) w.written
    where
      counts : (m : ℕ) → StandsBeside before after k n x k m → f (entry_of after k m) ≡ f (entry_of before k m)
      counts m (as_it_was h) = ap f h
      counts m (led_on r a b c d) = ap f d ∙ alike r n ∙ sym (ap f b)

  pub kinds_stand : (f : Entry → ℕ) (j : VarKind) → (j ≡ k → ⊥) → sum_over f (after.entries j) ≡ sum_over f (before.entries j)
  kinds_stand f j o = sum_over_alike f (before.entries j) (after.entries j) (w.as_many j) (λ m. counts m (w.others_stand j m (λ q _. o q)))
    where
      counts : (m : ℕ) → StandsBeside before after k n x j m → f (entry_of after j m) ≡ f (entry_of before j m)
      counts m (as_it_was h) = ap f h
      counts m (led_on r a b c d) = absurd (o a)

  sum_over_more : (f : Entry → ℕ) → f unbound ≡ 0 → ((p q : ℕ) → f (same_as p) ≡ f (same_as q)) → all_sum_over f after ≡ f x + all_sum_over f before
  sum_over_more f z alike = all_more f before after (f x) k (kind_more f z alike) (kinds_stand f)

  counts_one : (y : Entry) → entry_term k y ≡ Some t → counts_term y ≡ 1
  counts_one unbound q = absurd (cc)
  counts_one (same_as m) q = refl
  counts_one (bound_to u) q = refl

  pub more_taken : all_taken after ≡ suc (all_taken before)
  more_taken = let c = counts_one x e in let h = sum_over_more counts_term refl (λ p q. refl) in omega (arith, c, h)

  -- What meets the bindings.
  pub binding_is_exact : (s : Assign) → MeetsBindings after s ↔ MeetsBindings before s × (s k n ≡ apply s t)
  binding_is_exact s = (λ h. (earlier h, h k n t now_bound), λ h. later h.0 h.1)
    where
      earlier : MeetsBindings after s → MeetsBindings before s
      earlier h j m u q = go (others j m (unlike j m u q))
        where
          go : OtherTerm before after k n t j m → s j m ≡ apply s u
          go (term_stays r) = h j m u (r ∙ q)
          go (term_led a b c) = let is : leaf (variable k n) ≡ u = cc (b, q) in h j m t c ∙ sym (h k n t now_bound) ∙ ap (apply s) is

      later : MeetsBindings before s → s k n ≡ apply s t → MeetsBindings after s
      later h p j m u q = go (which j k m n)
        where
          go : ((j ≡ k) × (m ≡ n)) ⊎ (j ≡ k → m ≡ n → ⊥) → s j m ≡ apply s u
          go (inl (a, b)) = let z : bound_term after j m ≡ bound_term after k n = ap₂ (bound_term after) a b in let tu : t ≡ u = cc (z, q, now_bound) in ap₂ s a b ∙ p ∙ ap (apply s) tu
          go (inr o) = other (others j m o)
            where
              other : OtherTerm before after k n t j m → s j m ≡ apply s u
              other (term_stays r) = h j m u (sym r ∙ q)
              other (term_led a b c) = let is : t ≡ u = cc (c, q) in h j m (leaf (variable k n)) b ∙ p ∙ ap (apply s) is

  -- Where the variable is not reached, nothing changes.
  away_leaf : (f : ℕ) → ((j : VarKind) (m : ℕ) → (Occurs k n (resolve f before j m) → ⊥) → resolve f after j m ≡ resolve f before j m) → (l : Leaf) → (Occurs k n (assigned (resolve f before) l) → ⊥) → assigned (resolve f after) l ≡ assigned (resolve f before) l
  away_leaf f h (variable j m) p = h j m p
  away_leaf f h l p = refl

  away_term : (f : ℕ) → ((j : VarKind) (m : ℕ) → (Occurs k n (resolve f before j m) → ⊥) → resolve f after j m ≡ resolve f before j m) → (u : Tree) → (Occurs k n (apply (resolve f before) u) → ⊥) → apply (resolve f after) u ≡ apply (resolve f before) u
  away_term f h (leaf l) p = away_leaf f h l p
  away_term f h (node g u) p = ap (node g) (away_term f h u p)
  away_term f h (bind ks u) p = ap (bind ks) (away_term f h u p)
  away_term f h nil p = refl
  away_term f h (cons u v) p = ap₂ cons (away_term f h u (λ q. p (inl q))) (away_term f h v (λ q. p (inr q)))

  away_step : (f : ℕ) → ((j : VarKind) (m : ℕ) → (Occurs k n (resolve f before j m) → ⊥) → resolve f after j m ≡ resolve f before j m) → (j : VarKind) (m : ℕ) → (Occurs k n (resolve (suc f) before j m) → ⊥) → resolve (suc f) after j m ≡ resolve (suc f) before j m
  away_step f h j m p = go (has_term before j m)
    where
      go : HasTerm before j m → resolve (suc f) after j m ≡ resolve (suc f) before j m
      go (is_free q) = resolve_free (suc f) after j m (free_stays j m (λ a b. p (subst (Occurs k n) (sym (resolve_free (suc f) before j m q)) (ap₂ (λ c d. leaf (variable c d)) a b))) q) ∙ sym (resolve_free (suc f) before j m q)
      go (is_bound u q) = other (others j m (unlike j m u q))
        where
          other : OtherTerm before after k n t j m → resolve (suc f) after j m ≡ resolve (suc f) before j m
          other (term_stays r) = resolve_bound f after j m u (r ∙ q)
              ∙ away_term f h u (λ r. p (subst (Occurs k n) (sym (resolve_bound f before j m u q)) r)) ∙ sym (resolve_bound f before j m u q)
          other (term_led a b c) = absurd (p (subst (Occurs k n)
              (sym (resolve_bound f before j m (leaf (variable k n)) b ∙ resolve_free f before k n unbound_before)) refl))

  away : (f : ℕ) (j : VarKind) (m : ℕ) → (Occurs k n (resolve f before j m) → ⊥) → resolve f after j m ≡ resolve f before j m
  away zero j m p = resolve_none after before j m
  away (suc f) j m p = away_step f (away f) j m p

  free_after : (l : Leaf) → IsFree before l → (leaf l ≡ leaf (variable k n) → ⊥) → IsFree after l
  free_after (variable j m) f o = free_stays j m (λ p q. o (ap₂ (λ y z. leaf (variable y z)) p q)) f
  free_after (bound j d i) f o = tt
  free_after (placeholder j u i) f o = tt
  free_after (atom y) f o = tt
  free_after unknown f o = tt

  -- After the entry everything settles in twice the rounds and one.
  module _ (g : IsSound before) (absent_term : Occurs k n (apply (resolved before) t) → ⊥) where
    abbrev rs : ℕ
    rs = rounds_for (all_taken before)

    settles : (j : VarKind) (m : ℕ) → Leaves (IsFree before) (resolve rs before j m)
    unfolding resolved
    settles j m = g.settles j m

    settled : (u : Tree) → Leaves (IsFree before) (apply (resolve rs before) u)
    unfolding resolved
    settled u = settled_term before g u

    absent_now : Occurs k n (apply (resolve rs before) t) → ⊥
    unfolding resolved
    absent_now = absent_term

    itself : Leaves (IsFree after) (resolve (suc rs) after k n)
    itself = subst (Leaves (IsFree after)) (sym (resolve_bound rs after k n t now_bound ∙ away_term rs (away rs) t absent_now))
        (Leaves_map₂ _ _ _ free_after (apply (resolve rs before) t) (settled t) (absent_leaves k n (apply (resolve rs before) t) absent_now))

    more_itself : (f : ℕ) → Leaves (IsFree after) (resolve (suc rs + f) after k n)
    more_itself f = subst (Leaves (IsFree after)) (sym (settled_more (suc rs) f after (leaf (variable k n)) itself)) itself

    -- A variable that was free before, after so many rounds and more.
    was_free : (f : ℕ) (j : VarKind) (m : ℕ) → bound_term before j m ≡ None → Leaves (IsFree after) (resolve (suc rs + f) after j m)
    was_free f j m q = go (which j k m n)
      where
        go : ((j ≡ k) × (m ≡ n)) ⊎ (j ≡ k → m ≡ n → ⊥) → Leaves (IsFree after) (resolve (suc rs + f) after j m)
        go (inl (a, b)) = subst (λ z. Leaves (IsFree after) (resolve (suc rs + f) after z m)) (sym a) (subst (λ z. Leaves (IsFree after) (resolve (suc rs + f) after k z)) (sym b) (more_itself f))
        go (inr o) = let q' : bound_term after j m ≡ None = free_stays j m o q in subst (Leaves (IsFree after)) (sym (resolve_free (suc rs + f) after j m q')) q'

    later_leaf : (f : ℕ) → ((j : VarKind) (m : ℕ) → Leaves (IsFree before) (resolve f before j m) → Leaves (IsFree after) (resolve (suc rs + f) after j m)) → (l : Leaf) → Leaves (IsFree before) (assigned (resolve f before) l) → Leaves (IsFree after) (assigned (resolve (suc rs + f) after) l)
    later_leaf f ih (variable j m) h = ih j m h
    later_leaf f ih (bound j d i) h = tt
    later_leaf f ih (placeholder j u i) h = tt
    later_leaf f ih (atom y) h = tt
    later_leaf f ih unknown h = tt

    later_tree : (f : ℕ) → ((j : VarKind) (m : ℕ) → Leaves (IsFree before) (resolve f before j m) → Leaves (IsFree after) (resolve (suc rs + f) after j m)) → (u : Tree) → Leaves (IsFree before) (apply (resolve f before) u) → Leaves (IsFree after) (apply (resolve (suc rs + f) after) u)
    later_tree f ih (leaf l) h = later_leaf f ih l h
    later_tree f ih (node a u) h = later_tree f ih u h
    later_tree f ih (bind ks u) h = later_tree f ih u h
    later_tree f ih nil h = tt
    later_tree f ih (cons u v) h = (later_tree f ih u h.0, later_tree f ih v h.1)

    later_step : (f : ℕ) → ((j : VarKind) (m : ℕ) → Leaves (IsFree before) (resolve f before j m) → Leaves (IsFree after) (resolve (suc rs + f) after j m)) → (j : VarKind) (m : ℕ) → Leaves (IsFree before) (resolve (suc f) before j m) → Leaves (IsFree after) (resolve (suc rs + suc f) after j m)
    later_step f ih j m h = go (has_term before j m)
      where
        go : HasTerm before j m → Leaves (IsFree after) (resolve (suc rs + suc f) after j m)
        go (is_free q) = was_free (suc f) j m q
        go (is_bound u q) = other (others j m (unlike j m u q))
          where
            r : suc rs + suc f ≡ suc (suc rs + f)
            r = omega arith

            other : OtherTerm before after k n t j m → Leaves (IsFree after) (resolve (suc rs + suc f) after j m)
            other (term_stays s) = subst (λ z. Leaves (IsFree after) (resolve z after j m)) (sym r) (subst (Leaves (IsFree after)) (sym (resolve_bound (suc rs + f) after j m u (s ∙ q))) (later_tree f ih u (subst (Leaves (IsFree before)) (resolve_bound f before j m u q) h)))
            other (term_led a b c) = subst (λ z. Leaves (IsFree after) (resolve z after j m)) (sym r)
                (subst (Leaves (IsFree after)) (resolve_bound (suc rs + f) after k n t now_bound ∙ sym (resolve_bound (suc rs + f) after j m t c))
                (subst (λ z. Leaves (IsFree after) (resolve z after k n)) r (more_itself (suc f))))

    later_rounds : (f : ℕ) (j : VarKind) (m : ℕ) → Leaves (IsFree before) (resolve f before j m) → Leaves (IsFree after) (resolve (suc rs + f) after j m)
    later_rounds zero j m h = was_free zero j m (resolve_start before j m h)
    later_rounds (suc f) j m h = later_step f (later_rounds f) j m h

    pub settles_after : (j : VarKind) (m : ℕ) → Leaves (IsFree after) (resolved after j m)
    unfolding resolved
    settles_after j m = subst (λ z. Leaves (IsFree after) (resolve (rounds_for z) after j m)) (sym more_taken)
        (subst (λ z. Leaves (IsFree after) (resolve z after j m)) (suc-add rs rs) (later_rounds rs j m (settles j m)))

    -- What variables and terms come to after the entry.
    abbrev target : Tree
    target = apply (resolved before) t

    abbrev single : Assign
    single = only k n target

    value : Assign
    value = λ j m. apply single (resolved before j m)

    value_same : value k n ≡ target
    unfolding value
    value_same = ap (apply single) (resolved_free before k n unbound_before) ∙ only_same k n target

    value_term : (u : Tree) → apply value u ≡ apply single (apply (resolved before) u)
    unfolding value
    value_term u = sym (apply-apply single (resolved before) u)

    value_stays : (j : VarKind) (m : ℕ) → bound_term after j m ≡ None → value j m ≡ leaf (variable j m)
    unfolding value
    value_stays j m q = go (which j k m n)
      where
        go : ((j ≡ k) × (m ≡ n)) ⊎ (j ≡ k → m ≡ n → ⊥) → apply single (resolved before j m) ≡ leaf (variable j m)
        go (inl (a, b)) = let i : bound_term after j m ≡ bound_term after k n = ap₂ (bound_term after) a b in absurd (cc (i, q, now_bound))
        go (inr o) = ap (apply single) (resolved_free before j m (was_free_too j m o q)) ∙ only_other k n target j m o

    value_meets_before : MeetsBindings before value
    unfolding value
    value_meets_before j m u q = ap (apply single) (resolved_meets before g j m u q) ∙ apply-apply single (resolved before) u

    value_meets : MeetsBindings after value
    value_meets = (binding_is_exact value).1 (value_meets_before, value_same ∙ sym (value_term t ∙ absent k n target target absent_term))

    pub resolved_is : (j : VarKind) (m : ℕ) → resolved after j m ≡ apply single (resolved before j m)
    unfolding value
    resolved_is j m = sym (general after value value_meets j m ∙ over_free after value value_stays (resolved after j m) (settles_after j m))

    pub resolved_later : (u : Tree) → apply (resolved after) u ≡ apply single (apply (resolved before) u)
    resolved_later u = apply_alike (resolved after) (λ j m. apply single (resolved before j m)) u resolved_is ∙ sym (apply-apply single (resolved before) u)

    -- The term's size bounds how what others come to grows.
    pub weight_after : (u : Tree) → weight after u ≤ weight before u * weight before t
    unfolding weight
    weight_after u = subst (λ z. size z ≤ size (apply (resolved before) u) * size target) (sym (resolved_later u)) (only_size k n target (apply (resolved before) u))

    -- The store stays sound.
    module _ (not_region : k ≡ region_var → ⊥) (stands : MayStandFor k t) (is_in : IsTermIn before t)
        (falls : (m : ℕ) → x ≡ same_as m → m < n)
        (smaller : (j : VarKind) (i : ℕ) → universe_of after j i ≤ universe_of before j i)
        (kept : (j : VarKind) (i : ℕ) (u : Tree) → bound_term after j i ≡ Some u → universe_of after j i ≡ universe_of before j i)
        (in_scope : Leaves (IsInScope after (universe_of before k n)) (apply (resolved before) t)) where
      same_now : before.universe ≤ after.universe
      same_now = omega (arith, w.same_universe)

      scope_leaf : (u : ℕ) (l : Leaf) → IsInScope before u l → Leaves (IsInScope after u) (assigned single l)
      scope_leaf u (variable j i) h = go (which j k i n)
        where
          go : ((j ≡ k) × (i ≡ n)) ⊎ (j ≡ k → i ≡ n → ⊥) → Leaves (IsInScope after u) (single j i)
          go (inl (a, b)) = subst (Leaves (IsInScope after u)) (sym (ap₂ single a b ∙ only_same k n target))
              (Leaves_map _ _ (scope_mono after (universe_of before k n) u (subst (λ z. z ≤ u) (ap₂ (universe_of before) a b) h.1)) target in_scope)
          go (inr o) = subst (Leaves (IsInScope after u)) (sym (only_other k n target j i o)) (made_after j i h.0, le_trans (smaller j i) h.1)
      scope_leaf u (bound j d i) h = tt
      scope_leaf u (placeholder j v i) h = h
      scope_leaf u (atom y) h = h
      scope_leaf u unknown h = absurd h

      scope_tree : (u : ℕ) (v : Tree) → Leaves (IsInScope before u) v → Leaves (IsInScope after u) (apply single v)
      scope_tree u v h = Leaves-replace (IsInScope after u) (assigned single) v (Leaves_map (IsInScope before u) _ (scope_leaf u) v h)

      scopes : (j : VarKind) (i : ℕ) → IsMade after j i → Leaves (IsInScope after (universe_of after j i)) (resolved after j i)
      scopes j i h = go (has_term after j i)
        where
          go : HasTerm after j i → Leaves (IsInScope after (universe_of after j i)) (resolved after j i)
          go (is_free q) = subst (Leaves (IsInScope after (universe_of after j i))) (sym (resolved_free after j i q)) (own_scope after j i h)
          go (is_bound u q) = subst (Leaves (IsInScope after (universe_of after j i))) (sym (resolved_is j i))
              (subst (λ z. Leaves (IsInScope after z) (apply single (resolved before j i))) (sym (kept j i u q)) (scope_tree (universe_of before j i) (resolved before j i) (g.in_scope j i (made_before j i h))))

      bindings : (j : VarKind) (i : ℕ) (u : Tree) → bound_term after j i ≡ Some u → MayHave after j i u
      bindings j i u q = go (which j k i n)
        where
          go : ((j ≡ k) × (i ≡ n)) ⊎ (j ≡ k → i ≡ n → ⊥) → MayHave after j i u
          go (inl (a, b)) = let z : bound_term after j i ≡ bound_term after k n = ap₂ (bound_term after) a b in let tu : t ≡ u = cc (z, q, now_bound) in
              subst₂ (λ y z. MayHave after y z u) (sym a) (sym b) (record {
                made = made_after k n w.made;
                is_in = subst (IsTermIn after) tu (later_term before after made_after same_now t is_in);
                stands = subst (MayStandFor k) tu stands;
              })
          go (inr o) = other (others j i o)
            where
              other : OtherTerm before after k n t j i → MayHave after j i u
              other (term_stays r) = let h = g.bindings j i u (sym r ∙ q) in
                  record { made = made_after j i h.made; is_in = later_term before after made_after same_now u h.is_in; stands = h.stands }
              other (term_led a b c) = let tu : t ≡ u = cc (c, q) in record {
                made = made_after j i (g.bindings j i (leaf (variable k n)) b).made;
                is_in = subst (IsTermIn after) tu (later_term before after made_after same_now t is_in);
                stands = subst (λ z. MayStandFor z u) (sym a) (subst (MayStandFor k) tu stands);
              }

      all_fall : (j : VarKind) (i m : ℕ) → entry_of after j i ≡ same_as m → m < i
      all_fall j i m q = go (which j k i n)
        where
          go : ((j ≡ k) × (i ≡ n)) ⊎ (j ≡ k → i ≡ n → ⊥) → m < i
          go (inl (a, b)) = subst (λ z. m < z) (sym b) (falls m (sym w.written ∙ sym (ap₂ (entry_of after) a b) ∙ q))
          go (inr o) = other (w.others_stand j i o)
            where
              other : StandsBeside before after k n x j i → m < i
              other (as_it_was r) = g.falls j i m (sym r ∙ q)
              other (led_on r a b c d) = let first = falls r c in let then = g.falls j i n b in let is : r ≡ m = cc (d, q) in omega arith

      regions : (i : ℕ) → StandsBeside before after k n x region_var i → entry_of after region_var i ≡ unbound
      regions i (as_it_was r) = r ∙ g.regions_unbound i
      regions i (led_on r a b c d) = absurd (not_region (sym a))

      pub sound_after : IsSound after
      sound_after = record {
        settles = settles_after;
        bindings = bindings;
        in_scope = scopes;
        falls = all_fall;
        regions_unbound = λ i. regions i (w.others_stand region_var i (λ a b. not_region (sym a)));
        one_universe_each = λ j. w.as_many_universes j ∙ g.one_universe_each j ∙ sym (w.as_many j);
        below_current = λ j i. subst (λ z. universe_of after j i ≤ z) (sym w.same_universe) (le_trans (smaller j i) (g.below_current j i));
        constraints_in = subst (All (ConstraintIn after)) (sym w.same_constraints) (λ i d h. later_constraint before after made_after same_now _ (g.constraints_in i d h));
      }

  -- The satisfying assignments that are left.
  module _ (smaller : (j : VarKind) (i : ℕ) → universe_of after j i ≤ universe_of before j i) where
    pub shrinks : OnlyShrinks before after
    shrinks v s h = record {
      assigns = λ j i p. let q = h.assigns j i (made_after j i p) in (q.0, q.1, q.2, Leaves_map _ _ (namable_mono (universe_of after j i) (universe_of before j i) (smaller j i)) (s j i) q.3);
      bindings = ((binding_is_exact s).0 h.bindings).0;
      regions = subst (All (ConstraintHolds v s)) w.same_constraints h.regions;
    }

    entries_stand : (j : VarKind) (i : ℕ) → EntryStands after j (entry_of before j i) (entry_of after j i)
    entries_stand j i = go (which j k i n)
      where
        other : StandsBeside before after k n x j i → EntryStands after j (entry_of before j i) (entry_of after j i)
        other (as_it_was r) = entry_kept after j (entry_of before j i) (entry_of after j i) r
        other (led_on r a b c d) = subst (λ z. EntryStands after j z (entry_of after j i)) (sym b)
            (r, d, class_next after j n r (ap (λ z. entry_of after z n) a ∙ w.written ∙ c))

        go : ((j ≡ k) × (i ≡ n)) ⊎ (j ≡ k → i ≡ n → ⊥) → EntryStands after j (entry_of before j i) (entry_of after j i)
        go (inl (a, b)) = subst (λ z. EntryStands after j z (entry_of after j i)) (sym (ap₂ (entry_of before) a b ∙ w.was_unbound)) tt
        go (inr o) = other (w.others_stand j i o)

    pub is_later : IsLater before after
    is_later = record {
      grows = made_after;
      entries_stand = entries_stand;
      constraints_stand = ([], w.same_constraints ∙ sym (append-nil before.constraints));
      universes_fall = λ j i m. smaller j i;
      universe_stands = omega (arith, w.same_universe);
      taint_stands = λ h. w.same_taint ∙ h;
      shrinks = shrinks;
    }

  pub equal : (v : Interpretation) (s : Assign) → Satisfies v after s → s k n ≡ apply s t
  equal v s h = ((binding_is_exact s).0 h.bindings).1

  pub keeps : (v : Interpretation) (s : Assign) → Satisfies v before s → s k n ≡ apply s t → ((j : VarKind) (i : ℕ) → IsMade before j i → Leaves (IsNamable (universe_of after j i)) (s j i)) → Satisfies v after s
  keeps v s h q low = record {
    assigns = λ j i p. let p' = made_before j i p in let a = h.assigns j i p' in (a.0, a.1, a.2, low j i p');
    bindings = (binding_is_exact s).1 (h.bindings, q);
    regions = subst (All (ConstraintHolds v s)) (sym w.same_constraints) h.regions;
  }
