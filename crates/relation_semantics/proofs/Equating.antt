-- Making two variables one, and binding a variable to a term.
use Rattle.std.proofs.Common.{◌≡◌, ◌⊎◌, ℕ, ◌*◌, ◌≤◌, ◌<◌, min, refl, sym, ap, ap₂, arith, inl, inr, subst, subst₂, Some, None, le_trans, le_of_eq}
use Rattle.std.proofs.Math.Nat.{mul-le-mul}
use native.Mathlib.Decide.{dec_le}
use Rattle.relation_terms.specs.Heads.{VarKind, VarKind_discrete, region_var, Leaf, variable, bound, placeholder, atom, unknown}
use Rattle.relation_terms.specs.Trees.{Tree, leaf, Assign, apply, Leaves, Occurs}
use Rattle.relation_semantics.specs.Relation.{Interpretation}
use Rattle.relation_semantics.specs.Stores.{Store, same_as, bound_to, entry_term, bound_term, universe_of, IsMade, IsInScope, IsNamable, MayStandFor, IsTermIn, IsSound, Satisfies, resolved, weight, counts_bound, sum_over}
use Rattle.relation_semantics.specs.Steps.{Equates, BindsTo, IsLater, StaysFull}
use Rattle.relation_semantics.specs.Measures.{Goes}
use Rattle.relation_semantics.proofs.Trees.{Leaves_map}
use Rattle.relation_semantics.proofs.Only.{which}
use Rattle.relation_semantics.proofs.Full.{full_by, written_plain}
use Rattle.relation_semantics.proofs.Resolved.{resolved_free, resolved_weight}
use Rattle.relation_semantics.proofs.Standing.{itself_stands, namable_mono, term_of_made}
use Rattle.relation_semantics.proofs.Written.{sound_after, is_later, equal, keeps, weight_after, made_after, free_stays, kind_more, kinds_stand}
use Rattle.relation_semantics.proofs.Tallies.{bound_more, bound_alike}
use Rattle.relation_semantics.specs.ErasureLaws.{IsTypeOrConst}

module _ (before after : Store) (k : VarKind) (child root : ℕ) (q : Equates before after k child root) (g : IsSound before) (not_region : k ≡ region_var → ⊥) where
  abbrev to : Tree
  to = leaf (variable k root)

  root_free : bound_term before k root ≡ None
  root_free = ap (entry_term k) q.root_unbound

  root_made : IsMade before k root
  root_made = let c = q.links.made in let s = q.smaller in omega arith

  differ : root ≡ child → ⊥
  differ e = let s = q.smaller in omega arith

  pub equating_lowers : (j : VarKind) (i : ℕ) → universe_of after j i ≤ universe_of before j i
  equating_lowers j i = go (which j k i root)
    where
      go : ((j ≡ k) × (i ≡ root)) ⊎ (j ≡ k → i ≡ root → ⊥) → universe_of after j i ≤ universe_of before j i
      go (inl (a, b)) = subst₂ (λ c d. universe_of after c d ≤ universe_of before c d) (sym a) (sym b) (let e = q.lowered in omega arith)
      go (inr o) = le_of_eq (q.other_universes j i o)

  root_free_after : bound_term after k root ≡ None
  root_free_after = free_stays before after k child (same_as root) to q.links refl k root (λ _ e. differ e) root_free

  kept : (j : VarKind) (i : ℕ) (u : Tree) → bound_term after j i ≡ Some u → universe_of after j i ≡ universe_of before j i
  kept j i u e = go (which j k i root)
    where
      go : ((j ≡ k) × (i ≡ root)) ⊎ (j ≡ k → i ≡ root → ⊥) → universe_of after j i ≡ universe_of before j i
      go (inl (a, b)) = let f : bound_term after j i ≡ bound_term after k root = ap₂ (bound_term after) a b in absurd (let h = root_free_after in cc (f, e, h))
      go (inr o) = q.other_universes j i o

  to_resolved : apply (resolved before) to ≡ to
  to_resolved = resolved_free before k root root_free

  away : Occurs k child (apply (resolved before) to) → ⊥
  away o = not_child (subst (Occurs k child) to_resolved o)
    where
      not_child : leaf (variable k root) ≡ leaf (variable k child) → ⊥
      not_child e = differ (cc)

  to_in_scope : Leaves (IsInScope after (universe_of before k child)) (apply (resolved before) to)
  to_in_scope = subst (Leaves (IsInScope after (universe_of before k child))) (sym to_resolved)
      (made_after before after k child (same_as root) to q.links refl k root root_made, (let e = q.lowered in omega arith))

  falls : (m : ℕ) → same_as root ≡ same_as m → m < child
  falls m e = let r : root ≡ m = cc in let s = q.smaller in omega arith

  pub equated_sound : IsSound after
  equated_sound = sound_after before after k child (same_as root) to q.links refl g away not_region (itself_stands k root) (term_of_made before k root root_made) falls equating_lowers kept to_in_scope

  pub equated_later : IsLater before after
  equated_later = is_later before after k child (same_as root) to q.links refl equating_lowers

  none_bound : (j : VarKind) → sum_over counts_bound (after.entries j) ≡ sum_over counts_bound (before.entries j)
  none_bound j = go (VarKind_discrete j k)
    where
      go : Dec (j ≡ k) → sum_over counts_bound (after.entries j) ≡ sum_over counts_bound (before.entries j)
      go (yes e) = subst (λ z. sum_over counts_bound (after.entries z) ≡ sum_over counts_bound (before.entries z)) (sym e) (let h = kind_more before after k child (same_as root) to q.links refl counts_bound refl (λ p q. refl) in omega (arith, h))
      go (no o) = kinds_stand before after k child (same_as root) to q.links refl counts_bound j o

  pub equated_goes : Goes 0 before after
  equated_goes = record {
    later = equated_later;
    made = λ j h. q.links.as_many j;
    spent = 0;
    counts = let b = q.same_budget in omega arith;
    binds = (let h = bound_alike before after none_bound in omega (arith, h));
    grows = λ m u above below.
        let one : weight before to ≡ 1 = resolved_weight before k root root_free in
        let h : weight after u ≤ weight before u * 1 = subst (λ z. weight after u ≤ weight before u * z) one (weight_after before after k child (same_as root) to q.links refl g away u) in omega arith;
  }

  -- A variable that leads to another is bound to no binder.
  pub equated_full : StaysFull before after
  equated_full = full_by equated_goes q.links.as_many (written_plain q.links (λ t e. cc))

  pub equated_value : (w : Interpretation) (s : Assign) → Satisfies w after s → s k child ≡ s k root
  equated_value w s h = equal before after k child (same_as root) to q.links refl w s h

  low : (u v : ℕ) (s : Tree) → Dec (u ≤ v) → Leaves (IsNamable u) s → Leaves (IsNamable v) s → Leaves (IsNamable (min u v)) s
  low u v s (yes h) p r = Leaves_map (IsNamable u) _ (namable_mono u (min u v) (omega arith)) s p
  low u v s (no h) p r = Leaves_map (IsNamable v) _ (namable_mono v (min u v) (omega arith)) s r

  pub equated_keeps : (w : Interpretation) (s : Assign) → Satisfies w before s → s k child ≡ s k root → Satisfies w after s
  equated_keeps w s h e = keeps before after k child (same_as root) to q.links refl w s h e names
    where
      names : (j : VarKind) (i : ℕ) → IsMade before j i → Leaves (IsNamable (universe_of after j i)) (s j i)
      names j i p = go (which j k i root)
        where
          go : ((j ≡ k) × (i ≡ root)) ⊎ (j ≡ k → i ≡ root → ⊥) → Leaves (IsNamable (universe_of after j i)) (s j i)
          go (inl (a, b)) = subst₂ (λ c d. Leaves (IsNamable (universe_of after c d)) (s c d)) (sym a) (sym b)
              (subst (λ z. Leaves (IsNamable z) (s k root)) (sym q.lowered)
              (low (universe_of before k child) (universe_of before k root) (s k root) (dec_le (universe_of before k child) (universe_of before k root))
              (subst (Leaves (IsNamable (universe_of before k child))) e (h.assigns k child q.links.made).3) (h.assigns k root root_made).3))
          go (inr o) = subst (λ z. Leaves (IsNamable z) (s j i)) (sym (q.other_universes j i o)) (h.assigns j i p).3

-- Binding a variable to a term in which it does not stand, and that names only what it can.
module _ (before after : Store) (k : VarKind) (n : ℕ) (t : Tree) (q : BindsTo before after k n t) (g : IsSound before) (not_region : k ≡ region_var → ⊥)
    (stands : MayStandFor k t) (is_in : IsTermIn before t)
    (absent : Occurs k n (apply (resolved before) t) → ⊥)
    (in_scope : Leaves (IsInScope before (universe_of before k n)) (apply (resolved before) t)) where
  no_higher : (j : VarKind) (i : ℕ) → universe_of after j i ≤ universe_of before j i
  no_higher j i = le_of_eq (q.same_universes j i)

  scope_leaf : (u : ℕ) (l : Leaf) → IsInScope before u l → IsInScope after u l
  scope_leaf u (variable j m) h = (made_after before after k n (bound_to t) t q.writes refl j m h.0, subst (λ z. z ≤ u) (sym (q.same_universes j m)) h.1)
  scope_leaf u (placeholder j v m) h = h
  scope_leaf u (bound j d m) h = tt
  scope_leaf u (atom a) h = h
  scope_leaf u unknown h = absurd h

  bound_in_scope : Leaves (IsInScope after (universe_of before k n)) (apply (resolved before) t)
  bound_in_scope = Leaves_map (IsInScope before (universe_of before k n)) (IsInScope after (universe_of before k n)) (scope_leaf (universe_of before k n)) (apply (resolved before) t) in_scope

  pub bound_sound : IsSound after
  bound_sound = sound_after before after k n (bound_to t) t q.writes refl g absent not_region stands is_in (λ m e. absurd (cc)) no_higher (λ j i u e. q.same_universes j i) bound_in_scope

  pub bound_later : IsLater before after
  bound_later = is_later before after k n (bound_to t) t q.writes refl no_higher

  pub bound_goes : IsTypeOrConst k → (size : ℕ) → weight before t ≤ size → Goes size before after
  bound_goes counted size small = record {
    later = bound_later;
    made = λ j h. q.writes.as_many j;
    spent = 1;
    counts = let b = q.one_spent in omega arith;
    binds = bound_more before after 1 k counted (kind_more before after k n (bound_to t) t q.writes refl counts_bound refl (λ p q. refl)) (kinds_stand before after k n (bound_to t) t q.writes refl counts_bound);
    grows = λ m u above below.
        let h : weight after u ≤ weight before u * weight before t = weight_after before after k n (bound_to t) t q.writes refl g absent u in
        let d : weight before u * weight before t ≤ m * m = mul-le-mul below (le_trans small above) in le_trans h d;
  }

  pub bound_value : (w : Interpretation) (s : Assign) → Satisfies w after s → s k n ≡ apply s t
  bound_value w s h = equal before after k n (bound_to t) t q.writes refl w s h

  pub bound_keeps : (w : Interpretation) (s : Assign) → Satisfies w before s → s k n ≡ apply s t → Satisfies w after s
  bound_keeps w s h e = keeps before after k n (bound_to t) t q.writes refl w s h e (λ j i p. subst (λ u. Leaves (IsNamable u) (s j i)) (sym (q.same_universes j i)) (h.assigns j i p).3)
