-- A new variable and a new constraint keep a store sound.
use Rattle.std.proofs.Common.{◌≡◌, ◌⊎◌, ℕ, zero, suc, ◌≤◌, ◌<◌, refl, sym, ap, ap₂, ◌∙◌, arith, inl, inr, subst, subst₂, get_or, List, [], ◌∷◌, ◌++◌, All, length, length-append}
use Rattle.std.proofs.lemmas.List.{append-nil, get_or_append_left}
use Rattle.std.proofs.lemmas.List.Elements.{All-nil, All-cons, All-append, All-head}
use native.Mathlib.Decide.{ℕ_discrete}
use Rattle.relation_terms.specs.Heads.{VarKind, VarKind_discrete, region_var, Leaf, atom, variable, bound, placeholder, unknown}
use Rattle.relation_terms.specs.Trees.{Tree, Assign, Leaves, size}
use Rattle.relation_semantics.specs.Relation.{Interpretation}
use Rattle.relation_semantics.specs.Stores.{Store, Entry, unbound, entry_of, entry_term, bound_term, universe_of, IsMade, IsFree, IsInScope, IsNamable, IsSound, Satisfies, ConstraintHolds, Constraint, ConstraintIn, resolved, all_sum_over, all_bound, sum_over, counts_term, counts_bound, weight}
use Rattle.relation_semantics.specs.Steps.{MakesVariable, AddsConstraint, IsLater}
use Rattle.relation_semantics.proofs.Trees.{Leaves_map, apply_alike}
use Rattle.relation_semantics.proofs.Classes.{entry_kept}
use Rattle.relation_semantics.proofs.Resolved.{resolved_same, resolved_free}
use Rattle.relation_semantics.proofs.Standing.{own_scope, later_term, later_constraint}
use Rattle.relation_semantics.proofs.Tallies.{sum_over_append, all_more, all_alike, bound_alike}
use Rattle.relation_folds.proofs.Lists.{All_front, All_back}

pub entry_push : (es : List Entry) (m : ℕ) → get_or (es ++ unbound ∷ []) m unbound ≡ get_or es m unbound
entry_push [] zero = refl
entry_push [] (suc m) = refl
entry_push (e ∷ es) zero = refl
entry_push (e ∷ es) (suc m) = entry_push es m

universe_push : (us : List ℕ) (u c : ℕ) → u ≤ c → ((m : ℕ) → get_or us m 0 ≤ c) → (m : ℕ) → get_or (us ++ u ∷ []) m 0 ≤ c
universe_push [] u c h f zero = h
universe_push [] u c h f (suc m) = omega arith
universe_push (x ∷ us) u c h f zero = f 0
universe_push (x ∷ us) u c h f (suc m) = universe_push us u c h (λ i. f (suc i)) m

pub entry_past : (es : List Entry) → get_or es (length es) unbound ≡ unbound
entry_past [] = refl
entry_past (e ∷ es) = entry_past es

module _ (before after : Store) (k : VarKind) (n u : ℕ) (b : MakesVariable before after k n u) where
  pub same_entries : (j : VarKind) (m : ℕ) → entry_of after j m ≡ entry_of before j m
  same_entries j m = go (VarKind_discrete j k)
    where
      go : Dec (j ≡ k) → entry_of after j m ≡ entry_of before j m
      go (yes e) = subst (λ i. entry_of after i m ≡ entry_of before i m) (sym e) (ap (λ es. get_or es m unbound) b.entries_grow ∙ entry_push (before.entries k) m)
      go (no o) = ap (λ es. get_or es m unbound) (b.other_entries j o)

  pub same_terms : (j : VarKind) (m : ℕ) → bound_term before j m ≡ bound_term after j m
  same_terms j m = ap (entry_term j) (sym (same_entries j m))

  one_more : length (after.entries k) ≡ suc (length (before.entries k))
  one_more = ap length b.entries_grow ∙ length-append (before.entries k) (unbound ∷ []) ∙ omega arith

  pub made_later : (j : VarKind) (m : ℕ) → IsMade before j m → IsMade after j m
  made_later j m h = go (VarKind_discrete j k)
    where
      go : Dec (j ≡ k) → IsMade after j m
      go (yes e) = subst (λ i. IsMade after i m) (sym e) (let a = subst (λ i. IsMade before i m) e h in omega (arith, one_more))
      go (no o) = subst (λ es. m < length es) (sym (b.other_entries j o)) h

  pub new_made : IsMade after k n
  new_made = omega (arith, one_more, b.number)

  -- A variable of the later store is an earlier one or the new one.
  pub old_or_new : (j : VarKind) (m : ℕ) → IsMade after j m → IsMade before j m ⊎ ((j ≡ k) × (m ≡ n))
  old_or_new j m h = go (VarKind_discrete j k)
    where
      at : (e : j ≡ k) → Dec (m ≡ n) → IsMade before j m ⊎ ((j ≡ k) × (m ≡ n))
      at e (yes q) = inr (e, q)
      at e (no q) = inl (subst (λ i. IsMade before i m) (sym e) (let a = subst (λ i. IsMade after i m) e h in omega (arith, one_more, b.number)))

      go : Dec (j ≡ k) → IsMade before j m ⊎ ((j ≡ k) × (m ≡ n))
      go (yes e) = at e (ℕ_discrete m n)
      go (no o) = inl (subst (λ es. m < length es) (b.other_entries j o) h)

  same_sum_over : (f : Entry → ℕ) → f unbound ≡ 0 → all_sum_over f after ≡ all_sum_over f before
  same_sum_over f z = all_more f before after 0 k
      (ap (sum_over f) b.entries_grow ∙ sum_over_append f (before.entries k) unbound ∙ omega (arith, z))
      (λ j o. ap (sum_over f) (b.other_entries j o)) ∙ omega arith

  pub same_bound : all_bound after ≡ all_bound before
  same_bound = bound_alike before after each
    where
      each : (j : VarKind) → sum_over counts_bound (after.entries j) ≡ sum_over counts_bound (before.entries j)
      each j = go (VarKind_discrete j k)
        where
          go : Dec (j ≡ k) → sum_over counts_bound (after.entries j) ≡ sum_over counts_bound (before.entries j)
          go (yes e) = subst (λ z. sum_over counts_bound (after.entries z) ≡ sum_over counts_bound (before.entries z)) (sym e) (ap (sum_over counts_bound) b.entries_grow ∙ sum_over_append counts_bound (before.entries k) unbound ∙ omega arith)
          go (no o) = ap (sum_over counts_bound) (b.other_entries j o)

  pub resolved_still : (j : VarKind) (m : ℕ) → resolved before j m ≡ resolved after j m
  resolved_still j m = resolved_same before after same_terms (sym (same_sum_over counts_term refl)) j m

  pub weight_still : (t : Tree) → weight before t ≡ weight after t
  unfolding weight
  weight_still t = ap size (apply_alike (resolved before) (resolved after) t resolved_still)

  pub new_unbound : entry_of after k n ≡ unbound
  new_unbound = same_entries k n ∙ ap (λ i. get_or (before.entries k) i unbound) b.number ∙ entry_past (before.entries k)

  -- Universes stand.
  module _ (g : IsSound before) where
    pub universes_stand : (j : VarKind) (m : ℕ) → IsMade before j m → universe_of after j m ≡ universe_of before j m
    universes_stand j m h = go (VarKind_discrete j k)
      where
        within : (e : j ≡ k) → m < length (before.universes k)
        within e = let a = subst (λ i. IsMade before i m) e h in let l = g.one_universe_each k in omega arith

        go : Dec (j ≡ k) → universe_of after j m ≡ universe_of before j m
        go (yes e) = subst (λ i. universe_of after i m ≡ universe_of before i m) (sym e) (ap (λ us. get_or us m 0) b.universes_grow ∙ get_or_append_left (before.universes k) (u ∷ []) 0 m (within e))
        go (no o) = ap (λ us. get_or us m 0) (b.other_universes j o)

    scope_leaf : (v : ℕ) (l : Leaf) → IsInScope before v l → IsInScope after v l
    scope_leaf v (variable j m) h = (made_later j m h.0, subst (λ z. z ≤ v) (sym (universes_stand j m h.0)) h.1)
    scope_leaf v (bound j d m) h = tt
    scope_leaf v (placeholder j w m) h = h
    scope_leaf v (atom x) h = h
    scope_leaf v unknown h = absurd h

    scopes : (j : VarKind) (m : ℕ) → IsMade after j m → Leaves (IsInScope after (universe_of after j m)) (resolved after j m)
    scopes j m h = go (old_or_new j m h)
      where
        go : IsMade before j m ⊎ ((j ≡ k) × (m ≡ n)) → Leaves (IsInScope after (universe_of after j m)) (resolved after j m)
        go (inl p) = subst₂ (λ v r. Leaves (IsInScope after v) r) (sym (universes_stand j m p)) (resolved_still j m)
            (Leaves_map (IsInScope before (universe_of before j m)) _ (scope_leaf (universe_of before j m)) (resolved before j m) (g.in_scope j m p))
        go (inr (a, c)) = subst (Leaves (IsInScope after (universe_of after j m))) (sym (resolved_free after j m (ap₂ (bound_term after) a c ∙ ap (entry_term k) new_unbound))) (own_scope after j m h)

    below : u ≤ before.universe → (j : VarKind) (m : ℕ) → universe_of after j m ≤ before.universe
    below low j m = go (VarKind_discrete j k)
      where
        go : Dec (j ≡ k) → universe_of after j m ≤ before.universe
        go (yes e) = subst (λ i. universe_of after i m ≤ before.universe) (sym e) (subst (λ us. get_or us m 0 ≤ before.universe) (sym b.universes_grow) (universe_push (before.universes k) u before.universe low (λ i. g.below_current k i) m))
        go (no o) = subst (λ us. get_or us m 0 ≤ before.universe) (sym (b.other_universes j o)) (g.below_current j m)

    as_many : (j : VarKind) → length (after.universes j) ≡ length (after.entries j)
    as_many j = go (VarKind_discrete j k)
      where
        go : Dec (j ≡ k) → length (after.universes j) ≡ length (after.entries j)
        go (yes e) = subst (λ i. length (after.universes i) ≡ length (after.entries i)) (sym e)
            (ap length b.universes_grow ∙ length-append (before.universes k) (u ∷ []) ∙ (let l = g.one_universe_each k in let o = one_more in omega (arith, l, o)))
        go (no o) = ap length (b.other_universes j o) ∙ g.one_universe_each j ∙ sym (ap length (b.other_entries j o))

    free_leaf : (l : Leaf) → IsFree before l → IsFree after l
    free_leaf (variable j m) h = sym (same_terms j m) ∙ h
    free_leaf (bound j d m) h = tt
    free_leaf (placeholder j v m) h = tt
    free_leaf (atom x) h = tt
    free_leaf unknown h = tt

    pub made_sound : u ≤ before.universe → IsSound after
    made_sound low = record {
      settles = λ j m. subst (Leaves (IsFree after)) (resolved_still j m) (Leaves_map (IsFree before) (IsFree after) free_leaf (resolved before j m) (g.settles j m));
      bindings = λ j m t e. let h = g.bindings j m t (same_terms j m ∙ e) in record { made = made_later j m h.made; is_in = later_term before after made_later (omega (arith, b.same_universe)) t h.is_in; stands = h.stands };
      in_scope = scopes;
      falls = λ j m i e. g.falls j m i (sym (same_entries j m) ∙ e);
      regions_unbound = λ m. same_entries region_var m ∙ g.regions_unbound m;
      one_universe_each = as_many;
      below_current = λ j m. subst (λ z. universe_of after j m ≤ z) (sym b.same_universe) (below low j m);
      constraints_in = subst (All (ConstraintIn after)) (sym b.same_constraints) (λ i d h. later_constraint before after made_later (omega (arith, b.same_universe)) _ (g.constraints_in i d h));
    }

    pub made_is_later : IsLater before after
    made_is_later = record {
      grows = made_later;
      entries_stand = λ j m. entry_kept after j _ _ (same_entries j m);
      constraints_stand = ([], b.same_constraints ∙ sym (append-nil before.constraints));
      universes_fall = λ j m h. let e = universes_stand j m h in omega arith;
      universe_stands = omega (arith, b.same_universe);
      taint_stands = λ h. b.same_taint ∙ h;
      shrinks = λ w s h. record {
        assigns = λ j m p. let q = h.assigns j m (made_later j m p) in (q.0, q.1, q.2, subst (λ v. Leaves (IsNamable v) (s j m)) (universes_stand j m p) q.3);
        bindings = λ j m t e. h.bindings j m t (sym (same_terms j m) ∙ e);
        regions = subst (All (ConstraintHolds w s)) b.same_constraints h.regions;
      };
    }

-- One more constraint.
module _ (before after : Store) (q : Constraint) (b : AddsConstraint before after q) where
  same_terms' : (j : VarKind) (m : ℕ) → bound_term before j m ≡ bound_term after j m
  same_terms' j m = ap (λ es. entry_term j (get_or es m unbound)) (sym (b.same_entries j))

  pub constraint_resolved : (j : VarKind) (m : ℕ) → resolved before j m ≡ resolved after j m
  constraint_resolved j m = resolved_same before after same_terms' (sym (all_alike counts_term before after b.same_entries)) j m

  pub constraint_weight : (t : Tree) → weight before t ≡ weight after t
  unfolding weight
  constraint_weight t = ap size (apply_alike (resolved before) (resolved after) t constraint_resolved)

  pub constraint_bound : all_bound after ≡ all_bound before
  constraint_bound = bound_alike before after (λ j. ap (sum_over counts_bound) (b.same_entries j))

  pub constraint_made : (j : VarKind) (m : ℕ) → IsMade before j m → IsMade after j m
  constraint_made j m h = subst (λ es. m < length es) (sym (b.same_entries j)) h

  same_universe_of : (j : VarKind) (m : ℕ) → universe_of before j m ≡ universe_of after j m
  same_universe_of j m = ap (λ us. get_or us m 0) (sym (b.same_universes j))

  scope_leaf' : (v : ℕ) (l : Leaf) → IsInScope before v l → IsInScope after v l
  scope_leaf' v (variable j m) h = (constraint_made j m h.0, subst (λ z. z ≤ v) (same_universe_of j m) h.1)
  scope_leaf' v (bound j d m) h = tt
  scope_leaf' v (placeholder j w m) h = h
  scope_leaf' v (atom x) h = h
  scope_leaf' v unknown h = absurd h

  free_leaf' : (l : Leaf) → IsFree before l → IsFree after l
  free_leaf' (variable j m) h = sym (same_terms' j m) ∙ h
  free_leaf' (bound j d m) h = tt
  free_leaf' (placeholder j v m) h = tt
  free_leaf' (atom x) h = tt
  free_leaf' unknown h = tt

  pub constraint_sound : IsSound before → ConstraintIn before q → IsSound after
  constraint_sound g h = record {
    settles = λ j m. subst (Leaves (IsFree after)) (constraint_resolved j m) (Leaves_map (IsFree before) (IsFree after) free_leaf' (resolved before j m) (g.settles j m));
    bindings = λ j m t e. let p = g.bindings j m t (same_terms' j m ∙ e) in record { made = constraint_made j m p.made; is_in = later_term before after constraint_made (omega (arith, b.same_universe)) t p.is_in; stands = p.stands };
    in_scope = λ j m p. subst₂ (λ v r. Leaves (IsInScope after v) r) (same_universe_of j m) (constraint_resolved j m)
        (Leaves_map (IsInScope before (universe_of before j m)) _ (scope_leaf' (universe_of before j m)) (resolved before j m) (g.in_scope j m (subst (λ es. m < length es) (b.same_entries j) p)));
    falls = λ j m i e. g.falls j m i (ap (λ es. get_or es m unbound) (sym (b.same_entries j)) ∙ e);
    regions_unbound = λ m. ap (λ es. get_or es m unbound) (b.same_entries region_var) ∙ g.regions_unbound m;
    one_universe_each = λ j. ap length (b.same_universes j) ∙ g.one_universe_each j ∙ ap length (sym (b.same_entries j));
    below_current = λ j m. subst₂ (λ z y. z ≤ y) (same_universe_of j m) (sym b.same_universe) (g.below_current j m);
    constraints_in = subst (All (ConstraintIn after)) (sym b.one_more)
        (All-append (ConstraintIn after) before.constraints (q ∷ []) (λ i d p. later_constraint before after constraint_made (omega (arith, b.same_universe)) _ (g.constraints_in i d p))
        (All-cons (ConstraintIn after) q [] (later_constraint before after constraint_made (omega (arith, b.same_universe)) q h) (All-nil (ConstraintIn after))));
  }

  pub constraint_is_later : IsLater before after
  constraint_is_later = record {
    grows = constraint_made;
    entries_stand = λ j m. entry_kept after j _ _ (ap (λ es. get_or es m unbound) (b.same_entries j));
    constraints_stand = (q ∷ [], b.one_more);
    universes_fall = λ j m h. let e = same_universe_of j m in omega arith;
    universe_stands = omega (arith, b.same_universe);
    taint_stands = λ h. b.same_taint ∙ h;
    shrinks = λ w s h. record {
      assigns = λ j m p. let a = h.assigns j m (constraint_made j m p) in (a.0, a.1, a.2, subst (λ v. Leaves (IsNamable v) (s j m)) (sym (same_universe_of j m)) a.3);
      bindings = λ j m t e. h.bindings j m t (sym (same_terms' j m) ∙ e);
      regions = All_front (ConstraintHolds w s) before.constraints (q ∷ []) (subst (All (ConstraintHolds w s)) b.one_more h.regions);
    };
  }

  pub constraint_holds : (w : Interpretation) (s : Assign) → Satisfies w after s → ConstraintHolds w s q
  constraint_holds w s h = All-head (ConstraintHolds w s) q [] (All_back (ConstraintHolds w s) before.constraints (q ∷ []) (subst (All (ConstraintHolds w s)) b.one_more h.regions))

  pub constraint_keeps : (w : Interpretation) (s : Assign) → Satisfies w before s → ConstraintHolds w s q → Satisfies w after s
  constraint_keeps w s h c = record {
    assigns = λ j m p. let a = h.assigns j m (subst (λ es. m < length es) (b.same_entries j) p) in (a.0, a.1, a.2, subst (λ v. Leaves (IsNamable v) (s j m)) (same_universe_of j m) a.3);
    bindings = λ j m t e. h.bindings j m t (same_terms' j m ∙ e);
    regions = subst (All (ConstraintHolds w s)) (sym b.one_more) (All-append (ConstraintHolds w s) before.constraints (q ∷ []) h.regions (All-cons (ConstraintHolds w s) q [] c (All-nil (ConstraintHolds w s))));
  }
