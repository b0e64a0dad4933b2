-- Which assignments each call of a store keeps, and that a sound store stays sound.
use Rattle.std.proofs.Common.{◌≡◌, ◌⊎◌, ℕ, zero, suc, ◌<◌, ◌≤◌, refl, sym, ap, ◌∙◌, arith, inl, inr, subst, subst₂, List, [], ◌∷◌, ◌++◌, length, map, get_or, All, le_trans, le_of_eq}
use Rattle.relation_terms.specs.Heads.{VarKind, type_var, int_var, float_var, const_var, region_var, var_sort, Leaf, Atom, bool_type, int_type, uint_type, float_type, static_region, const_param, variable, bound, placeholder, atom, unknown}
use Rattle.term_enums.specs.declared.IntTy.TheVariants.{I32}
use Rattle.term_enums.specs.declared.FloatTy.TheVariants.{F32}
use Rattle.relation_terms.specs.Trees.{Tree, leaf, Assign, assigned, apply, Leaves, Occurs, IsTerm}
use Rattle.relation_terms.specs.Erasure.{erase}
use Rattle.relation_semantics.specs.Relation.{Interpretation, FitKinds, Outlives, IsValueAtom, IsValueLeaf, StaysWithin}
use Rattle.relation_semantics.specs.Stores.{Store, unbound, bound_to, entry_term, bound_term, universe_of, IsMade, IsMadeLeaf, IsFree, IsInScope, InContext, IsTermIn, IsNamable, IsAssignment, MayStandFor, MeetsBindings, Satisfies, IsSound, Constraint, ConstraintIn, ConstraintHolds, BindingsAreMet, IsIntegerAtom, IsFloatAtom, resolve, resolved, outlives_constraint, equal_constraint, counts_term}
use Rattle.relation_semantics.specs.FirstOrder.{Unifies, MeetsErased}
use Rattle.relation_semantics.specs.Steps.{IsLater, AgreeOn, HasExtension, AllNamable, ChangesNothing, IsNumberFor}
use Rattle.relation_semantics.specs.StoreLaws.{EquatingStaysSound, EquatingIsExact, BindingStaysSound, BindingIsExact, NumbersStaySound, NumbersAreExact, MakingStaysSound, MadeIsUnconstrained, ConstrainingIsExact, NothingIsSeen, ResolvedResolves, MakingOneMakes}
use Rattle.relation_semantics.proofs.Trees.{Leaves_map, Leaves-replace, apply-apply}
use Rattle.relation_semantics.proofs.Values.{same_value, scope_made}
use Rattle.relation_semantics.proofs.Resolved.{resolved_same, resolved_meets, resolved_value, resolved_twice, HasTerm, is_free, is_bound, has_term, resolve_free, resolve_bound}
use Rattle.relation_semantics.proofs.Standing.{stands_apply, within_apply, term_context, term_within, itself_stands, later_constraint, later_term, term_scope, scope_namable}
use Rattle.relation_semantics.proofs.Growing.{same_entries, same_terms, old_or_new, made_sound, made_is_later, new_made, universes_stand, constraint_sound, constraint_is_later, constraint_holds, constraint_keeps}
use Rattle.relation_semantics.proofs.Written.{is_later, equal, keeps, sound_after}
use Rattle.relation_semantics.proofs.Equating.{equating_lowers, equated_sound, equated_later, equated_value, equated_keeps, bound_sound}
use Rattle.relation_semantics.proofs.Opening.{satisfies_still, satisfied_then}
use Rattle.relation_semantics.proofs.Tallies.{all_alike}
use Rattle.relation_semantics.proofs.Composing.{All_map₂}
use Rattle.relation_semantics.proofs.Exactness.{erased_alike, entry_is_exact, equating_exact, changed, changed_same, changed_other, changed_case}
use Rattle.relation_semantics.specs.Steps.{MakesVariable}

pub equating_stays_sound : EquatingStaysSound
equating_stays_sound before after k child root n q g = equated_sound before after k child root q g n

pub equating_is_exact : EquatingIsExact
equating_is_exact before after k child root n q g = (
  λ w s. (λ h. ((equated_later before after k child root q g n).shrinks w s h, equated_value before after k child root q g n w s h), λ h. equated_keeps before after k child root q g n w s h.0 h.1),
  equating_exact before after k child root q g (equated_later before after k child root q g n) (equating_lowers before after k child root q g n),
)

pub binding_stays_sound : BindingStaysSound
binding_stays_sound before after k n t r q g stands is_in absent in_scope = bound_sound before after k n t q g r stands is_in absent in_scope

pub binding_is_exact : BindingIsExact
binding_is_exact before after k n t q = (
  λ w s. (λ h. (l.shrinks w s h, equal before after k n (bound_to t) t q.writes refl w s h), λ h. keeps before after k n (bound_to t) t q.writes refl w s h.0 h.1 (λ j i m. subst (λ z. Leaves (IsNamable z) (s j i)) (sym (q.same_universes j i)) (h.0.assigns j i m).3)),
  entry_is_exact before after k n (bound_to t) t q.writes refl l q.same_universes,
)
  where
    l : IsLater before after
    l = is_later before after k n (bound_to t) t q.writes refl (λ j i. le_of_eq (q.same_universes j i))

-- A number type stands for itself whatever is assigned.
pub number_value : (s : Assign) (k : VarKind) (t : Tree) → IsNumberFor k t → apply s t ≡ t
number_value s int_var (leaf (atom x)) h = refl
number_value s float_var (leaf (atom x)) h = refl
number_value s k t h = absurd h

pub numbers_are_exact : NumbersAreExact
numbers_are_exact before after k n t q = (
  λ w s. (λ h. (l.shrinks w s h, equal before after k n (bound_to t) t q.writes refl w s h ∙ number_value s k t q.fits), λ h. keeps before after k n (bound_to t) t q.writes refl w s h.0 (h.1 ∙ sym (number_value s k t q.fits)) (λ j i m. subst (λ z. Leaves (IsNamable z) (s j i)) (sym (q.same_universes j i)) (h.0.assigns j i m).3)),
  entry_is_exact before after k n (bound_to t) t q.writes refl l q.same_universes,
)
  where
    l : IsLater before after
    l = is_later before after k n (bound_to t) t q.writes refl (λ j i. le_of_eq (q.same_universes j i))

-- A number type is a form without parts.
abbrev AnAtom : Tree → Type 0
AnAtom t = (x : Atom) × (t ≡ leaf (atom x)) × IsValueAtom x

integer_value : (x : Atom) → IsIntegerAtom x → IsValueAtom x
integer_value (int_type w) h = tt
integer_value (uint_type w) h = tt
integer_value x h = absurd h

float_value : (x : Atom) → IsFloatAtom x → IsValueAtom x
float_value (float_type w) h = tt
float_value x h = absurd h

number_atom : (k : VarKind) (t : Tree) → IsNumberFor k t → AnAtom t
number_atom int_var (leaf (atom x)) h = (x, refl, integer_value x h)
number_atom float_var (leaf (atom x)) h = (x, refl, float_value x h)
number_atom k t h = absurd h

pub number_stands : (k : VarKind) (t : Tree) → IsNumberFor k t → MayStandFor k t
number_stands int_var (leaf (atom x)) h = h
number_stands float_var (leaf (atom x)) h = h
number_stands k t h = absurd h

number_no_region : (k : VarKind) (t : Tree) → IsNumberFor k t → k ≡ region_var → ⊥
number_no_region int_var (leaf (atom x)) h p = cc
number_no_region float_var (leaf (atom x)) h p = cc
number_no_region k t h p = h

atom_in : (st : Store) (x : Atom) → IsValueAtom x → IsTermIn st (leaf (atom x))
unfolding IsTermIn InContext
atom_in st x h = (h, tt, tt)

pub numbers_stay_sound : NumbersStaySound
numbers_stay_sound before after k n t q g = sound_after before after k n (bound_to t) t q.writes refl g absent (number_no_region k t q.fits) (number_stands k t q.fits)
    (subst (IsTermIn before) (sym a.1) (atom_in before a.0 a.2)) (λ m e. absurd cc) (λ j i. le_of_eq (q.same_universes j i)) (λ j i u e. q.same_universes j i)
    (subst (λ z. Leaves (IsInScope after (universe_of before k n)) (apply (resolved before) z)) (sym a.1) a.2)
  where
    a : AnAtom t
    a = number_atom k t q.fits

    no_variable : (x : Atom) → leaf (atom x) ≡ leaf (variable k n) → ⊥
    no_variable x p = cc

    absent : Occurs k n (apply (resolved before) t) → ⊥
    absent o = no_variable a.0 (subst (λ z. Occurs k n (apply (resolved before) z)) a.1 o)

pub making_stays_sound : MakingStaysSound
making_stays_sound before after k n u q low g = made_sound before after k n u q g low

pub get_or_past : (us : List ℕ) (u : ℕ) → get_or (us ++ u ∷ []) (length us) 0 ≡ u
get_or_past [] u = refl
get_or_past (x ∷ us) u = get_or_past us u

-- A value for a variable that was made: all others keep theirs.
module _ (before after : Store) (k : VarKind) (n u : ℕ) (q : MakesVariable before after k n u) (g : IsSound before) (s : Assign)
    (t : Tree) where
  not_made : (j : VarKind) (i : ℕ) → IsMade before j i → j ≡ k → i ≡ n → ⊥
  not_made j i m a b = let c : IsMade before k n = subst₂ (IsMade before) a b m in let d = q.number in omega arith

  pub changed_agrees : AgreeOn before s (changed k n t s)
  changed_agrees j i m = sym (changed_other k n t s j i (not_made j i m))

  new_universe : universe_of after k n ≡ u
  new_universe = ap (λ us. get_or us n 0) q.universes_grow ∙ ap (λ m. get_or (before.universes k ++ u ∷ []) m 0) (q.number ∙ sym (g.one_universe_each k)) ∙ get_or_past (before.universes k) u

  old : (j : VarKind) (i : ℕ) → IsMade after j i → (j ≡ k → i ≡ n → ⊥) → IsMade before j i
  old j i m o = go (old_or_new before after k n u q j i m)
    where
      go : IsMade before j i ⊎ ((j ≡ k) × (i ≡ n)) → IsMade before j i
      go (inl p) = p
      go (inr p) = absurd (o p.0 p.1)

  pub changed_assigns : IsAssignment before s → MayStandFor k t → Leaves IsValueLeaf t → StaysWithin 0 t → Leaves (IsNamable u) t →
      IsAssignment after (changed k n t s)
  changed_assigns sat stands ground within names j i m = changed_case (λ j i y. MayStandFor j y × Leaves IsValueLeaf y × StaysWithin 0 y × Leaves (IsNamable (universe_of after j i)) y) k n t s
      (stands, ground, within, subst (λ v. Leaves (IsNamable v) t) (sym new_universe) names) j i
      (λ o. let a = sat j i (old j i m o) in (a.0, a.1, a.2, subst (λ v. Leaves (IsNamable v) (s j i)) (sym (universes_stand before after k n u q g j i (old j i m o))) a.3))

pub made_is_unconstrained : MadeIsUnconstrained
made_is_unconstrained before after k n u q g w s t sat stands ground within names = (z, agree, (record { assigns = changed_assigns before after k n u q g s t sat.assigns stands ground within names; bindings = bindings; regions = regions }, changed_same k n t s))
  where
    z : Assign
    z = changed k n t s

    agree : AgreeOn before s z
    agree = changed_agrees before after k n u q g s t

    bindings : MeetsBindings after z
    bindings j i y e = let e' = same_terms before after k n u q j i ∙ e in let h = g.bindings j i y e' in
        sym (agree j i h.made) ∙ sat.bindings j i y e' ∙ same_value before s z y agree (term_context before y h.is_in)

    constraint : (c : Constraint) → ConstraintIn before c → ConstraintHolds w s c → ConstraintHolds w z c
    constraint (outlives_constraint a b) i h = subst₂ (Outlives w) (same_value before s z a agree (term_context before a i.0.1)) (same_value before s z b agree (term_context before b i.1.1)) h
    constraint (equal_constraint a b) i h = (
      subst₂ (Outlives w) (same_value before s z a agree (term_context before a i.0.1)) (same_value before s z b agree (term_context before b i.1.1)) h.0,
      subst₂ (Outlives w) (same_value before s z b agree (term_context before b i.1.1)) (same_value before s z a agree (term_context before a i.0.1)) h.1,
    )

    regions : All (ConstraintHolds w z) after.constraints
    regions = subst (All (ConstraintHolds w z)) (sym q.same_constraints) (All_map₂ (ConstraintIn before) (ConstraintHolds w s) (ConstraintHolds w z) constraint before.constraints g.constraints_in sat.regions)

stands_value : (v : VarKind) (t : Tree) → (v ≡ int_var → ⊥) → (v ≡ float_var → ⊥) → IsTerm (var_sort v) t → MayStandFor v t
stands_value type_var t i f h = h
stands_value const_var t i f h = h
stands_value region_var t i f h = h
stands_value int_var t i f h = absurd (i refl)
stands_value float_var t i f h = absurd (f refl)

pub making_one_makes : MakingOneMakes
making_one_makes before after k v n u q low g s i f = record {
  later = made_is_later before after v n u q g;
  stays_sound = making_stays_sound before after v n u q low;
  are_new = ((v, n, refl, s, not_before, new_made before after v n u q, new_universe), tt, tt);
  same_entries = same_entries before after v n u q;
  same_universes = universes_stand before after v n u q g;
  same_constraints = q.same_constraints;
  same_universe = q.same_universe;
  same_budget = q.same_budget;
  unconstrained = one;
}
  where
    not_before : IsMade before v n → ⊥
    not_before m = let d = q.number in omega arith

    new_universe : universe_of after v n ≡ u
    new_universe = ap (λ us. get_or us n 0) q.universes_grow ∙ ap (λ m. get_or (before.universes v ++ u ∷ []) m 0) (q.number ∙ sym (g.one_universe_each v)) ∙ get_or_past (before.universes v) u

    one : (w : Interpretation) (z : Assign) (values : List Tree) → Satisfies w before z → FitKinds (k ∷ []) values → AllNamable u values → HasExtension before z (λ y. Satisfies w after y × (map (apply y) (leaf (variable v n) ∷ []) ≡ values))
    one w z [] sat fit names = absurd fit
    one w z (t ∷ []) sat fit names = let a = made_is_unconstrained before after v n u q g w z t sat (stands_value v t i f (subst (λ x. IsTerm x t) (sym s) fit.0.0)) fit.0.1 fit.0.2 names.0 in
        (a.0, a.1, (a.2.0, ap (λ y. y ∷ []) a.2.1))
    one w z (t ∷ y ∷ ts) sat fit names = absurd fit.1

pub constraining_is_exact : ConstrainingIsExact
constraining_is_exact before after q b = (
  λ g h. constraint_sound before after q b g h,
  λ w s. (λ h. ((constraint_is_later before after q b).shrinks w s h, constraint_holds before after q b w s h), λ h. constraint_keeps before after q b w s h.0 h.1),
)

-- A store with the same entries and universes is sound where the other is.
module _ (before after : Store) (b : ChangesNothing before after) (g : IsSound before) where
  terms_stand : (j : VarKind) (m : ℕ) → bound_term before j m ≡ bound_term after j m
  terms_stand j m = ap (λ es. entry_term j (get_or es m unbound)) (sym (b.same_entries j))

  resolved_stand : (j : VarKind) (m : ℕ) → resolved before j m ≡ resolved after j m
  resolved_stand j m = resolved_same before after terms_stand (sym (all_alike counts_term before after b.same_entries)) j m

  made_stand : (j : VarKind) (m : ℕ) → IsMade before j m → IsMade after j m
  made_stand j m h = subst (λ es. m < length es) (sym (b.same_entries j)) h

  universe_stands : (j : VarKind) (m : ℕ) → universe_of before j m ≡ universe_of after j m
  universe_stands j m = ap (λ us. get_or us m 0) (sym (b.same_universes j))

  scope_stands : (v : ℕ) (l : Leaf) → IsInScope before v l → IsInScope after v l
  scope_stands v (variable j m) h = (made_stand j m h.0, subst (λ z. z ≤ v) (universe_stands j m) h.1)
  scope_stands v (bound j d m) h = tt
  scope_stands v (placeholder j w m) h = h
  scope_stands v (atom x) h = h
  scope_stands v unknown h = absurd h

  free_stands : (l : Leaf) → IsFree before l → IsFree after l
  free_stands (variable j m) h = sym (terms_stand j m) ∙ h
  free_stands (bound j d m) h = tt
  free_stands (placeholder j v m) h = tt
  free_stands (atom x) h = tt
  free_stands unknown h = tt

  changed_sound : IsSound after
  changed_sound = record {
    settles = λ j m. subst (Leaves (IsFree after)) (resolved_stand j m) (Leaves_map (IsFree before) (IsFree after) free_stands (resolved before j m) (g.settles j m));
    bindings = λ j m t e. let p = g.bindings j m t (terms_stand j m ∙ e) in record { made = made_stand j m p.made; is_in = later_term before after made_stand b.universe_stands t p.is_in; stands = p.stands };
    in_scope = λ j m p. subst₂ (λ v r. Leaves (IsInScope after v) r) (universe_stands j m) (resolved_stand j m)
        (Leaves_map (IsInScope before (universe_of before j m)) _ (scope_stands (universe_of before j m)) (resolved before j m) (g.in_scope j m (subst (λ es. m < length es) (b.same_entries j) p)));
    falls = λ j m i e. g.falls j m i (ap (λ es. get_or es m unbound) (sym (b.same_entries j)) ∙ e);
    regions_unbound = λ m. ap (λ es. get_or es m unbound) (b.same_entries region_var) ∙ g.regions_unbound m;
    one_universe_each = λ j. ap length (b.same_universes j) ∙ g.one_universe_each j ∙ ap length (sym (b.same_entries j));
    below_current = λ j m. subst (λ z. z ≤ after.universe) (universe_stands j m) (le_trans (g.below_current j m) b.universe_stands);
    constraints_in = subst (All (ConstraintIn after)) (sym b.same_constraints) (λ i d p. later_constraint before after made_stand b.universe_stands _ (g.constraints_in i d p));
  }

pub nothing_is_seen : NothingIsSeen
nothing_is_seen before after h = (changed_sound before after h, λ w s. (satisfied_then before after h w s, satisfies_still before after h w s))

-- What variables come to in a sound store.
module _ (st : Store) (g : IsSound st) where
  pub resolve_stands : (f : ℕ) (k : VarKind) (n : ℕ) → MayStandFor k (resolve f st k n)
  unfolding resolve
  resolve_stands zero k n = itself_stands k n
  resolve_stands (suc f) k n = go (resolve_stands f) (has_term st k n)
    where
      go : ((k : VarKind) (n : ℕ) → MayStandFor k (resolve f st k n)) → HasTerm st k n → MayStandFor k (resolve (suc f) st k n)
      go i (is_free q) = subst (MayStandFor k) (sym (resolve_free (suc f) st k n q)) (itself_stands k n)
      go i (is_bound t q) = subst (MayStandFor k) (sym (resolve_bound f st k n t q)) (stands_apply (resolve f st) k t i (g.bindings k n t q).stands)

  pub resolve_within : (f : ℕ) (k : VarKind) (n : ℕ) → StaysWithin 0 (resolve f st k n)
  unfolding resolve
  resolve_within zero k n = tt
  resolve_within (suc f) k n = go (resolve_within f) (has_term st k n)
    where
      go : ((k : VarKind) (n : ℕ) → StaysWithin 0 (resolve f st k n)) → HasTerm st k n → StaysWithin 0 (resolve (suc f) st k n)
      go i (is_free q) = subst (StaysWithin 0) (sym (resolve_free (suc f) st k n q)) tt
      go i (is_bound t q) = subst (StaysWithin 0) (sym (resolve_bound f st k n t q)) (within_apply (resolve f st) 0 t i (term_within st t (g.bindings k n t q).is_in))

  pub resolved_stands : (k : VarKind) (n : ℕ) → MayStandFor k (resolved st k n)
  unfolding resolved
  resolved_stands k n = resolve_stands _ k n

  pub resolved_within : (k : VarKind) (n : ℕ) → StaysWithin 0 (resolved st k n)
  unfolding resolved
  resolved_within k n = resolve_within _ k n

  resolve_erased : (s : Assign) → MeetsErased st s → (f : ℕ) (k : VarKind) (n : ℕ) → erase (s k n) ≡ erase (apply s (resolve f st k n))
  unfolding resolve
  resolve_erased s h zero k n = refl
  resolve_erased s h (suc f) k n = go (resolve_erased s h f) (has_term st k n)
    where
      go : ((k : VarKind) (n : ℕ) → erase (s k n) ≡ erase (apply s (resolve f st k n))) → HasTerm st k n → erase (s k n) ≡ erase (apply s (resolve (suc f) st k n))
      go i (is_free q) = ap (λ z. erase (apply s z)) (sym (resolve_free (suc f) st k n q))
      go i (is_bound t q) = h k n t q ∙ erased_alike s (λ k n. apply s (resolve f st k n)) t i ∙ ap erase (sym (apply-apply s (resolve f st) t)) ∙ ap (λ z. erase (apply s z)) (sym (resolve_bound f st k n t q))

  pub resolved_unifies : (s : Assign) → MeetsErased st s → (t : Tree) → Unifies s (apply (resolved st) t) t
  unfolding resolved
  resolved_unifies s h t = ap erase (apply-apply s (resolved st) t) ∙ sym (erased_alike s (λ k n. apply s (resolved st k n)) t (resolve_erased s h _))

  in_leaf : (l : Leaf) → IsMadeLeaf st l → Leaves (IsMadeLeaf st) (assigned (resolved st) l)
  in_leaf (variable k n) m = Leaves_map (IsInScope st (universe_of st k n)) (IsMadeLeaf st) (scope_made st (universe_of st k n)) (resolved st k n) (g.in_scope k n m)
  in_leaf (bound k d i) m = tt
  in_leaf (placeholder k u n) m = tt
  in_leaf (atom x) m = m
  in_leaf unknown m = m

  pub resolved_in : (t : Tree) → IsTermIn st t → IsTermIn st (apply (resolved st) t)
  unfolding IsTermIn InContext
  resolved_in t h = (
    Leaves-replace (IsMadeLeaf st) (assigned (resolved st)) t (Leaves_map (IsMadeLeaf st) _ in_leaf t h.0),
    within_apply (resolved st) 0 t resolved_within h.1,
    Leaves_map (IsInScope st st.universe) (IsNamable st.universe) (scope_namable st st.universe) (apply (resolved st) t) (term_scope st g t h),
  )

pub resolved_resolves : ResolvedResolves
resolved_resolves st t g = record {
  is_in = resolved_in st g t;
  same_resolved = resolved_twice st g t;
  same_value = λ w s sat. sym (resolved_value st s sat.bindings t);
  same_erased = λ s sol. resolved_unifies st g s sol.1 t;
}

-- A value of each kind that names no placeholder.
default : VarKind → Tree
default type_var = leaf (atom bool_type)
default int_var = leaf (atom (int_type I32))
default float_var = leaf (atom (float_type F32))
default const_var = leaf (atom (const_param 0 0))
default region_var = leaf (atom static_region)

defaults : Assign
defaults k n = default k

default_stands : (k : VarKind) (n : ℕ) → MayStandFor k (defaults k n)
unfolding default defaults
default_stands type_var n = tt
default_stands int_var n = tt
default_stands float_var n = tt
default_stands const_var n = tt
default_stands region_var n = tt

default_within : (k : VarKind) (n : ℕ) → StaysWithin 0 (defaults k n)
unfolding default defaults
default_within type_var n = tt
default_within int_var n = tt
default_within float_var n = tt
default_within const_var n = tt
default_within region_var n = tt

default_scope : (st : Store) (u : ℕ) (l : Leaf) → IsInScope st u l → Leaves (λ m. IsValueLeaf m × IsNamable u m) (assigned defaults l)
unfolding default defaults
default_scope st u (variable type_var n) i = (tt, tt)
default_scope st u (variable int_var n) i = (tt, tt)
default_scope st u (variable float_var n) i = (tt, tt)
default_scope st u (variable const_var n) i = (tt, tt)
default_scope st u (variable region_var n) i = (tt, tt)
default_scope st u (bound k d n) i = (tt, tt)
default_scope st u (placeholder k v n) i = (tt, i)
default_scope st u (atom x) i = (i, tt)
default_scope st u unknown i = absurd i

pub bindings_are_met : BindingsAreMet
bindings_are_met st g = (value, assigns, meets)
  where
    value : Assign
    value k n = apply defaults (resolved st k n)

    scope : (k : VarKind) (n : ℕ) → IsMade st k n → Leaves (λ m. IsValueLeaf m × IsNamable (universe_of st k n) m) (apply defaults (resolved st k n))
    scope k n m = Leaves-replace _ (assigned defaults) (resolved st k n) (Leaves_map (IsInScope st (universe_of st k n)) _ (default_scope st (universe_of st k n)) (resolved st k n) (g.in_scope k n m))

    assigns : IsAssignment st value
    assigns k n m = (
      stands_apply defaults k (resolved st k n) default_stands (resolved_stands st g k n),
      Leaves_map _ IsValueLeaf (λ l h. h.0) (apply defaults (resolved st k n)) (scope k n m),
      within_apply defaults 0 (resolved st k n) default_within (resolved_within st g k n),
      Leaves_map _ (IsNamable (universe_of st k n)) (λ l h. h.1) (apply defaults (resolved st k n)) (scope k n m),
    )

    meets : MeetsBindings st value
    meets k n t e = ap (apply defaults) (resolved_meets st g k n t e) ∙ apply-apply defaults (resolved st) t
