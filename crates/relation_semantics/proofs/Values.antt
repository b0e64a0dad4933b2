-- The values of terms under the assignments of a store.
use Rattle.std.proofs.Common.{◌≡◌, ◌≢◌, ℕ, zero, suc, ◌<◌, refl, sym, ap, ap₂, arith, inl, inr, subst, List, [], ◌∷◌, map}
use Rattle.relation_terms.specs.Heads.{region_kind, type_kind, const_kind, BoundKind, bound_kind, bound_sort, VarKind, var_sort, Leaf, bool_type, static_region, const_param, atom, variable, bound, placeholder, unknown}
use Rattle.relation_terms.specs.Trees.{Tree, leaf, node, bind, nil, cons, Assign, assigned, apply, Leaves, Occurs, IsTerm, IsList, nth}
use Rattle.relation_semantics.specs.Binders.{placeholders_from}
use Rattle.relation_semantics.specs.Relation.{StaysWithin, IsValue, FitKinds, Avoids, AvoidsAll, Fresh}
use Rattle.relation_semantics.specs.Stores.{Store, universe_of, IsMade, IsNamable, IsAssignment, IsInScope, IsMadeLeaf, InContext}
use Rattle.relation_semantics.specs.Steps.{AgreeOn, AllNamable, AreNewVariables, ArePlaceholders}
use Rattle.relation_semantics.proofs.Trees.{Leaves_map, Leaves-replace, StaysIn, StaysWithin-mono, replace_alike}
use Rattle.relation_semantics.proofs.Standing.{namable_mono, stands_term}

-- The value of a term in a universe's scope names only what that universe can.
value_leaf_namable : (st : Store) (s : Assign) (u : ℕ) → IsAssignment st s → (l : Leaf) → IsInScope st u l → Leaves (IsNamable u) (assigned s l)
value_leaf_namable st s u h (variable k n) p = Leaves_map _ _ (namable_mono (universe_of st k n) u p.1) (s k n) (h k n p.0).3
value_leaf_namable st s u h (bound k d i) p = tt
value_leaf_namable st s u h (placeholder k x n) p = p
value_leaf_namable st s u h (atom x) p = tt
value_leaf_namable st s u h unknown p = absurd p

pub value_namable : (st : Store) (s : Assign) (u : ℕ) (t : Tree) → IsAssignment st s → Leaves (IsInScope st u) t → Leaves (IsNamable u) (apply s t)
value_namable st s u t h p = Leaves-replace _ (assigned s) t (Leaves_map _ _ (value_leaf_namable st s u h) t p)

-- A placeholder of a later universe does not stand there.
avoids_leaf : (k : BoundKind) (u v n : ℕ) → u < v → (l : Leaf) → IsNamable u l → leaf l ≢ leaf (placeholder k v n)
avoids_leaf k u v n h (placeholder j x m) p e = let q : x ≡ v = cc in omega arith
avoids_leaf k u v n h l p e = cc

avoids_later : (k : BoundKind) (u v n : ℕ) (t : Tree) → u < v → Leaves (IsNamable u) t → Avoids (leaf (placeholder k v n)) t
avoids_later k u v n t h p = Leaves_map _ _ (avoids_leaf k u v n h) t p

-- Values stay within their own binders.
stays_leaf : (st : Store) (s : Assign) (u : ℕ) → IsAssignment st s → (l : Leaf) → IsInScope st u l → StaysIn s l
stays_leaf st s u h (variable k n) p = (h k n p.0).2
stays_leaf st s u h l p = tt

pub stays_in : (st : Store) (s : Assign) (u : ℕ) (t : Tree) → IsAssignment st s → Leaves (IsInScope st u) t → Leaves (StaysIn s) t
stays_in st s u t h p = Leaves_map _ _ (stays_leaf st s u h) t p

-- What stays within its own binders does so whatever is assigned.
pub stays_apply : (s : Assign) (d : ℕ) (t : Tree) → Leaves (StaysIn s) t → StaysWithin d t → StaysWithin d (apply s t)
stays_apply s d (leaf (variable k n)) i p = StaysWithin-mono 0 d (s k n) (omega arith) i
stays_apply s d (leaf (bound k e n)) i p = p
stays_apply s d (leaf (placeholder k v n)) i p = tt
stays_apply s d (leaf (atom x)) i p = tt
stays_apply s d (leaf unknown) i p = tt
stays_apply s d (node a t) i p = stays_apply s d t i p
stays_apply s d (bind ks t) i p = stays_apply s (suc d) t i p
stays_apply s d nil i p = tt
stays_apply s d (cons t ts) i p = (stays_apply s d t i.0 p.0, stays_apply s d ts i.1 p.1)

-- New variables stand for values of the right kinds.
pub variables_fit : (before st : Store) (s : Assign) (u : ℕ) (ks : List BoundKind) (xs : List Tree) → IsAssignment st s → AreNewVariables before st u ks xs → FitKinds ks (map (apply s) xs)
variables_fit before st s u [] [] h p = tt
variables_fit before st s u [] (x ∷ xs) h p = p
variables_fit before st s u (k ∷ ks) [] h p = p
variables_fit before st s u (k ∷ ks) (x ∷ xs) h p = (variable_fits k x p.0.0 p.0.1 p.0.2 p.0.3 p.0.5, variables_fit before st s u ks xs h p.2)
  where
    variable_fits : (k : BoundKind) (x : Tree) (v : VarKind) (n : ℕ) → x ≡ leaf (variable v n) → var_sort v ≡ bound_sort k → IsMade st v n → IsValue (bound_sort k) (apply s x)
    variable_fits k x v n e q m = subst (λ z. IsValue (bound_sort k) (apply s z)) (sym e) (subst (λ z. IsTerm z (s v n)) q (stands_term v (s v n) (h v n m).0), (h v n m).1, (h v n m).2)

-- The values of new variables can be named by the universe that they were made in.
pub variables_namable : (before st : Store) (s : Assign) (u : ℕ) (ks : List BoundKind) (xs : List Tree) →
    IsAssignment st s → AreNewVariables before st u ks xs → AllNamable u (map (apply s) xs)
variables_namable before st s u [] [] h n = tt
variables_namable before st s u (k ∷ ks) (x ∷ xs) h n = (
  subst (Leaves (IsNamable u)) (sym (ap (apply s) n.0.2))
      (subst (λ w. Leaves (IsNamable w) (s n.0.0 n.0.1)) n.0.6 (h n.0.0 n.0.1 n.0.5).3),
  variables_namable before st s u ks xs h n.2,
)
variables_namable before st s u [] (x ∷ xs) h n = absurd n
variables_namable before st s u (k ∷ ks) [] h n = absurd n

-- Placeholders of a later universe are fresh for values of the earlier one.
pub fresh_later : (u v : ℕ) (ls : List BoundKind) (ps : List Tree) (a b : Tree) → u < v → ArePlaceholders v ls ps → Leaves (IsNamable u) a → Leaves (IsNamable u) b → Fresh ls ps a b
fresh_later u v [] [] a b l h p q = tt
fresh_later u v [] (x ∷ xs) a b l h p q = h
fresh_later u v (k ∷ ks) [] a b l h p q = h
fresh_later u v (k ∷ ks) (x ∷ xs) a b l h p q = ((v, h.0.0, h.0.1), avoids a p, avoids b q, h.1, fresh_later u v ks xs a b l h.2 p q)
  where
    avoids : (t : Tree) → Leaves (IsNamable u) t → Avoids x t
    avoids t r = subst (λ z. Avoids z t) (sym h.0.1) (avoids_later k u v h.0.0 t l r)

-- Placeholders are their own values, and values of their kinds.
pub placeholders_stay : (s : Assign) (u : ℕ) (ls : List BoundKind) (ps : List Tree) → ArePlaceholders u ls ps → map (apply s) ps ≡ ps
placeholders_stay s u [] [] h = refl
placeholders_stay s u [] (x ∷ xs) h = absurd h
placeholders_stay s u (k ∷ ks) [] h = absurd h
placeholders_stay s u (k ∷ ks) (x ∷ xs) h = ap₂ ◌∷◌ (subst (λ z. apply s z ≡ z) (sym h.0.1) refl) (placeholders_stay s u ks xs h.2)

placeholder_value : (k : BoundKind) (u n : ℕ) → IsValue (bound_sort k) (leaf (placeholder k u n))
placeholder_value (bound_kind region_kind m) u n = (tt, tt, tt)
placeholder_value (bound_kind type_kind m) u n = (tt, tt, tt)
placeholder_value (bound_kind const_kind m) u n = (tt, tt, tt)

pub placeholders_fit : (u : ℕ) (ls : List BoundKind) (ps : List Tree) → ArePlaceholders u ls ps → FitKinds ls ps
placeholders_fit u [] [] h = tt
placeholders_fit u [] (p ∷ ps) h = h
placeholders_fit u (k ∷ ks) [] h = h
placeholders_fit u (k ∷ ks) (p ∷ ps) h = (subst (IsValue (bound_sort k)) (sym h.0.1) (placeholder_value k u h.0.0), placeholders_fit u ks ps h.2)

pub placeholders_namable : (u : ℕ) (ls : List BoundKind) (ps : List Tree) → ArePlaceholders u ls ps → AllNamable u ps
placeholders_namable u [] [] h = tt
placeholders_namable u [] (p ∷ ps) h = absurd h
placeholders_namable u (k ∷ ks) [] h = absurd h
placeholders_namable u (k ∷ ks) (p ∷ ps) h = (subst (Leaves (IsNamable u)) (sym h.0.1) (omega arith), placeholders_namable u ks ps h.2)

-- Some value of each kind, which names no placeholder.
some_value : BoundKind → Tree
some_value (bound_kind type_kind n) = leaf (atom bool_type)
some_value (bound_kind region_kind n) = leaf (atom static_region)
some_value (bound_kind const_kind n) = leaf (atom (const_param 0 0))

pub some_values : List BoundKind → List Tree
some_values ks = map some_value ks

some_value_fits : (k : BoundKind) → IsValue (bound_sort k) (some_value k)
unfolding some_value
some_value_fits (bound_kind type_kind n) = (tt, tt, tt)
some_value_fits (bound_kind region_kind n) = (tt, tt, tt)
some_value_fits (bound_kind const_kind n) = (tt, tt, tt)

some_value_namable : (u : ℕ) (k : BoundKind) → Leaves (IsNamable u) (some_value k)
unfolding some_value
some_value_namable u (bound_kind type_kind n) = tt
some_value_namable u (bound_kind region_kind n) = tt
some_value_namable u (bound_kind const_kind n) = tt

pub some_values_fit : (ks : List BoundKind) → FitKinds ks (some_values ks)
unfolding some_values
some_values_fit [] = tt
some_values_fit (k ∷ ks) = (some_value_fits k, some_values_fit ks)

pub some_values_namable : (u : ℕ) (ks : List BoundKind) → AllNamable u (some_values ks)
unfolding some_values
some_values_namable u [] = tt
some_values_namable u (k ∷ ks) = (some_value_namable u k, some_values_namable u ks)

-- Placeholders of one universe are pairwise different.
later_placeholders : (j : BoundKind) (u m n : ℕ) (ks : List BoundKind) → m < n →
    AvoidsAll (leaf (placeholder j u m)) (placeholders_from u n ks)
later_placeholders j u m n [] h = tt
later_placeholders j u m n (k ∷ ks) h = (λ e. let q : n ≡ m = cc in omega arith, later_placeholders j u m (suc n) ks (omega arith))

pub placeholders_are : (u n : ℕ) (ks : List BoundKind) → ArePlaceholders u ks (placeholders_from u n ks)
placeholders_are u n [] = tt
placeholders_are u n (k ∷ ks) = ((n, refl), later_placeholders k u n (suc n) ks (omega arith), placeholders_are u (suc n) ks)

-- Assignments that agree give a term of the context one value.
agree_leaf : (st : Store) (s s' : Assign) → AgreeOn st s s' → (l : Leaf) → IsMadeLeaf st l → assigned s l ≡ assigned s' l
agree_leaf st s s' h (variable k n) m = h k n m
agree_leaf st s s' h l m = refl

pub same_value : (st : Store) (s s' : Assign) (t : Tree) → AgreeOn st s s' → InContext st t → apply s t ≡ apply s' t
unfolding InContext
same_value st s s' t h i = replace_alike (assigned s) (assigned s') t (Leaves_map (IsMadeLeaf st) _ (agree_leaf st s s' h) t i)

-- What is in a universe's scope is in context.
pub scope_made : (st : Store) (u : ℕ) (l : Leaf) → IsInScope st u l → IsMadeLeaf st l
scope_made st u (variable k n) i = i.0
scope_made st u (bound k d n) i = tt
scope_made st u (placeholder k v n) i = tt
scope_made st u (atom x) i = i
scope_made st u unknown i = i

pub in_context : (st : Store) (u : ℕ) (t : Tree) → Leaves (IsInScope st u) t → InContext st t
unfolding InContext
in_context st u t i = Leaves_map (IsInScope st u) (IsMadeLeaf st) (scope_made st u) t i

-- The values of the variables that stand in a tree.
pub occurring_stay : (s : Assign) (t : Tree) → ((k : VarKind) (n : ℕ) → Occurs k n t → StaysWithin 0 (s k n)) → Leaves (StaysIn s) t
occurring_stay s (leaf (variable k n)) h = h k n refl
occurring_stay s (leaf (bound k d i)) h = tt
occurring_stay s (leaf (placeholder k u n)) h = tt
occurring_stay s (leaf (atom x)) h = tt
occurring_stay s (leaf unknown) h = tt
occurring_stay s (node a t) h = occurring_stay s t h
occurring_stay s (bind ks t) h = occurring_stay s t h
occurring_stay s nil h = tt
occurring_stay s (cons t u) h = (occurring_stay s t (λ k n o. h k n (inl o)), occurring_stay s u (λ k n o. h k n (inr o)))

-- The part at a place of a list of parts, and its value.
pub apply-nth : (s : Assign) (i : ℕ) (t : Tree) → IsList t → apply s (nth i t) ≡ nth i (apply s t)
apply-nth s zero (cons t ts) h = refl
apply-nth s (suc i) (cons t ts) h = apply-nth s i ts h
apply-nth s zero nil h = refl
apply-nth s (suc i) nil h = refl
apply-nth s i (leaf l) h = absurd h
apply-nth s i (node a t) h = absurd h
apply-nth s i (bind ks t) h = absurd h

pub apply-list : (s : Assign) (t : Tree) → IsList t → IsList (apply s t)
apply-list s nil h = tt
apply-list s (cons t ts) h = apply-list s ts h
apply-list s t h = absurd h

pub nth_in : (st : Store) (i : ℕ) (t : Tree) → IsList t → InContext st t → InContext st (nth i t)
unfolding InContext
nth_in st zero (cons t ts) l h = h.0
nth_in st (suc i) (cons t ts) l h = nth_in st i ts l h.1
nth_in st zero nil l h = tt
nth_in st (suc i) nil l h = tt
nth_in st i (leaf x) l h = absurd l
nth_in st i (node a t) l h = absurd l
nth_in st i (bind ks t) l h = absurd l
