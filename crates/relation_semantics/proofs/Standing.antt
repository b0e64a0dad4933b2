-- What stands when variables are replaced.
use Rattle.std.proofs.Common.{◌≡◌, ℕ, suc, ◌≤◌, refl, sym, arith, subst, [], ◌∷◌, Some, le_trans}
use Rattle.relation_terms.specs.Heads.{Sort, Admits, term_of, binder_of, Shape, one, row, head_parts, head_sort, leaf_sort, var_sort, VarKind, type_var, int_var, float_var, const_var, region_var, type_sort, const_sort, region_sort, Leaf, Atom, int_type, uint_type, float_type, atom, variable, bound, placeholder, unknown}
use Rattle.relation_terms.specs.Trees.{Tree, leaf, node, bind, nil, cons, Assign, assigned, apply, Leaves, Fits, IsTerm}
use Rattle.relation_semantics.specs.Relation.{StaysWithin, sort_of}
use Rattle.relation_semantics.specs.Stores.{Store, universe_of, IsMade, IsIntegerAtom, IsFloatAtom, IsIntegerTerm, IsFloatTerm, MayStandFor, IsInScope, IsNamable, IsMadeLeaf, InContext, IsTermIn, IsSound, resolved, Constraint, outlives_constraint, equal_constraint, ConstraintIn}
use Rattle.relation_semantics.proofs.Trees.{Leaves_map, Leaves_map₂, Leaves-replace, StaysWithin-mono}

-- What is of a variable's sort alone.
admits_var : (k : VarKind) (x : Sort) → Admits (var_sort k) x → x ≡ var_sort k
admits_var type_var x h = go x h
  where
    go : (x : Sort) → Admits type_sort x → x ≡ type_sort
    go type_sort h = refl
    go x h = absurd h
admits_var int_var x h = go x h
  where
    go : (x : Sort) → Admits type_sort x → x ≡ type_sort
    go type_sort h = refl
    go x h = absurd h
admits_var float_var x h = go x h
  where
    go : (x : Sort) → Admits type_sort x → x ≡ type_sort
    go type_sort h = refl
    go x h = absurd h
admits_var const_var x h = go x h
  where
    go : (x : Sort) → Admits const_sort x → x ≡ const_sort
    go const_sort h = refl
    go x h = absurd h
admits_var region_var x h = go x h
  where
    go : (x : Sort) → Admits region_sort x → x ≡ region_sort
    go region_sort h = refl
    go x h = absurd h

pub term_through : (s : Sort) (k : VarKind) (u : Tree) → Admits s (var_sort k) → IsTerm (var_sort k) u → IsTerm s u
term_through s k (leaf l) a h = subst (Admits s) (sym (admits_var k (leaf_sort l) h)) a
term_through s k (node g ts) a h = (subst (Admits s) (sym (admits_var k (head_sort g) h.0)) a, h.1)
term_through s k (bind ks t) a h = absurd h
term_through s k nil a h = absurd h
term_through s k (cons t u) a h = absurd h

-- A term of a variable's sort has that sort.
pub term_sort_of : (k : VarKind) (u : Tree) → IsTerm (var_sort k) u → sort_of u ≡ var_sort k
term_sort_of k (leaf l) h = admits_var k (leaf_sort l) h
term_sort_of k (node g ts) h = admits_var k (head_sort g) h.0
term_sort_of k (bind ks t) h = absurd h
term_sort_of k nil h = absurd h
term_sort_of k (cons t u) h = absurd h

-- A tree keeps its shape when terms of their sorts are put for its variables.
pub fits_apply : (s : Assign) → ((k : VarKind) (n : ℕ) → IsTerm (var_sort k) (s k n)) → (x : Shape) (t : Tree) → Fits x t → Fits x (apply s t)
fits_apply s f (one (term_of a)) (leaf (variable k n)) h = term_through a k (s k n) h (f k n)
fits_apply s f (one (term_of a)) (leaf (bound k d i)) h = h
fits_apply s f (one (term_of a)) (leaf (placeholder k u n)) h = h
fits_apply s f (one (term_of a)) (leaf (atom y)) h = h
fits_apply s f (one (term_of a)) (leaf unknown) h = h
fits_apply s f (one (term_of a)) (node g ts) h = (h.0, fits_apply s f (head_parts g) ts h.1)
fits_apply s f (one (binder_of a)) (bind ks t) h = fits_apply s f (one (term_of a)) t h
fits_apply s f (row [] r) nil h = tt
fits_apply s f (row [] (Some p)) (cons t ts) h = (fits_apply s f (one p) t h.0, fits_apply s f (row [] (Some p)) ts h.1)
fits_apply s f (row (p ∷ ps) r) (cons t ts) h = (fits_apply s f (one p) t h.0, fits_apply s f (row ps r) ts h.1)
fits_apply s f x t h = absurd h

-- What may stand for a variable is a term of its sort.
integer_sort : (x : Atom) → IsIntegerAtom x → Admits type_sort (leaf_sort (atom x))
integer_sort (int_type w) h = tt
integer_sort (uint_type w) h = tt
integer_sort x h = absurd h

float_sort : (x : Atom) → IsFloatAtom x → Admits type_sort (leaf_sort (atom x))
float_sort (float_type w) h = tt
float_sort x h = absurd h

integer_term : (t : Tree) → IsIntegerTerm t → IsTerm type_sort t
integer_term (leaf (variable int_var n)) h = tt
integer_term (leaf (atom x)) h = integer_sort x h
integer_term t h = absurd h

float_term : (t : Tree) → IsFloatTerm t → IsTerm type_sort t
float_term (leaf (variable float_var n)) h = tt
float_term (leaf (atom x)) h = float_sort x h
float_term t h = absurd h

pub stands_term : (k : VarKind) (t : Tree) → MayStandFor k t → IsTerm (var_sort k) t
stands_term type_var t h = h
stands_term int_var t h = integer_term t h
stands_term float_var t h = float_term t h
stands_term const_var t h = h
stands_term region_var t h = h

integer_apply : (s : Assign) (t : Tree) → ((n : ℕ) → IsIntegerTerm (s int_var n)) → IsIntegerTerm t → IsIntegerTerm (apply s t)
integer_apply s (leaf (variable int_var n)) h p = h n
integer_apply s (leaf (atom x)) h p = p
integer_apply s t h p = absurd p

float_apply : (s : Assign) (t : Tree) → ((n : ℕ) → IsFloatTerm (s float_var n)) → IsFloatTerm t → IsFloatTerm (apply s t)
float_apply s (leaf (variable float_var n)) h p = h n
float_apply s (leaf (atom x)) h p = p
float_apply s t h p = absurd p

pub stands_apply : (s : Assign) (k : VarKind) (t : Tree) → ((k : VarKind) (n : ℕ) → MayStandFor k (s k n)) → MayStandFor k t → MayStandFor k (apply s t)
stands_apply s type_var t h p = fits_apply s (λ k n. stands_term k (s k n) (h k n)) (one (term_of type_sort)) t p
stands_apply s const_var t h p = fits_apply s (λ k n. stands_term k (s k n) (h k n)) (one (term_of const_sort)) t p
stands_apply s region_var t h p = fits_apply s (λ k n. stands_term k (s k n) (h k n)) (one (term_of region_sort)) t p
stands_apply s int_var t h p = integer_apply s t (h int_var) p
stands_apply s float_var t h p = float_apply s t (h float_var) p

-- A variable may stand for itself.
pub itself_stands : (k : VarKind) (n : ℕ) → MayStandFor k (leaf (variable k n))
itself_stands type_var n = tt
itself_stands int_var n = tt
itself_stands float_var n = tt
itself_stands const_var n = tt
itself_stands region_var n = tt

-- What stays within its binders does so after replacing variables by such terms.
pub within_apply : (s : Assign) (d : ℕ) (t : Tree) → ((k : VarKind) (n : ℕ) → StaysWithin 0 (s k n)) → StaysWithin d t → StaysWithin d (apply s t)
within_apply s d (leaf (variable k n)) h p = StaysWithin-mono 0 d (s k n) (omega arith) (h k n)
within_apply s d (leaf (bound k e i)) h p = p
within_apply s d (leaf (placeholder k u n)) h p = tt
within_apply s d (leaf (atom x)) h p = tt
within_apply s d (leaf unknown) h p = tt
within_apply s d (node a t) h p = within_apply s d t h p
within_apply s d (bind ks t) h p = within_apply s (suc d) t h p
within_apply s d nil h p = tt
within_apply s d (cons t u) h p = (within_apply s d t h p.0, within_apply s d u h p.1)

-- A wider universe can name more.
pub namable_mono : (u v : ℕ) → u ≤ v → (l : Leaf) → IsNamable u l → IsNamable v l
namable_mono u v h (variable k n) p = tt
namable_mono u v h (bound k d i) p = tt
namable_mono u v h (placeholder k x n) p = omega arith
namable_mono u v h (atom x) p = tt
namable_mono u v h unknown p = absurd p

pub scope_mono : (st : Store) (u v : ℕ) → u ≤ v → (l : Leaf) → IsInScope st u l → IsInScope st v l
scope_mono st u v h (variable k n) i = (i.0, le_trans i.1 h)
scope_mono st u v h (bound k d n) i = tt
scope_mono st u v h (placeholder k x n) i = omega arith
scope_mono st u v h (atom x) i = i
scope_mono st u v h unknown i = absurd i

-- What is in scope stays so after replacing variables by terms in their scopes.
pub scope_leaf : (st : Store) (s : Assign) (u : ℕ) → ((k : VarKind) (n : ℕ) → IsMade st k n → Leaves (IsInScope st (universe_of st k n)) (s k n)) → (l : Leaf) → IsInScope st u l → Leaves (IsInScope st u) (assigned s l)
scope_leaf st s u h (variable k n) i = Leaves_map _ _ (scope_mono st (universe_of st k n) u i.1) (s k n) (h k n i.0)
scope_leaf st s u h (bound k d n) i = tt
scope_leaf st s u h (placeholder k v n) i = i
scope_leaf st s u h (atom x) i = i
scope_leaf st s u h unknown i = absurd i

pub scope_apply : (st : Store) (s : Assign) (u : ℕ) (t : Tree) → ((k : VarKind) (n : ℕ) → IsMade st k n → Leaves (IsInScope st (universe_of st k n)) (s k n)) → Leaves (IsInScope st u) t → Leaves (IsInScope st u) (apply s t)
scope_apply st s u t h i = Leaves-replace (IsInScope st u) (assigned s) t (Leaves_map (IsInScope st u) _ (scope_leaf st s u h) t i)

-- A variable is in its own scope.
pub own_scope : (st : Store) (k : VarKind) (n : ℕ) → IsMade st k n → Leaves (IsInScope st (universe_of st k n)) (leaf (variable k n))
own_scope st k n h = (h, omega arith)

-- A context that has more variables has the same terms and more.
made_leaf : (before after : Store) → ((k : VarKind) (n : ℕ) → IsMade before k n → IsMade after k n) → (l : Leaf) → IsMadeLeaf before l → IsMadeLeaf after l
made_leaf before after g (variable k n) h = g k n h
made_leaf before after g (bound k d i) h = tt
made_leaf before after g (placeholder k u n) h = tt
made_leaf before after g (atom x) h = h
made_leaf before after g unknown h = absurd h

pub later_context : (before after : Store) → ((k : VarKind) (n : ℕ) → IsMade before k n → IsMade after k n) → (t : Tree) → InContext before t → InContext after t
unfolding InContext
later_context before after g t h = Leaves_map (IsMadeLeaf before) (IsMadeLeaf after) (made_leaf before after g) t h

pub later_term : (before after : Store) → ((k : VarKind) (n : ℕ) → IsMade before k n → IsMade after k n) → before.universe ≤ after.universe → (t : Tree) → IsTermIn before t → IsTermIn after t
unfolding IsTermIn
later_term before after g u t h = (later_context before after g t h.0, h.1, Leaves_map (IsNamable before.universe) (IsNamable after.universe) (namable_mono before.universe after.universe u) t h.2)

pub later_constraint : (before after : Store) → ((k : VarKind) (n : ℕ) → IsMade before k n → IsMade after k n) → before.universe ≤ after.universe → (q : Constraint) → ConstraintIn before q → ConstraintIn after q
later_constraint before after g u (outlives_constraint x y) h = ((h.0.0, later_term before after g u x h.0.1), (h.1.0, later_term before after g u y h.1.1))
later_constraint before after g u (equal_constraint x y) h = ((h.0.0, later_term before after g u x h.0.1), (h.1.0, later_term before after g u y h.1.1))

-- The parts of being a term of a context.
pub term_context : (st : Store) (t : Tree) → IsTermIn st t → InContext st t
unfolding IsTermIn
term_context st t h = h.0

pub term_within : (st : Store) (t : Tree) → IsTermIn st t → StaysWithin 0 t
unfolding IsTermIn
term_within st t h = h.1

pub term_in : (st : Store) (t : Tree) → InContext st t → StaysWithin 0 t → Leaves (IsNamable st.universe) t → IsTermIn st t
unfolding IsTermIn
term_in st t h w u = (h, w, u)

pub term_namable : (st : Store) (t : Tree) → IsTermIn st t → Leaves (IsNamable st.universe) t
unfolding IsTermIn
term_namable st t h = h.2

pub made_of_term : (st : Store) (k : VarKind) (n : ℕ) → IsTermIn st (leaf (variable k n)) → IsMade st k n
unfolding IsTermIn InContext
made_of_term st k n h = h.0

pub term_of_made : (st : Store) (k : VarKind) (n : ℕ) → IsMade st k n → IsTermIn st (leaf (variable k n))
unfolding IsTermIn InContext
term_of_made st k n h = (h, tt, tt)

-- What a term of a context comes to names only what the current universe can.
pub term_scope : (st : Store) → IsSound st → (t : Tree) → IsTermIn st t → Leaves (IsInScope st st.universe) (apply (resolved st) t)
unfolding IsTermIn InContext
term_scope st g t h = Leaves-replace (IsInScope st st.universe) (assigned (resolved st)) t (Leaves_map₂ (IsMadeLeaf st) (IsNamable st.universe) _ at_leaf t h.0 h.2)
  where
    at_leaf : (l : Leaf) → IsMadeLeaf st l → IsNamable st.universe l → Leaves (IsInScope st st.universe) (assigned (resolved st) l)
    at_leaf (variable k n) m u = Leaves_map _ _ (scope_mono st (universe_of st k n) st.universe (g.below_current k n)) (resolved st k n) (g.in_scope k n m)
    at_leaf (bound k d i) m u = tt
    at_leaf (placeholder k v n) m u = u
    at_leaf (atom x) m u = m
    at_leaf unknown m u = u

pub scope_namable : (st : Store) (u : ℕ) (l : Leaf) → IsInScope st u l → IsNamable u l
scope_namable st u (variable k n) h = tt
scope_namable st u (bound k d i) h = tt
scope_namable st u (placeholder k v n) h = h
scope_namable st u (atom x) h = tt
scope_namable st u unknown h = h
