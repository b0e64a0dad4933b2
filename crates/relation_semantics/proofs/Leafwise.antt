-- Leaves put for the leaves of a tree, and what a universe can name.
use Rattle.std.proofs.Common.{◌≡◌, ◌≢◌, ◌⊎◌, ℕ, suc, ◌≤◌, refl, sym, ap, ap₂, arith, inl, inr, subst, [], ◌∷◌, Some}
use native.Mathlib.Decide.{dec_le}
use Rattle.relation_terms.specs.Heads.{Sort, leaf_sort, head_parts, Admits, term_of, binder_of, Shape, one, row, Kind, region_kind, type_kind, const_kind, BoundKind, bound_kind, VarKind, region_var, var_sort, Atom, bool_type, static_region, const_param, value_type, Leaf, variable, bound, placeholder, atom, unknown}
use Rattle.relation_terms.specs.Trees.{Tree, leaf, node, bind, nil, cons, Assign, replace, apply, Leaves, Occurs, Fits, IsTerm, size}
use Rattle.relation_terms.specs.Erasure.{erase}
use Rattle.relation_semantics.specs.Relation.{IsValueLeaf, StaysWithin, sort_of}
use Rattle.relation_semantics.specs.Stores.{IsNamable}
use Rattle.relation_semantics.proofs.Trees.{Leaves_map, Leaves-replace}
use Rattle.relation_terms.proofs.Paths.{leaf_path}

-- A leaf of a tree.
unfoldable pub StandsIn : Leaf → Tree → Type 0
StandsIn l (leaf m) = m ≡ l
StandsIn l (node h t) = StandsIn l t
StandsIn l (bind ks t) = StandsIn l t
StandsIn l nil = ⊥
StandsIn l (cons t u) = StandsIn l t ⊎ StandsIn l u

pub each_stands : (t : Tree) → Leaves (λ l. StandsIn l t) t
unfolding StandsIn
each_stands (leaf l) = refl
each_stands (node h t) = each_stands t
each_stands (bind ks t) = each_stands t
each_stands nil = tt
each_stands (cons t u) = (Leaves_map _ _ (λ l h. inl h) t (each_stands t), Leaves_map _ _ (λ l h. inr h) u (each_stands u))

pub one_of_all : (P : Leaf → Type 0) (l : Leaf) (t : Tree) → Leaves P t → StandsIn l t → P l
unfolding StandsIn
one_of_all P l (leaf m) h s = subst P s h
one_of_all P l (node a t) h s = one_of_all P l t h s
one_of_all P l (bind ks t) h s = one_of_all P l t h s
one_of_all P l nil h s = absurd s
one_of_all P l (cons t u) h (inl s) = one_of_all P l t h.0 s
one_of_all P l (cons t u) h (inr s) = one_of_all P l u h.1 s

-- The leaves of what is put for a leaf are leaves of the whole.
pub replaced_leaves : (P : Leaf → Type 0) (f : Leaf → Tree) (t : Tree) → Leaves P (replace f t) → Leaves (λ l. Leaves P (f l)) t
replaced_leaves P f (leaf l) h = h
replaced_leaves P f (node a t) h = replaced_leaves P f t h
replaced_leaves P f (bind ks t) h = replaced_leaves P f t h
replaced_leaves P f nil h = tt
replaced_leaves P f (cons t u) h = (replaced_leaves P f t h.0, replaced_leaves P f u h.1)

pub absent_of_leaves : (k : VarKind) (n : ℕ) (t : Tree) → Leaves (λ l. l ≢ variable k n) t → Occurs k n t → ⊥
absent_of_leaves k n (leaf l) h o = h (leaf_path o)
absent_of_leaves k n (node a t) h o = absent_of_leaves k n t h o
absent_of_leaves k n (bind ks t) h o = absent_of_leaves k n t h o
absent_of_leaves k n nil h o = o
absent_of_leaves k n (cons t u) h (inl o) = absent_of_leaves k n t h.0 o
absent_of_leaves k n (cons t u) h (inr o) = absent_of_leaves k n u h.1 o

-- A leaf or a form.
abbrev pub IsOne : Tree → Type 0
IsOne (leaf l) = Unit {0}
IsOne (node h ts) = Unit {0}
IsOne t = ⊥

-- A variable for which a leaf or a form of its sort is put.
abbrev pub KeepsSort : Assign → Leaf → Type 0
KeepsSort back (variable j m) = IsOne (back j m) × (sort_of (back j m) ≡ var_sort j)
KeepsSort back l = Unit {0}

one_admits : (a : Sort) (y : Tree) → IsOne y → IsTerm a y → Admits a (sort_of y)
one_admits a (leaf l) o h = h
one_admits a (node g ts) o h = h.0
one_admits a (bind ks t) o h = absurd o
one_admits a nil o h = absurd o
one_admits a (cons t u) o h = absurd o

one_no_binder : (a : Sort) (y : Tree) → IsOne y → Fits (one (binder_of a)) y → ⊥
one_no_binder a (leaf l) o h = h
one_no_binder a (node g ts) o h = h
one_no_binder a (bind ks t) o h = o
one_no_binder a nil o h = o
one_no_binder a (cons t u) o h = o

one_no_list : (ps : _) (r : _) (y : Tree) → IsOne y → Fits (row ps r) y → ⊥
one_no_list [] r (leaf l) o h = h
one_no_list [] r (node g ts) o h = h
one_no_list (p ∷ ps) r (leaf l) o h = h
one_no_list (p ∷ ps) r (node g ts) o h = h
one_no_list ps r (bind ks t) o h = o
one_no_list ps r nil o h = o
one_no_list ps r (cons t u) o h = o

-- What is so of a tree with such leaves put for its variables is so of the tree.
pub within_back : (back : Assign) (d : ℕ) (t : Tree) → StaysWithin d (apply back t) → StaysWithin d t
within_back back d (leaf (variable k n)) h = tt
within_back back d (leaf (bound k e i)) h = h
within_back back d (leaf (placeholder k u n)) h = tt
within_back back d (leaf (atom x)) h = tt
within_back back d (leaf unknown) h = tt
within_back back d (node a t) h = within_back back d t h
within_back back d (bind ks t) h = within_back back (suc d) t h
within_back back d nil h = tt
within_back back d (cons t u) h = (within_back back d t h.0, within_back back d u h.1)

variable_back : (back : Assign) (a : Sort) (k : VarKind) (n : ℕ) → KeepsSort back (variable k n) → IsTerm a (back k n) → Admits a (var_sort k)
variable_back back a k n s h = subst (Admits a) s.1 (one_admits a (back k n) s.0 h)

pub fits_back : (back : Assign) (x : Shape) (t : Tree) → Leaves (KeepsSort back) t → Fits x (apply back t) → Fits x t
fits_back back (one (term_of a)) (leaf (variable k n)) s h = variable_back back a k n s h
fits_back back (one (term_of a)) (leaf (bound k d i)) s h = h
fits_back back (one (term_of a)) (leaf (placeholder k u n)) s h = h
fits_back back (one (term_of a)) (leaf (atom y)) s h = h
fits_back back (one (term_of a)) (leaf unknown) s h = h
fits_back back (one (term_of a)) (node g ts) s h = (h.0, fits_back back (head_parts g) ts s h.1)
fits_back back (one (binder_of a)) (bind ks t) s h = fits_back back (one (term_of a)) t s h
fits_back back (row [] r) nil s h = tt
fits_back back (row [] (Some p)) (cons t ts) s h = (fits_back back (one p) t s.0 h.0, fits_back back (row [] (Some p)) ts s.1 h.1)
fits_back back (row (p ∷ ps) r) (cons t ts) s h = (fits_back back (one p) t s.0 h.0, fits_back back (row ps r) ts s.1 h.1)
fits_back back (one (binder_of a)) (leaf (variable k n)) s h = absurd (one_no_binder a (back k n) s.0 h)
fits_back back (row ps r) (leaf (variable k n)) s h = absurd (one_no_list ps r (back k n) s.0 h)
fits_back back x t s h = absurd h

one_size : (y : Tree) → IsOne y → 1 ≤ size y
one_size (leaf l) o = omega arith
one_size (node g t) o = omega arith
one_size t o = absurd o

pub size_back : (back : Assign) (t : Tree) → Leaves (KeepsSort back) t → size t ≤ size (apply back t)
size_back back (leaf (variable k n)) s = one_size (back k n) s.0
size_back back (leaf (bound k d i)) s = omega arith
size_back back (leaf (placeholder k u n)) s = omega arith
size_back back (leaf (atom y)) s = omega arith
size_back back (leaf unknown) s = omega arith
size_back back (node g t) s = let a = size_back back t s in omega (arith, a)
size_back back (bind ks t) s = let a = size_back back t s in omega (arith, a)
size_back back nil s = omega arith
size_back back (cons t u) s = let a = size_back back t s.0 in let b = size_back back u s.1 in omega (arith, a, b)

-- A sort-keeping change of leaves.
pub fits_leaves : (f : Leaf → Leaf) → ((l : Leaf) → leaf_sort (f l) ≡ leaf_sort l) → (x : Shape) (t : Tree) → Fits x t → Fits x (replace (λ l. leaf (f l)) t)
fits_leaves f s (one (term_of a)) (leaf l) h = subst (Admits a) (sym (s l)) h
fits_leaves f s (one (term_of a)) (node g ts) h = (h.0, fits_leaves f s (head_parts g) ts h.1)
fits_leaves f s (one (binder_of a)) (bind ks t) h = fits_leaves f s (one (term_of a)) t h
fits_leaves f s (row [] r) nil h = tt
fits_leaves f s (row [] (Some p)) (cons t ts) h = (fits_leaves f s (one p) t h.0, fits_leaves f s (row [] (Some p)) ts h.1)
fits_leaves f s (row (p ∷ ps) r) (cons t ts) h = (fits_leaves f s (one p) t h.0, fits_leaves f s (row ps r) ts h.1)
fits_leaves f s x t h = absurd h

-- A term with all that a universe can't name replaced by something of its sort that each can.
named_by_all : Kind → Atom
named_by_all region_kind = static_region
named_by_all type_kind = bool_type
named_by_all const_kind = const_param 0 0

tame_placeholder : {w u : ℕ} → Dec (w ≤ u) → BoundKind → ℕ → Leaf
tame_placeholder {w = w} (yes h) q i = placeholder q w i
tame_placeholder (no o) (bound_kind a x) i = atom (named_by_all a)

tame : ℕ → Leaf → Leaf
tame u (placeholder q w i) = tame_placeholder (dec_le w u) q i
tame u (variable k n) = variable k n
tame u (bound q d i) = bound q d i
tame u (atom x) = atom x
tame u unknown = unknown

pub tamed : ℕ → Tree → Tree
tamed u t = replace (λ l. leaf (tame u l)) t

tame_sort : (u : ℕ) (l : Leaf) → leaf_sort (tame u l) ≡ leaf_sort l
unfolding tame tame_placeholder named_by_all
tame_sort u (placeholder q w i) = go (dec_le w u) q
  where
    go : (d : Dec (w ≤ u)) (q : BoundKind) → leaf_sort (tame_placeholder d q i) ≡ leaf_sort (placeholder q w i)
    go (yes h) q = refl
    go (no o) (bound_kind region_kind x) = refl
    go (no o) (bound_kind type_kind x) = refl
    go (no o) (bound_kind const_kind x) = refl
tame_sort u (variable k n) = refl
tame_sort u (bound q d i) = refl
tame_sort u (atom x) = refl
tame_sort u unknown = refl

tame_value : (u : ℕ) (l : Leaf) → IsValueLeaf l → IsValueLeaf (tame u l)
unfolding tame tame_placeholder named_by_all
tame_value u (placeholder q w i) h = go (dec_le w u) q
  where
    go : (d : Dec (w ≤ u)) (q : BoundKind) → IsValueLeaf (tame_placeholder d q i)
    go (yes h) q = tt
    go (no o) (bound_kind region_kind x) = tt
    go (no o) (bound_kind type_kind x) = tt
    go (no o) (bound_kind const_kind x) = tt
tame_value u (variable k n) h = h
tame_value u (bound q d i) h = tt
tame_value u (atom x) h = h
tame_value u unknown h = h

tame_named : (u : ℕ) (l : Leaf) → IsValueLeaf l → IsNamable u (tame u l)
unfolding tame tame_placeholder
tame_named u (placeholder q w i) h = go (dec_le w u) q
  where
    go : (d : Dec (w ≤ u)) (q : BoundKind) → IsNamable u (tame_placeholder d q i)
    go (yes h) q = h
    go (no o) (bound_kind region_kind x) = tt
    go (no o) (bound_kind type_kind x) = tt
    go (no o) (bound_kind const_kind x) = tt
tame_named u (variable k n) h = tt
tame_named u (bound q d i) h = tt
tame_named u (atom x) h = tt
tame_named u unknown h = h

tame_erased : (u : ℕ) (l : Leaf) → Leaves (IsNamable u) (erase (leaf l)) → erase (leaf (tame u l)) ≡ erase (leaf l)
unfolding tame tame_placeholder named_by_all
tame_erased u (placeholder (bound_kind region_kind x) w i) h = go (dec_le w u)
  where
    go : (d : Dec (w ≤ u)) → erase (leaf (tame_placeholder d (bound_kind region_kind x) i)) ≡ leaf (atom static_region)
    go (yes h) = refl
    go (no o) = refl
tame_erased u (placeholder (bound_kind type_kind x) w i) h = go (dec_le w u)
  where
    go : (d : Dec (w ≤ u)) → erase (leaf (tame_placeholder d (bound_kind type_kind x) i)) ≡ leaf (placeholder (bound_kind type_kind x) w i)
    go (yes p) = refl
    go (no o) = absurd (o h)
tame_erased u (placeholder (bound_kind const_kind x) w i) h = go (dec_le w u)
  where
    go : (d : Dec (w ≤ u)) → erase (leaf (tame_placeholder d (bound_kind const_kind x) i)) ≡ leaf (placeholder (bound_kind const_kind x) w i)
    go (yes p) = refl
    go (no o) = absurd (o h)
tame_erased u (variable k n) h = refl
tame_erased u (bound q d i) h = refl
tame_erased u (atom x) h = refl
tame_erased u unknown h = refl

pub tamed_fits : (u : ℕ) (x : Shape) (t : Tree) → Fits x t → Fits x (tamed u t)
unfolding tamed
tamed_fits u x t h = fits_leaves (tame u) (tame_sort u) x t h

pub tamed_values : (u : ℕ) (t : Tree) → Leaves IsValueLeaf t → Leaves IsValueLeaf (tamed u t)
unfolding tamed
tamed_values u t h = Leaves-replace IsValueLeaf (λ l. leaf (tame u l)) t (Leaves_map IsValueLeaf _ (tame_value u) t h)

pub tamed_named : (u : ℕ) (t : Tree) → Leaves IsValueLeaf t → Leaves (IsNamable u) (tamed u t)
unfolding tamed
tamed_named u t h = Leaves-replace (IsNamable u) (λ l. leaf (tame u l)) t (Leaves_map IsValueLeaf _ (tame_named u) t h)

pub tamed_within : (u : ℕ) (d : ℕ) (t : Tree) → StaysWithin d t → StaysWithin d (tamed u t)
unfolding tamed tame tame_placeholder
tamed_within u d (leaf (variable k n)) h = tt
tamed_within u d (leaf (bound k e i)) h = h
tamed_within u d (leaf (placeholder q w i)) h = go (dec_le w u) q
  where
    go : (e : Dec (w ≤ u)) (q : BoundKind) → StaysWithin d (leaf (tame_placeholder e q i))
    go (yes h) q = tt
    go (no o) (bound_kind region_kind x) = tt
    go (no o) (bound_kind type_kind x) = tt
    go (no o) (bound_kind const_kind x) = tt
tamed_within u d (leaf (atom x)) h = tt
tamed_within u d (leaf unknown) h = tt
tamed_within u d (node a t) h = tamed_within u d t h
tamed_within u d (bind ks t) h = tamed_within u (suc d) t h
tamed_within u d nil h = tt
tamed_within u d (cons t x) h = (tamed_within u d t h.0, tamed_within u d x h.1)

pub tamed_erased : (u : ℕ) (t : Tree) → Leaves (IsNamable u) (erase t) → erase (tamed u t) ≡ erase t
unfolding tamed
tamed_erased u (leaf l) h = tame_erased u l h
tamed_erased u (node value_type t) h = refl
tamed_erased u (node a t) h = ap (node a) (tamed_erased u t h)
tamed_erased u (bind ks t) h = ap (bind []) (tamed_erased u t h)
tamed_erased u nil h = refl
tamed_erased u (cons t x) h = ap₂ cons (tamed_erased u t h.0) (tamed_erased u x h.1)

-- The erasure of what a universe can name is something that it can name.
pub erased_named : (u : ℕ) (t : Tree) → Leaves (IsNamable u) t → Leaves (IsNamable u) (erase t)
erased_named u (leaf (variable region_var n)) h = tt
erased_named u (leaf (variable k n)) h = tt
erased_named u (leaf (bound (bound_kind region_kind x) d i)) h = tt
erased_named u (leaf (bound (bound_kind k x) d i)) h = tt
erased_named u (leaf (placeholder (bound_kind region_kind x) w i)) h = tt
erased_named u (leaf (placeholder (bound_kind k x) w i)) h = h
erased_named u (leaf (atom x)) h = tt
erased_named u (leaf unknown) h = h
erased_named u (node value_type t) h = tt
erased_named u (node a t) h = erased_named u t h
erased_named u (bind ks t) h = erased_named u t h
erased_named u nil h = tt
erased_named u (cons t x) h = (erased_named u t h.0, erased_named u x h.1)
