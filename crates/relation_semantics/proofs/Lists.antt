-- The trees of lists, part by part.
use Rattle.std.proofs.Common.{◌≡◌, ℕ, zero, suc, ◌<◌, refl, ap, inl, inr, subst, arith, List, [], ◌∷◌, ◌++◌, length, get_or}
use Rattle.relation_terms.specs.Heads.{type_var, region_sort, variable}
use Rattle.relation_terms.specs.Trees.{Tree, leaf, node, bind, nil, cons, list_tree, size, count, nth, Occurs, IsTerm, Assign, apply}
use Rattle.relation_terms.proofs.Members.{no_region}
pub use Rattle.relation_folds.proofs.Members.{firsts, firsts_all}

pub part_size : {K : Type 0} (f : K → Tree) (xs : List K) (i : ℕ) (d : K) → i < length xs → size (f (get_or xs i d)) < size (list_tree f xs)
part_size f [] i d h = absurd (omega arith)
part_size f (x ∷ xs) zero d h = omega arith
part_size f (x ∷ xs) (suc i) d h = let e = part_size f xs i d (omega arith) in omega (arith, e)

pub part_occurs : {K : Type 0} (f : K → Tree) (xs : List K) (n : ℕ) (i : ℕ) (d : K) → i < length xs → Occurs type_var n (f (get_or xs i d)) → Occurs type_var n (list_tree f xs)
part_occurs f [] n i d h o = absurd (omega arith)
part_occurs f (x ∷ xs) n zero d h o = inl o
part_occurs f (x ∷ xs) n (suc i) d h o = inr (part_occurs f xs n i d (omega arith) o)

pub none_occurs : {K : Type 0} (f : K → Tree) (xs : List K) (n : ℕ) → ((i : ℕ) (d : K) → i < length xs → Occurs type_var n (f (get_or xs i d)) → ⊥) → Occurs type_var n (list_tree f xs) → ⊥
none_occurs f [] n h o = o
none_occurs f (x ∷ xs) n h (inl o) = h 0 x (omega arith) o
none_occurs f (x ∷ xs) n h (inr o) = none_occurs f xs n (λ i d p. h (suc i) d (omega arith)) o

-- A type variable does not stand in a region.
pub no_variable : (n : ℕ) (r : Tree) → IsTerm region_sort r → Occurs type_var n r → ⊥
no_variable n (leaf l) h o = at_variable (subst (IsTerm region_sort) o h)
  where
    at_variable : IsTerm region_sort (leaf (variable type_var n)) → ⊥
    at_variable p = p
no_variable n (node g ts) h o = no_region g h.0
no_variable n (bind ks t) h o = h
no_variable n nil h o = h
no_variable n (cons t u) h o = h

-- One more tree behind a list.
abbrev pub snoc : Tree → Tree → Tree
snoc (cons t ts) u = cons t (snoc ts u)
snoc t u = cons u nil

pub list_push : {K : Type 0} (f : K → Tree) (xs : List K) (x : K) → list_tree f (xs ++ x ∷ []) ≡ snoc (list_tree f xs) (f x)
list_push f [] x = refl
list_push f (y ∷ xs) x = ap (cons (f y)) (list_push f xs x)

pub firsts_more : (i : ℕ) (t : Tree) → i < count t → firsts (suc i) t ≡ snoc (firsts i t) (nth i t)
firsts_more zero (cons t ts) h = refl
firsts_more (suc i) (cons t ts) h = ap (cons t) (firsts_more i ts (omega arith))
firsts_more i (leaf l) h = absurd (omega arith)
firsts_more i (node g ts) h = absurd (omega arith)
firsts_more i (bind ks t) h = absurd (omega arith)
firsts_more i nil h = absurd (omega arith)

pub apply_snoc : (s : Assign) (i : ℕ) (t u : Tree) → apply s (snoc (firsts i t) u) ≡ snoc (apply s (firsts i t)) (apply s u)
apply_snoc s zero t u = refl
apply_snoc s (suc i) (cons t ts) u = ap (cons (apply s t)) (apply_snoc s i ts u)
apply_snoc s (suc i) (leaf l) u = refl
apply_snoc s (suc i) (node g ts) u = refl
apply_snoc s (suc i) (bind ks t) u = refl
apply_snoc s (suc i) nil u = refl
