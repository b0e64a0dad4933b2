-- What replacing leaves does.
use Rattle.std.proofs.Common.{◌≡◌, ◌≢◌, ℕ, zero, suc, ◌<◌, ◌≤◌, refl, sym, ap, ap₂, ◌∙◌, arith, inl, inr, List, [], ◌∷◌, map, nat_eq, cond, Bool, true, false, ne_eqb, le_of_eq}
use Rattle.relation_terms.specs.Heads.{BoundKind, VarKind, Leaf, atom, variable, bound, placeholder, unknown}
use Rattle.relation_terms.specs.Trees.{Tree, leaf, node, bind, nil, cons, replace, Assign, assigned, apply, tree_at, put, inst, size, Leaves, Occurs}
use Rattle.relation_semantics.specs.Relation.{IsValueLeaf, StaysWithin}

-- Replacing twice.
pub replace-replace : (f g : Leaf → Tree) (t : Tree) → replace f (replace g t) ≡ replace (λ l. replace f (g l)) t
replace-replace f g (leaf l) = refl
replace-replace f g (node h t) = ap (node h) (replace-replace f g t)
replace-replace f g (bind ks t) = ap (bind ks) (replace-replace f g t)
replace-replace f g nil = refl
replace-replace f g (cons t u) = ap₂ cons (replace-replace f g t) (replace-replace f g u)

-- Replacing alike where the leaves of the tree are replaced alike.
pub replace_alike : (f g : Leaf → Tree) (t : Tree) → Leaves (λ l. f l ≡ g l) t → replace f t ≡ replace g t
replace_alike f g (leaf l) h = h
replace_alike f g (node k t) h = ap (node k) (replace_alike f g t h)
replace_alike f g (bind ks t) h = ap (bind ks) (replace_alike f g t h)
replace_alike f g nil h = refl
replace_alike f g (cons t u) h = ap₂ cons (replace_alike f g t h.0) (replace_alike f g u h.1)

pub replace_leaf : (t : Tree) → replace leaf t ≡ t
replace_leaf (leaf l) = refl
replace_leaf (node k t) = ap (node k) (replace_leaf t)
replace_leaf (bind ks t) = ap (bind ks) (replace_leaf t)
replace_leaf nil = refl
replace_leaf (cons t u) = ap₂ cons (replace_leaf t) (replace_leaf u)

-- A property of leaves follows from another.
pub Leaves_map : (P Q : Leaf → Type 0) → ((l : Leaf) → P l → Q l) → (t : Tree) → Leaves P t → Leaves Q t
Leaves_map P Q f (leaf l) h = f l h
Leaves_map P Q f (node k t) h = Leaves_map P Q f t h
Leaves_map P Q f (bind ks t) h = Leaves_map P Q f t h
Leaves_map P Q f nil h = tt
Leaves_map P Q f (cons t u) h = (Leaves_map P Q f t h.0, Leaves_map P Q f u h.1)

pub Leaves_map₂ : (P Q R : Leaf → Type 0) → ((l : Leaf) → P l → Q l → R l) → (t : Tree) → Leaves P t → Leaves Q t → Leaves R t
Leaves_map₂ P Q R f (leaf l) h k = f l h k
Leaves_map₂ P Q R f (node a t) h k = Leaves_map₂ P Q R f t h k
Leaves_map₂ P Q R f (bind ks t) h k = Leaves_map₂ P Q R f t h k
Leaves_map₂ P Q R f nil h k = tt
Leaves_map₂ P Q R f (cons t u) h k = (Leaves_map₂ P Q R f t h.0 k.0, Leaves_map₂ P Q R f u h.1 k.1)

-- The leaves of what is put for each leaf.
pub Leaves-replace : (P : Leaf → Type 0) (f : Leaf → Tree) (t : Tree) → Leaves (λ l. Leaves P (f l)) t → Leaves P (replace f t)
Leaves-replace P f (leaf l) h = h
Leaves-replace P f (node k t) h = Leaves-replace P f t h
Leaves-replace P f (bind ks t) h = Leaves-replace P f t h
Leaves-replace P f nil h = tt
Leaves-replace P f (cons t u) h = (Leaves-replace P f t h.0, Leaves-replace P f u h.1)

-- A ground tree is its own value.
ground_leaf : (s : Assign) (l : Leaf) → IsValueLeaf l → assigned s l ≡ leaf l
ground_leaf s (variable k n) h = absurd h
ground_leaf s l h = refl

pub apply_ground : (s : Assign) (t : Tree) → Leaves IsValueLeaf t → apply s t ≡ t
apply_ground s t h = replace_alike (assigned s) leaf t (Leaves_map _ _ (ground_leaf s) t h) ∙ replace_leaf t

-- Nothing is put where no variable is bound further out.
put_within : (ts : List Tree) (d : ℕ) (k : BoundKind) (e i : ℕ) → e < d → put ts d (bound k e i) ≡ leaf (bound k e i)
put_within ts d k e i h = let n : e ≢ d = omega arith in rw (ne_eqb e d n) refl

pub inst_within : (ts : List Tree) (d : ℕ) (t : Tree) → StaysWithin d t → inst ts d t ≡ t
inst_within ts d (leaf (variable k n)) h = refl
inst_within ts d (leaf (bound k e i)) h = put_within ts d k e i h
inst_within ts d (leaf (placeholder k u n)) h = refl
inst_within ts d (leaf (atom x)) h = refl
inst_within ts d (leaf unknown) h = refl
inst_within ts d (node k t) h = ap (node k) (inst_within ts d t h)
inst_within ts d (bind ks t) h = ap (bind ks) (inst_within ts (suc d) t h)
inst_within ts d nil h = refl
inst_within ts d (cons t u) h = ap₂ cons (inst_within ts d t h.0) (inst_within ts d u h.1)

-- What stays within fewer binders stays within more.
pub StaysWithin-mono : (d e : ℕ) (t : Tree) → d ≤ e → StaysWithin d t → StaysWithin e t
StaysWithin-mono d e (leaf (bound k i n)) h p = omega arith
StaysWithin-mono d e (leaf (variable k n)) h p = tt
StaysWithin-mono d e (leaf (placeholder k u n)) h p = tt
StaysWithin-mono d e (leaf (atom x)) h p = tt
StaysWithin-mono d e (leaf unknown) h p = tt
StaysWithin-mono d e (node k t) h p = StaysWithin-mono d e t h p
StaysWithin-mono d e (bind ks t) h p = StaysWithin-mono (suc d) (suc e) t (omega arith) p
StaysWithin-mono d e nil h p = tt
StaysWithin-mono d e (cons t u) h p = (StaysWithin-mono d e t h p.0, StaysWithin-mono d e u h p.1)

-- The values of a tree's variables have no variable bound outside.
abbrev pub StaysIn : Assign → Leaf → Type 0
StaysIn s (variable k n) = StaysWithin 0 (s k n)
StaysIn s l = Unit {0}

apply-tree_at : (s : Assign) (ts : List Tree) (i : ℕ) (d : Tree) → apply s (tree_at ts i d) ≡ tree_at (map (apply s) ts) i (apply s d)
apply-tree_at s [] i d = refl
apply-tree_at s (t ∷ ts) zero d = refl
apply-tree_at s (t ∷ ts) (suc i) d = apply-tree_at s ts i d

apply-cond : (s : Assign) (b : Bool) (t u t' u' : Tree) → apply s t ≡ t' → apply s u ≡ u' → apply s (cond b t u) ≡ cond b t' u'
apply-cond s true t u t' u' p q = p
apply-cond s false t u t' u' p q = q

apply-put : (s : Assign) (ts : List Tree) (d : ℕ) (l : Leaf) → StaysIn s l → apply s (put ts d l) ≡ inst (map (apply s) ts) d (assigned s l)
apply-put s ts d (variable k n) h = sym (inst_within (map (apply s) ts) d (s k n) (StaysWithin-mono 0 d (s k n) (omega arith) h))
apply-put s ts d (bound k e i) h = apply-cond s (nat_eq e d) _ _ _ _ (apply-tree_at s ts i (leaf (bound k e i))) refl
apply-put s ts d (placeholder k u n) h = refl
apply-put s ts d (atom x) h = refl
apply-put s ts d unknown h = refl

-- Assigning goes through putting trees for bound variables.
pub apply-inst : (s : Assign) (ts : List Tree) (d : ℕ) (t : Tree) → Leaves (StaysIn s) t → apply s (inst ts d t) ≡ inst (map (apply s) ts) d (apply s t)
apply-inst s ts d (leaf l) h = apply-put s ts d l h
apply-inst s ts d (node k t) h = ap (node k) (apply-inst s ts d t h)
apply-inst s ts d (bind ks t) h = ap (bind ks) (apply-inst s ts (suc d) t h)
apply-inst s ts d nil h = refl
apply-inst s ts d (cons t u) h = ap₂ cons (apply-inst s ts d t h.0) (apply-inst s ts d u h.1)

-- No value is larger than that of a tree in which the variable stands.
pub occurs_size : (s : Assign) (k : VarKind) (n : ℕ) (t : Tree) → Occurs k n t → size (s k n) ≤ size (apply s t)
occurs_size s k n (leaf l) h = le_of_eq (ap (λ z. size (apply s z)) (sym h))
occurs_size s k n (node a t) h = let i = occurs_size s k n t h in omega arith
occurs_size s k n (bind ks t) h = let i = occurs_size s k n t h in omega arith
occurs_size s k n nil h = absurd h
occurs_size s k n (cons t u) (inl h) = let i = occurs_size s k n t h in omega arith
occurs_size s k n (cons t u) (inr h) = let i = occurs_size s k n u h in omega arith

-- A variable is never equal to a larger tree in which it stands.
pub occurs_check : (s : Assign) (k : VarKind) (n : ℕ) (t : Tree) → Occurs k n t → t ≢ leaf (variable k n) → s k n ≢ apply s t
occurs_check s k n (leaf l) h q e = q h
occurs_check s k n (node a t) h q e = let i = occurs_size s k n t h in let j = ap size e in omega arith
occurs_check s k n (bind ks t) h q e = let i = occurs_size s k n t h in let j = ap size e in omega arith
occurs_check s k n nil h q e = absurd h
occurs_check s k n (cons t u) (inl h) q e = let i = occurs_size s k n t h in let j = ap size e in omega arith
occurs_check s k n (cons t u) (inr h) q e = let i = occurs_size s k n u h in let j = ap size e in omega arith

-- What holds of every leaf holds of a tree's.
pub all_leaves : (P : Leaf → Type 0) → ((l : Leaf) → P l) → (t : Tree) → Leaves P t
all_leaves P f (leaf l) = f l
all_leaves P f (node h t) = all_leaves P f t
all_leaves P f (bind ks t) = all_leaves P f t
all_leaves P f nil = tt
all_leaves P f (cons t u) = (all_leaves P f t, all_leaves P f u)

-- Assigning twice is assigning what is assigned.
assigned_twice : (f g : Assign) (l : Leaf) → apply f (assigned g l) ≡ assigned (λ k n. apply f (g k n)) l
assigned_twice f g (variable k n) = refl
assigned_twice f g (bound k d i) = refl
assigned_twice f g (placeholder k u n) = refl
assigned_twice f g (atom x) = refl
assigned_twice f g unknown = refl

pub apply-apply : (f g : Assign) (t : Tree) → apply f (apply g t) ≡ apply (λ k n. apply f (g k n)) t
apply-apply f g t = replace-replace (assigned f) (assigned g) t ∙ replace_alike _ _ t (all_leaves _ (assigned_twice f g) t)

-- Assignments that are alike give alike values.
alike_leaf : (f g : Assign) → ((k : VarKind) (n : ℕ) → f k n ≡ g k n) → (l : Leaf) → assigned f l ≡ assigned g l
alike_leaf f g h (variable k n) = h k n
alike_leaf f g h l = refl

pub apply_alike : (f g : Assign) (t : Tree) → ((k : VarKind) (n : ℕ) → f k n ≡ g k n) → apply f t ≡ apply g t
apply_alike f g t h = replace_alike _ _ t (all_leaves _ (alike_leaf f g h) t)

-- An assignment that leaves a tree's variables as they are leaves the tree.
pub IsOwn : Assign → Leaf → Type 0
IsOwn s (variable k n) = s k n ≡ leaf (variable k n)
IsOwn s l = Unit {0}

pub own_leaf : (s : Assign) (l : Leaf) → IsOwn s l → assigned s l ≡ leaf l
unfolding IsOwn
own_leaf s (variable k n) h = h
own_leaf s l h = refl

pub own_if : (s : Assign) (k : VarKind) (n : ℕ) → s k n ≡ leaf (variable k n) → IsOwn s (variable k n)
unfolding IsOwn
own_if s k n h = h

pub own_other : (s : Assign) (l : Leaf) → ((k : VarKind) (n : ℕ) → l ≡ variable k n → s k n ≡ leaf (variable k n)) → IsOwn s l
unfolding IsOwn
own_other s (variable k n) h = h k n refl
own_other s (bound k d i) h = tt
own_other s (placeholder k u n) h = tt
own_other s (atom x) h = tt
own_other s unknown h = tt

pub apply_own : (s : Assign) (t : Tree) → Leaves (IsOwn s) t → apply s t ≡ t
apply_own s t h = replace_alike (assigned s) leaf t (Leaves_map _ _ (own_leaf s) t h) ∙ replace_leaf t
