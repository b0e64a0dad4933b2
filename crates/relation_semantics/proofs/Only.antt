-- Replacing one variable.
use Rattle.std.proofs.Common.{◌≡◌, ◌⊎◌, ℕ, suc, ◌+◌, ◌*◌, ◌≤◌, refl, sym, ap, ap₂, ◌∙◌, inl, inr, subst, arith, le_of_eq}
use native.Mathlib.Decide.{ℕ_discrete}
use Rattle.relation_terms.specs.Heads.{VarKind, VarKind_discrete, Leaf, variable, bound, placeholder, atom, unknown}
use Rattle.relation_terms.specs.Trees.{Tree, leaf, node, bind, nil, cons, Assign, assigned, apply, Leaves, Occurs, size}
use Rattle.relation_terms.proofs.Members.{size_positive}

pick : {A : Type 0} {j k : VarKind} {m n : ℕ} → Dec (j ≡ k) → Dec (m ≡ n) → A → A → A
pick (yes p) (yes q) x y = x
pick (yes p) (no q) x y = y
pick (no p) d x y = y

pick_same : {A : Type 0} {j k : VarKind} {m n : ℕ} (d : Dec (j ≡ k)) (e : Dec (m ≡ n)) (x y : A) → j ≡ k → m ≡ n → pick d e x y ≡ x
unfolding pick
pick_same (yes p) (yes q) x y a b = refl
pick_same (yes p) (no q) x y a b = absurd (q b)
pick_same (no p) e x y a b = absurd (p a)

pick_other : {A : Type 0} {j k : VarKind} {m n : ℕ} (d : Dec (j ≡ k)) (e : Dec (m ≡ n)) (x y : A) → (j ≡ k → m ≡ n → ⊥) → pick d e x y ≡ y
unfolding pick
pick_other (yes p) (yes q) x y o = absurd (o p q)
pick_other (yes p) (no q) x y o = refl
pick_other (no p) e x y o = refl

-- One variable replaced, all others kept.
pub only : VarKind → ℕ → Tree → Assign
only k n t j m = pick (VarKind_discrete j k) (ℕ_discrete m n) t (leaf (variable j m))

pub only_same : (k : VarKind) (n : ℕ) (t : Tree) → only k n t k n ≡ t
unfolding only
only_same k n t = pick_same (VarKind_discrete k k) (ℕ_discrete n n) t _ refl refl

pub only_other : (k : VarKind) (n : ℕ) (t : Tree) (j : VarKind) (m : ℕ) → (j ≡ k → m ≡ n → ⊥) → only k n t j m ≡ leaf (variable j m)
unfolding only
only_other k n t j m o = pick_other (VarKind_discrete j k) (ℕ_discrete m n) t _ o

-- Either the variable, or another.
pub which : (j k : VarKind) (m n : ℕ) → ((j ≡ k) × (m ≡ n)) ⊎ (j ≡ k → m ≡ n → ⊥)
which j k m n = go (VarKind_discrete j k) (ℕ_discrete m n)
  where
    go : Dec (j ≡ k) → Dec (m ≡ n) → ((j ≡ k) × (m ≡ n)) ⊎ (j ≡ k → m ≡ n → ⊥)
    go (yes p) (yes q) = inl (p, q)
    go (yes p) (no q) = inr (λ _ r. q r)
    go (no p) _ = inr (λ r _. p r)

-- What holds of the term and of all other variables.
pub only_case : (P : VarKind → ℕ → Tree → Type 0) (k : VarKind) (n : ℕ) (t : Tree) → P k n t → ((j : VarKind) (m : ℕ) → P j m (leaf (variable j m))) → (j : VarKind) (m : ℕ) → P j m (only k n t j m)
only_case P k n t p f j m = go (which j k m n)
  where
    go : ((j ≡ k) × (m ≡ n)) ⊎ (j ≡ k → m ≡ n → ⊥) → P j m (only k n t j m)
    go (inl (x, y)) = subst (λ i. P i m (only k n t i m)) (sym x) (subst (λ i. P k i (only k n t k i)) (sym y) (subst (P k n) (sym (only_same k n t)) p))
    go (inr o) = subst (P j m) (sym (only_other k n t j m o)) (f j m)

-- A variable that does not stand in a tree may be replaced.
absent_leaf : (k : VarKind) (n : ℕ) (u : Tree) (l : Leaf) → (leaf l ≡ leaf (variable k n) → ⊥) → assigned (only k n u) l ≡ leaf l
absent_leaf k n u (variable j m) o = only_other k n u j m (λ p q. o (ap₂ (λ x y. leaf (variable x y)) p q))
absent_leaf k n u l o = refl

pub absent : (k : VarKind) (n : ℕ) (u : Tree) (t : Tree) → (Occurs k n t → ⊥) → apply (only k n u) t ≡ t
absent k n u (leaf l) o = absent_leaf k n u l o
absent k n u (node h t) o = ap (node h) (absent k n u t o)
absent k n u (bind ks t) o = ap (bind ks) (absent k n u t o)
absent k n u nil o = refl
absent k n u (cons t v) o = ap₂ cons (absent k n u t (λ x. o (inl x))) (absent k n u v (λ x. o (inr x)))

pub absent_leaves : (k : VarKind) (n : ℕ) (t : Tree) → (Occurs k n t → ⊥) → Leaves (λ l. leaf l ≡ leaf (variable k n) → ⊥) t
absent_leaves k n (leaf l) o = o
absent_leaves k n (node h t) o = absent_leaves k n t o
absent_leaves k n (bind ks t) o = absent_leaves k n t o
absent_leaves k n nil o = tt
absent_leaves k n (cons t u) o = (absent_leaves k n t (λ x. o (inl x)), absent_leaves k n u (λ x. o (inr x)))

grow_node : (a b v : ℕ) → a ≤ b * v → 1 ≤ v → suc a ≤ suc b * v
grow_node a b v h p = let e : suc b * v ≡ b * v + v = grind arith in omega arith

grow_pair : (a b c d v : ℕ) → a ≤ b * v → c ≤ d * v → 1 ≤ v → suc (a + c) ≤ suc (b + d) * v
grow_pair a b c d v h k p = let e : suc (b + d) * v ≡ b * v + d * v + v = grind arith in omega arith

one_times : (a v : ℕ) → a ≤ v → a ≤ 1 * v
one_times a v h = omega arith

-- Putting a term for a variable makes a tree larger by at most the term's size.
only_size_leaf : (k : VarKind) (n : ℕ) (v : Tree) (l : Leaf) → size (assigned (only k n v) l) ≤ 1 * size v
only_size_leaf k n v (variable j m) = go (which j k m n)
  where
    go : ((j ≡ k) × (m ≡ n)) ⊎ (j ≡ k → m ≡ n → ⊥) → size (only k n v j m) ≤ 1 * size v
    go (inl (x, y)) = one_times (size (only k n v j m)) (size v) (le_of_eq (ap size (ap₂ (only k n v) x y ∙ only_same k n v)))
    go (inr o) = one_times (size (only k n v j m)) (size v) (subst (λ z. size z ≤ size v) (sym (only_other k n v j m o)) (size_positive v))
only_size_leaf k n v (bound i d m) = one_times 1 (size v) (size_positive v)
only_size_leaf k n v (placeholder i u m) = one_times 1 (size v) (size_positive v)
only_size_leaf k n v (atom x) = one_times 1 (size v) (size_positive v)
only_size_leaf k n v unknown = one_times 1 (size v) (size_positive v)

pub only_size : (k : VarKind) (n : ℕ) (v t : Tree) → size (apply (only k n v) t) ≤ size t * size v
only_size k n v (leaf l) = only_size_leaf k n v l
only_size k n v (node h t) = grow_node (size (apply (only k n v) t)) (size t) (size v) (only_size k n v t) (size_positive v)
only_size k n v (bind ks t) =
    let s = size (apply (only k n v) t) in
    grow_node (suc s) (suc (size t)) (size v)
    (grow_node s (size t) (size v) (only_size k n v t) (size_positive v)) (size_positive v)
only_size k n v nil = one_times 1 (size v) (size_positive v)
only_size k n v (cons t u) = grow_pair (size (apply (only k n v) t)) (size t) (size (apply (only k n v) u)) (size u) (size v) (only_size k n v t) (only_size k n v u) (size_positive v)
