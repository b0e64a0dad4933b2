-- Following bindings.
use Rattle.std.proofs.Common.{◌≡◌, ◌≢◌, ℕ, zero, suc, ◌+◌, refl, sym, ap, ◌∙◌, arith, subst, Option, Some, None, zero-add}
use Rattle.std.proofs.Math.Nat.{suc-add}
use Rattle.relation_terms.specs.Heads.{VarKind, Leaf, variable, bound, placeholder, atom, unknown}
use Rattle.relation_terms.specs.Trees.{Tree, leaf, Assign, assigned, apply, Leaves, Occurs, size}
use Rattle.relation_semantics.specs.Stores.{Store, bound_term, MeetsBindings, IsFree, IsSound, through, resolve, rounds_for, all_taken, resolved, weight}
use Rattle.relation_semantics.proofs.Trees.{Leaves_map, Leaves-replace, all_leaves, apply-apply, apply_alike, IsOwn, own_other, apply_own, occurs_check}

free_through : (s : Assign) (k : VarKind) (n : ℕ) (o : Option Tree) → o ≡ None → through s k n o ≡ leaf (variable k n)
free_through s k n None e = refl
free_through s k n (Some t) e = absurd (cc)

pub resolve_free : (f : ℕ) (st : Store) (k : VarKind) (n : ℕ) → bound_term st k n ≡ None → resolve f st k n ≡ leaf (variable k n)
unfolding resolve
resolve_free zero st k n e = refl
resolve_free (suc f) st k n e = free_through (resolve f st) k n (bound_term st k n) e

pub resolve_bound : (f : ℕ) (st : Store) (k : VarKind) (n : ℕ) (t : Tree) → bound_term st k n ≡ Some t → resolve (suc f) st k n ≡ apply (resolve f st) t
unfolding resolve
resolve_bound f st k n t e = ap (through (resolve f st) k n) e

-- A variable has a term or none.
pub data HasTerm (st : Store) (k : VarKind) (n : ℕ) : Type 0 where
  is_free : bound_term st k n ≡ None → HasTerm st k n
  is_bound : (t : Tree) → bound_term st k n ≡ Some t → HasTerm st k n

pub has_term : (st : Store) (k : VarKind) (n : ℕ) → HasTerm st k n
has_term st k n = go (bound_term st k n) refl
  where
    go : (o : Option Tree) → bound_term st k n ≡ o → HasTerm st k n
    go None e = is_free e
    go (Some t) e = is_bound t e

pub resolve_none : (before after : Store) (k : VarKind) (n : ℕ) → resolve zero before k n ≡ resolve zero after k n
unfolding resolve
resolve_none before after k n = refl

pub resolve_start : (st : Store) (k : VarKind) (n : ℕ) → Leaves (IsFree st) (resolve zero st k n) → bound_term st k n ≡ None
unfolding resolve
resolve_start st k n h = h

-- Following for f rounds and then for g more.
pub resolve_add : (f g : ℕ) (st : Store) (k : VarKind) (n : ℕ) → resolve (f + g) st k n ≡ apply (resolve g st) (resolve f st k n)
unfolding resolve
resolve_add zero g st k n = rw zero-add refl
resolve_add (suc f) g st k n = rw suc-add (go (resolve_add f g st) (has_term st k n))
  where
    go : ((j : VarKind) (m : ℕ) → resolve (f + g) st j m ≡ apply (resolve g st) (resolve f st j m)) → HasTerm st k n → resolve (suc (f + g)) st k n ≡ apply (resolve g st) (resolve (suc f) st k n)
    go ih (is_free e) = resolve_free (suc (f + g)) st k n e ∙ sym (ap (apply (resolve g st)) (resolve_free (suc f) st k n e) ∙ resolve_free g st k n e)
    go ih (is_bound t e) = resolve_bound (f + g) st k n t e ∙ apply_alike _ _ t ih ∙ sym (ap (apply (resolve g st)) (resolve_bound f st k n t e) ∙ apply-apply (resolve g st) (resolve f st) t)

-- What leaves free variables as they are leaves what is over them.
pub free_own : (st : Store) (s : Assign) → ((k : VarKind) (n : ℕ) → bound_term st k n ≡ None → s k n ≡ leaf (variable k n)) → (l : Leaf) → IsFree st l → IsOwn s l
free_own st s f l h = own_other s l (λ k n e. f k n (subst (IsFree st) e h))

pub over_free : (st : Store) (s : Assign) → ((k : VarKind) (n : ℕ) → bound_term st k n ≡ None → s k n ≡ leaf (variable k n)) → (t : Tree) → Leaves (IsFree st) t → apply s t ≡ t
over_free st s f t h = apply_own s t (Leaves_map (IsFree st) (IsOwn s) (free_own st s f) t h)

-- What has settled stays so.
pub settled_more : (f g : ℕ) (st : Store) (t : Tree) → Leaves (IsFree st) (apply (resolve f st) t) → apply (resolve (f + g) st) t ≡ apply (resolve f st) t
settled_more f g st t h = apply_alike _ _ t (resolve_add f g st) ∙ sym (apply-apply (resolve g st) (resolve f st) t) ∙ over_free st (resolve g st) (resolve_free g st) (apply (resolve f st) t) h

-- Stores of the same bindings.
pub resolve_same : (before after : Store) → ((k : VarKind) (n : ℕ) → bound_term before k n ≡ bound_term after k n) → (f : ℕ) (k : VarKind) (n : ℕ) → resolve f before k n ≡ resolve f after k n
unfolding resolve
resolve_same before after h zero k n = refl
resolve_same before after h (suc f) k n = go (resolve_same before after h f) (has_term before k n)
  where
    go : ((j : VarKind) (m : ℕ) → resolve f before j m ≡ resolve f after j m) → HasTerm before k n → resolve (suc f) before k n ≡ resolve (suc f) after k n
    go ih (is_free e) = resolve_free (suc f) before k n e ∙ sym (resolve_free (suc f) after k n (sym (h k n) ∙ e))
    go ih (is_bound t e) = resolve_bound f before k n t e ∙ apply_alike _ _ t ih ∙ sym (resolve_bound f after k n t (sym (h k n) ∙ e))

pub resolved_same : (before after : Store) → ((k : VarKind) (n : ℕ) → bound_term before k n ≡ bound_term after k n) → all_taken before ≡ all_taken after → (k : VarKind) (n : ℕ) → resolved before k n ≡ resolved after k n
unfolding resolved
resolved_same before after h e k n = resolve_same before after h (rounds_for (all_taken before)) k n ∙ ap (λ z. resolve (rounds_for z) after k n) e

-- What meets the bindings comes of what they come to.
general_through : (st : Store) (s : Assign) → MeetsBindings st s → (f : ℕ) (k : VarKind) (n : ℕ) → s k n ≡ apply s (resolve f st k n)
unfolding resolve
general_through st s h zero k n = refl
general_through st s h (suc f) k n = go (general_through st s h f) (has_term st k n)
  where
    go : ((j : VarKind) (m : ℕ) → s j m ≡ apply s (resolve f st j m)) → HasTerm st k n → s k n ≡ apply s (resolve (suc f) st k n)
    go ih (is_free e) = sym (ap (apply s) (resolve_free (suc f) st k n e))
    go ih (is_bound t e) = h k n t e ∙ apply_alike s (λ j m. apply s (resolve f st j m)) t ih ∙ sym (apply-apply s (resolve f st) t) ∙ sym (ap (apply s) (resolve_bound f st k n t e))

pub general : (st : Store) (s : Assign) → MeetsBindings st s → (k : VarKind) (n : ℕ) → s k n ≡ apply s (resolved st k n)
unfolding resolved
general st s h k n = general_through st s h (rounds_for (all_taken st)) k n

pub resolved_free : (st : Store) (k : VarKind) (n : ℕ) → bound_term st k n ≡ None → resolved st k n ≡ leaf (variable k n)
unfolding resolved
resolved_free st k n e = resolve_free (rounds_for (all_taken st)) st k n e

pub resolved_weight : (st : Store) (k : VarKind) (n : ℕ) → bound_term st k n ≡ None → weight st (leaf (variable k n)) ≡ 1
unfolding weight
resolved_weight st k n e = ap size (resolved_free st k n e)

-- What the bindings come to meets them.
pub settled_meets : (st : Store) → ((k : VarKind) (n : ℕ) → Leaves (IsFree st) (resolved st k n)) → MeetsBindings st (resolved st)
unfolding resolved
settled_meets st h k n t e = let f = rounds_for (all_taken st) in
    sym (sym (resolve_bound f st k n t e) ∙ ap (λ z. resolve z st k n) one_more ∙ settled_more f 1 st (leaf (variable k n)) (h k n))
  where
    one_more : suc (rounds_for (all_taken st)) ≡ rounds_for (all_taken st) + 1
    one_more = omega arith

pub resolved_meets : (st : Store) → IsSound st → MeetsBindings st (resolved st)
resolved_meets st g = settled_meets st g.settles

-- What meets the bindings gives a term the value of what it comes to.
pub resolved_value : (st : Store) (s : Assign) → MeetsBindings st s → (t : Tree) → apply s t ≡ apply s (apply (resolved st) t)
resolved_value st s h t = apply_alike s (λ k n. apply s (resolved st k n)) t (general st s h) ∙ sym (apply-apply s (resolved st) t)

-- What a term comes to is over free variables.
settled_leaf : (st : Store) → IsSound st → (l : Leaf) → Leaves (IsFree st) (assigned (resolved st) l)
settled_leaf st g (variable k n) = g.settles k n
settled_leaf st g (bound k d i) = tt
settled_leaf st g (placeholder k u n) = tt
settled_leaf st g (atom x) = tt
settled_leaf st g unknown = tt

pub settled_term : (st : Store) → IsSound st → (t : Tree) → Leaves (IsFree st) (apply (resolved st) t)
settled_term st g t = Leaves-replace (IsFree st) (assigned (resolved st)) t (all_leaves _ (settled_leaf st g) t)

pub resolved_twice : (st : Store) → IsSound st → (t : Tree) → apply (resolved st) (apply (resolved st) t) ≡ apply (resolved st) t
resolved_twice st g t = over_free st (resolved st) (resolved_free st) (apply (resolved st) t) (settled_term st g t)

-- What has one value under all that meets the bindings comes to one term.
pub resolved_alike : (st : Store) → IsSound st → (t u : Tree) → ((s : Assign) → MeetsBindings st s → apply s t ≡ apply s u) → apply (resolved st) t ≡ apply (resolved st) u
resolved_alike st g t u h = h (resolved st) (resolved_meets st g)

pub weight_alike : (st : Store) → IsSound st → (t u : Tree) → ((s : Assign) → MeetsBindings st s → apply s t ≡ apply s u) → weight st t ≡ weight st u
unfolding weight
weight_alike st g t u h = ap size (resolved_alike st g t u h)

-- A free variable is no larger term's value in which it stands.
pub cycles_do_not_unify : (st : Store) (k : VarKind) (n : ℕ) (t : Tree) → Occurs k n (apply (resolved st) t) → apply (resolved st) t ≢ leaf (variable k n) → (s : Assign) → MeetsBindings st s → s k n ≡ apply s t → ⊥
cycles_do_not_unify st k n t o q s h e = occurs_check s k n (apply (resolved st) t) o q (e ∙ resolved_value st s h t)
