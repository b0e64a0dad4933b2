-- Binders that bind by their lists, in what terms come to.
use Rattle.std.proofs.Common.{◌≡◌, ℕ, zero, suc, ◌<◌, ◌≤◌, refl, sym, ap, ◌∙◌, subst, Some, List, arith}
use Rattle.relation_terms.specs.Heads.{BoundKind, VarKind}
use Rattle.relation_terms.specs.Heads.{variable, bound, placeholder, atom, unknown}
use Rattle.relation_terms.specs.Trees.{Tree, leaf, node, bind, nil, cons, Assign, apply}
use Rattle.relation_semantics.specs.Stores.{Store, Entry, unbound, same_as, bound_to, entry_of, entry_term, bound_term}
use Rattle.relation_semantics.specs.Stores.{IsSound, resolve, rounds_for, all_taken, resolved}
use Rattle.relation_semantics.specs.Relation.{StaysWithin}
use Rattle.relation_semantics.specs.Bound.{AreBoundAs, IsWellBound}
use Rattle.relation_semantics.specs.ContextCalls.{BindingsAreWellBound}
use Rattle.relation_semantics.proofs.StoreCalls.{resolve_within}
use Rattle.relation_semantics.proofs.Resolved.{resolve_free, resolve_bound, HasTerm, is_free, is_bound, has_term}

-- A binder further out than `d` steps binds nothing in what stays within them, and so binds by any list there.
within_bound : (ks : List BoundKind) (d e : ℕ) (t : Tree) → StaysWithin d t → d ≤ e → AreBoundAs ks e t
within_bound ks d e (leaf (variable k n)) s l = tt
within_bound ks d e (leaf (bound k c i)) s l = λ q. let below : c < d = s in absurd (omega (arith, below, l, q))
within_bound ks d e (leaf (placeholder k u n)) s l = tt
within_bound ks d e (leaf (atom x)) s l = tt
within_bound ks d e (leaf unknown) s l = tt
within_bound ks d e (node h ts) s l = within_bound ks d e ts s l
within_bound ks d e (bind ls t) s l = within_bound ks (suc d) (suc e) t s (omega (arith, l))
within_bound ks d e nil s l = tt
within_bound ks d e (cons t ts) s l = (within_bound ks d e t s.0 l, within_bound ks d e ts s.1 l)

-- A binder binds by its list after variables were replaced by terms from which nothing escapes.
bound_apply : (s : Assign) → ((k : VarKind) (n : ℕ) → StaysWithin 0 (s k n)) → (ks : List BoundKind) (d : ℕ) (t : Tree) →
    AreBoundAs ks d t → AreBoundAs ks d (apply s t)
bound_apply s w ks d (leaf (variable k n)) b = within_bound ks 0 d (s k n) (w k n) (omega arith)
bound_apply s w ks d (leaf (bound k e i)) b = b
bound_apply s w ks d (leaf (placeholder k u n)) b = b
bound_apply s w ks d (leaf (atom x)) b = b
bound_apply s w ks d (leaf unknown) b = b
bound_apply s w ks d (node h ts) b = bound_apply s w ks d ts b
bound_apply s w ks d (bind ls t) b = bound_apply s w ks (suc d) t b
bound_apply s w ks d nil b = b
bound_apply s w ks d (cons t ts) b = (bound_apply s w ks d t b.0, bound_apply s w ks d ts b.1)

-- So do all binders, where those of each such term do.
apply_by_lists : (s : Assign) → ((k : VarKind) (n : ℕ) → StaysWithin 0 (s k n)) →
    ((k : VarKind) (n : ℕ) → IsWellBound (s k n)) → (t : Tree) → IsWellBound t → IsWellBound (apply s t)
apply_by_lists s w f (leaf (variable k n)) b = f k n
apply_by_lists s w f (leaf (bound k d i)) b = b
apply_by_lists s w f (leaf (placeholder k u n)) b = b
apply_by_lists s w f (leaf (atom x)) b = b
apply_by_lists s w f (leaf unknown) b = b
apply_by_lists s w f (node h ts) b = apply_by_lists s w f ts b
apply_by_lists s w f (bind ks t) b = (bound_apply s w ks 0 t b.0, apply_by_lists s w f t b.1)
apply_by_lists s w f nil b = b
apply_by_lists s w f (cons t ts) b = (apply_by_lists s w f t b.0, apply_by_lists s w f ts b.1)

-- So do those of what a term comes to, where those of each binding do.
module _ (st : Store) (g : IsSound st) (all : BindingsAreWellBound st) where
  entry_by_lists : (k : VarKind) (n : ℕ) (t : Tree) → bound_term st k n ≡ Some t → IsWellBound t
  entry_by_lists k n t p = go (entry_of st k n) refl
    where
      go : (e : Entry) → entry_of st k n ≡ e → IsWellBound t
      go unbound q = absurd (let h = ap (entry_term k) q in cc (h, p))
      go (same_as m) q =
          let h : Some (leaf (variable k m)) ≡ Some t = sym (ap (entry_term k) q) ∙ p in
          let i : leaf (variable k m) ≡ t = cc in
          subst IsWellBound i tt
      go (bound_to u) q =
          let h : Some u ≡ Some t = sym (ap (entry_term k) q) ∙ p in
          let i : u ≡ t = cc in
          subst IsWellBound i (all k n u q)

  resolve_by_lists : (f : ℕ) (k : VarKind) (n : ℕ) → IsWellBound (resolve f st k n)
  unfolding resolve
  resolve_by_lists zero k n = tt
  resolve_by_lists (suc f) k n = go (resolve_by_lists f) (has_term st k n)
    where
      go : ((j : VarKind) (i : ℕ) → IsWellBound (resolve f st j i)) → HasTerm st k n → IsWellBound (resolve (suc f) st k n)
      go ih (is_free e) = subst IsWellBound (sym (resolve_free (suc f) st k n e)) tt
      go ih (is_bound t e) = subst IsWellBound (sym (resolve_bound f st k n t e))
          (apply_by_lists (resolve f st) (resolve_within st g f) ih t (entry_by_lists k n t e))

  pub resolved_by_lists : (t : Tree) → IsWellBound t → IsWellBound (apply (resolved st) t)
  unfolding resolved
  resolved_by_lists t b =
      let f = rounds_for (all_taken st) in
      apply_by_lists (resolve f st) (resolve_within st g f) (resolve_by_lists f) t b
