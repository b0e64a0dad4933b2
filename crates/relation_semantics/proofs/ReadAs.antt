-- What is read by the entries of a store.
use Rattle.std.proofs.Common.{◌≡◌, ℕ, refl, sym, ap, ◌∙◌, subst, Some}
use Rattle.relation_terms.specs.Heads.{VarKind, type_var, variable}
use Rattle.relation_terms.specs.Trees.{Tree, leaf, Assign, apply}
use Rattle.relation_terms.specs.Erasure.{erase}
use Rattle.relation_semantics.specs.Stores.{Store, same_as, bound_to, entry_of, entry_term, bound_term, MeetsBindings, IsTermIn, IsSound, resolved, weight}
use Rattle.relation_semantics.specs.Steps.{IsLater, AreEquated, Resolves}
use Rattle.relation_semantics.specs.Errors.{IsReadAs, itself, by_class, by_binding}
use Rattle.relation_semantics.proofs.Classes.{class_next, class_alike, class_made, class_later, binding_later}
use Rattle.relation_semantics.proofs.Standing.{made_of_term, term_of_made}
use Rattle.relation_semantics.proofs.Resolved.{resolved_meets, weight_alike}

pub read_then : (st : Store) (t u v : Tree) → IsReadAs st t u → IsReadAs st u v → IsReadAs st t v
read_then st t u v (itself e) h = subst (λ z. IsReadAs st z v) (sym e) h
read_then st t u v (by_class k n m e c r) h = by_class k n m e c (read_then st (leaf (variable k m)) u v r h)
read_then st t u v (by_binding {u = x} k n e b r) h = by_binding k n e b (read_then st x u v r h)

-- Classes and what they are bound to stand, and so does what is read by them.
pub read_later : (before after : Store) → IsLater before after → (t u : Tree) → IsReadAs before t u → IsReadAs after t u
read_later before after l t u (itself e) = itself e
read_later before after l t u (by_class k n m e c r) =
    by_class k n m e (class_later before after l k n m c) (read_later before after l (leaf (variable k m)) u r)
read_later before after l t u (by_binding {u = x} k n e b r) =
    by_binding k n e (binding_later before after l k n x b) (read_later before after l x u r)

-- All of a class have one value.
class_value : (st : Store) (s : Assign) → MeetsBindings st s → (k : VarKind) (n m : ℕ) → AreEquated st k n m → s k n ≡ s k m
class_value st s h k n m c = class_alike st k (s k) (λ i p e. h k i (leaf (variable k p)) (ap (entry_term k) e)) n m c

pub read_value : (st : Store) (s : Assign) → MeetsBindings st s → (t u : Tree) → IsReadAs st t u → apply s t ≡ apply s u
read_value st s h t u (itself e) = ap (apply s) e
read_value st s h t u (by_class k n m e c r) = ap (apply s) e ∙ class_value st s h k n m c ∙ read_value st s h (leaf (variable k m)) u r
read_value st s h t u (by_binding {u = x} k n e b r) = ap (apply s) e ∙ h k n x (ap (entry_term k) b) ∙ read_value st s h x u r

-- Reading a term resolves it.
pub read_resolves : (st : Store) → IsSound st → (t u : Tree) → IsReadAs st t u → Resolves st t u
read_resolves st g t u r = record {
  is_in = is_in t u r;
  same_resolved = sym (read_value st (resolved st) (resolved_meets st g) t u r);
  same_value = λ w s sat. sym (read_value st s sat.bindings t u r);
  same_erased = λ s h. sym (erased s h.1 t u r);
}
  where
    is_in : (t u : Tree) → IsReadAs st t u → IsTermIn st t → IsTermIn st u
    is_in t u (itself e) h = subst (IsTermIn st) e h
    is_in t u (by_class k n m e c r) h = is_in (leaf (variable k m)) u r
        (term_of_made st k m (class_made st g k n m c (made_of_term st k n (subst (IsTermIn st) e h))))
    is_in t u (by_binding {u = x} k n e b r) h = is_in x u r (g.bindings k n x (ap (entry_term k) b)).is_in

    erased : (s : Assign) → ((k : VarKind) (n : ℕ) (t : Tree) → bound_term st k n ≡ Some t → erase (s k n) ≡ erase (apply s t)) → (t u : Tree) → IsReadAs st t u → erase (apply s t) ≡ erase (apply s u)
    erased s h t u (itself e) = ap (λ z. erase (apply s z)) e
    erased s h t u (by_class k n m e c r) = ap (λ z. erase (apply s z)) e
        ∙ class_alike st k (λ i. erase (s k i)) (λ i p q. h k i (leaf (variable k p)) (ap (entry_term k) q)) n m c
        ∙ erased s h (leaf (variable k m)) u r
    erased s h t u (by_binding {u = x} k n e b r) =
        ap (λ z. erase (apply s z)) e ∙ h k n x (ap (entry_term k) b) ∙ erased s h x u r

-- What a variable's entry says of it.
pub read_same : (st : Store) (n p : ℕ) → entry_of st type_var n ≡ same_as p → IsReadAs st (leaf (variable type_var n)) (leaf (variable type_var p))
read_same st n p e = by_class type_var n p refl (class_next st type_var n p e) (itself refl)

pub read_bound : (st : Store) (n : ℕ) (t : Tree) → entry_of st type_var n ≡ bound_to t → IsReadAs st (leaf (variable type_var n)) t
read_bound st n t e = by_binding type_var n refl e (itself refl)

pub read_weight : (st : Store) → IsSound st → (t u : Tree) → IsReadAs st t u → weight st t ≡ weight st u
read_weight st g t u r = weight_alike st g t u (λ s h. read_value st s h t u r)
