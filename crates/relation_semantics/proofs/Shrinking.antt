-- Up to erasure too a later store has only lost solutions; and it is first-order only where the earlier one is.
use Rattle.std.proofs.Common.{◌≡◌, ℕ, refl, sym, ap, ◌∙◌, subst, Some}
use Rattle.relation_terms.specs.Heads.{VarKind, variable}
use Rattle.relation_terms.specs.Trees.{Tree, leaf, Assign}
use Rattle.relation_terms.specs.Erasure.{erase}
use Rattle.relation_semantics.specs.Stores.{Store, Entry, unbound, same_as, bound_to, entry_of, entry_term, universe_of, IsAssignment}
use Rattle.relation_semantics.specs.Steps.{IsLater, LeadsTo, here, next, AreEquated, EntryStands}
use Rattle.relation_semantics.specs.FirstOrder.{Unifies, IsErasedSolution, IsFirstOrder, IsFirstOrderStore}
use Rattle.relation_semantics.proofs.Trees.{Leaves_map}
use Rattle.relation_semantics.proofs.Standing.{namable_mono}
use Rattle.std.proofs.lemmas.Option.{same_Some}

module _ (before after : Store) (l : IsLater before after) where
  stands : (k : VarKind) (n : ℕ) (x : Entry) → entry_of before k n ≡ x → EntryStands after k x (entry_of after k n)
  stands k n x e = subst (λ z. EntryStands after k z (entry_of after k n)) e (l.entries_stand k n)

  module _ (s : Assign) (sol : IsErasedSolution after s) where
    leads_one : (k : VarKind) (n m : ℕ) → LeadsTo after k n m → erase (s k n) ≡ erase (s k m)
    leads_one k n m (here e) = ap (λ z. erase (s k z)) e
    leads_one k n m (next {p = p} e h) =
        sol.1 k n (leaf (variable k p)) (ap (entry_term k) e) ∙ leads_one k p m h

    class_one : (k : VarKind) (n m : ℕ) → AreEquated after k n m → erase (s k n) ≡ erase (s k m)
    class_one k n m c = leads_one k n c.0 c.1 ∙ sym (leads_one k m c.0 c.2)

    meets : (k : VarKind) (n : ℕ) (t : Tree) (x : Entry) → entry_of before k n ≡ x → entry_term k x ≡ Some t →
        Unifies s (leaf (variable k n)) t
    meets k n t unbound e h = absurd cc
    meets k n t (same_as m) e h =
        let z = stands k n (same_as m) e in
        subst (Unifies s (leaf (variable k n))) (same_Some _ _ h)
        (sol.1 k n (leaf (variable k z.0)) (ap (entry_term k) z.1) ∙ sym (class_one k m z.0 z.2))
    meets k n t (bound_to u) e h =
        subst (Unifies s (leaf (variable k n))) (same_Some _ _ h) (sol.1 k n u (ap (entry_term k) (stands k n (bound_to u) e)))

    assigns : IsAssignment before s
    assigns k n made = let z = sol.0 k n (l.grows k n made) in
        (z.0, z.1, z.2, Leaves_map _ _ (namable_mono (universe_of after k n) (universe_of before k n) (l.universes_fall k n made)) (s k n) z.3)

    pub solved_before : IsErasedSolution before s
    solved_before = (assigns, λ k n t h. meets k n t (entry_of before k n) refl h)

  first : (k : VarKind) (n : ℕ) (t : Tree) (x : Entry) → IsFirstOrderStore after → entry_of before k n ≡ x →
      entry_term k x ≡ Some t → IsFirstOrder t
  first k n t unbound f e h = absurd cc
  first k n t (same_as m) f e h = subst IsFirstOrder (same_Some _ _ h) tt
  first k n t (bound_to u) f e h = subst IsFirstOrder (same_Some _ _ h) (f k n u (ap (entry_term k) (stands k n (bound_to u) e)))

  pub first_order_before : IsFirstOrderStore after → IsFirstOrderStore before
  first_order_before f k n t h = first k n t (entry_of before k n) f refl h
