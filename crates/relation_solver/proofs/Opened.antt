-- The values of what new variables open.
use Rattle.std.proofs.Common.{◌≡◌, ℕ, cond, nat_lt, length, arith, List, [], ◌∷◌, refl, sym, ◌∙◌, ap}
use Rattle.std.proofs.Common.{ap₂, subst, map, All, get_or}
use Rattle.std.proofs.lemmas.List.Elements.{All-head, All-tail}
use Rattle.std.proofs.lemmas.Bool.{ltb-true, ltb-false, cond_both}
use Rattle.relation_terms.specs.Heads.{BoundKind, VarKind, Leaf, variable}
use Rattle.relation_terms.specs.Trees.{Tree, Assign, apply, inst, Leaves}
use Rattle.relation_terms.specs.Erasure.{erase}
use Rattle.relation_semantics.specs.Relation.{IsValueLeaf, StaysWithin}
use Rattle.relation_semantics.specs.Stores.{Store}
use Rattle.relation_semantics.specs.Stores.{MayStandFor, IsNamable, IsMade, universe_of, entry_term}
use Rattle.relation_semantics.specs.FirstOrder.{IsErasedSolution}
use Rattle.relation_semantics.specs.Steps.{AreNewVariables, MakesVariables, AgreeOn}
use Rattle.relation_semantics.proofs.Trees.{StaysIn, Leaves_map, apply-inst, apply_ground}
use Rattle.relation_semantics.proofs.StoreCalls.{bindings_are_met}
use Rattle.relation_semantics.proofs.NewVariables.{erased_agrees}
use Rattle.relation_semantics.proofs.Free.{free, free_holds}
use Rattle.relation_solver.specs.Solving.{OpenedAreUnconstrained}

-- No value is put into a term without variables.
closed_stays : (s : Assign) (l : Leaf) → IsValueLeaf l → StaysIn s l
closed_stays s (variable k n) h = absurd h
closed_stays s l h = tt

-- The value of an opened body, and of several.
pub opened_value : (s : Assign) (vars values : List Tree) (t : Tree) → Leaves IsValueLeaf t →
    map (apply s) vars ≡ values → apply s (inst vars 0 t) ≡ inst values 0 t
opened_value s vars values t h e =
    apply-inst s vars 0 t (Leaves_map IsValueLeaf (StaysIn s) (closed_stays s) t h) ∙
    (ap (λ v. inst v 0 (apply s t)) e ∙ ap (inst values 0) (apply_ground s t h))

pub opened_values : (s : Assign) (vars xs ts : List Tree) → All (Leaves IsValueLeaf) ts → map (apply s) vars ≡ xs →
    map (apply s) (map (inst vars 0) ts) ≡ map (inst xs 0) ts
opened_values s vars xs [] h e = refl
opened_values s vars xs (t ∷ ts) h e =
    ap₂ (λ a b. a ∷ b) (opened_value s vars xs t (All-head (Leaves IsValueLeaf) t ts h) e)
    (opened_values s vars xs ts (All-tail (Leaves IsValueLeaf) t ts h) e)

-- What satisfies a store in which variables were made satisfied the one before.
pub before_making : (before after : Store) (u : ℕ) (ks : List BoundKind) (vars : List Tree) →
    MakesVariables before after u ks vars → (s : Assign) → IsErasedSolution after s → IsErasedSolution before s
before_making before after u ks vars m s h = (
  λ k n i. let p = h.0 k n (m.later.grows k n i) in
      (p.0, p.1, p.2, subst (λ w. Leaves (IsNamable w) (s k n)) (m.same_universes k n i) p.3),
  λ k n t e. h.1 k n t (ap (entry_term k) (m.same_entries k n) ∙ e),
)

-- One assignment for the variables of a store, and another for all others.
abbrev joined : Store → Assign → Assign → Assign
joined st s s' k n = cond (nat_lt n (length (st.entries k))) (s k n) (s' k n)

module _ (st : Store) (s s' : Assign) where
  joined_both : (P : VarKind → ℕ → Tree → Type 0) (k : VarKind) (n : ℕ) → (IsMade st k n → P k n (s k n)) →
      ((IsMade st k n → ⊥) → P k n (s' k n)) → P k n (joined st s s' k n)
  joined_both P k n h i = cond_both (nat_lt n (length (st.entries k))) (s k n) (s' k n) (P k n)
      (λ e. h (ltb-true n (length (st.entries k)) e))
      (λ e. i (λ m. let l = ltb-false n (length (st.entries k)) e in omega arith))

  joined_old : (k : VarKind) (n : ℕ) → IsMade st k n → joined st s s' k n ≡ s k n
  joined_old k n m = joined_both (λ k n t. IsMade st k n → t ≡ s k n) k n (λ p q. refl) (λ p q. absurd (p q)) m

  joined_new : (k : VarKind) (n : ℕ) → (IsMade st k n → ⊥) → joined st s s' k n ≡ s' k n
  joined_new k n m = joined_both (λ k n t. t ≡ s' k n) k n (λ p. absurd (m p)) (λ p. refl)

-- New variables have the values of the other.
joined_values : (before after : Store) (s s' : Assign) (u : ℕ) (ks : List BoundKind) (xs : List Tree) →
    AreNewVariables before after u ks xs → map (apply (joined before s s')) xs ≡ map (apply s') xs
joined_values before after s s' u [] [] n = refl
joined_values before after s s' u (k ∷ ks) (x ∷ xs) n = ap₂ (λ a b. a ∷ b)
    (subst (λ z. apply (joined before s s') z ≡ apply s' z) (sym n.0.2)
    (joined_new before s s' n.0.0 n.0.1 n.0.4))
    (joined_values before after s s' u ks xs n.2)
joined_values before after s s' u [] (x ∷ xs) n = absurd n
joined_values before after s s' u (k ∷ ks) [] n = absurd n

pub opened_are_unconstrained : OpenedAreUnconstrained
opened_are_unconstrained before after u ks vars m g s xs h fit nam =
    let o = bindings_are_met before g in
    let r = m.unconstrained free o.0 xs
    (record { assigns = o.1; bindings = o.2; regions = λ k d i. free_holds o.0 (get_or before.constraints k d) })
    fit nam in
    let s' = joined before s r.0 in
    let agree : AgreeOn before s s' = λ k n i. sym (joined_old before s r.0 k n i) in (
      s',
      agree,
      (
        (
          λ k n i. joined_both before s r.0
              (λ k n t. MayStandFor k t × Leaves IsValueLeaf t × StaysWithin 0 t ×
              Leaves (IsNamable (universe_of after k n)) t) k n
              (λ p. let v = h.0 k n p in
              (v.0, v.1, v.2, subst (λ w. Leaves (IsNamable w) (s k n)) (sym (m.same_universes k n p)) v.3))
              (λ p. r.2.0.assigns k n i),
          λ k n t e. erased_agrees before s s' g (λ k n i. ap erase (agree k n i)) h.1 k n t
              (ap (entry_term k) (sym (m.same_entries k n)) ∙ e),
        ),
        joined_values before after s r.0 u ks vars m.are_new ∙ r.2.1,
      ),
    )
