-- Two unbound variables of a kind were made one, or one variable was equated with itself.
use Rattle.std.proofs.Common.{◌≡◌, ◌≢◌, ◌⊎◌, ℕ, ◌≤◌, max, min, refl, sym, ap, ap₂, ◌∙◌, arith, inl, inr, subst, subst₂, Some, []}
use native.Mathlib.Decide.{ℕ_discrete, dec_le}
use Rattle.relation_terms.specs.Heads.{VarKind, region_var, variable}
use Rattle.relation_terms.specs.Trees.{Tree, leaf, Assign, apply}
use Rattle.relation_terms.specs.Erasure.{erase}
use Rattle.relation_semantics.specs.Relation.{Interpretation}
use Rattle.relation_semantics.specs.Stores.{Store, same_as, entry_term, bound_term, IsSound, Satisfies}
use Rattle.relation_semantics.specs.FirstOrder.{IsFirstOrder, IsFirstOrderStore}
use Rattle.relation_semantics.specs.Steps.{Equates, StaysFull}
use Rattle.relation_semantics.specs.Alphabets.{IsBuiltOf, StaysBuilt}
use Rattle.relation_semantics.specs.Measures.{Goes}
use Rattle.relation_semantics.specs.Outcomes.{Exact}
use Rattle.relation_semantics.proofs.Only.{which}
use Rattle.relation_semantics.proofs.Written.{OtherTerm, term_stays, term_led, others}
use Rattle.relation_semantics.proofs.Going.{later_itself, goes_nowhere, goes_within}
use Rattle.relation_semantics.specs.OneUniverse.{KeepsUniverse}
use Rattle.relation_semantics.proofs.Full.{full_same}
use Rattle.relation_semantics.proofs.Equating.{equated_goes, equated_later, equated_full, equated_value, equated_keeps}
use Rattle.relation_semantics.proofs.OneUniverse.{keeps_itself, equated_keeps_universe}
use Rattle.relation_semantics.proofs.StoreCalls.{equating_is_exact}
use Rattle.relation_semantics.proofs.BuildingSteps.{built_same, built_equated}

-- One variable got an entry, of a first-order term.
pub written_first_order : (before after : Store) (k : VarKind) (n : ℕ) (t : Tree) → bound_term after k n ≡ Some t →
    ((j : VarKind) (i : ℕ) → (j ≡ k → i ≡ n → ⊥) → OtherTerm before after k n t j i) → IsFirstOrder t →
    IsFirstOrderStore before → IsFirstOrderStore after
written_first_order before after k n t now same f h j i u e = go (which j k i n)
  where
    go : ((j ≡ k) × (i ≡ n)) ⊎ (j ≡ k → i ≡ n → ⊥) → IsFirstOrder u
    go (inl (p, q)) =
        let z : bound_term after j i ≡ bound_term after k n = ap₂ (bound_term after) p q in
        let is : t ≡ u = cc (z, e, now) in
        subst IsFirstOrder is f
    go (inr o) = other (same j i o)
      where
        other : OtherTerm before after k n t j i → IsFirstOrder u
        other (term_stays r) = h j i u (sym r ∙ e)
        other (term_led a b c) = let is : t ≡ u = cc (c, e) in subst IsFirstOrder is f

pub exact_turned : (before after : Store) (a b : Tree) → Exact before after a b → Exact before after b a
exact_turned before after a b f = record {
  later = f.later;
  shrinks = λ s sol. let z = f.shrinks s sol in (z.0, sym z.1);
  keeps = λ s sol one. f.keeps s sol (sym one);
}

pub exact_itself : (st : Store) (a b : Tree) → a ≡ b → Exact st st a b
exact_itself st a b e = record {
  later = later_itself st;
  shrinks = λ s sol. (sol, ap (λ z. erase (apply s z)) e);
  keeps = λ s sol one. (s, (λ k n m. refl), sol);
}

-- Of the two in order, the larger leads to the smaller.
larger_first : (f : ℕ → Tree) (x y : ℕ) → f (max x y) ≡ f (min x y) → f x ≡ f y
larger_first f x y e = go (dec_le x y)
  where
    go : Dec (x ≤ y) → f x ≡ f y
    go (yes h) = ap f (let z : x ≡ min x y = omega arith in z) ∙ sym e ∙ ap f (let z : max x y ≡ y = omega arith in z)
    go (no h) = ap f (let z : x ≡ max x y = omega arith in z) ∙ e ∙ ap f (let z : min x y ≡ y = omega arith in z)

in_order : (f : ℕ → Tree) (x y : ℕ) → f x ≡ f y → f (max x y) ≡ f (min x y)
in_order f x y e = go (dec_le x y)
  where
    go : Dec (x ≤ y) → f (max x y) ≡ f (min x y)
    go (yes h) = ap f (let z : max x y ≡ y = omega arith in z) ∙ sym e ∙ ap f (let z : x ≡ min x y = omega arith in z)
    go (no h) = ap f (let z : max x y ≡ x = omega arith in z) ∙ e ∙ ap f (let z : y ≡ min x y = omega arith in z)

module _ (before after : Store) (k : VarKind) (no_region : k ≢ region_var) (x y : ℕ) (g : IsSound before)
    (stays : x ≡ y → after ≡ before)
    (q : (x ≡ y → ⊥) → Equates before after k (max x y) (min x y)) where
  abbrev var : ℕ → Tree
  var n = leaf (variable k n)

  pub roots_goes : (N : ℕ) → Goes N before after
  roots_goes N = go (ℕ_discrete x y)
    where
      go : Dec (x ≡ y) → Goes N before after
      go (yes e) = subst (Goes N before) (sym (stays e)) (goes_nowhere N before)
      go (no o) = goes_within (omega arith) (equated_goes before after k (max x y) (min x y) (q o) g no_region)

  -- They are bound to no binder.
  pub roots_full : StaysFull before after
  roots_full = go (ℕ_discrete x y)
    where
      go : Dec (x ≡ y) → StaysFull before after
      go (yes e) = full_same (stays e)
      go (no o) = equated_full before after k (max x y) (min x y) (q o) g no_region

  -- Nothing that is built of anything was bound.
  pub roots_built : (a b : Tree) → a ≡ var x → StaysBuilt before after [] a b
  roots_built a b is = go (ℕ_discrete x y)
    where
      go : Dec (x ≡ y) → StaysBuilt before after [] a b
      go (yes e) = built_same a b (stays e)
      go (no o) = built_equated a b (q o) (λ j ha. subst (IsBuiltOf j) is ha no_region)

  pub roots_equal : (w : Interpretation) (s : Assign) → Satisfies w after s → s k x ≡ s k y
  roots_equal w s sat = go (ℕ_discrete x y)
    where
      go : Dec (x ≡ y) → s k x ≡ s k y
      go (yes e) = ap (s k) e
      go (no o) = larger_first (s k) x y
          (equated_value before after k (max x y) (min x y) (q o) g no_region w s sat)

  pub roots_keep : (w : Interpretation) (s : Assign) → Satisfies w before s → s k x ≡ s k y → Satisfies w after s
  roots_keep w s sat one = go (ℕ_discrete x y)
    where
      go : Dec (x ≡ y) → Satisfies w after s
      go (yes e) = subst (λ st. Satisfies w st s) (sym (stays e)) sat
      go (no o) = equated_keeps before after k (max x y) (min x y) (q o) g no_region w s sat (in_order (s k) x y one)

  -- They stay in their universe.
  pub roots_universe : KeepsUniverse before after
  roots_universe = go (ℕ_discrete x y)
    where
      go : Dec (x ≡ y) → KeepsUniverse before after
      go (yes e) = subst (KeepsUniverse before) (sym (stays e)) (keeps_itself before)
      go (no o) = equated_keeps_universe before after k (max x y) (min x y) (q o)
          (equated_later before after k (max x y) (min x y) (q o) g no_region)

  -- It is exact.
  pub roots_exactly : IsFirstOrderStore before → IsFirstOrderStore after × Exact before after (var x) (var y)
  roots_exactly h = go (ℕ_discrete x y)
    where
      one : (x ≡ y → ⊥) → Exact before after (var (max x y)) (var (min x y))
      one o = (equating_is_exact before after k (max x y) (min x y) no_region (q o) g).1

      go : Dec (x ≡ y) → IsFirstOrderStore after × Exact before after (var x) (var y)
      go (yes e) = subst (λ st. IsFirstOrderStore st × Exact before st (var x) (var y)) (sym (stays e))
          (h, exact_itself before (var x) (var y) (ap var e))
      go (no o) = (
        written_first_order before after k (max x y) (var (min x y)) (ap (entry_term k) ((q o).links).written)
            (others before after k (max x y) (same_as (min x y)) (var (min x y)) (q o).links refl) tt h,
        order (dec_le x y),
      )
        where
          order : Dec (x ≤ y) → Exact before after (var x) (var y)
          order (yes l) =
              let top : max x y ≡ y = omega arith in
              let low : min x y ≡ x = omega arith in
              exact_turned before after (var y) (var x) (subst₂ (λ i j. Exact before after (var i) (var j)) top low (one o))
          order (no l) =
              let top : max x y ≡ x = omega arith in
              let low : min x y ≡ y = omega arith in
              subst₂ (λ i j. Exact before after (var i) (var j)) top low (one o)
