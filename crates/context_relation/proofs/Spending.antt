-- How many instantiations relating makes, of first-order terms in one universe.
use Rattle.std.proofs.Common.{◌≡◌, ℕ, ◌+◌, ◌<◌, ◌≤◌, sym, arith, subst, Result, Ok, Err}
use Rattle.term_enums.specs.declared.Variance.{Variance}
use Rattle.term_enums.specs.declared.Variance.TheVariants.{Invariant}
use Rattle.relation_terms.specs.Trees.{Tree}
use Rattle.relation_folds.specs.declared.error.RelateFault.{RelateFault}
use Rattle.relation_folds.specs.declared.error.RelateFault.TheVariants.{Memory, Budget, Unrelated}
use Rattle.relation_folds.specs.Faults.{IfSpent}
use Rattle.relation_semantics.specs.Stores.{Store, all_bound}
use Rattle.relation_semantics.specs.Measures.{Goes}
use Rattle.relation_semantics.specs.Headline.{IsFirstOrderPair}
use Rattle.relation_semantics.specs.Lawful.{State, Manners, Related}
use Rattle.relation_semantics.specs.OneUniverse.{IsPairOf, all_unbound, all_roots}
use Rattle.relation_semantics.proofs.OneUniverse.{roots_are, bound_below}

-- Where no more variables are bound than there were, and where fewer are and nothing is left.
module _ {n : ℕ} {was now : Store} (goes : Goes n was now) where
  within : all_bound now ≤ all_roots was → was.budget ≤ now.budget + all_unbound was
  within h = let c = goes.counts in let d = goes.binds in let r = roots_are was in omega (arith, h, c, d, r)

  fewer : now.budget ≡ 0 → all_bound now < all_roots was → was.budget < all_unbound was
  fewer e h = let c = goes.counts in let d = goes.binds in let r = roots_are was in omega (arith, e, h, c, d, r)

-- At most as many instantiations were made as there were unresolved variables.
module _ {Key Id Name X : Type 0} {r q : State Key Id Name} (M : Manners) (v : Variance) (a b : Tree) (tree : X → Tree)
    (exact : (M r.kept.settings).is_exact) (is : v ≡ Invariant) (pair : IsFirstOrderPair r.store a b) (u : ℕ)
    (one : IsPairOf u r.store a b) where
  pub spends_no_more : (res : Result X (RelateFault Key Id Name)) → Related M r q v a b tree res →
      ((r.store).budget ≤ (q.store).budget + all_unbound r.store) ×
      IfSpent res ((r.store).budget < all_unbound r.store)
  spends_no_more (Ok x) h =
      let z = ((h.exact exact is pair).2 u one).1 in let o = bound_below q.store in
      let low : all_bound q.store ≤ all_roots r.store = omega (arith, z, o) in (within (h.passes).goes low, tt)
  spends_no_more (Err (Unrelated e)) h = (within (h.passes).goes ((h.exact exact is pair).1 u one), tt)
  spends_no_more (Err Budget) h =
      let z : all_bound q.store < all_roots r.store = (h.exact exact is pair).0 u one in
      let low : all_bound q.store ≤ all_roots r.store = omega (arith, z) in
      (within (h.passes).goes low, fewer (h.passes).goes (h.verdict).0 z)
  spends_no_more (Err Memory) h = (within (h.passes).goes ((h.exact exact is pair).0 u one), tt)

-- The same fault, of whatever was to be answered.
pub spent_as : {X Y Key Id Name : Type 0} (P : Type 0) (res : Result X (RelateFault Key Id Name))
    (other : Result Y (RelateFault Key Id Name)) (f : RelateFault Key Id Name) → res ≡ Err f → other ≡ Err f →
    IfSpent res P → IfSpent other P
spent_as {X} {Y} {Key} {Id} {Name} P res other f e d h =
    subst (λ z. IfSpent z P) (sym d) (go f (subst (λ z. IfSpent z P) e h))
  where
    go : (f : RelateFault Key Id Name) → IfSpent {A = X} (Err f) P → IfSpent {A = Y} (Err f) P
    go (Unrelated g) h = tt
    go Budget h = h
    go Memory h = tt
