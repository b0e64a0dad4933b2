-- What a context's steps keep up to erasure.
use Rattle.std.proofs.Common.{◌≡◌, ◌↔◌, ℕ, ◌<◌, refl, sym, ap, ◌∙◌, subst, length, get_or}
use Rattle.std.proofs.Common.{Result, Err}
use Rattle.term_enums.specs.declared.Variance.{Variance}
use Rattle.term_enums.specs.declared.Variance.TheVariants.{Invariant}
use Rattle.relation_terms.specs.Heads.{VarKind, type_var, int_var, float_var, const_var, region_var, region_sort, Admits, var_sort}
use Rattle.relation_terms.specs.Heads.{variable, bound, placeholder, atom, unknown}
use Rattle.relation_terms.specs.Trees.{Tree, leaf, node, bind, nil, cons, IsTerm, Assign, apply, Leaves}
use Rattle.relation_semantics.specs.Relation.{sort_of}
use Rattle.relation_folds.specs.Faults.{IfUnrelated}
use Rattle.relation_folds.specs.declared.error.RelateFault.{RelateFault}
use Rattle.relation_folds.specs.declared.error.RelateFault.TheVariants.{Memory, Budget, Unrelated}
use Rattle.relation_semantics.specs.Lawful.{ExactResult}
use Rattle.relation_semantics.specs.Stores.{Store, unbound, entry_of, entry_term, IsNamable, IsRegionIn, IsSound, IsAssignment, IsTermIn}
use Rattle.relation_semantics.specs.FirstOrder.{IsFirstOrder, IsFirstOrderStore, Unifies, IsErasedSolution}
use Rattle.relation_semantics.specs.Headline.{IsFirstOrderPair}
use Rattle.relation_semantics.specs.Errors.{IsReadAs, itself, by_class, by_binding}
use Rattle.relation_semantics.specs.Steps.{IsLater}
use Rattle.relation_semantics.specs.Outcomes.{Exact, ExactStep, NoUnifier, KeepsUnified}
use Rattle.relation_semantics.proofs.ReadAs.{read_resolves}
use Rattle.relation_semantics.proofs.Going.{later_itself}
use Rattle.relation_semantics.proofs.Erased.{erase_region}
use Rattle.relation_semantics.proofs.Standing.{made_of_term, stands_term, term_sort_of}

-- The value of a region of the context is a region.
region_kind_only : (k : VarKind) → Admits region_sort (var_sort k) → var_sort k ≡ region_sort
region_kind_only region_var h = refl
region_kind_only type_var h = absurd h
region_kind_only int_var h = absurd h
region_kind_only float_var h = absurd h
region_kind_only const_var h = absurd h

pub region_value : (st : Store) (s : Assign) (r : Tree) → IsAssignment st s → IsTerm region_sort r → IsTermIn st r → sort_of (apply s r) ≡ region_sort
region_value st s (leaf (variable k n)) a h i = term_sort_of k (s k n) (stands_term k (s k n) (a k n (made_of_term st k n i)).0) ∙ region_kind_only k h
region_value st s (leaf (bound k d n)) a h i = term_sort_of region_var (leaf (bound k d n)) h
region_value st s (leaf (placeholder k u n)) a h i = term_sort_of region_var (leaf (placeholder k u n)) h
region_value st s (leaf (atom y)) a h i = term_sort_of region_var (leaf (atom y)) h
region_value st s (leaf unknown) a h i = absurd h
region_value st s (node g ts) a h i = term_sort_of region_var (node g ts) h
region_value st s (bind ks t) a h i = absurd h
region_value st s nil a h i = absurd h
region_value st s (cons t u) a h i = absurd h

-- Terms and what they are read as.
module _ (st : Store) (g : IsSound st) (a b u w : Tree) (p : IsReadAs st a u) (q : IsReadAs st b w) where
  pub reads_unify : (s : Assign) → IsErasedSolution st s → Unifies s a b ↔ Unifies s u w
  reads_unify s sol =
      let i = (read_resolves st g a u p).same_erased s sol in
      let j = (read_resolves st g b w q).same_erased s sol in
      ((λ e. i ∙ e ∙ sym j), (λ e. sym i ∙ e ∙ j))

  pub reading_exact : ExactStep st st a b u w
  reading_exact = record {
    later = later_itself st;
    shrinks = λ s sol one. (sol, (reads_unify s sol).1 one);
    keeps = λ s sol one. (s, (λ k n m. refl), (sol, (reads_unify s sol).0 one));
  }

  pub step_read : (after : Store) (x y : Tree) → ExactStep st after u w x y → ExactStep st after a b x y
  step_read after x y f = record {
    later = f.later;
    shrinks = λ s sol one. let z = f.shrinks s sol one in (z.0, (reads_unify s z.0).1 z.1);
    keeps = λ s sol one. f.keeps s sol ((reads_unify s sol).0 one);
  }

  pub exact_read : (after : Store) → Exact st after u w → Exact st after a b
  exact_read after f = record {
    later = f.later;
    shrinks = λ s sol. let z = f.shrinks s sol in (z.0, (reads_unify s z.0).1 z.1);
    keeps = λ s sol one. f.keeps s sol ((reads_unify s sol).0 one);
  }

  pub unified_read : (after : Store) → KeepsUnified st after u w → KeepsUnified st after a b
  unified_read after f s sol one = f s sol ((reads_unify s sol).0 one)

  pub apart_read : NoUnifier st u w → NoUnifier st a b
  apart_read n s sol one = n s sol ((reads_unify s sol).0 one)

pub read_first_order : (st : Store) → IsFirstOrderStore st → (a u : Tree) → IsReadAs st a u → IsFirstOrder a →
    IsFirstOrder u
read_first_order st h a u (itself e) f = subst IsFirstOrder e f
read_first_order st h a u (by_class k n m e c r) f = read_first_order st h (leaf (variable k m)) u r tt
read_first_order st h a u (by_binding {u = x} k n e b r) f =
    read_first_order st h x u r (h k n x (ap (entry_term k) b))

pub read_pair : (st : Store) (a b u w : Tree) → IsReadAs st a u → IsReadAs st b w → IsFirstOrderPair st a b →
    IsFirstOrderPair st u w
read_pair st a b u w p q pair = record {
  left = read_first_order st pair.bindings a u p pair.left;
  right = read_first_order st pair.bindings b w q pair.right;
  bindings = pair.bindings;
}

-- Where entries and universes stand, so do the solutions up to erasure.
module _ (before after : Store) (entries : (k : VarKind) → after.entries k ≡ before.entries k)
    (universes : (k : VarKind) → after.universes k ≡ before.universes k) where
  solutions_stand : (s : Assign) → IsErasedSolution before s → IsErasedSolution after s
  solutions_stand s sol = (
    λ k n m. let z = sol.0 k n (subst (λ es. n < length es) (entries k) m) in (
      z.0,
      z.1,
      z.2,
      subst (λ us. Leaves (IsNamable (get_or us n 0)) (s k n)) (sym (universes k)) z.3,
    ),
    λ k n t e. sol.1 k n t (ap (entry_term k) (entry_stands k n) ∙ e),
  )
    where
      entry_stands : (k : VarKind) (n : ℕ) → entry_of before k n ≡ entry_of after k n
      entry_stands k n = sym (ap (λ es. get_or es n unbound) (entries k))

  first_order_stands : IsFirstOrderStore before → IsFirstOrderStore after
  first_order_stands h k n t e =
      h k n t (ap (entry_term k) (sym (ap (λ es. get_or es n unbound) (entries k))) ∙ e)

-- Recording a constraint on two regions is exact.
module _ (before after : Store) (a b : Tree) (left : IsRegionIn before a) (right : IsRegionIn before b)
    (l : IsLater before after) (entries : (k : VarKind) → after.entries k ≡ before.entries k)
    (universes : (k : VarKind) → after.universes k ≡ before.universes k) where
  pub regions_exactly : IsFirstOrderStore before → IsFirstOrderStore after × Exact before after a b
  regions_exactly h = (
    first_order_stands before after entries universes h,
    record {
      later = l;
      shrinks = λ s sol.
          let was = solutions_stand after before (λ k. sym (entries k)) (λ k. sym (universes k)) s sol in (
            was,
            erase_region (apply s a) (region_value before s a was.0 left.0 left.1)
                ∙ sym (erase_region (apply s b) (region_value before s b was.0 right.0 right.1)),
          );
      keeps = λ s sol one. (s, (λ k n m. refl), solutions_stand before after entries universes s sol);
    },
  )

-- A type error says that nothing unifies.
module _ {Key Id Name : Type 0} (v : Variance) (before after : Store) (a b : Tree) where
  unrelated : (X Y : Type 0) (f : RelateFault Key Id Name) → (v ≡ Invariant → IsFirstOrderPair before a b →
      ExactResult {X = X} before after a b (Err f)) →
      IfUnrelated {A = Y} (Err f) (λ e. v ≡ Invariant → IsFirstOrderPair before a b → NoUnifier before a b)
  unrelated X Y (Unrelated e) h = λ is pair. (h is pair).0
  unrelated X Y Budget h = tt
  unrelated X Y Memory h = tt

  pub unrelated_apart : {X Y : Type 0} (tree : X → Tree) (res : Result Y (RelateFault Key Id Name))
      (f : RelateFault Key Id Name) → res ≡ Err f →
      (v ≡ Invariant → IsFirstOrderPair before a b → ExactResult {X = X} before after a b (Err f)) →
      IfUnrelated res (λ e. v ≡ Invariant → IsFirstOrderPair before a b → NoUnifier before a b)
  unrelated_apart {X} {Y} tree res f is h =
      subst (λ z. IfUnrelated z (λ e. v ≡ Invariant → IsFirstOrderPair before a b → NoUnifier before a b)) (sym is)
      (unrelated X Y f h)
