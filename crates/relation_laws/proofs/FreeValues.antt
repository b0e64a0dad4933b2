-- The values of variables that have no term are free: those that are there, and that of a new variable.
use Rattle.std.proofs.Common.{◌≡◌, ℕ, sym, ap, ◌∙◌, None}
use Rattle.relation_terms.specs.Heads.{VarKind, Leaf, variable, bound, placeholder, atom, unknown}
use Rattle.relation_terms.specs.Trees.{Assign, assigned, apply, Leaves}
use Rattle.relation_terms.specs.Erasure.{erase}
use Rattle.relation_semantics.specs.Relation.{IsValueLeaf}
use Rattle.relation_semantics.specs.Stores.{Store, bound_term, universe_of, IsMade, IsInScope, IsNamable, IsAssignment}
use Rattle.relation_semantics.specs.Stores.{MeetsBindings, resolved}
use Rattle.relation_semantics.specs.FirstOrder.{MeetsErased}
use Rattle.relation_semantics.specs.Steps.{AgreeOn}
use Rattle.relation_semantics.proofs.Trees.{Leaves_map, Leaves_map₂, Leaves-replace, apply-apply}
use Rattle.relation_semantics.proofs.Values.{same_value}
use Rattle.relation_semantics.proofs.Resolved.{resolved_meets, resolve_free}
use Rattle.relation_semantics.proofs.Standing.{stands_apply, within_apply, term_context, namable_mono}
use Rattle.relation_semantics.proofs.Growing.{same_terms}
use Rattle.relation_semantics.proofs.Exactness.{changed, changed_same}
use Rattle.relation_semantics.proofs.StoreCalls.{resolved_stands, resolved_within}
use Rattle.relation_laws.specs.SolutionLaws.{GivesValues, FreeValues, MadeIsUnconstrainedErased}
use Rattle.relation_semantics.proofs.StoreCalls.{changed_agrees, changed_assigns}

-- A leaf of a value that a universe can name.
abbrev IsValueIn : ℕ → Leaf → Type 0
IsValueIn u l = IsValueLeaf l × IsNamable u l

-- What is in a universe's scope comes to a value that the universe can name.
scope_leaf : (st : Store) (t : Assign) → GivesValues st t → (u : ℕ) (l : Leaf) → IsInScope st u l →
    Leaves (IsValueIn u) (assigned t l)
scope_leaf st t h u (variable k n) i =
    Leaves_map₂ IsValueLeaf (IsNamable u) (IsValueIn u) (λ l a b. (a, b)) (t k n) (h.0 k n).1
    (Leaves_map (IsNamable (universe_of st k n)) (IsNamable u) (namable_mono (universe_of st k n) u i.1) (t k n)
    (h.1 k n i.0))
scope_leaf st t h u (bound k d n) i = (tt, tt)
scope_leaf st t h u (placeholder k v n) i = (tt, i)
scope_leaf st t h u (atom x) i = (i, tt)
scope_leaf st t h u unknown i = absurd i

free_itself : (st : Store) (t : Assign) (k : VarKind) (n : ℕ) → bound_term st k n ≡ None →
    apply t (resolved st k n) ≡ t k n
unfolding resolved
free_itself st t k n e = ap (apply t) (resolve_free _ st k n e)

pub free_values : FreeValues
free_values st g t h = (assigns, meets, free_itself st t)
  where
    scope : (k : VarKind) (n : ℕ) → IsMade st k n → Leaves (IsValueIn (universe_of st k n)) (apply t (resolved st k n))
    scope k n m = Leaves-replace _ (assigned t) (resolved st k n)
        (Leaves_map (IsInScope st (universe_of st k n)) _ (scope_leaf st t h (universe_of st k n)) (resolved st k n)
        (g.in_scope k n m))

    assigns : IsAssignment st (λ k n. apply t (resolved st k n))
    assigns k n m = (
      stands_apply t k (resolved st k n) (λ j i. (h.0 j i).0) (resolved_stands st g k n),
      Leaves_map (IsValueIn (universe_of st k n)) IsValueLeaf (λ l p. p.0) (apply t (resolved st k n)) (scope k n m),
      within_apply t 0 (resolved st k n) (λ j i. (h.0 j i).2) (resolved_within st g k n),
      Leaves_map (IsValueIn (universe_of st k n)) (IsNamable (universe_of st k n)) (λ l p. p.1)
          (apply t (resolved st k n)) (scope k n m),
    )

    meets : MeetsBindings st (λ k n. apply t (resolved st k n))
    meets k n x e = ap (apply t) (resolved_meets st g k n x e) ∙ apply-apply t (resolved st) x

pub made_is_unconstrained_erased : MadeIsUnconstrainedErased
made_is_unconstrained_erased before after k n u q g s t sol stands ground within names = (
  z,
  agree,
  ((changed_assigns before after k n u q g s t sol.0 stands ground within names, bindings), changed_same k n t s),
)
  where
    z : Assign
    z = changed k n t s

    agree : AgreeOn before s z
    agree = changed_agrees before after k n u q g s t

    bindings : MeetsErased after z
    bindings j i y e =
        let e' = same_terms before after k n u q j i ∙ e in
        let h = g.bindings j i y e' in
        ap erase (sym (agree j i h.made)) ∙ sol.1 j i y e'
        ∙ ap erase (same_value before s z y agree (term_context before y h.is_in))
