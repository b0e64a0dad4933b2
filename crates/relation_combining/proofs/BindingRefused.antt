-- Not binding a variable to what a term comes to, since an obstacle stands in that.
use Rattle.std.proofs.Common.{◌≡◌, ◌≢◌, ℕ, ◌<◌, refl, sym, ap, ◌∙◌, arith, inl, inr, subst}
use Rattle.term_enums.specs.declared.Variance.{Variance}
use Rattle.relation_terms.specs.Heads.{region_sort, region_kind, type_kind, const_kind, BoundKind, bound_kind, bound_sort, VarKind, value_type, variable, placeholder}
use Rattle.relation_terms.specs.Trees.{Tree, leaf, Assign, apply, Leaves, Occurs}
use Rattle.relation_terms.specs.Erasure.{erase}
use Rattle.relation_semantics.specs.Relation.{Interpretation}
use Rattle.relation_semantics.specs.Stores.{Store, universe_of, IsNamable, IsSound, Satisfies, resolved}
use Rattle.relation_semantics.specs.FirstOrder.{IsFirstOrder, IsFirstOrderStore, IsClosedLeaf, Unifies, IsErasedSolution}
use Rattle.relation_semantics.specs.StoreLaws.{GeneralisingRefuses}
use Rattle.relation_semantics.specs.Steps.{RefusesToInstantiate}
use Rattle.relation_semantics.specs.ErasureLaws.{IsTypeOrConst}
use Rattle.term_enums.specs.declared.StructurallyRelateAliases.{StructurallyRelateAliases}
use Rattle.relation_semantics.specs.Generalising.{Obstacle, cycle, beyond, StopsAt, at_itself, at_placeholder, in_parts, in_body, in_first, in_others, RefusesByObstacle}
use Rattle.relation_semantics.proofs.Resolved.{resolved_value, cycles_do_not_unify}
use Rattle.relation_semantics.proofs.StoreCalls.{resolved_unifies}
use Rattle.relation_semantics.proofs.Instantiating.{resolved_first_order}
use Rattle.relation_semantics.proofs.Erased.{erased_occurs_check}
use Rattle.relation_semantics.proofs.NewVariables.{Adds, adds, adds_goes}
use Rattle.relation_semantics.proofs.Leafwise.{erased_named}

-- An obstacle in a term.
pub stops_occurs : {al : StructurallyRelateAliases} {before : Store} {k : VarKind} {n : ℕ} {o : Obstacle} {t : Tree} → o ≡ cycle → StopsAt al before k n o t → Occurs k n t
stops_occurs e (at_itself p q) = ap leaf q
stops_occurs e (at_placeholder p q l) = absurd cc
stops_occurs e (in_parts p h) = stops_occurs e h
stops_occurs e (in_body h) = stops_occurs e h
stops_occurs e (in_first h) = inl (stops_occurs e h)
stops_occurs e (in_others l h) = inr (stops_occurs e h)

-- No value of such a term is named by the variable's universe.
pub stops_unnamed : {al : StructurallyRelateAliases} {before : Store} {k : VarKind} {n : ℕ} {o : Obstacle} {t : Tree} → o ≡ beyond → StopsAt al before k n o t → (s : Assign) → Leaves (IsNamable (universe_of before k n)) (apply s t) → ⊥
stops_unnamed e (at_itself p q) s h = absurd cc
stops_unnamed e (at_placeholder p q l) s h = omega (arith, l, h)
stops_unnamed e (in_parts p f) s h = stops_unnamed e f s h
stops_unnamed e (in_body f) s h = stops_unnamed e f s h
stops_unnamed e (in_first f) s h = stops_unnamed e f s h.0
stops_unnamed e (in_others l f) s h = stops_unnamed e f s h.1

-- Nor is its erasure, where it is first-order.
kind_beyond : (q : BoundKind) (w i u : ℕ) → bound_sort q ≢ region_sort → u < w → Leaves (IsNamable u) (erase (leaf (placeholder q w i))) → ⊥
kind_beyond (bound_kind region_kind x) w i u o l h = o refl
kind_beyond (bound_kind type_kind x) w i u o l h = omega (arith, l, h)
kind_beyond (bound_kind const_kind x) w i u o l h = omega (arith, l, h)

closed_stops : {al : StructurallyRelateAliases} {before : Store} {k : VarKind} {n : ℕ} {o : Obstacle} {t : Tree} → o ≡ beyond → StopsAt al before k n o t → Leaves IsClosedLeaf t → ⊥
closed_stops e (at_itself p q) h = absurd cc
closed_stops e (at_placeholder p q l) h = q h
closed_stops e (in_parts p f) h = closed_stops e f h
closed_stops e (in_body f) h = closed_stops e f h
closed_stops e (in_first f) h = closed_stops e f h.0
closed_stops e (in_others l f) h = closed_stops e f h.1

erased_unnamed : {al : StructurallyRelateAliases} {before : Store} {k : VarKind} {n : ℕ} {o : Obstacle} {t : Tree} → o ≡ beyond → StopsAt al before k n o t → IsFirstOrder t → (s : Assign) → Leaves (IsNamable (universe_of before k n)) (erase (apply s t)) → ⊥
erased_unnamed e (at_itself p q) d s h = absurd cc
erased_unnamed {before = before} {k = k} {n = n} e (at_placeholder {q = q} {w = w} {i = i} p o l) d s h = kind_beyond q w i (universe_of before k n) o l h
erased_unnamed e (in_parts {h = value_type} p f) d s h = closed_stops e f d.2
erased_unnamed e (in_parts p f) d s h = erased_unnamed e f d.3 s h
erased_unnamed e (in_body f) d s h = absurd d
erased_unnamed e (in_first f) d s h = erased_unnamed e f d.0 s h.0
erased_unnamed e (in_others l f) d s h = erased_unnamed e f d.1 s h.1

module _ (al : StructurallyRelateAliases) (before after : Store) (v : Variance) (k : VarKind) (n : ℕ) (source : Tree) (o : Obstacle) (kind : IsTypeOrConst k) (f : RefusesByObstacle al before after k n source o) (g : IsSound before)
    (other : apply (resolved before) source ≢ leaf (variable k n)) where
  abbrev whole : Tree
  whole = apply (resolved before) source

  same : Adds (universe_of before k n) before after
  same = adds g (g.below_current k n) f.makes

  apart : (w : Interpretation) (s : Assign) → Satisfies w before s → s k n ≡ apply s source → ⊥
  apart w s sat e = go o refl
    where
      go : (p : Obstacle) → o ≡ p → ⊥
      go cycle q = cycles_do_not_unify before k n source (stops_occurs q f.stops) other s sat.bindings e
      go beyond q = stops_unnamed q f.stops s (subst (Leaves (IsNamable (universe_of before k n))) (e ∙ resolved_value before s sat.bindings source) (sat.assigns k n f.made).3)

  apart_erased : IsFirstOrder source → IsFirstOrderStore before → (s : Assign) → IsErasedSolution before s → Unifies s (leaf (variable k n)) source → ⊥
  apart_erased d h s sol e = go o refl
    where
      unified : erase (s k n) ≡ erase (apply s whole)
      unified = e ∙ sym (resolved_unifies before g s sol.1 source)

      first_order : IsFirstOrder whole
      first_order = resolved_first_order before g h source d

      go : (p : Obstacle) → o ≡ p → ⊥
      go cycle q = erased_occurs_check s k n whole kind first_order (stops_occurs q f.stops) other unified
      go beyond q = erased_unnamed q f.stops first_order s (subst (Leaves (IsNamable (universe_of before k n))) unified (erased_named (universe_of before k n) (s k n) (sol.0 k n f.made).3))

  pub refused : RefusesToInstantiate before after v k n source
  refused = record {
    later = same.later;
    same_entries = same.entries;
    same_universes = same.universes;
    same_constraints = same.constraints;
    same_universe = same.universe;
    same_taint = same.tainted;
    same_budget = same.budget;
    stays_sound = λ h. same.sound;
    apart = apart;
    apart_erased = λ p d h s sol e. apart_erased d h s sol e;
  }

pub generalising_refuses : GeneralisingRefuses
generalising_refuses al before after v k n source o kind f g other = (refused al before after v k n source o kind f g other, adds_goes (same al before after v k n source o kind f g other))
