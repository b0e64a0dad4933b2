-- The budget is seen by nothing that a lawful context says of its store.
use Rattle.std.proofs.Common.{◌≡◌, ℕ, refl, subst, le_refl}
use Rattle.relation_terms.specs.Heads.{VarKind, Leaf, variable, bound, placeholder, atom, unknown}
use Rattle.relation_terms.specs.Trees.{Leaves}
use Rattle.relation_terms.specs.Meaning.{Meaning}
use Rattle.relation_semantics.specs.Stores.{Store, IsFree, IsInScope, IsSound, resolved, universe_of}
use Rattle.relation_semantics.proofs.Trees.{Leaves_map}
use Rattle.relation_semantics.proofs.Resolved.{resolved_same}
use Rattle.relation_semantics.proofs.Standing.{later_term, later_constraint}
use Rattle.variable_tables.specs.declared.inner.InferCtxtInner.{InferCtxtInner}
use Rattle.variable_tables.specs.Tables.{store_of, IsLawful}

module _ (st : Store) (b : ℕ) where
  abbrev after : Store
  after = record st { budget = b }

  comes : (k : VarKind) (n : ℕ) → resolved st k n ≡ resolved after k n
  comes k n = resolved_same st after (λ j m. refl) refl k n

  free_leaf : (l : Leaf) → IsFree st l → IsFree after l
  free_leaf (variable k n) h = h
  free_leaf (bound k d i) h = tt
  free_leaf (placeholder k u n) h = tt
  free_leaf (atom x) h = tt
  free_leaf unknown h = tt

  scope_leaf : (u : ℕ) (l : Leaf) → IsInScope st u l → IsInScope after u l
  scope_leaf u (variable k n) h = h
  scope_leaf u (bound k d i) h = tt
  scope_leaf u (placeholder k v n) h = h
  scope_leaf u (atom x) h = h
  scope_leaf u unknown h = absurd h

  pub budget_sound : IsSound st → IsSound after
  budget_sound g = record {
    settles = λ k n. subst (Leaves (IsFree after)) (comes k n) (Leaves_map (IsFree st) (IsFree after) free_leaf (resolved st k n) (g.settles k n));
    bindings = λ k n t e. let p = g.bindings k n t e in record { made = p.made; is_in = later_term st after (λ j m h. h) (le_refl st.universe) t p.is_in; stands = p.stands };
    in_scope = λ k n p. subst (Leaves (IsInScope after (universe_of st k n))) (comes k n)
        (Leaves_map (IsInScope st (universe_of st k n)) (IsInScope after (universe_of st k n)) (scope_leaf (universe_of st k n)) (resolved st k n) (g.in_scope k n p));
    falls = g.falls;
    regions_unbound = g.regions_unbound;
    one_universe_each = g.one_universe_each;
    below_current = g.below_current;
    constraints_in = λ i d p. later_constraint st after (λ j m h. h) (le_refl st.universe) _ (g.constraints_in i d p);
  }

pub budget_lawful : {Key Id Name : Type 0} (m : Meaning Key Id Name) (x : InferCtxtInner Key) (b : ℕ) → IsLawful m x → IsLawful m (record x { budget = b })
budget_lawful m x b l = record {
  sound = budget_sound (store_of m x) b l.sound;
  rooted = l.rooted;
  formed = l.formed;
  numbers_name_nothing = l.numbers_name_nothing;
  keyed = l.keyed;
  numbers = l.numbers;
  sub_rooted = record { count = l.sub_rooted.count; rooted = l.sub_rooted.rooted; fresh = l.sub_rooted.fresh };
}
