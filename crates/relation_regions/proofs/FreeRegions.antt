-- Whatever regions the variables of regions stand for, the other variables have values to match.
use Rattle.std.proofs.Common.{◌≡◌, ℕ, ◌+◌, ap, ◌∙◌}
use Rattle.relation_terms.specs.Heads.{VarKind, type_var, int_var, float_var, const_var, region_var}
use Rattle.relation_terms.specs.Heads.{Leaf, variable, bound, placeholder, atom, unknown, early_region, bool_type, int_type}
use Rattle.relation_terms.specs.Heads.{float_type, const_error}
use Rattle.term_enums.specs.declared.IntTy.TheVariants.{I32}
use Rattle.term_enums.specs.declared.FloatTy.TheVariants.{F64}
use Rattle.relation_terms.specs.Trees.{leaf, Assign, assigned, apply, Leaves}
use Rattle.relation_semantics.specs.Relation.{IsValueLeaf, StaysWithin}
use Rattle.relation_semantics.specs.Stores.{Store, IsSound, IsInScope, IsNamable, IsAssignment, MeetsBindings}
use Rattle.relation_semantics.specs.Stores.{MayStandFor, resolved, universe_of, entry_term}
use Rattle.relation_semantics.proofs.Trees.{Leaves_map, Leaves-replace, apply-apply}
use Rattle.relation_semantics.proofs.Resolved.{resolved_meets, resolve_free}
use Rattle.relation_semantics.proofs.Standing.{stands_apply, within_apply}
use Rattle.relation_semantics.proofs.StoreCalls.{resolved_stands, resolved_within}

-- New regions with names for the variables of regions, from a number on, and something for the other variables.
abbrev pub chosen : ℕ → Assign
chosen first type_var n = leaf (atom bool_type)
chosen first int_var n = leaf (atom (int_type I32))
chosen first float_var n = leaf (atom (float_type F64))
chosen first const_var n = leaf (atom const_error)
chosen first region_var n = leaf (atom (early_region (first + n) 0))

-- And what the other variables come to by that.
abbrev pub values_from : Store → ℕ → Assign
values_from st first k n = apply (chosen first) (resolved st k n)

module _ (first : ℕ) where
  stands : (k : VarKind) (n : ℕ) → MayStandFor k (chosen first k n)
  stands type_var n = tt
  stands int_var n = tt
  stands float_var n = tt
  stands const_var n = tt
  stands region_var n = tt

  ground_value : (k : VarKind) (n : ℕ) → Leaves IsValueLeaf (chosen first k n)
  ground_value type_var n = tt
  ground_value int_var n = tt
  ground_value float_var n = tt
  ground_value const_var n = tt
  ground_value region_var n = tt

  within : (k : VarKind) (n : ℕ) → StaysWithin 0 (chosen first k n)
  within type_var n = tt
  within int_var n = tt
  within float_var n = tt
  within const_var n = tt
  within region_var n = tt

  namable : (u : ℕ) (k : VarKind) (n : ℕ) → Leaves (IsNamable u) (chosen first k n)
  namable u type_var n = tt
  namable u int_var n = tt
  namable u float_var n = tt
  namable u const_var n = tt
  namable u region_var n = tt

  leaf_value : (st : Store) (u : ℕ) (l : Leaf) → IsInScope st u l → Leaves IsValueLeaf (assigned (chosen first) l)
  leaf_value st u (variable k n) i = ground_value k n
  leaf_value st u (bound k d n) i = tt
  leaf_value st u (placeholder k v n) i = tt
  leaf_value st u (atom x) i = i
  leaf_value st u unknown i = absurd i

  leaf_namable : (st : Store) (u : ℕ) (l : Leaf) → IsInScope st u l → Leaves (IsNamable u) (assigned (chosen first) l)
  leaf_namable st u (variable k n) i = namable u k n
  leaf_namable st u (bound k d n) i = tt
  leaf_namable st u (placeholder k v n) i = i
  leaf_namable st u (atom x) i = tt
  leaf_namable st u unknown i = absurd i

  pub values_assign : (st : Store) → IsSound st → IsAssignment st (values_from st first)
  values_assign st g k n m = (
    stands_apply (chosen first) k (resolved st k n) stands (resolved_stands st g k n),
    Leaves-replace IsValueLeaf (assigned (chosen first)) (resolved st k n)
        (Leaves_map (IsInScope st (universe_of st k n)) (λ l. Leaves IsValueLeaf (assigned (chosen first) l))
        (leaf_value st (universe_of st k n)) (resolved st k n) (g.in_scope k n m)),
    within_apply (chosen first) 0 (resolved st k n) within (resolved_within st g k n),
    Leaves-replace (IsNamable (universe_of st k n)) (assigned (chosen first)) (resolved st k n)
        (Leaves_map (IsInScope st (universe_of st k n))
        (λ l. Leaves (IsNamable (universe_of st k n)) (assigned (chosen first) l))
        (leaf_namable st (universe_of st k n)) (resolved st k n) (g.in_scope k n m)),
  )

  pub values_meet : (st : Store) → IsSound st → MeetsBindings st (values_from st first)
  values_meet st g k n x e =
      ap (apply (chosen first)) (resolved_meets st g k n x e) ∙ apply-apply (chosen first) (resolved st) x

  pub region_value : (st : Store) (n : ℕ) → IsSound st →
      values_from st first region_var n ≡ leaf (atom (early_region (first + n) 0))
  unfolding resolved
  region_value st n g = ap (apply (chosen first)) (resolve_free _ st region_var n (ap (entry_term region_var) (g.regions_unbound n)))
