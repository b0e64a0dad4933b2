-- What a lawful context has recorded of regions.
use Rattle.std.proofs.Common.{◌≡◌, ℕ, ◌<◌, List, length, get_or, map, subst, ap, ◌∙◌, sym, All}
use Rattle.std.proofs.lemmas.List.{get_or-map, length-map}
use Rattle.relation_terms.specs.declared.predicate.regions.RegionConstraint.{RegionConstraint}
use Rattle.relation_terms.specs.declared.predicate.regions.RegionConstraint.TheVariants.{Outlives, Eq}
use Rattle.relation_terms.specs.declared.terms.generic_arg.GenericArgKind.{GenericArgKind}
use Rattle.relation_terms.specs.declared.terms.generic_arg.GenericArgKind.TheVariants.{Lifetime, Ty, Const}
use Rattle.relation_terms.specs.Meaning.{Meaning, arg_tree}
use Rattle.relation_terms.specs.Trees.{known}
use Rattle.relation_semantics.specs.Constraints.{constraint_of}
use Rattle.relation_semantics.specs.Stores.{Constraint, ConstraintIn, IsRegionIn, IsSound, Store}
use Rattle.relation_regions.proofs.RegionNumbers.{region_known}
use Rattle.text_users.specs.Rows.{IsSuchArg, SpeaksOfSuch}

-- A recorded constraint is the context's.
recorded_in : {Q : Type 0} (f : Q → Constraint) (xs : List Q) (st : Store) → map f xs ≡ st.constraints → IsSound st →
    (i : ℕ) (d : Q) → i < length xs → ConstraintIn st (f (get_or xs i d))
recorded_in f xs st e h i d lt =
    let below : i < length st.constraints =
    subst (λ l. i < length l) e (subst (λ n. i < n) (sym (length-map xs f)) lt) in
    let same = sym (ap (λ l. get_or l i (f d)) e) ∙ get_or-map f xs i d (f d) lt in
    subst (ConstraintIn st) same (h.constraints_in i (f d) below)

module _ {Key Id Name : Type 0} (m : Meaning Key Id Name) (st : Store) where
  such_arg : (a : GenericArgKind Key) → IsRegionIn st (arg_tree m a) → IsSuchArg (λ r. known (m.region r)) a
  such_arg (Lifetime r) h = region_known st (m.region r) h
  such_arg (Ty t) h = tt
  such_arg (Const t) h = tt

  such_constraint : (q : RegionConstraint Key) → ConstraintIn st (constraint_of m q) →
      SpeaksOfSuch (λ r. known (m.region r)) q
  such_constraint (Outlives o) h = (such_arg o.0 h.0, region_known st (m.region o.1) h.1)
  such_constraint (Eq e) h = (region_known st (m.region e.0) h.0, region_known st (m.region e.1) h.1)

  -- All regions of which recorded constraints speak are known.
  pub recorded_known : (xs : List (RegionConstraint Key)) → map (constraint_of m) xs ≡ st.constraints → IsSound st →
      All (SpeaksOfSuch (λ r. known (m.region r))) xs
  recorded_known xs e h = λ i d lt.
      such_constraint (get_or xs i d) (recorded_in (constraint_of m) xs st e h i d lt)
