-- Clauses that say nothing of a trait.
use Rattle.std.proofs.Common.{◌≡◌, IsTrue, refl}
use Rattle.relation_terms.specs.Trees.{known}
use Rattle.relation_terms.specs.Meaning.{Meaning}
use Rattle.relation_terms.specs.Predicates.{clause_kind_tree, clause_tree}
use Rattle.relation_terms.specs.Clauses.{trait_clause_tree}
use Rattle.relation_terms.specs.declared.terms.binder.Binder.{Binder}
use Rattle.relation_terms.specs.declared.predicate.trait_ref.TraitPredicate.{TraitPredicate}
use Rattle.relation_terms.specs.declared.predicate.kinds.ClauseKind.{ClauseKind}
use Rattle.relation_terms.specs.declared.predicate.kinds.ClauseKind.TheVariants.{Trait}
use Rattle.relation_terms.proofs.Binders.{under_once}

module _ {Key Id Name : Type 0} (m : Meaning Key Id Name) where
  no_trait_kind : (c : ClauseKind Key Id Name) → ((p : TraitPredicate Key Id) → c ≡ Trait p → ⊥) →
      (q : TraitPredicate Key Id) → clause_kind_tree m c ≡ clause_kind_tree m (Trait q) → ⊥
  no_trait_kind (Trait p) u q e = u p refl
  no_trait_kind c u q e = absurd (cc)

  -- A known clause of another form says nothing of a trait.
  pub no_trait : (b : Binder Key (ClauseKind Key Id Name)) →
      ((p : TraitPredicate Key Id) → b.value ≡ Trait p → ⊥) → IsTrue (known (clause_tree m b)) →
      (c : Binder Key (TraitPredicate Key Id)) → clause_tree m b ≡ trait_clause_tree m c → ⊥
  no_trait b u k c e =
      let o = under_once (m.bound_vars b.bound_vars) (m.bound_vars c.bound_vars) (clause_kind_tree m b.value)
      (clause_kind_tree m (Trait c.value)) k e in
      no_trait_kind b.value u c.value o.1
