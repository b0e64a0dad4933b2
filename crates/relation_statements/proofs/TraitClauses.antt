-- Which trait a clause is of, by its form.
use Rattle.std.proofs.Common.{◌≡◌, refl, sym, subst, ℕ, true, IsTrue, List, Option, Some, None}
use Rattle.std.proofs.lemmas.Bool.{false≢true, and_parts}
use Rattle.term_enums.specs.declared.PredicatePolarity.{PredicatePolarity}
use Rattle.relation_terms.specs.Heads.{BoundKind, trait_ref, trait_clause}
use Rattle.relation_terms.specs.Trees.{Tree, node, nil, cons, known}
use Rattle.relation_terms.specs.Meaning.{Meaning, under}
use Rattle.relation_terms.specs.Owned.{bound_tree}
use Rattle.relation_terms.specs.Predicates.{clause_kind_tree}
use Rattle.relation_terms.specs.declared.predicate.kinds.ClauseKind.{ClauseKind}
use Rattle.relation_terms.specs.declared.predicate.kinds.ClauseKind.TheVariants.{Trait}
use Rattle.relation_terms.specs.declared.predicate.trait_ref.TraitPredicate.{TraitPredicate}
use Rattle.relation_terms.specs.declared.predicate.trait_ref.TraitRef.{TraitRef}
use Rattle.relation_terms.specs.declared.terms.binder.Binder.{Binder}
use Rattle.relation_terms.specs.declared.terms.keys.BoundVarsKey.{BoundVarsKey}
use Rattle.relation_statements.specs.TraitClauses.{reference_of, trait_named}

-- A trait clause, under a binder that is known.
reference_under : (o : Option (List BoundKind)) (p : PredicatePolarity) (d : ℕ) (args : Tree) →
    IsTrue (known (under o (node (trait_clause p) (cons (node (trait_ref d) args) nil)))) →
    Some (under o (node (trait_ref d) args)) ≡
    reference_of (under o (node (trait_clause p) (cons (node (trait_ref d) args) nil)))
reference_under (Some ks) p d args k = refl
reference_under None p d args k = absurd (false≢true k)

name_under : (o : Option (List BoundKind)) (p : PredicatePolarity) (d : ℕ) (args : Tree) →
    IsTrue (known (under o (node (trait_clause p) (cons (node (trait_ref d) args) nil)))) →
    Some d ≡ trait_named (under o (node (trait_clause p) (cons (node (trait_ref d) args) nil)))
name_under (Some ks) p d args k = refl
name_under None p d args k = absurd (false≢true k)

-- What is known of a trait clause is known of its trait reference.
reference_known : (o : Option (List BoundKind)) (p : PredicatePolarity) (d : ℕ) (args : Tree) →
    IsTrue (known (under o (node (trait_clause p) (cons (node (trait_ref d) args) nil)))) →
    IsTrue (known (under o (node (trait_ref d) args)))
reference_known (Some ks) p d args k = (and_parts (known args) true k).0
reference_known None p d args k = absurd (false≢true k)

module _ {Key Id Name : Type 0} (m : Meaning Key Id Name) where
  -- The trait reference of a trait predicate, under its binder.
  abbrev pub reference_in : BoundVarsKey Key → TraitPredicate Key Id → Binder Key (TraitRef Key Id)
  reference_in b p = record { value = p.trait_ref; bound_vars = b }

  module _ (b : BoundVarsKey Key) (p : TraitPredicate Key Id) (t : Tree)
      (is : t ≡ under (m.bound_vars b) (clause_kind_tree m (Trait p))) (k : IsTrue (known t)) where
    pub reference_is : Some (bound_tree m (reference_in b p)) ≡ reference_of t
    reference_is = subst (λ z. Some (bound_tree m (reference_in b p)) ≡ reference_of z) (sym is)
        (reference_under (m.bound_vars b) p.polarity (m.id ((p.trait_ref).def_id).0) (m.args (p.trait_ref).args)
        (subst (λ z. IsTrue (known z)) is k))

    pub name_is : Some (m.id ((p.trait_ref).def_id).0) ≡ trait_named t
    name_is = subst (λ z. Some (m.id ((p.trait_ref).def_id).0) ≡ trait_named z) (sym is)
        (name_under (m.bound_vars b) p.polarity (m.id ((p.trait_ref).def_id).0) (m.args (p.trait_ref).args)
        (subst (λ z. IsTrue (known z)) is k))

    pub reference_sure : IsTrue (known (bound_tree m (reference_in b p)))
    reference_sure = reference_known (m.bound_vars b) p.polarity (m.id ((p.trait_ref).def_id).0)
        (m.args (p.trait_ref).args) (subst (λ z. IsTrue (known z)) is k)

  -- A clause of another form is of no trait.
  pub no_reference : (c : ClauseKind Key Id Name) → ((p : TraitPredicate Key Id) → c ≡ Trait p → ⊥) →
      (o : Option (List BoundKind)) → None ≡ reference_of (under o (clause_kind_tree m c))
  no_reference (Trait p) u o = absurd (u p refl)
  no_reference c u (Some ks) = refl
  no_reference c u None = refl

  pub no_name : (c : ClauseKind Key Id Name) → ((p : TraitPredicate Key Id) → c ≡ Trait p → ⊥) →
      (o : Option (List BoundKind)) → None ≡ trait_named (under o (clause_kind_tree m c))
  no_name (Trait p) u o = absurd (u p refl)
  no_name c u (Some ks) = refl
  no_name c u None = refl
