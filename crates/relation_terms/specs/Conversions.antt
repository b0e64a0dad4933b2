-- The trees of clauses that a trait with its arguments, a trait predicate and a projection are, under their binders.
use Rattle.relation_terms.specs.Heads.{trait_clause, host_effect, projection}
use Rattle.relation_terms.specs.Trees.{Tree, node, nil, cons}
use Rattle.relation_terms.specs.Meaning.{Meaning, under, term_tree}
use Rattle.relation_terms.specs.Predicates.{trait_ref_tree, alias_term_tree}
use Rattle.term_enums.specs.declared.BoundConstness.{BoundConstness}
use Rattle.term_enums.specs.declared.PredicatePolarity.{PredicatePolarity}
use Rattle.relation_terms.specs.declared.terms.binder.Binder.{Binder}
use Rattle.relation_terms.specs.declared.predicate.alias_term.ProjectionPredicate.{ProjectionPredicate}
use Rattle.relation_terms.specs.declared.predicate.trait_ref.TraitRef.{TraitRef}
use Rattle.relation_terms.specs.declared.predicate.trait_ref.TraitPredicate.{TraitPredicate}

module _ {Key Id Name : Type 0} (m : Meaning Key Id Name) where
  -- A trait is implemented, or it is not, by the polarity.
  abbrev pub trait_clause_tree : PredicatePolarity → Binder Key (TraitRef Key Id) → Tree
  trait_clause_tree polarity b =
      under (m.bound_vars b.bound_vars) (node (trait_clause polarity) (cons (trait_ref_tree m b.value) nil))

  -- The same, as a predicate says it.
  abbrev pub trait_predicate_tree : Binder Key (TraitPredicate Key Id) → Tree
  trait_predicate_tree b = under (m.bound_vars b.bound_vars)
      (node (trait_clause (b.value).polarity) (cons (trait_ref_tree m (b.value).trait_ref) nil))

  -- A trait is implemented in const contexts, by the constness.
  abbrev pub host_effect_tree : BoundConstness → Binder Key (TraitRef Key Id) → Tree
  host_effect_tree constness b =
      under (m.bound_vars b.bound_vars) (node (host_effect constness) (cons (trait_ref_tree m b.value) nil))

  -- An alias comes to a term.
  abbrev pub projection_tree : Binder Key (ProjectionPredicate Key Id) → Tree
  projection_tree b = under (m.bound_vars b.bound_vars)
      (node projection (cons (alias_term_tree m (b.value).projection_term) (cons (term_tree m (b.value).term) nil)))
