-- Of which form a predicate of a trait object is.
use Rattle.std.specs.Prelude.{Option, Some, None}
use Rattle.relation_terms.specs.declared.predicate.existential.ExistentialPredicate.{ExistentialPredicate}
use Rattle.relation_terms.specs.declared.predicate.existential.ExistentialPredicate.TheVariants.{Trait, AutoTrait}
use Rattle.relation_terms.specs.declared.predicate.existential.ExistentialPredicate.TheVariants.{Projection}
use Rattle.relation_terms.specs.declared.terms.part_kind.Part.{Part}
use Rattle.relation_terms.specs.declared.terms.part_kind.Part.TheVariants.{Existential}

-- A trait, a projection, or an auto trait.
pub data PredicateForm : Type 0 where
  of_trait of_projection of_auto_trait : PredicateForm

-- Of which form such a predicate is, and of a part that is one the same.
abbrev pub predicate_form : {Key Id : Type 0} → ExistentialPredicate Key Id → PredicateForm
predicate_form (Trait t) = of_trait
predicate_form (Projection p) = of_projection
predicate_form (AutoTrait d) = of_auto_trait

abbrev pub form_of_part : {Key Id : Type 0} → Part Key Id → Option PredicateForm
form_of_part (Existential p) = Some (predicate_form p)
form_of_part x = None
