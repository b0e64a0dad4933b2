-- A law of the traits that are found among the clauses of an elaboration.
use Rattle.std.specs.Prelude.{◌≡◌, true, false, [], ◌∷◌}
use Rattle.term_enums.specs.declared.PredicatePolarity.TheVariants.{Positive}
use Rattle.relation_terms.specs.Meaning.{Meaning, Extends}
use Rattle.relation_terms.specs.Conversions.{trait_clause_tree}
use Rattle.relation_terms.specs.declared.predicate.trait_ref.TraitRef.{TraitRef}
use Rattle.relation_terms.specs.declared.terms.binder.Binder.{Binder}
use Rattle.relation_terms.specs.declared.terms.keys.ClauseKey.{ClauseKey}
use Rattle.relation_statements.specs.Children.{mode_of}
use Rattle.relation_elaboration.specs.Pulling.{Elaboration, ByClosure}
use Rattle.relation_elaboration.specs.Finding.{TraitsByClosure}

-- An elaboration that was begun with the clause of one trait, and goes to super-predicates alone, finds what
-- `supertraits` finds of that trait, whoever began it.
abbrev pub OneTraitFindsItsOwn : {I Key Id Name : Type 0} → (I → Meaning Key Id Name) → Type 0
OneTraitFindsItsOwn {I} {Key} {Id} {Name} meaning = (cx : I) (n : Meaning Key Id Name)
    (b : Binder Key (TraitRef Key Id)) (k : ClauseKey Key) (begun only : Elaboration I (ClauseKey Key) Key Name) → Extends (meaning cx) n →
    n.clause k ≡ trait_clause_tree (meaning cx) Positive b → ByClosure meaning (λ m c. m.clause c) n (k ∷ []) begun →
    only ≡ record begun { mode = mode_of true false } → TraitsByClosure meaning (meaning cx) b only
