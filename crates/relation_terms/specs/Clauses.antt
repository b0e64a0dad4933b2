-- What clauses say of traits.
use Rattle.std.specs.Prelude.{◌≡◌, ◌≢◌, Option, MatchOption}
use Rattle.relation_terms.specs.Trees.{Tree}
use Rattle.relation_terms.specs.Meaning.{Meaning, under}
use Rattle.relation_terms.specs.Predicates.{clause_kind_tree}
use Rattle.relation_terms.specs.declared.terms.keys.ClauseKey.{ClauseKey}
use Rattle.relation_terms.specs.declared.terms.binder.Binder.{Binder}
use Rattle.relation_terms.specs.declared.predicate.trait_ref.TraitPredicate.{TraitPredicate}
use Rattle.relation_terms.specs.declared.predicate.kinds.ClauseKind.TheVariants.{Trait}

module _ {Key Id Name : Type 0} (m : Meaning Key Id Name) where
  -- The tree of what a clause says of a trait, under its binder.
  abbrev pub trait_clause_tree : Binder Key (TraitPredicate Key Id) → Tree
  trait_clause_tree b = under (m.bound_vars b.bound_vars) (clause_kind_tree m (Trait b.value))

  -- What is found of a clause is what it says of a trait, and nothing where it says nothing of one.
  abbrev pub FindsTrait : ClauseKey Key → Option (Binder Key (TraitPredicate Key Id)) → Type 0
  FindsTrait c found =
      MatchOption found ((b : Binder Key (TraitPredicate Key Id)) → m.clause c ≢ trait_clause_tree b)
      (λ b. m.clause c ≡ trait_clause_tree b)
