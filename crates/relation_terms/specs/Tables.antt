-- What is said of items beside their generic parameters.
use Rattle.std.specs.Prelude.{ℕ, Bool, List, Option}
use Rattle.relation_terms.specs.Heads.{AliasTermKind, BoundKind}
use Rattle.relation_terms.specs.declared.terms.binder.Binder.{Binder}
use Rattle.relation_terms.specs.declared.terms.keys.ClauseKey.{ClauseKey}
use Rattle.relation_terms.specs.declared.predicate.trait_ref.TraitRef.{TraitRef}
use Rattle.term_enums.specs.declared.SolverTraitLangItem.{SolverTraitLangItem}

-- Of the item of a number: which trait declares it, whether it is an auto trait, whether it is a trait that the language
-- knows, and which kind of alias it is. And whether the next solver is on everywhere.
pub record Tables (Key Id : Type 0) : Type 0 where
  pub parent : ℕ → Option ℕ
  pub is_auto : ℕ → Bool
  pub is_lang_item : ℕ → SolverTraitLangItem → Bool
  pub alias_kind : ℕ → Option AliasTermKind
  pub next_solver : Bool
  pub super_predicates : ℕ → List (ClauseKey Key)
  pub implied_predicates : ℕ → List (ClauseKey Key)
  pub const_bounds : ℕ → List (Binder Key (TraitRef Key Id))
  pub params : ℕ → List BoundKind
