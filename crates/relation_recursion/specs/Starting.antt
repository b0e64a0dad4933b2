-- How relating two types begins.
use Rattle.std.specs.Prelude.{◌≡◌, ◌↔◌, ℕ, IsTrue, IsFalse}
use Rattle.relation_terms.specs.declared.terms.keys.TyKey.{TyKey}
use Rattle.relation_terms.specs.Meaning.{Meaning}
use Rattle.relation_terms.specs.Trees.{Tree, count}
use Rattle.relation_semantics.specs.Errors.{AreOfOneForm}
use Rattle.relation_semantics.specs.Parts.{IsByParts, direct_parts}
use Rattle.relation_semantics.specs.Relation.{IsError}
use Rattle.relation_recursion.specs.declared.starting.Start.{Start}

-- Two types of one form, over generic arguments, of which each has so many.
pub record AreOfPlainForm (t u : Tree) (n : ℕ) : Type 0 where
  pub alike : AreOfOneForm t u
  pub over_args : IsByParts t → ⊥
  pub counted : n ≡ count (direct_parts t)

-- The left one of two types is an error, or the right one is; else they are of one form, and it is told whether they are
-- related by parts that are no generic arguments, and how many they have.
pub record Starts {Key Id Name : Type 0} (m : Meaning Key Id Name) (a b : TyKey Key) (s : Start) : Type 0 where
  pub left_error : IsTrue s.left_error → IsError (m.ty a)
  pub right_error : IsTrue s.right_error → IsError (m.ty b)
  pub alike : IsFalse s.left_error → IsFalse s.right_error → AreOfOneForm (m.ty a) (m.ty b)
  pub by_parts : IsFalse s.left_error → IsFalse s.right_error → (IsTrue s.in_order ↔ IsByParts (m.ty a))
  pub counted : IsFalse s.left_error → IsFalse s.right_error → s.count ≡ count (direct_parts (m.ty a))
