-- What was shown of a term stays shown in a later context.
use Rattle.std.proofs.Common.{◌≡◌, IsTrue, Option, ap, sym, subst}
use Rattle.relation_terms.specs.Heads.{Head}
use Rattle.relation_terms.specs.Trees.{Tree, known}
use Rattle.relation_terms.specs.Meaning.{Meaning, Extends as Grows}
use Rattle.relation_semantics.specs.Stores.{IsTermIn}
use Rattle.relation_semantics.specs.Bound.{IsWellBound}
use Rattle.relation_semantics.specs.Contexts.{Context}
use Rattle.relation_steps.specs.Arguments.{related_tree}
use Rattle.relation_recursion.proofs.RelatableValues.{tree_known}
use Rattle.relation_semantics.proofs.Standing.{later_term}
use Rattle.relation_laws.specs.SolutionLaws.{TermStays}

pub term_stays : {S Key Id Name A : Type 0} (state : S → Context Key Id Name) (over : Option Head)
    (tree : Meaning Key Id Name → A → Tree) → ((m n : Meaning Key Id Name) → Grows m n → (x : A) →
    IsTrue (known (tree m x)) → tree n x ≡ tree m x) → TermStays state over tree
term_stays state over tree stays old new grown later x k =
    let e = ap (related_tree over) (stays (state old).meaning (state new).meaning grown x
    (tree_known over (tree (state old).meaning x) k)) in (
      e,
      subst (λ t. IsTrue (known t)) (sym e) k,
      λ c. subst IsWellBound (sym e) c,
      λ h. subst (IsTermIn (state new).store) (sym e)
          (later_term (state old).store (state new).store later.grows later.universe_stands _ h),
    )
