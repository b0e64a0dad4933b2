-- What relating two terms promises, as it stands on `relate`.
--
--   AnswersGoals c st st' gs e v a b   what satisfies st' and makes the goals gs true relates a and b at v in e, and
--                                      satisfied st
--   KeepsEqualTerms st st' gs a b      what satisfied st and made a and b one tree extends to satisfy st', with both
--                                      sides of each goal one tree
--   IsFirstOrderPair st a b            a, b and the bindings of st are first-order
--   KeepsUnifiers st st' a b           up to erasure, just the solutions of st that unify a and b extend to solutions
--                                      of st'
use Rattle.std.specs.Prelude.{◌≡◌, ◌↔◌, List, All}
use Rattle.term_enums.specs.declared.Variance.{Variance}
use Rattle.relation_terms.specs.Trees.{Tree, Assign, apply}
use Rattle.relation_semantics.specs.Relation.{Items, Interpretation}
use Rattle.relation_semantics.specs.Stores.{Store, Satisfies, OnlyShrinks}
use Rattle.relation_semantics.specs.Goals.{Goal, Relates, MakesOneTree}
use Rattle.relation_semantics.specs.FirstOrder.{IsFirstOrder, IsFirstOrderStore, Unifies, IsErasedSolution}
use Rattle.relation_semantics.specs.Steps.{HasExtension, HasErasedExtension}

-- Sound: each assignment that satisfies the store after and makes the goals answered true relates the terms at the
-- variance in the environment, and satisfied the store before.
abbrev pub AnswersGoals : Items → Store → Store → List Goal → Tree → Variance → Tree → Tree → Type 0
AnswersGoals c before after goals e v a b = Relates c after goals e v a b × OnlyShrinks before after

-- No equal pair is lost: what satisfied the store before and made the terms one tree extends to satisfy the store
-- after and to make both sides of each subtype and alias goal one tree.
abbrev pub KeepsEqualTerms : Store → Store → List Goal → Tree → Tree → Type 0
KeepsEqualTerms before after goals a b = (w : Interpretation) (s : Assign) → Satisfies w before s →
    apply s a ≡ apply s b → HasExtension before s (λ s'. Satisfies w after s' × All (MakesOneTree s') goals)

-- The first-order terms and store on which relating at invariance is exact.
pub record IsFirstOrderPair (before : Store) (a b : Tree) : Type 0 where
  pub left : IsFirstOrder a
  pub right : IsFirstOrder b
  pub bindings : IsFirstOrderStore before

-- What exactness says of an earlier assignment: it unifies the terms just where it extends to the store after.
abbrev pub KeepsUnifiers : Store → Store → Tree → Tree → Type 0
KeepsUnifiers before after a b = (s : Assign) → IsErasedSolution before s → Unifies s a b ↔
    HasErasedExtension before s (IsErasedSolution after)
