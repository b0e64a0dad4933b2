-- What is asked of a call that makes a type of a list of arguments, by what keys mean before it and after it.
use Rattle.std.specs.Prelude.{IsTrue, Result}
use Rattle.relation_terms.specs.declared.terms.keys.ArgsKey.{ArgsKey}
use Rattle.relation_terms.specs.declared.terms.keys.TyKey.{TyKey}
use Rattle.relation_terms.specs.Trees.{known}
use Rattle.relation_terms.specs.Meaning.{Meaning, Extends}
use Rattle.relation_semantics.specs.Lawful.{State}
use Rattle.relation_steps.specs.Keyed.{IsMadeOver}

-- It may be made with an interner that has grown, on each list that the interner knows.
abbrev pub TakesLists : {B Key Id Name : Type 0} → (B → Meaning Key Id Name) → State Key Id Name →
    (B → ArgsKey Key → Type 0) → Type 0
TakesLists {B} {Key} before r pre = (cx : B) (list : ArgsKey Key) → Extends r.meaning (before cx) →
    IsTrue (known ((before cx).args list)) → pre cx list

module _ {B E Key Id Name : Type 0} (means : B → Meaning Key Id Name) where
  -- The interner only grows.
  abbrev pub GrowsByCall : (B → ArgsKey Key → Result (TyKey Key) E → B → Type 0) → Type 0
  GrowsByCall post = (cx : B) (list : ArgsKey Key) (res : Result (TyKey Key) E) (left : B) → post cx list res left →
      Extends (means cx) (means left)

  -- It makes, with an interner that has grown, a type of that one's form over the list.
  abbrev pub MakesOverList : State Key Id Name → TyKey Key → (B → ArgsKey Key → Result (TyKey Key) E → B → Type 0) →
      Type 0
  MakesOverList r form post = (cx : B) (list : ArgsKey Key) (res : Result (TyKey Key) E) (left : B) →
      Extends r.meaning (means cx) → post cx list res left → IsMadeOver r form (means cx) list (means left) res
