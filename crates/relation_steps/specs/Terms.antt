-- What relating two terms asks and promises, by what is related of them: of a term that is `over` no form its `tree`,
-- of another that form over its tree.
use Rattle.std.specs.Prelude.{Option, Result, IsTrue}
use Rattle.term_enums.specs.declared.Variance.{Variance}
use Rattle.term_enums.specs.Variances.{xform}
use Rattle.relation_terms.specs.Heads.{Head}
use Rattle.relation_terms.specs.Trees.{Tree, known}
use Rattle.relation_terms.specs.Meaning.{Meaning, Extends}
use Rattle.relation_folds.specs.declared.error.RelateFault.{RelateFault}
use Rattle.relation_semantics.specs.Lawful.{State, Manners, Asked, Related, RelatedForms}
use Rattle.relation_steps.specs.Arguments.{related_tree}
use Rattle.relation_steps.specs.Alone.{RelatesAtOnce}

-- What is asked of two known values holds on while meanings are added to.
abbrev pub HoldsOn : {Key Id Name A : Type 0} → (Meaning Key Id Name → A → Tree) → (Meaning Key Id Name → A → A → Type 0) →
    Type 0
HoldsOn {Key} {Id} {Name} {A} tree fits = (m n : Meaning Key Id Name) → Extends m n → (x y : A) →
    IsTrue (known (tree m x)) → IsTrue (known (tree m y)) → fits m x y → fits n x y

module _ {Key Id Name A : Type 0} (M : Manners) (over : Option Head) (tree : Meaning Key Id Name → A → Tree) where
  -- Two that the relation takes at the ambient variance; at one that is seen from there.
  abbrev pub AskedTerms : State Key Id Name → A → A → Type 0
  AskedTerms r a b = Asked M r r.ambient (related_tree over (tree r.meaning a)) (related_tree over (tree r.meaning b))

  abbrev pub AskedAt : State Key Id Name → Variance → A → A → Type 0
  AskedAt r v a b =
      Asked M r (xform r.ambient v) (related_tree over (tree r.meaning a)) (related_tree over (tree r.meaning b))

  -- They were related at the ambient variance, and what came of it; at one that is seen from there; at the ambient one
  -- as forms, by their parts alone.
  abbrev pub RelatedTerms : State Key Id Name → State Key Id Name → A → A → Result A (RelateFault Key Id Name) → Type 0
  RelatedTerms r q a b result = Related M r q r.ambient (related_tree over (tree r.meaning a))
      (related_tree over (tree r.meaning b)) (λ x. related_tree over (tree q.meaning x)) result

  abbrev pub RelatedAt : State Key Id Name → State Key Id Name → Variance → A → A →
      Result A (RelateFault Key Id Name) → Type 0
  RelatedAt r q v a b result = Related M r q (xform r.ambient v) (related_tree over (tree r.meaning a))
      (related_tree over (tree r.meaning b)) (λ x. related_tree over (tree q.meaning x)) result

  abbrev pub RelatedTermForms : State Key Id Name → State Key Id Name → A → A → Result A (RelateFault Key Id Name) →
      Type 0
  RelatedTermForms r q a b result = RelatedForms M r q r.ambient (related_tree over (tree r.meaning a))
      (related_tree over (tree r.meaning b)) (λ x. related_tree over (tree q.meaning x)) result

  -- Two types of which one goal is asked were related by registering that alone, and an error with another by recording
  -- that, where the relation promises it.
  abbrev pub TermsRegister : State Key Id Name → State Key Id Name → A → A → Result A (RelateFault Key Id Name) → Type 0
  TermsRegister r q a b result = RelatesAtOnce M r q r.ambient (related_tree over (tree r.meaning a))
      (related_tree over (tree r.meaning b)) result
