-- Laws of terms that a quick test has told apart.
use Rattle.std.specs.Prelude.{ℕ, false}
use Rattle.relation_terms.specs.Trees.{Tree, Assign}
use Rattle.relation_folds.specs.Clashes.{Clash}
use Rattle.fast_reject.specs.Instances.{AgreeOnNames}
use Rattle.relation_semantics.specs.Stores.{Store, IsTermIn, IsAssignment, IsSound}
use Rattle.relation_semantics.specs.FirstOrder.{IsFirstOrder, Unifies}
use Rattle.relation_semantics.specs.Outcomes.{Exact}
use Rattle.relation_semantics.specs.Headline.{IsFirstOrderPair}

-- No assignment unifies first-order terms that clash, parameters standing for themselves.
abbrev pub ClashesDoNotUnify : Type 0
ClashesDoNotUnify = (st : Store) (s : Assign) (d : ℕ) (a b : Tree) → AgreeOnNames a b → IsFirstOrder a →
    IsFirstOrder b → IsTermIn st a → IsTermIn st b → Clash false false d a b → IsAssignment st s → Unifies s a b → ⊥

-- So relating them at invariance, which keeps just what unifies them in a store that stays sound, does not answer `Ok`.
abbrev pub ClashesAreNotRelated : Type 0
ClashesAreNotRelated = (before after : Store) (d : ℕ) (a b : Tree) → AgreeOnNames a b → IsFirstOrderPair before a b →
    IsTermIn before a → IsTermIn before b → Clash false false d a b → IsSound after → Exact before after a b → ⊥
