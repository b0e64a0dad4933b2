-- What is asked of the bodies of binders that are related.
use Rattle.std.specs.Prelude.{◌≡◌, Option, None, IsTrue}
use Rattle.relation_terms.specs.Heads.{Head}
use Rattle.relation_terms.specs.Trees.{Tree, known}
use Rattle.relation_terms.specs.Meaning.{Meaning, Extends}

-- They are related by their tree, and of two that are known nothing is asked besides, however the interner grows.
abbrev pub BodiesFit : {Key Id Name T : Type 0} → Option Head → (Meaning Key Id Name → T → T → Type 0) →
    (Meaning Key Id Name → T → Tree) → Meaning Key Id Name → Type 0
BodiesFit {Key} {Id} {Name} {T} over fits tree m = (over ≡ None) × ((n : Meaning Key Id Name) → Extends m n →
    (x y : T) → IsTrue (known (tree n x)) → IsTrue (known (tree n y)) → fits n x y)
