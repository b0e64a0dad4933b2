-- What is put for what a binder binds.
use Rattle.std.specs.Prelude.{◌≡◌, ℕ}
use Rattle.relation_terms.specs.Heads.{VarKind, variable}
use Rattle.relation_terms.specs.declared.terms.binder.Binder.{Binder}
use Rattle.relation_terms.specs.Trees.{Tree, leaf}
use Rattle.relation_terms.specs.Meaning.{Meaning}
use Rattle.relation_semantics.specs.Binders.{binder_tree}
use Rattle.relation_semantics.specs.Contexts.{Context}
use Rattle.relation_semantics.specs.Steps.{MakesVariable}
use Rattle.relation_semantics.specs.Stores.{Store, IsTermIn}

-- A new variable of a kind was made in the current universe.
abbrev pub MakesOne : Store → Store → VarKind → Tree → Type 0
MakesOne before after k x = (n : ℕ) × (x ≡ leaf (variable k n)) × MakesVariable before after k n before.universe

-- A binder is a term of a context.
abbrev pub IsBinderIn : {Key Id Name K : Type 0} → Context Key Id Name → (Meaning Key Id Name → K → Tree) →
    Binder Key K → Type 0
IsBinderIn c tree b = IsTermIn c.store (binder_tree tree c.meaning b)
