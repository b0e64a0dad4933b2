-- Laws of opening binders: what becomes of a store, and of a body.
use Rattle.std.specs.Prelude.{◌≡◌, ℕ, ◌≤◌, List}
use Rattle.relation_terms.specs.Heads.{BoundKind}
use Rattle.relation_terms.specs.Trees.{Tree, bind}
use Rattle.relation_semantics.specs.Stores.{Store, IsTermIn, IsSound, weight}
use Rattle.relation_semantics.specs.Steps.{MakesVariables, EntersForall, InstantiatesBinder}
use Rattle.relation_semantics.specs.Bound.{BindsByList, IsWellBound}
use Rattle.relation_semantics.specs.Binders.{MakesEach, InstantiatesEach}

-- Making a variable for each place of a binder's list is making the variables of the binder; and a body with these put
-- in is opened by them.
abbrev pub MakingEachMakes : Type 0
MakingEachMakes = (before after : Store) (u : ℕ) (ks : List BoundKind) (xs : List Tree) →
    MakesEach u before ks xs after → u ≤ before.universe → IsSound before → MakesVariables before after u ks xs

abbrev pub InstantiatingEachOpens : Type 0
InstantiatingEachOpens = (before after : Store) (ks : List BoundKind) (body opened : Tree) →
    InstantiatesEach before after ks body opened → IsSound before → InstantiatesBinder before after ks body opened

-- A body that was opened in either way is the context's, and comes to what is as large as before.
abbrev pub EnteredBodyIsIn : Type 0
EnteredBodyIsIn = (before after : Store) (ks : List BoundKind) (body opened : Tree) →
    EntersForall before after ks body opened → IsSound before → IsTermIn before (bind ks body) →
    BindsByList (bind ks body) → IsTermIn after opened × (weight after opened ≡ weight before body)

abbrev pub InstantiatedBodyIsIn : Type 0
InstantiatedBodyIsIn = (before after : Store) (ks : List BoundKind) (body opened : Tree) →
    InstantiatesEach before after ks body opened → IsSound before → IsTermIn before (bind ks body) →
    BindsByList (bind ks body) → IsTermIn after opened × (weight after opened ≡ weight before body)

-- Its own binders bind as they did.
abbrev pub EnteredBodyBinds : Type 0
EnteredBodyBinds = (before after : Store) (ks : List BoundKind) (body opened : Tree) →
    EntersForall before after ks body opened → IsWellBound body → IsWellBound opened

abbrev pub InstantiatedBodyBinds : Type 0
InstantiatedBodyBinds = (before after : Store) (ks : List BoundKind) (body opened : Tree) →
    InstantiatesEach before after ks body opened → IsWellBound body → IsWellBound opened
