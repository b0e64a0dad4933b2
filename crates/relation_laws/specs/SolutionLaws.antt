-- Laws of the assignments that satisfy what is recorded, and of what was shown of terms.
use Rattle.std.specs.Prelude.{◌≡◌, ℕ, List, map, Option, None}
use Rattle.relation_terms.specs.Heads.{BoundKind, VarKind, Head}
use Rattle.relation_terms.specs.Trees.{Tree, Assign, apply, Leaves}
use Rattle.relation_terms.specs.Meaning.{Meaning, Extends as Grows}
use Rattle.relation_semantics.specs.Relation.{IsValueLeaf, StaysWithin, FitKinds}
use Rattle.relation_semantics.specs.Stores.{Store, IsMade, bound_term, universe_of, MayStandFor, IsNamable, IsAssignment}
use Rattle.relation_semantics.specs.Bound.{IsWellBound}
use Rattle.relation_semantics.specs.Stores.{MeetsBindings, IsSound, IsTermIn, resolved}
use Rattle.relation_semantics.specs.Steps.{IsLater, MakesVariable, HasExtension, AreNewVariables, AllNamable}
use Rattle.relation_semantics.specs.FirstOrder.{IsErasedSolution}
use Rattle.relation_semantics.specs.Contexts.{Context}
use Rattle.context_relation.specs.Relating.{term_in, KnowsTerm}

-- A value for each variable, which names what the variable's universe can.
abbrev pub GivesValues : Store → Assign → Type 0
GivesValues st t =
    ((k : VarKind) (n : ℕ) → MayStandFor k (t k n) × Leaves IsValueLeaf (t k n) × StaysWithin 0 (t k n)) ×
    ((k : VarKind) (n : ℕ) → IsMade st k n → Leaves (IsNamable (universe_of st k n)) (t k n))

-- Whatever the variables without a term stand for, the others have values to match.
abbrev pub FreeValues : Type 0
FreeValues = (st : Store) → IsSound st → (t : Assign) → GivesValues st t →
    IsAssignment st (λ k n. apply t (resolved st k n)) × MeetsBindings st (λ k n. apply t (resolved st k n)) ×
    ((k : VarKind) (n : ℕ) → bound_term st k n ≡ None → apply t (resolved st k n) ≡ t k n)

-- A new variable may have any value that its universe can name, also where an assignment satisfies what is recorded up
-- to erasure alone.
abbrev pub MadeIsUnconstrainedErased : Type 0
MadeIsUnconstrainedErased = (before after : Store) (k : VarKind) (n u : ℕ) → MakesVariable before after k n u →
    IsSound before → (s : Assign) (t : Tree) → IsErasedSolution before s → MayStandFor k t → Leaves IsValueLeaf t →
    StaysWithin 0 t → Leaves (IsNamable u) t → HasExtension before s (λ s'. IsErasedSolution after s' × (s' k n ≡ t))

-- New variables for what a binder binds have values of its kinds, that their universe can name: what comes of putting
-- these for it is an instance of the binder's body.
abbrev pub NewVariablesFit : Type 0
NewVariablesFit = (before after : Store) (u : ℕ) (ks : List BoundKind) (xs : List Tree) →
    AreNewVariables before after u ks xs → (s : Assign) → IsAssignment after s →
    FitKinds ks (map (apply s) xs) × AllNamable u (map (apply s) xs)

-- In a later context, which `state` shows, a known value has the tree that it had; it is known still, may be related if
-- it might be, and is the context's if it was.
abbrev pub TermStays : {S Key Id Name A : Type 0} → (S → Context Key Id Name) → Option Head →
    (Meaning Key Id Name → A → Tree) → Type 0
TermStays {S = S} {A = A} state over tree = (old new : S) → Grows (state old).meaning (state new).meaning →
    IsLater (state old).store (state new).store → (x : A) → KnowsTerm (state old) over tree x →
    (term_in (state new) over tree x ≡ term_in (state old) over tree x) × KnowsTerm (state new) over tree x ×
    (IsWellBound (term_in (state old) over tree x) → IsWellBound (term_in (state new) over tree x)) ×
    (IsTermIn (state old).store (term_in (state old) over tree x) →
    IsTermIn (state new).store (term_in (state new) over tree x))
