-- What a solver's answers mean, whatever rules there are and however it came to them.
--
--   YesIsSound        each solution after a yes is one before, and makes the goal follow
--   YesIsPrincipal    each solution before under which the goal follows goes on after a yes
--   NoMeansNone       under no solution before a no the goal follows
--   AllYesAreSound, AllYesArePrincipal, SomeNoMeansNone   the same of all of a list
--   ProofsDerive      what satisfies the record after a yes, and makes the goals true that are left, makes the goal
--                     derived
--   ProofsDeriveBy    the same of a yes by a rule: the goal is derived by that one
use Rattle.std.specs.Prelude.{◌≡◌, ℕ, List, All, map}
use Rattle.relation_terms.specs.Trees.{Tree, Assign, apply}
use Rattle.relation_terms.specs.Heads.{BoundKind}
use Rattle.relation_semantics.specs.Relation.{Items, Interpretation, FitKinds}
use Rattle.relation_semantics.specs.Stores.{Store, IsSound, InContext, Satisfies}
use Rattle.relation_semantics.specs.Goals.{Goal, Holds}
use Rattle.relation_semantics.specs.FirstOrder.{IsErasedSolution}
use Rattle.relation_semantics.specs.Steps.{AllNamable, MakesVariables, HasExtension, HasErasedExtension}
use Rattle.relation_solver.specs.Rules.{AreClosed, Rule, one, all, Follows, Derives, DerivesBy}
use Rattle.relation_solver.specs.Traces.{Did, goal, goals, yes, no, Proves, ProvesBy}

-- New variables for what a binder binds may have any values that their universe can name, also where an assignment
-- satisfies what is recorded up to erasure alone.
abbrev pub OpenedAreUnconstrained : Type 0
OpenedAreUnconstrained = (before after : Store) (u : ℕ) (ks : List BoundKind) (vars : List Tree) →
    MakesVariables before after u ks vars → IsSound before → (s : Assign) (xs : List Tree) → IsErasedSolution before s →
    FitKinds ks xs → AllNamable u xs →
    HasExtension before s (λ s'. IsErasedSolution after s' × (map (apply s') vars ≡ xs))

-- After a yes each solution was one before, and makes the goal follow.
abbrev pub YesIsSound : Type 0
YesIsSound = (u : ℕ) (held : List Tree) (rules : List Rule) (before after : Store) (g : Tree) → AreClosed held →
    Did u held rules before (goal g) (yes after) → (s : Assign) → IsErasedSolution after s →
    IsErasedSolution before s × Follows u held rules (one (apply s g))

-- After a yes no solution is lost under which the goal follows: what was bound had to be so.
abbrev pub YesIsPrincipal : Type 0
YesIsPrincipal = (u : ℕ) (held : List Tree) (rules : List Rule) (before after : Store) (g : Tree) → AreClosed held →
    InContext before g → Did u held rules before (goal g) (yes after) → (s : Assign) → IsErasedSolution before s →
    Follows u held rules (one (apply s g)) → HasErasedExtension before s (IsErasedSolution after)

-- Where the answer is no, the goal follows under no solution, at no depth.
abbrev pub NoMeansNone : Type 0
NoMeansNone = (u : ℕ) (held : List Tree) (rules : List Rule) (before : Store) (g : Tree) → AreClosed held →
    InContext before g → Did u held rules before (goal g) no → (s : Assign) → IsErasedSolution before s →
    Follows u held rules (one (apply s g)) → ⊥

-- After a yes to all of a list each solution was one before, and makes all follow.
abbrev pub AllYesAreSound : Type 0
AllYesAreSound = (u : ℕ) (held : List Tree) (rules : List Rule) (before after : Store) (gs : List Tree) →
    AreClosed held → Did u held rules before (goals gs) (yes after) → (s : Assign) → IsErasedSolution after s →
    IsErasedSolution before s × Follows u held rules (all (map (apply s) gs))

-- After a yes to all no solution is lost under which all follow.
abbrev pub AllYesArePrincipal : Type 0
AllYesArePrincipal = (u : ℕ) (held : List Tree) (rules : List Rule) (before after : Store) (gs : List Tree) →
    AreClosed held → All (InContext before) gs → Did u held rules before (goals gs) (yes after) → (s : Assign) →
    IsErasedSolution before s → Follows u held rules (all (map (apply s) gs)) →
    HasErasedExtension before s (IsErasedSolution after)

-- Where the answer to a list is no, under no solution all of it follow.
abbrev pub SomeNoMeansNone : Type 0
SomeNoMeansNone = (u : ℕ) (held : List Tree) (rules : List Rule) (before : Store) (gs : List Tree) → AreClosed held →
    All (InContext before) gs → Did u held rules before (goals gs) no → (s : Assign) → IsErasedSolution before s →
    Follows u held rules (all (map (apply s) gs)) → ⊥

-- Of any goal, with goals that are left: what satisfies the record after and makes these true makes the goal derived,
-- and satisfied the record before.
abbrev pub ProofsDerive : Type 0
ProofsDerive = (c : Items) (e : Tree) (u : ℕ) (held : List Tree) (rules : List Rule) (left : List Goal)
    (before after : Store) (g : Tree) → AreClosed held → Proves c e u held rules left before (one g) after →
    (w : Interpretation) (s : Assign) → Satisfies w after s → All (Holds c w s) left →
    Satisfies w before s × Derives c w e u held rules (one (apply s g))

-- Of a goal to which it was yes by a rule the last rule that derives it is that one.
abbrev pub ProofsDeriveBy : Type 0
ProofsDeriveBy = (c : Items) (e : Tree) (u : ℕ) (held : List Tree) (rules : List Rule) (left : List Goal)
    (before after : Store) (r : Rule) (g : Tree) → AreClosed held → ProvesBy c e u held rules left before after r g →
    (w : Interpretation) (s : Assign) → Satisfies w after s → All (Holds c w s) left →
    DerivesBy c w e u held rules r (apply s g)
