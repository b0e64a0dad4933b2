-- What relating two plain terms without binders records and registers: what is asked for.
use Rattle.std.specs.Prelude.{◌≡◌, ◌⊎◌, ℕ, ◌<◌, false, List, ◌++◌, All, Contains, IsTrue}
use Rattle.term_enums.specs.declared.Variance.{Variance}
use Rattle.relation_terms.specs.Heads.{Head}
use Rattle.relation_terms.specs.Trees.{Tree, apply, nth}
use Rattle.relation_semantics.specs.Relation.{Items, part_at, IsAliasHead}
use Rattle.relation_semantics.specs.Stores.{Store, Constraint, IsSound, resolved}
use Rattle.relation_semantics.specs.Goals.{Goal, goal_of}
use Rattle.relation_semantics.specs.Settings.{Settings, DefersAliases}
use Rattle.relation_semantics.specs.Steps.{IsLater, HasNoBinder}
use Rattle.relation_semantics.specs.Alphabets.{Alphabet, IsBuiltOf, BindsBuiltOf}
use Rattle.relation_semantics.specs.Asking.{Wanted, a_constraint, a_goal, IsOfItself, IsTrivial, AsksFor, IsPlainTerm}
use Rattle.relation_semantics.specs.Asking.{HasNoAlias}

-- Two plain terms without binders; and without aliases, or where these are left to goals.
pub record AreBare (k : Settings) (a b : Tree) : Type 0 where
  pub left_plain : IsPlainTerm a
  pub right_plain : IsPlainTerm b
  pub left_unbound : HasNoBinder a
  pub right_unbound : HasNoBinder b
  pub aliases : DefersAliases k ⊎ (HasNoAlias a × HasNoAlias b)

-- What is wanted stands among these constraints, or among these goals in an environment.
abbrev pub StandsAmong : Tree → List Constraint → List Goal → Wanted → Type 0
StandsAmong e cs gs (a_constraint q) = Contains cs q
StandsAmong e cs gs (a_goal p) = Contains gs (goal_of e p)

-- It need not be recorded, or stands there.
abbrev pub IsRecorded : Tree → List Constraint → List Goal → Wanted → Type 0
IsRecorded e cs gs z = IsTrivial z ⊎ StandsAmong e cs gs z

-- Between two lists of constraints just what relating two terms asks for was added, that of a region with itself aside,
-- and just the goals are these that it asks for in an environment.
pub record IsJustAsked (c : Items) (e : Tree) (v : Variance) (a b : Tree) (before after : List Constraint)
    (goals : List Goal) : Type 0 where
  pub constraints : List Constraint
  pub recorded : after ≡ before ++ constraints
  pub constraints_asked : All (λ q. AsksFor c (a_constraint q) v a b) constraints
  pub all_constraints : (q : Constraint) → AsksFor c (a_constraint q) v a b → IsOfItself q ⊎ Contains constraints q
  pub goals_asked : All (λ g. AsksFor c (a_goal g.predicate) v a b) goals
  pub all_goals : (p : Tree) → AsksFor c (a_goal p) v a b → Contains goals (goal_of e p)

-- What the first parts of two lists of parts of a form ask for.
abbrev pub FrontAsks : Items → Head → Variance → ℕ → Tree → Tree → Wanted → Type 0
FrontAsks c h v i xs ys z = (j : ℕ) × (j < i) × AsksFor c z (part_at c h j v) (nth j xs) (nth j ys)

-- Constraints were added behind those that stood, and of each it is so.
pub record AddsOnly (P : Constraint → Type 0) (before after : List Constraint) : Type 0 where
  pub added : List Constraint
  pub recorded : after ≡ before ++ added
  pub each : All P added

-- Two terms ask for a constraint by what they come to from a record on: a later one binds more, but no region.
abbrev pub AskSince : Items → Store → Constraint → Variance → Tree → Tree → Type 0
AskSince c since q v a b = (st : Store) → IsLater since st → IsSound st →
    AsksFor c (a_constraint q) v (apply (resolved st) a) (apply (resolved st) b)

-- No alias type and no unevaluated constant is in an alphabet.
abbrev pub HasNoAliasHead : Alphabet → Type 0
HasNoAliasHead k = (h : Head) → IsAliasHead h → IsTrue (k.heads h) → ⊥

-- What is built of an alphabet is gone into down to its regions: no binder is in it, and no alias, unless these are left
-- to goals.
abbrev pub IsGoneInto : Settings → Alphabet → Type 0
IsGoneInto g k = (k.binders ≡ false) × (DefersAliases g ⊎ HasNoAliasHead k)

-- Of whatever such alphabet two terms and what is bound are built: each constraint that was added is one that they ask
-- for.
abbrev pub AsksNoMore : Settings → Items → Store → Store → Variance → Tree → Tree → Type 0
AsksNoMore g c before after v a b = (k : Alphabet) → IsGoneInto g k → IsBuiltOf k a → IsBuiltOf k b →
    BindsBuiltOf k before → AddsOnly (λ q. AskSince c after q v a b) before.constraints after.constraints

-- A step led from two terms to two others and recorded no constraint; what those ask for from then on, these do.
abbrev pub LeadsAsking : Settings → Items → Store → Store → Variance → Tree → Tree → Variance → Tree → Tree → Type 0
LeadsAsking g c before after v a b w x y = (k : Alphabet) → IsGoneInto g k → IsBuiltOf k a → IsBuiltOf k b →
    BindsBuiltOf k before → (after.constraints ≡ before.constraints) × ((q : Constraint) (st : Store) →
    IsLater after st → IsSound st → AsksFor c (a_constraint q) w (apply (resolved st) x) (apply (resolved st) y) →
    AsksFor c (a_constraint q) v (apply (resolved st) a) (apply (resolved st) b))
