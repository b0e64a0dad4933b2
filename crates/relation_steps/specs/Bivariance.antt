-- Bivariant arguments that are left open, and what is registered of types with such arguments.
use Rattle.std.specs.Prelude.{◌≡◌, ◌≢◌, ◌⊎◌, ℕ, ◌<◌, Bool, List, [], ◌∷◌, ◌++◌, Contains, IsTrue, Result, IfOk, ◌↔◌}
use Rattle.term_enums.specs.declared.Variance.TheVariants.{Invariant, Bivariant}
use Rattle.relation_terms.specs.Flags.{has_non_region_infer}
use Rattle.relation_terms.specs.Trees.{Tree, apply, count, nth}
use Rattle.relation_terms.specs.declared.terms.ids.DefId.{DefId}
use Rattle.relation_terms.specs.declared.terms.keys.TyKey.{TyKey}
use Rattle.relation_terms.specs.declared.terms.keys.ArgsKey.{ArgsKey}
use Rattle.relation_semantics.specs.Lawful.{State, items_in}
use Rattle.relation_steps.specs.Arguments.{AreOverItem}
use Rattle.relation_semantics.specs.Relation.{Items}
use Rattle.relation_semantics.specs.Stores.{Store, resolved}
use Rattle.relation_semantics.specs.Goals.{Goal, goal_of, well_formed_predicate}

-- An inference variable of any kind but region stands in what a term comes to.
abbrev pub is_left_open : Store → Tree → Bool
is_left_open st t = has_non_region_infer (apply (resolved st) t)

-- The argument at a place of a list, which an item declares bivariant, is left open.
abbrev pub IsOpenAt : Items → Store → ℕ → Tree → ℕ → Type 0
IsOpenAt c st d ts i = (i < count ts) × (c.declared d i ≡ Bivariant) × IsTrue (is_left_open st (nth i ts))

-- One of a list's arguments is so.
abbrev pub HasOpenArgument : Items → Store → ℕ → Tree → Type 0
HasOpenArgument c st d ts = (i : ℕ) × IsOpenAt c st d ts i

-- Whether one is was answered; or a growth was refused.
abbrev pub TellsOpen : {F : Type 0} → Items → Store → ℕ → Tree → Result Bool F → Type 0
TellsOpen c st d ts result = IfOk result (λ b. IsTrue b ↔ HasOpenArgument c st d ts)

-- Whether one of two lists is so was answered; or a growth was refused.
abbrev pub TellsEitherOpen : {F : Type 0} → Items → Store → ℕ → Tree → Tree → Result Bool F → Type 0
TellsEitherOpen c st d ts us result =
    IfOk result (λ b. IsTrue b ↔ HasOpenArgument c st d ts ⊎ HasOpenArgument c st d us)

-- Behind the goals that there were, that each of two types is well formed was registered, the first one's first, where
-- an argument of either list is left open; else none was.
pub record RegistersWellFormed (c : Items) (st : Store) (e : Tree) (d : ℕ) (a b ts us : Tree)
    (before after : List Goal) : Type 0 where
  pub both : HasOpenArgument c st d ts ⊎ HasOpenArgument c st d us →
      after ≡ before ++ goal_of e (well_formed_predicate a) ∷ goal_of e (well_formed_predicate b) ∷ []
  pub none : (HasOpenArgument c st d ts ⊎ HasOpenArgument c st d us → ⊥) → after ≡ before

-- The same of two types over the item of an id and these lists, by the keys of a relation, unless nothing was answered.
abbrev pub AsksWellFormed : {Key Id Name S A F : Type 0} → (S → State Key Id Name) → S → S → DefId Id → TyKey Key →
    TyKey Key → ArgsKey Key → ArgsKey Key → Result A F → Type 0
AsksWellFormed state before after d a b xs ys result = let r = state before in let m = r.meaning in IfOk result
    (λ _. RegistersWellFormed (items_in r) r.store r.kept.environment (m.id d.0) (m.ty a) (m.ty b) (m.args xs) (m.args ys)
    r.goals (state after).goals)

-- Of two types over an item, whichever it is and whatever the lists, just that was registered, unless a fault was told.
abbrev pub AsksOfOver : {Key Id Name A F : Type 0} → State Key Id Name → State Key Id Name → TyKey Key → TyKey Key →
    Result A F → Type 0
AsksOfOver r q a b result = let m = r.meaning in IfOk result (λ _. (d : ℕ) (ts us : Tree) →
    AreOverItem d (m.ty a) (m.ty b) ts us →
    RegistersWellFormed (items_in r) r.store r.kept.environment d (m.ty a) (m.ty b) ts us r.goals q.goals)

-- Of two types over an item that were related at covariance or contravariance, that each is well formed stands among the
-- goals, where an argument of either list is left open by what is recorded then.
abbrev pub HasAskedOpen : {Key Id Name : Type 0} → State Key Id Name → State Key Id Name → Tree → Tree → Type 0
HasAskedOpen r q a b = r.ambient ≢ Invariant → (d : ℕ) (ts us : Tree) → AreOverItem d a b ts us →
    HasOpenArgument (items_in r) q.store d ts ⊎ HasOpenArgument (items_in r) q.store d us →
    Contains q.goals (goal_of r.kept.environment (well_formed_predicate a)) ×
    Contains q.goals (goal_of r.kept.environment (well_formed_predicate b))
