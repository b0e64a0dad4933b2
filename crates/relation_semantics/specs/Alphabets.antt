-- What terms are built of. Relating binds, and asks about, only what is built of what the two terms and the bindings were
-- built of: it brings in no form, no atom and no binder of its own.
--
--   Alphabet                    which forms and atoms may be used, and whether binders, and variables but of regions
--   IsBuiltOf k t          a term is built of a alphabet
--   BindsBuiltOf k st      so is each term that a variable is bound to
--   IsGoalOf k g           so are the terms that a goal speaks of
--   HasNoError k           it has no error
--   Builds k st st' gs     so is what was bound and registered from one record to another
--   WritesNothing st st'   nothing was bound and spent, and no variable made but of regions
--   NeedsVariable st a b   a variable but of a region stands in one of two terms
--   StaysBuilt st st' gs a b    so it is by each alphabet of which two terms and the bindings before were built
--   BuiltFrom st a b x y   by each such alphabet two other terms are built of it too
use Rattle.std.specs.Prelude.{◌≡◌, ◌≢◌, ◌⊎◌, ℕ, Bool, false, List, All, IsTrue}
use Rattle.relation_terms.specs.Heads.{BoundKind, VarKind, region_var, Head, alias, opaque_alias, well_formed, Atom}
use Rattle.relation_terms.specs.Heads.{type_error, const_error, ambiguous, variable, atom}
use Rattle.relation_terms.specs.Trees.{Tree, leaf, node, bind, nil, cons}
use Rattle.relation_semantics.specs.Asking.{BindsRegions}
use Rattle.relation_semantics.specs.Stores.{Store, bound_to, entry_of}
use Rattle.relation_semantics.specs.Goals.{Goal}

-- What terms may be built of: which forms and atoms may be used; whether binders; and whether variables but of regions,
-- and binders that bind other than regions. All other leaves may be.
pub record Alphabet : Type 0 where
  pub heads : Head → Bool
  pub atoms : Atom → Bool
  pub binders : Bool
  pub variables : Bool

-- It has variables of a kind.
abbrev pub MayVary : Alphabet → VarKind → Type 0
MayVary k j = j ≢ region_var → IsTrue k.variables

-- It has binders that bind so.
abbrev pub MayBind : Alphabet → List BoundKind → Type 0
MayBind k ks = IsTrue k.binders × (BindsRegions ks ⊎ IsTrue k.variables)

-- A tree is built of a alphabet.
abbrev pub IsBuiltOf : Alphabet → Tree → Type 0
IsBuiltOf k (leaf (atom x)) = IsTrue (k.atoms x)
IsBuiltOf k (leaf (variable j n)) = MayVary k j
IsBuiltOf k (leaf l) = Unit {0}
IsBuiltOf k (node h ts) = IsTrue (k.heads h) × IsBuiltOf k ts
IsBuiltOf k (bind ks t) = MayBind k ks × IsBuiltOf k t
IsBuiltOf k nil = Unit {0}
IsBuiltOf k (cons t ts) = IsBuiltOf k t × IsBuiltOf k ts

-- Each term that a variable of it is bound to is built of it.
abbrev pub BindsBuiltOf : Alphabet → Store → Type 0
BindsBuiltOf k st = (j : VarKind) → MayVary k j → (n : ℕ) (t : Tree) → entry_of st j n ≡ bound_to t → IsBuiltOf k t

-- It has opaque types.
abbrev pub HasOpaque : Alphabet → Type 0
HasOpaque k = (d : ℕ) × IsTrue (k.heads (alias opaque_alias d))

-- It has no error.
abbrev pub HasNoError : Alphabet → Type 0
HasNoError k = (k.atoms type_error ≡ false) × (k.atoms const_error ≡ false)

-- What a predicate speaks of, the parts of its form, is built of it; where too much was met to tell, that was an opaque
-- type; and that a type is well formed is asked only where there are variables.
abbrev pub IsPredicateOf : Alphabet → Tree → Type 0
IsPredicateOf k (bind ks (node well_formed ts)) = IsTrue k.variables × IsBuiltOf k ts
IsPredicateOf k (bind ks (node h ts)) = IsBuiltOf k ts
IsPredicateOf k (bind ks (leaf (atom ambiguous))) = HasOpaque k
IsPredicateOf k p = IsBuiltOf k p

-- All that a goal speaks of, beside its environment, is built of it.
abbrev pub IsGoalOf : Alphabet → Goal → Type 0
IsGoalOf k g = IsPredicateOf k g.predicate

-- Nothing was bound and spent, and no variable was made but of regions.
pub record WritesNothing (before after : Store) : Type 0 where
  pub entries : (j : VarKind) → j ≢ region_var → after.entries j ≡ before.entries j
  pub budget : after.budget ≡ before.budget

-- What is bound after, and what was registered, is built of an alphabet. The current universe is the old one, unless
-- the alphabet has binders; it is tainted only if it was, unless the alphabet has an error. Nothing was bound and
-- spent, and no variable made but of regions, unless the alphabet has such; nor was one of regions, unless it has
-- these or binders.
pub record Builds (k : Alphabet) (before after : Store) (added : List Goal) : Type 0 where
  pub binds : BindsBuiltOf k after
  pub asks : All (IsGoalOf k) added
  pub universe : k.binders ≡ false → after.universe ≡ before.universe
  pub taint : HasNoError k → IsTrue after.tainted → IsTrue before.tainted
  pub writes : k.variables ≡ false → WritesNothing before after
  pub makes_none : k.variables ≡ false → k.binders ≡ false → after.entries region_var ≡ before.entries region_var

-- Of whatever two terms and all that was bound are built, so is what is bound after and what was registered.
abbrev pub StaysBuilt : Store → Store → List Goal → Tree → Tree → Type 0
StaysBuilt before after added a b =
    (k : Alphabet) → IsBuiltOf k a → IsBuiltOf k b → BindsBuiltOf k before → Builds k before after added

-- Of whatever two terms and all that is bound are built, so are two other terms.
abbrev pub BuiltFrom : Store → Tree → Tree → Tree → Tree → Type 0
BuiltFrom st a b x y =
    (k : Alphabet) → IsBuiltOf k a → IsBuiltOf k b → BindsBuiltOf k st → IsBuiltOf k x × IsBuiltOf k y

-- Of whatever two terms and all that is bound are built, that has variables but of regions: one stands in the two.
abbrev pub NeedsVariable : Store → Tree → Tree → Type 0
NeedsVariable st a b = (k : Alphabet) → IsBuiltOf k a → IsBuiltOf k b → BindsBuiltOf k st → IsTrue k.variables
