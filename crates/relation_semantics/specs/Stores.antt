-- What a context has recorded, what that asks of an assignment, and the invariant of what is recorded.
--
--   Store                   all that is recorded: entries and universes of variables, constraints, taint and budget
--   entry_of st k n         what is recorded of variable n of kind k: an Entry
--   bound_term st k n       the term that it has by that
--   universe_of st k n      its universe
--   IsMade st k n           it is one of the context's
--   MayStandFor k t         t may stand for a variable of kind k
--   IsNamable u l           universe u can name the leaf l
--   IsAssignment st s       s gives each variable a value of its kind that its universe can name
--   ConstraintHolds w s q   constraint q holds of the regions that s gives
--   MeetsBindings st s      each bound variable has the value of its term
--   Satisfies w st s        all three: s satisfies st under interpretation w
--   OnlyShrinks st st'      what satisfies st' satisfies st
--   resolved st             what each variable comes to by its bindings
--   weight st t             the size of what a term comes to
--   all_taken st            how many variables have a term; all_bound st, how many type and constant variables are
--                           bound to one
--   InContext st t          each variable of t is the context's
--   IsTermIn st t           and nothing in t escapes its binders or is of a later universe
--   IsSound st              the invariant: bindings end, and are of their variables' kinds and in their scopes
use Rattle.std.specs.Prelude.{◌≡◌, ℕ, zero, suc, ◌+◌, ◌<◌, ◌≤◌, Bool, List, [], ◌∷◌, Option, Some, None, All, length}
use Rattle.std.specs.Prelude.{get_or}
use Rattle.relation_terms.specs.Heads.{region_sort, type_sort, const_sort, VarKind, type_var, int_var, float_var}
use Rattle.relation_terms.specs.Heads.{const_var, region_var, Atom, int_type, uint_type, float_type, Leaf, variable}
use Rattle.relation_terms.specs.Heads.{bound, placeholder, atom, unknown}
use Rattle.relation_terms.specs.Trees.{Tree, leaf, Assign, apply, Leaves, size, IsTerm}
use Rattle.relation_semantics.specs.Relation.{Interpretation, Outlives, IsValueAtom, IsValueLeaf, StaysWithin}

-- A constraint on regions: the first outlives the second, or both outlive each other.
pub data Constraint : Type 0 where
  outlives_constraint equal_constraint : Tree → Tree → Constraint

-- What is recorded of a variable: nothing, that it is the same as another of its kind, or the term that it is bound
-- to.
pub data Entry : Type 0 where
  unbound : Entry
  same_as : ℕ → Entry
  bound_to : Tree → Entry

-- What a context has recorded: for each kind of variables their entries and universes, in the order of their
-- numbers; the current universe; the constraints; whether an error was met; how many instantiations may be made.
pub record Store : Type 0 where
  pub entries : VarKind → List Entry
  pub universes : VarKind → List ℕ
  pub universe : ℕ
  pub constraints : List Constraint
  pub tainted : Bool
  pub budget : ℕ

-- The entry of a variable; of one that is not made, none.
abbrev pub entry_of : Store → VarKind → ℕ → Entry
entry_of st k n = get_or (st.entries k) n unbound

-- The term that a variable of a kind has by its entry.
abbrev pub entry_term : VarKind → Entry → Option Tree
entry_term k unbound = None
entry_term k (same_as m) = Some (leaf (variable k m))
entry_term k (bound_to t) = Some t

-- The term that a variable has.
abbrev pub bound_term : Store → VarKind → ℕ → Option Tree
bound_term st k n = entry_term k (entry_of st k n)

-- A variable's universe.
abbrev pub universe_of : Store → VarKind → ℕ → ℕ
universe_of st k n = get_or (st.universes k) n 0

-- The variable is one of the context's.
abbrev pub IsMade : Store → VarKind → ℕ → Type 0
IsMade st k n = n < length (st.entries k)

-- An integer type.
abbrev pub IsIntegerAtom : Atom → Type 0
IsIntegerAtom (int_type w) = Unit {0}
IsIntegerAtom (uint_type w) = Unit {0}
IsIntegerAtom x = ⊥

-- A float type.
abbrev pub IsFloatAtom : Atom → Type 0
IsFloatAtom (float_type w) = Unit {0}
IsFloatAtom x = ⊥

-- An integer type or an integer variable.
abbrev pub IsIntegerTerm : Tree → Type 0
IsIntegerTerm (leaf (variable int_var n)) = Unit {0}
IsIntegerTerm (leaf (atom x)) = IsIntegerAtom x
IsIntegerTerm t = ⊥

-- A float type or a float variable.
abbrev pub IsFloatTerm : Tree → Type 0
IsFloatTerm (leaf (variable float_var n)) = Unit {0}
IsFloatTerm (leaf (atom x)) = IsFloatAtom x
IsFloatTerm t = ⊥

-- A term that may stand for a variable of a kind.
abbrev pub MayStandFor : VarKind → Tree → Type 0
MayStandFor type_var t = IsTerm type_sort t
MayStandFor int_var t = IsIntegerTerm t
MayStandFor float_var t = IsFloatTerm t
MayStandFor const_var t = IsTerm const_sort t
MayStandFor region_var t = IsTerm region_sort t

-- No placeholder of a universe above `u`.
abbrev pub IsNamable : ℕ → Leaf → Type 0
IsNamable u (variable k n) = Unit {0}
IsNamable u (bound k d i) = Unit {0}
IsNamable u (placeholder k v n) = v ≤ u
IsNamable u (atom x) = Unit {0}
IsNamable u unknown = ⊥

-- Each variable of the context has a value of its kind, without variables and escaping bound variables, that names
-- only what its universe can.
abbrev pub IsAssignment : Store → Assign → Type 0
IsAssignment st s = (k : VarKind) (n : ℕ) → IsMade st k n → MayStandFor k (s k n) × Leaves IsValueLeaf (s k n) ×
    StaysWithin 0 (s k n) × Leaves (IsNamable (universe_of st k n)) (s k n)

-- A constraint holds of the assigned regions.
abbrev pub ConstraintHolds : Interpretation → Assign → Constraint → Type 0
ConstraintHolds w s (outlives_constraint a b) = Outlives w (apply s a) (apply s b)
ConstraintHolds w s (equal_constraint a b) = Outlives w (apply s a) (apply s b) × Outlives w (apply s b) (apply s a)

-- The bindings hold: each bound variable has its term's value.
abbrev pub MeetsBindings : Store → Assign → Type 0
MeetsBindings st s = (k : VarKind) (n : ℕ) (t : Tree) → bound_term st k n ≡ Some t → s k n ≡ apply s t

-- The assignment satisfies the store under an interpretation.
pub record Satisfies (w : Interpretation) (st : Store) (s : Assign) : Type 0 where
  pub assigns : IsAssignment st s
  pub bindings : MeetsBindings st s
  pub regions : All (ConstraintHolds w s) st.constraints

-- Whatever satisfies the later store satisfies the earlier one.
abbrev pub OnlyShrinks : Store → Store → Type 0
OnlyShrinks before after = (w : Interpretation) (s : Assign) → Satisfies w after s → Satisfies w before s

-- No variable that has a term.
abbrev pub IsFree : Store → Leaf → Type 0
IsFree st (variable k n) = bound_term st k n ≡ None
IsFree st (bound k d i) = Unit {0}
IsFree st (placeholder k u n) = Unit {0}
IsFree st (atom x) = Unit {0}
IsFree st unknown = Unit {0}

-- What an assignment makes of a variable with a term, and of one without.
abbrev pub through : Assign → VarKind → ℕ → Option Tree → Tree
through s k n None = leaf (variable k n)
through s k n (Some t) = apply s t

-- Bindings followed for a number of rounds.
unfoldable pub resolve : ℕ → Store → Assign
resolve zero st k n = leaf (variable k n)
resolve (suc f) st k n = through (resolve f st) k n (bound_term st k n)

-- Enough rounds for so many acyclic bindings: each further one doubles their number and adds one.
abbrev pub rounds_for : ℕ → ℕ
rounds_for zero = 0
rounds_for (suc n) = suc (rounds_for n + rounds_for n)

-- One for an entry that has a term.
abbrev pub counts_term : Entry → ℕ
counts_term unbound = 0
counts_term (same_as m) = 1
counts_term (bound_to t) = 1

-- One for the entry of a variable that is bound to a term.
abbrev pub counts_bound : Entry → ℕ
counts_bound unbound = 0
counts_bound (same_as m) = 0
counts_bound (bound_to t) = 1

-- The sum over the entries of a list.
abbrev pub sum_over : (Entry → ℕ) → List Entry → ℕ
sum_over f [] = 0
sum_over f (e ∷ es) = f e + sum_over f es

-- The same over the variables of all kinds.
abbrev pub all_sum_over : (Entry → ℕ) → Store → ℕ
all_sum_over f st = sum_over f (st.entries type_var) + (sum_over f (st.entries int_var) + (sum_over f (st.entries float_var) +
    (sum_over f (st.entries const_var) + sum_over f (st.entries region_var))))

-- How many entries have a term.
abbrev pub all_taken : Store → ℕ
all_taken st = all_sum_over counts_term st

-- How many type and constant variables are bound to a term. Number variables are bound for nothing.
abbrev pub all_bound : Store → ℕ
all_bound st = sum_over counts_bound (st.entries type_var) + sum_over counts_bound (st.entries const_var)

-- What each variable comes to.
unfoldable pub resolved : Store → Assign
resolved st = resolve (rounds_for (all_taken st)) st

-- The size of what a term comes to.
unfoldable pub weight : Store → Tree → ℕ
weight st t = size (apply (resolved st) t)

-- Each variable of a term is the context's, and nothing in it stands for one or is unknown.
abbrev pub IsMadeLeaf : Store → Leaf → Type 0
IsMadeLeaf st (variable k n) = IsMade st k n
IsMadeLeaf st (bound k d i) = Unit {0}
IsMadeLeaf st (placeholder k u n) = Unit {0}
IsMadeLeaf st (atom x) = IsValueAtom x
IsMadeLeaf st unknown = ⊥

-- A term over the variables of a context.
unfoldable pub InContext : Store → Tree → Type 0
InContext st t = Leaves (IsMadeLeaf st) t

-- The same, and no part names what universe `u` can't.
abbrev pub IsInScope : Store → ℕ → Leaf → Type 0
IsInScope st u (variable k n) = IsMade st k n × (universe_of st k n ≤ u)
IsInScope st u (bound k d i) = Unit {0}
IsInScope st u (placeholder k v n) = v ≤ u
IsInScope st u (atom x) = IsValueAtom x
IsInScope st u unknown = ⊥

-- A term over the context's variables, with no escaping bound variable and no placeholder of a later universe.
unfoldable pub IsTermIn : Store → Tree → Type 0
IsTermIn st t = InContext st t × StaysWithin 0 t × Leaves (IsNamable st.universe) t

-- A region of the context.
abbrev pub IsRegionIn : Store → Tree → Type 0
IsRegionIn st r = IsTerm region_sort r × IsTermIn st r

-- A constraint on regions of the context.
abbrev pub ConstraintIn : Store → Constraint → Type 0
ConstraintIn st (outlives_constraint a b) = IsRegionIn st a × IsRegionIn st b
ConstraintIn st (equal_constraint a b) = IsRegionIn st a × IsRegionIn st b

-- A variable may have a term: both are the context's, and the term is of the variable's kind.
pub record MayHave (st : Store) (k : VarKind) (n : ℕ) (t : Tree) : Type 0 where
  pub made : IsMade st k n
  pub is_in : IsTermIn st t
  pub stands : MayStandFor k t

-- The invariant of a store. Following its bindings ends, so they are acyclic; each is of its variable's kind and over
-- the context's variables; what a variable comes to names only what its universe can. A variable that is the same as
-- another leads to one of a smaller number, and region variables are never bound. Universes, one for each variable,
-- are at most the current one. Constraints are on regions of the context.
pub record IsSound (st : Store) : Type 0 where
  pub settles : (k : VarKind) (n : ℕ) → Leaves (IsFree st) (resolved st k n)
  pub bindings : (k : VarKind) (n : ℕ) (t : Tree) → bound_term st k n ≡ Some t → MayHave st k n t
  pub in_scope : (k : VarKind) (n : ℕ) → IsMade st k n → Leaves (IsInScope st (universe_of st k n)) (resolved st k n)
  pub falls : (k : VarKind) (n m : ℕ) → entry_of st k n ≡ same_as m → m < n
  pub regions_unbound : (n : ℕ) → entry_of st region_var n ≡ unbound
  pub one_universe_each : (k : VarKind) → length (st.universes k) ≡ length (st.entries k)
  pub below_current : (k : VarKind) (n : ℕ) → universe_of st k n ≤ st.universe
  pub constraints_in : All (ConstraintIn st) st.constraints

-- Some assignment meets the bindings of a sound store.
abbrev pub BindingsAreMet : Type 0
BindingsAreMet = (st : Store) → IsSound st → (s : Assign) × IsAssignment st s × MeetsBindings st s
