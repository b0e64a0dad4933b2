-- What the tables of a context mean: the store that they record, and the invariant of a context.
use Rattle.std.specs.Prelude.{◌≡◌, ℕ, ◌<◌, ◌≤◌, List, map, length, get_or}
use Rattle.relation_terms.specs.Heads.{VarKind, type_var, int_var, float_var, const_var, region_var, variable}
use Rattle.relation_terms.specs.Trees.{Tree, leaf, nil}
use Rattle.relation_terms.specs.Meaning.{Meaning}
use Rattle.relation_semantics.specs.Stores.{Store, entry_of, same_as, bound_to, IsSound}
use Rattle.relation_semantics.specs.Generalising.{NumbersNameNothing}
use Rattle.relation_semantics.specs.Constraints.{constraint_of}
use Rattle.relation_semantics.specs.Parts.{IsRigid, IsFormedConst}
use Rattle.relation_semantics.specs.Bound.{IsWellBound}
use Rattle.relation_semantics.specs.Contexts.{Context}
use Rattle.relation_semantics.specs.Settings.{Setup}
use Rattle.relation_semantics.specs.ContextCalls.{BindingsAreWellBound}
use Rattle.variable_tables.specs.declared.inner.InferCtxtInner.{InferCtxtInner}
use Rattle.variable_tables.specs.Variables.{entries_of, universes_of, trees_of}
use Rattle.variable_tables.specs.Numbers.{number_trees}
use Rattle.variable_classes.specs.Roots.{root_in, IsRootTable}

-- One thing for each kind of variables: types, integers, floats, constants, regions.
abbrev pub by_kind : {A : Type 0} → A → A → A → A → A → VarKind → A
by_kind t i f c r type_var = t
by_kind t i f c r int_var = i
by_kind t i f c r float_var = f
by_kind t i f c r const_var = c
by_kind t i f c r region_var = r

-- What a variable of a kind may be bound to, each binder in which binds by its list: a type variable to any type, so
-- that also to another variable; any other to a term that is no variable.
abbrev pub MayBeBoundTo : VarKind → Tree → Type 0
MayBeBoundTo type_var t = IsWellBound t
MayBeBoundTo const_var t = IsFormedConst t × IsWellBound t
MayBeBoundTo k t = IsRigid t × IsWellBound t

-- So in what is bound, binders bind by their lists.
pub may_by_lists : (k : VarKind) (t : Tree) → MayBeBoundTo k t → IsWellBound t
may_by_lists type_var t h = h
may_by_lists int_var t h = h.1
may_by_lists float_var t h = h.1
may_by_lists const_var t h = h.1
may_by_lists region_var t h = h.1

-- No entry leads to one that leads on: each names a root.
abbrev pub IsRooted : Store → Type 0
IsRooted st = (k : VarKind) (n r p : ℕ) → entry_of st k n ≡ same_as r → entry_of st k r ≡ same_as p → ⊥

-- What is bound may be bound.
abbrev pub IsFilled : Store → Type 0
IsFilled st = (k : VarKind) (n : ℕ) (t : Tree) → entry_of st k n ≡ bound_to t → MayBeBoundTo k t

-- How the context was made.
abbrev pub setup_in : {Key : Type 0} → InferCtxtInner Key → Setup Key
setup_in x = record { is_next_solver = x.next_solver; typing_mode = x.mode }

module _ {Key Id Name : Type 0} (m : Meaning Key Id Name) where
  -- The store that the tables record.
  abbrev pub store_of : InferCtxtInner Key → Store
  store_of x = record {
    entries = by_kind (entries_of m.ty x.types.items) (entries_of m.ty x.ints.items) (entries_of m.ty x.floats.items)
        (entries_of m.const_ x.consts.items) (entries_of m.region x.regions.items);
    universes = by_kind (universes_of x.types.items) (universes_of x.ints.items) (universes_of x.floats.items)
        (universes_of x.consts.items) (universes_of x.regions.items);
    universe = (x.universe).0;
    constraints = map (constraint_of m) x.constraints.items;
    tainted = x.tainted;
    budget = x.budget;
  }

  -- The trees of the keys beside the variables.
  abbrev pub keys_in : InferCtxtInner Key → VarKind → List Tree
  keys_in x = by_kind (trees_of m.ty x.types.items) (trees_of m.ty x.ints.items) (trees_of m.ty x.floats.items)
      (trees_of m.const_ x.consts.items) (trees_of m.region x.regions.items)

  -- Each type variable has a root among those that are marked as related; one that is not made is its own.
  pub record HasSubRoots (x : InferCtxtInner Key) : Type 0 where
    pub count : length ((store_of x).entries type_var) ≤ length x.sub_roots.items
    pub rooted : IsRootTable x.sub_roots.items
    pub fresh : (n : ℕ) → length ((store_of x).entries type_var) ≤ n → root_in x.sub_roots.items n ≡ n

  -- The invariant of a context: its store is sound; each entry of another variable names a root; what variables are
  -- bound to may be bound, and may be related; variables of numbers stand in the first universe; the key beside each
  -- variable is the variable's; and the keys of integer and float types are theirs.
  pub record IsLawful (x : InferCtxtInner Key) : Type 0 where
    pub sound : IsSound (store_of x)
    pub rooted : IsRooted (store_of x)
    pub formed : IsFilled (store_of x)
    pub numbers_name_nothing : NumbersNameNothing (store_of x)
    pub keyed : (k : VarKind) (n : ℕ) → n < length (keys_in x k) → get_or (keys_in x k) n nil ≡ leaf (variable k n)
    pub numbers : map m.ty x.numbers.items ≡ number_trees
    pub sub_rooted : HasSubRoots x

  pub bindings_by_lists : (x : InferCtxtInner Key) → IsLawful x → BindingsAreWellBound (store_of x)
  bindings_by_lists x l k n t e = may_by_lists k t (l.formed k n t e)

  -- A context of these tables, as contracts see it.
  abbrev pub context_of : InferCtxtInner Key → Context Key Id Name
  context_of x = record {
    meaning = m;
    store = store_of x;
    lawful = IsLawful x;
    setup = setup_in x;
    outliving = x.ty_outlives.items;
    sub_root = root_in x.sub_roots.items;
  }
