-- What calls over a context show.
use Rattle.std.specs.Prelude.{◌≡◌, ◌≢◌, ℕ}
use Rattle.relation_terms.specs.declared.terms.keys.TyKey.{TyKey}
use Rattle.relation_terms.specs.declared.terms.keys.ConstKey.{ConstKey}
use Rattle.relation_terms.specs.Heads.{VarKind, type_var, const_var, variable}
use Rattle.relation_terms.specs.Trees.{Tree, leaf}
use Rattle.relation_terms.specs.Meaning.{Meaning}
use Rattle.relation_semantics.specs.Bound.{IsWellBound}
use Rattle.relation_semantics.specs.Errors.{IsReadAs}
use Rattle.relation_semantics.specs.Stores.{Store, unbound, bound_to, entry_of, IsMade}
use Rattle.relation_semantics.specs.Steps.{LeadsTo, Resolves}
use Rattle.relation_reference.specs.declared.context.variables.RefCtxt.{RefCtxt}
use Rattle.variable_tables.specs.declared.inner.InferCtxtInner.{InferCtxtInner}
use Rattle.relation_reference.specs.RefCtxt.{store_in, ty_term}
use Rattle.variable_tables.specs.Tables.{store_of}

-- A variable's class is bound to a term, or to none.
abbrev pub HasBinding : Store → VarKind → ℕ → Tree → Type 0
HasBinding st k n t = (r : ℕ) × LeadsTo st k n r × (entry_of st k r ≡ bound_to t)

abbrev pub HasNoBinding : Store → VarKind → ℕ → Type 0
HasNoBinding st k n = (r : ℕ) × LeadsTo st k n r × (entry_of st k r ≡ unbound)

-- What is found for a variable: its root, where that has no term, or the term that the root is bound to.
pub data Found (st : Store) (k : VarKind) (n : ℕ) (u : Tree) : Type 0 where
  found_root : (r : ℕ) → LeadsTo st k n r → entry_of st k r ≡ unbound → u ≡ leaf (variable k r) → Found st k n u
  found_term : (r : ℕ) → LeadsTo st k n r → entry_of st k r ≡ bound_to u → Found st k n u

-- A type is a type variable of which something is recorded.
pub record IsWritten (st : Store) (n : ℕ) (t : Tree) : Type 0 where
  pub is : t ≡ leaf (variable type_var n)
  pub made : IsMade st type_var n
  pub written : entry_of st type_var n ≢ unbound

-- A type variable's class is bound to a type.
abbrev pub IsBoundToTy : {I Key Id Name Span : Type 0} → (I → Meaning Key Id Name) → RefCtxt I Key Id Name Span → ℕ →
    TyKey Key → Type 0
IsBoundToTy meaning c n t = HasBinding (store_in meaning c) type_var n (ty_term meaning c t)

module _ {Key Id Name : Type 0} (m : Meaning Key Id Name) where
  -- Where a type binds by its lists, so does another. The same of constants.
  abbrev pub TyStaysByLists : TyKey Key → TyKey Key → Type 0
  TyStaysByLists t u = IsWellBound (m.ty t) → IsWellBound (m.ty u)

  abbrev pub ConstStaysByLists : ConstKey Key → ConstKey Key → Type 0
  ConstStaysByLists t u = IsWellBound (m.const_ t) → IsWellBound (m.const_ u)

module _ {Key Id Name : Type 0} (m : Meaning Key Id Name) (x : InferCtxtInner Key) where
  -- A variable is read as a type by what the tables record, or a constant variable as a constant.
  abbrev pub VarReadsAsTy : VarKind → ℕ → TyKey Key → Type 0
  VarReadsAsTy k n t = IsReadAs (store_of m x) (leaf (variable k n)) (m.ty t)

  abbrev pub VarReadsAsConst : ℕ → ConstKey Key → Type 0
  VarReadsAsConst n t = IsReadAs (store_of m x) (leaf (variable const_var n)) (m.const_ t)

  -- What is found for a type variable is a type.
  abbrev pub FindsTy : ℕ → TyKey Key → Type 0
  FindsTy n t = Found (store_of m x) type_var n (m.ty t)

  -- A type is read as another by what the tables record. The same of constants.
  abbrev pub TyReadsAs : TyKey Key → TyKey Key → Type 0
  TyReadsAs t u = IsReadAs (store_of m x) (m.ty t) (m.ty u)

  abbrev pub ConstReadsAs : ConstKey Key → ConstKey Key → Type 0
  ConstReadsAs t u = IsReadAs (store_of m x) (m.const_ t) (m.const_ u)

  -- A type was resolved to another. The same of constants.
  abbrev pub TyResolves : TyKey Key → TyKey Key → Type 0
  TyResolves t u = Resolves (store_of m x) (m.ty t) (m.ty u)

  abbrev pub ConstResolves : ConstKey Key → ConstKey Key → Type 0
  ConstResolves t u = Resolves (store_of m x) (m.const_ t) (m.const_ u)
