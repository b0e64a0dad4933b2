-- What resolving a variable or a term shallowly comes to.
use Rattle.std.specs.Prelude.{◌≡◌, ℕ, None}
use Rattle.relation_terms.specs.Heads.{VarKind, type_var, const_var, BoundKind, variable, bound}
use Rattle.relation_terms.specs.Trees.{Tree, leaf}
use Rattle.relation_semantics.specs.Stores.{Store, same_as, entry_of, bound_term}
use Rattle.relation_semantics.specs.Parts.{IsRigid}

-- The variable's entry leads to no other.
abbrev pub IsRoot : Store → VarKind → ℕ → Type 0
IsRoot st k n = (p : ℕ) → entry_of st k n ≡ same_as p → ⊥

-- What resolving a type shallowly comes to: a variable that has no term, a bound variable, or a type that is neither.
pub data IsShallow (st : Store) (t : Tree) : Type 0 where
  root : (k : VarKind) (n : ℕ) → t ≡ leaf (variable k n) → bound_term st k n ≡ None → IsShallow st t
  stays_bound : (k : BoundKind) (d i : ℕ) → t ≡ leaf (bound k d i) → IsShallow st t
  formed : IsRigid t → IsShallow st t

-- What a type variable is found to be: a variable that has no term, or no type variable.
pub data IsShallowTy (st : Store) (t : Tree) : Type 0 where
  ty_root : (n : ℕ) → t ≡ leaf (variable type_var n) → bound_term st type_var n ≡ None → IsShallowTy st t
  no_ty_variable : ((n : ℕ) → t ≡ leaf (variable type_var n) → ⊥) → IsShallowTy st t

-- What resolving a constant shallowly comes to: a variable that has no term, or no variable.
pub data IsShallowConst (st : Store) (t : Tree) : Type 0 where
  const_root : (n : ℕ) → t ≡ leaf (variable const_var n) → bound_term st const_var n ≡ None → IsShallowConst st t
  no_variable : ((k : VarKind) (n : ℕ) → t ≡ leaf (variable k n) → ⊥) → IsShallowConst st t
