-- What is fixed in a term: all but inference variables, stand-ins for them, and parameters of types and constants.
use Rattle.std.specs.Prelude.{◌≡◌, Bool, true, false, cond}
use Rattle.relation_terms.specs.Heads.{Atom, type_param, const_param, fresh_type, fresh_int, fresh_float, fresh_const}
use Rattle.relation_terms.specs.Heads.{Leaf, variable, atom}
use Rattle.relation_terms.specs.Trees.{Tree, leaf}
use Rattle.relation_folds.specs.declared.visit.Visit.{Visit}
use Rattle.relation_folds.specs.declared.visit.Visit.TheVariants.{Enter, Stop}

-- No parameter of a type or a constant, and no stand-in.
abbrev pub is_fixed_atom : Atom → Bool
is_fixed_atom (type_param i n) = false
is_fixed_atom (const_param i n) = false
is_fixed_atom (fresh_type n) = false
is_fixed_atom (fresh_int n) = false
is_fixed_atom (fresh_float n) = false
is_fixed_atom (fresh_const n) = false
is_fixed_atom x = true

-- Nor an inference variable.
abbrev pub is_fixed_leaf : Leaf → Bool
is_fixed_leaf (variable k n) = false
is_fixed_leaf (atom x) = is_fixed_atom x
is_fixed_leaf l = true

abbrev pub IsFixedLeaf : Leaf → Type 0
IsFixedLeaf l = is_fixed_leaf l ≡ true

-- A tree that is a leaf is a fixed one.
abbrev pub is_fixed : Tree → Bool
is_fixed (leaf l) = is_fixed_leaf l
is_fixed t = true

-- A visitor enters a tree that is fixed itself, and stops at another.
abbrev pub EntersFixed : Tree → Visit → Type 0
EntersFixed t a = a ≡ cond (is_fixed t) Enter Stop
