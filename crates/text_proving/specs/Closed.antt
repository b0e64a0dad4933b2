-- What is closed in a term: all but inference variables, and stand-ins for them.
use Rattle.std.specs.Prelude.{◌≡◌, Bool, true, false, cond}
use Rattle.relation_terms.specs.Heads.{Atom, fresh_type, fresh_int, fresh_float, fresh_const}
use Rattle.relation_terms.specs.Heads.{Leaf, variable, atom}
use Rattle.relation_terms.specs.Trees.{Tree, leaf}
use Rattle.relation_folds.specs.declared.visit.Visit.{Visit}
use Rattle.relation_folds.specs.declared.visit.Visit.TheVariants.{Enter, Stop}

-- No stand-in.
abbrev pub is_closed_atom : Atom → Bool
is_closed_atom (fresh_type n) = false
is_closed_atom (fresh_int n) = false
is_closed_atom (fresh_float n) = false
is_closed_atom (fresh_const n) = false
is_closed_atom x = true

-- Nor an inference variable.
abbrev pub is_closed_leaf : Leaf → Bool
is_closed_leaf (variable k n) = false
is_closed_leaf (atom x) = is_closed_atom x
is_closed_leaf l = true

-- A tree that is a leaf is a closed one.
abbrev pub is_closed : Tree → Bool
is_closed (leaf l) = is_closed_leaf l
is_closed t = true

-- A visitor enters a tree that is closed itself, and stops at another.
abbrev pub EntersClosed : Tree → Visit → Type 0
EntersClosed t a = a ≡ cond (is_closed t) Enter Stop
