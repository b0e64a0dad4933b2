-- What the folder of the examples puts for a tree.
use Rattle.std.specs.Prelude.{ℕ, Option, Some, None, cond, nat_eq}
use Rattle.relation_terms.specs.Heads.{type_param, atom}
use Rattle.relation_terms.specs.Trees.{Tree, leaf}

-- For the type parameter of an index the given tree, and nothing for all others.
abbrev pub put_for_param : ℕ → Tree → Tree → Option Tree
put_for_param index by (leaf (atom (type_param i n))) = cond (nat_eq i index) (Some by) None
put_for_param index by t = None
