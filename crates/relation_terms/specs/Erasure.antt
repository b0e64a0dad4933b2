-- The erasure of a tree: regions, lists of a binder's variables, names of parameters and types of values are alike.
use Rattle.std.specs.Prelude.{[]}
use Rattle.relation_terms.specs.Heads.{Kind, region_kind, bound_kind, region_var, Atom, static_region}
use Rattle.relation_terms.specs.Heads.{early_region, type_param, const_param, Head, value_type, Leaf, variable, bound}
use Rattle.relation_terms.specs.Heads.{placeholder, atom, unknown}
use Rattle.relation_terms.specs.Trees.{Tree, leaf, node, bind, nil, cons}

-- The static region stands for all regions, the name 0 for all names of parameters of one index.
abbrev pub erase_atom : Atom → Atom
erase_atom (early_region i n) = static_region
erase_atom (type_param i n) = type_param i 0
erase_atom (const_param i n) = const_param i 0
erase_atom x = x

-- A leaf of a kind: all regions are alike.
abbrev pub erase_kinded : Kind → Leaf → Leaf
erase_kinded region_kind l = atom static_region
erase_kinded k l = l

-- A leaf without what is not compared.
abbrev pub erase_leaf : Leaf → Leaf
erase_leaf (variable region_var n) = atom static_region
erase_leaf (variable k n) = variable k n
erase_leaf (bound (bound_kind k m) d i) = erase_kinded k (bound (bound_kind k m) d i)
erase_leaf (placeholder (bound_kind k m) u n) = erase_kinded k (placeholder (bound_kind k m) u n)
erase_leaf (atom x) = atom (erase_atom x)
erase_leaf unknown = unknown

-- The parts of a form that an erasure keeps: none of the type of a value.
abbrev pub kept_parts : Head → Tree → Tree
kept_parts value_type ts = nil
kept_parts h ts = ts

-- A tree without what is not compared.
abbrev pub erase : Tree → Tree
erase (leaf l) = leaf (erase_leaf l)
erase (node h ts) = node h (kept_parts h (erase ts))
erase (bind ks t) = bind [] (erase t)
erase nil = nil
erase (cons t ts) = cons (erase t) (erase ts)
