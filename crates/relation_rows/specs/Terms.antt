-- Terms that calls are made of.
use Rattle.std.specs.Prelude.{ℕ}
use Rattle.relation_terms.specs.declared.terms.generic_arg.GenericArgKind.{GenericArgKind}
use Rattle.term_enums.specs.declared.UintTy.TheVariants.{U8}
use Rattle.relation_terms.specs.Heads.{atom, type_param, uint_type}
use Rattle.relation_terms.specs.Trees.{Tree, leaf, cons, nil}
use Rattle.relation_terms.specs.Meaning.{Meaning, arg_tree}

module _ {Key Id Name : Type 0} (m : Meaning Key Id Name) where
  -- A parameter of that name, at that place, which stands for a type.
  abbrev pub param_of : ℕ → Name → Tree
  param_of index name = leaf (atom (type_param index (m.name name)))

  -- The list of two arguments.
  abbrev pub pair_of : GenericArgKind Key → GenericArgKind Key → Tree
  pair_of first second = cons (arg_tree m first) (cons (arg_tree m second) nil)

-- The list of `u8` alone.
abbrev pub byte_alone : Tree
byte_alone = cons (leaf (atom (uint_type U8))) nil
