-- The integer and float types, and what values of integer and float variables say.
use Rattle.relation_terms.specs.Heads.{int_type, uint_type, float_type, atom}
use Rattle.relation_terms.specs.Trees.{Tree, leaf, nil}
use Rattle.term_enums.specs.declared.IntTy.{IntTy}
use Rattle.term_enums.specs.declared.UintTy.{UintTy}
use Rattle.term_enums.specs.declared.FloatTy.{FloatTy}
use Rattle.relation_terms.specs.declared.terms.ty_kind.IntVarValue.{IntVarValue}
use Rattle.relation_terms.specs.declared.terms.ty_kind.IntVarValue.TheVariants.{Unknown, IntType, UintType}
use Rattle.relation_terms.specs.declared.terms.ty_kind.FloatVarValue.{FloatVarValue}
use Rattle.relation_terms.specs.declared.terms.ty_kind.FloatVarValue.TheVariants.{Unknown as UnknownFloat, Known}

-- The type of a name.
abbrev pub int_tree : IntTy → Tree
int_tree w = leaf (atom (int_type w))

abbrev pub uint_tree : UintTy → Tree
uint_tree w = leaf (atom (uint_type w))

abbrev pub float_tree : FloatTy → Tree
float_tree w = leaf (atom (float_type w))

-- The type that a value of an integer variable, or of a float variable, says; of an unknown one none.
abbrev pub int_value_tree : IntVarValue → Tree
int_value_tree Unknown = nil
int_value_tree (IntType w) = int_tree w
int_value_tree (UintType w) = uint_tree w

abbrev pub float_value_tree : FloatVarValue → Tree
float_value_tree UnknownFloat = nil
float_value_tree (Known w) = float_tree w
