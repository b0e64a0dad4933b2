-- The integer and float types, in the order of a context's keys of them.
use Rattle.std.specs.Prelude.{List, [], ◌∷◌}
use Rattle.relation_terms.specs.Trees.{Tree}
use Rattle.term_enums.specs.declared.IntTy.TheVariants.{Isize, I8, I16, I32, I64, I128}
use Rattle.term_enums.specs.declared.UintTy.TheVariants.{Usize, U8, U16, U32, U64, U128}
use Rattle.term_enums.specs.declared.FloatTy.TheVariants.{F16, F32, F64, F128}
use Rattle.relation_semantics.specs.NumberValues.{int_tree, uint_tree, float_tree}

-- All of them.
abbrev pub number_trees : List Tree
number_trees = int_tree Isize ∷ int_tree I8 ∷ int_tree I16 ∷ int_tree I32 ∷ int_tree I64 ∷ int_tree I128
    ∷ uint_tree Usize ∷ uint_tree U8 ∷ uint_tree U16 ∷ uint_tree U32 ∷ uint_tree U64 ∷ uint_tree U128
    ∷ float_tree F16 ∷ float_tree F32 ∷ float_tree F64 ∷ float_tree F128 ∷ []
