-- Whether two trees are the same, by their codes: a code says which form a tree has, and the codes of its parts.
use native.Mathlib.Decide.{ℕ_discrete}
use Rattle.std.specs.Prelude.{ℕ, Bool, true, false, List, [], ◌∷◌}
use Rattle.term_enums.specs.declared.Mutability.{Mutability}
use Rattle.term_enums.specs.declared.Mutability.TheVariants as mutability
use Rattle.term_enums.specs.declared.IntTy.{IntTy}
use Rattle.term_enums.specs.declared.IntTy.TheVariants as int
use Rattle.term_enums.specs.declared.UintTy.{UintTy}
use Rattle.term_enums.specs.declared.UintTy.TheVariants as uint
use Rattle.term_enums.specs.declared.FloatTy.{FloatTy}
use Rattle.term_enums.specs.declared.FloatTy.TheVariants as float
use Rattle.term_enums.specs.declared.Safety.{Safety}
use Rattle.term_enums.specs.declared.Safety.TheVariants as safety
use Rattle.term_enums.specs.declared.ExternAbi.{ExternAbi}
use Rattle.term_enums.specs.declared.ExternAbi.TheVariants as abi
use Rattle.term_enums.specs.declared.PredicatePolarity.{PredicatePolarity}
use Rattle.term_enums.specs.declared.PredicatePolarity.TheVariants as polarity
use Rattle.term_enums.specs.declared.BoundConstness.{BoundConstness}
use Rattle.term_enums.specs.declared.BoundConstness.TheVariants as constness
use Rattle.term_enums.specs.declared.AliasRelationDirection.{AliasRelationDirection}
use Rattle.term_enums.specs.declared.AliasRelationDirection.TheVariants as direction
use Rattle.relation_terms.specs.Heads.{Kind, region_kind, type_kind, const_kind, VarKind, type_var, int_var}
use Rattle.relation_terms.specs.Heads.{float_var, const_var, region_var, AliasKind, projection_alias, inherent_alias}
use Rattle.relation_terms.specs.Heads.{opaque_alias, free_alias, AliasTermKind, type_alias, unevaluated_const}
use Rattle.relation_terms.specs.Heads.{projection_const, free_const, inherent_const, BoundKind, bound_kind, Atom}
use Rattle.relation_terms.specs.Heads.{bool_type, char_type, str_type, never_type, type_error, int_type, uint_type}
use Rattle.relation_terms.specs.Heads.{float_type, foreign, fresh_type, fresh_int, fresh_float, type_param}
use Rattle.relation_terms.specs.Heads.{static_region, early_region, const_error, fresh_const, const_param, value_leaf}
use Rattle.relation_terms.specs.Heads.{not_null_pattern, existential_auto, unstable_feature, ambiguous, Head, adt}
use Rattle.relation_terms.specs.Heads.{fn_def, closure, coroutine_closure, coroutine, coroutine_witness, array, slice}
use Rattle.relation_terms.specs.Heads.{pattern_type, tuple, unsafe_binder, dynamic, fn_ptr, raw_ptr, ref, alias}
use Rattle.relation_terms.specs.Heads.{signature, inputs, unevaluated, expression, value, value_type, value_branch}
use Rattle.relation_terms.specs.Heads.{range_pattern, or_pattern, arguments, object, existential_trait}
use Rattle.relation_terms.specs.Heads.{existential_projection, trait_ref, trait_clause, host_effect, subtype}
use Rattle.relation_terms.specs.Heads.{alias_term, region_outlives, type_outlives, projection, const_has_type}
use Rattle.relation_terms.specs.Heads.{well_formed, const_evaluatable, coerce, normalizes_to, alias_relate}
use Rattle.relation_terms.specs.Heads.{environment, Leaf, variable, bound, placeholder, atom, unknown}
use Rattle.relation_terms.specs.Trees.{Tree, leaf, node, bind, nil, cons}

-- A digit of a form's number, to the base 7.
pub data Digit : Type 0 where
  d0 d1 d2 d3 d4 d5 d6 : Digit
  deriving Discrete as Digit_discrete

-- A number, nothing, two codes, or a form: its number of two digits, and the code of its parts.
pub data Code : Type 0 where
  number : ℕ → Code
  none : Code
  pair : Code → Code → Code
  tag : Digit → Digit → Code → Code
  deriving Discrete as Code_discrete

abbrev pub code_mutability : Mutability → Code
code_mutability mutability.Not = tag d0 d0 none
code_mutability mutability.Mut = tag d0 d1 none

abbrev pub code_int : IntTy → Code
code_int int.Isize = tag d0 d0 none
code_int int.I8 = tag d0 d1 none
code_int int.I16 = tag d0 d2 none
code_int int.I32 = tag d0 d3 none
code_int int.I64 = tag d0 d4 none
code_int int.I128 = tag d0 d5 none

abbrev pub code_uint : UintTy → Code
code_uint uint.Usize = tag d0 d0 none
code_uint uint.U8 = tag d0 d1 none
code_uint uint.U16 = tag d0 d2 none
code_uint uint.U32 = tag d0 d3 none
code_uint uint.U64 = tag d0 d4 none
code_uint uint.U128 = tag d0 d5 none

abbrev pub code_float : FloatTy → Code
code_float float.F16 = tag d0 d0 none
code_float float.F32 = tag d0 d1 none
code_float float.F64 = tag d0 d2 none
code_float float.F128 = tag d0 d3 none

abbrev pub code_safety : Safety → Code
code_safety safety.Unsafe = tag d0 d0 none
code_safety safety.Safe = tag d0 d1 none

abbrev pub code_abi : ExternAbi → Code
code_abi abi.Rust = tag d0 d0 none
code_abi abi.C = tag d0 d1 none
code_abi abi.System = tag d0 d2 none

abbrev pub code_polarity : PredicatePolarity → Code
code_polarity polarity.Positive = tag d0 d0 none
code_polarity polarity.Negative = tag d0 d1 none

abbrev pub code_constness : BoundConstness → Code
code_constness constness.Const = tag d0 d0 none
code_constness constness.Maybe = tag d0 d1 none

abbrev pub code_direction : AliasRelationDirection → Code
code_direction direction.Equate = tag d0 d0 none
code_direction direction.Subtype = tag d0 d1 none

abbrev pub code_bool : Bool → Code
code_bool false = tag d0 d0 none
code_bool true = tag d0 d1 none

abbrev pub code_kind : Kind → Code
code_kind region_kind = tag d0 d0 none
code_kind type_kind = tag d0 d1 none
code_kind const_kind = tag d0 d2 none

abbrev pub code_var : VarKind → Code
code_var type_var = tag d0 d0 none
code_var int_var = tag d0 d1 none
code_var float_var = tag d0 d2 none
code_var const_var = tag d0 d3 none
code_var region_var = tag d0 d4 none

abbrev pub code_alias_kind : AliasKind → Code
code_alias_kind projection_alias = tag d0 d0 none
code_alias_kind inherent_alias = tag d0 d1 none
code_alias_kind opaque_alias = tag d0 d2 none
code_alias_kind free_alias = tag d0 d3 none

abbrev pub code_alias_term_kind : AliasTermKind → Code
code_alias_term_kind (type_alias a) = tag d0 d0 (code_alias_kind a)
code_alias_term_kind unevaluated_const = tag d0 d1 none
code_alias_term_kind projection_const = tag d0 d2 none
code_alias_term_kind free_const = tag d0 d3 none
code_alias_term_kind inherent_const = tag d0 d4 none

abbrev pub code_bound_kind : BoundKind → Code
code_bound_kind (bound_kind a b) = tag d0 d0 (pair (code_kind a) (number b))

abbrev pub code_atom : Atom → Code
code_atom bool_type = tag d0 d0 none
code_atom char_type = tag d0 d1 none
code_atom str_type = tag d0 d2 none
code_atom never_type = tag d0 d3 none
code_atom type_error = tag d0 d4 none
code_atom (int_type a) = tag d0 d5 (code_int a)
code_atom (uint_type a) = tag d0 d6 (code_uint a)
code_atom (float_type a) = tag d1 d0 (code_float a)
code_atom (foreign a) = tag d1 d1 (number a)
code_atom (fresh_type a) = tag d1 d2 (number a)
code_atom (fresh_int a) = tag d1 d3 (number a)
code_atom (fresh_float a) = tag d1 d4 (number a)
code_atom (type_param a b) = tag d1 d5 (pair (number a) (number b))
code_atom static_region = tag d1 d6 none
code_atom (early_region a b) = tag d2 d0 (pair (number a) (number b))
code_atom const_error = tag d2 d1 none
code_atom (fresh_const a) = tag d2 d2 (number a)
code_atom (const_param a b) = tag d2 d3 (pair (number a) (number b))
code_atom (value_leaf a b) = tag d2 d4 (pair (number a) (number b))
code_atom not_null_pattern = tag d2 d5 none
code_atom (existential_auto a) = tag d2 d6 (number a)
code_atom (unstable_feature a) = tag d3 d0 (number a)
code_atom ambiguous = tag d3 d1 none

abbrev pub code_head : Head → Code
code_head (adt a) = tag d0 d0 (number a)
code_head (fn_def a) = tag d0 d1 (number a)
code_head (closure a) = tag d0 d2 (number a)
code_head (coroutine_closure a) = tag d0 d3 (number a)
code_head (coroutine a) = tag d0 d4 (number a)
code_head (coroutine_witness a) = tag d0 d5 (number a)
code_head array = tag d0 d6 none
code_head slice = tag d1 d0 none
code_head pattern_type = tag d1 d1 none
code_head tuple = tag d1 d2 none
code_head unsafe_binder = tag d1 d3 none
code_head dynamic = tag d1 d4 none
code_head fn_ptr = tag d1 d5 none
code_head (raw_ptr a) = tag d1 d6 (code_mutability a)
code_head (ref a) = tag d2 d0 (code_mutability a)
code_head (alias a b) = tag d2 d1 (pair (code_alias_kind a) (number b))
code_head (signature a b c) = tag d2 d2 (pair (code_bool a) (pair (code_safety b) (code_abi c)))
code_head inputs = tag d2 d3 none
code_head (unevaluated a) = tag d2 d4 (number a)
code_head (expression a) = tag d2 d5 (number a)
code_head value = tag d2 d6 none
code_head value_type = tag d3 d0 none
code_head value_branch = tag d3 d1 none
code_head range_pattern = tag d3 d2 none
code_head or_pattern = tag d3 d3 none
code_head arguments = tag d3 d4 none
code_head object = tag d3 d5 none
code_head (existential_trait a) = tag d3 d6 (number a)
code_head (existential_projection a) = tag d4 d0 (number a)
code_head (trait_ref a) = tag d4 d1 (number a)
code_head (trait_clause a) = tag d4 d2 (code_polarity a)
code_head (host_effect a) = tag d4 d3 (code_constness a)
code_head (subtype a) = tag d4 d4 (code_bool a)
code_head (alias_term a b) = tag d4 d5 (pair (code_alias_term_kind a) (number b))
code_head region_outlives = tag d4 d6 none
code_head type_outlives = tag d5 d0 none
code_head projection = tag d5 d1 none
code_head const_has_type = tag d5 d2 none
code_head well_formed = tag d5 d3 none
code_head const_evaluatable = tag d5 d4 none
code_head coerce = tag d5 d5 none
code_head normalizes_to = tag d5 d6 none
code_head (alias_relate a) = tag d6 d0 (code_direction a)
code_head environment = tag d6 d1 none

abbrev pub code_leaf : Leaf → Code
code_leaf (variable a b) = tag d0 d0 (pair (code_var a) (number b))
code_leaf (bound a b c) = tag d0 d1 (pair (code_bound_kind a) (pair (number b) (number c)))
code_leaf (placeholder a b c) = tag d0 d2 (pair (code_bound_kind a) (pair (number b) (number c)))
code_leaf (atom a) = tag d0 d3 (code_atom a)
code_leaf unknown = tag d0 d4 none

abbrev pub code_kinds : List BoundKind → Code
code_kinds [] = none
code_kinds (k ∷ ks) = pair (code_bound_kind k) (code_kinds ks)

abbrev pub code_tree : Tree → Code
code_tree (leaf a) = tag d0 d0 (code_leaf a)
code_tree (node a b) = tag d0 d1 (pair (code_head a) (code_tree b))
code_tree (bind a b) = tag d0 d2 (pair (code_kinds a) (code_tree b))
code_tree nil = tag d0 d3 none
code_tree (cons a b) = tag d0 d4 (pair (code_tree a) (code_tree b))

-- What was decided, as a truth value.
abbrev pub decided : {A : Type 0} → Dec A → Bool
decided (yes a) = true
decided (no a) = false

-- Whether two trees are the same.
unfoldable pub same_tree : Tree → Tree → Bool
same_tree t u = decided (Code_discrete ℕ_discrete Digit_discrete (code_tree t) (code_tree u))
