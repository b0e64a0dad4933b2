-- Types, constants and patterns with an outermost form, and the parts that relating goes through.
use Rattle.std.specs.Prelude.{◌≡◌, ◌⊎◌}
use Rattle.relation_terms.specs.Heads.{type_sort, const_sort, head_sort, atom_sort, leaf_sort, placeholder, atom}
use Rattle.relation_terms.specs.Heads.{Head, pattern_type, tuple, unevaluated, expression, value, value_branch}
use Rattle.relation_terms.specs.Heads.{range_pattern, or_pattern, not_null_pattern, fn_ptr, unsafe_binder, dynamic, object}
use Rattle.relation_terms.specs.Heads.{signature, inputs, existential_trait, existential_projection, existential_auto}
use Rattle.relation_terms.specs.Trees.{Tree, leaf, node, nil, cons}
use Rattle.relation_terms.specs.declared.terms.part_kind.Part.{Part}
use Rattle.relation_terms.specs.declared.terms.part_kind.Part.TheVariants.{Region, Ty, Const, ValTree, Pat, ValueType}
use Rattle.relation_terms.specs.declared.terms.part_kind.Part.TheVariants.{Binder, Signature, Inputs, Existential, Object}
use Rattle.relation_terms.specs.Parts.{part_sort}

-- A type with an outermost form: no variable and no bound variable.
abbrev pub IsRigid : Tree → Type 0
IsRigid (leaf (atom x)) = atom_sort x ≡ type_sort
IsRigid (leaf (placeholder k u n)) = leaf_sort (placeholder k u n) ≡ type_sort
IsRigid (node h ts) = head_sort h ≡ type_sort
IsRigid t = ⊥

-- A constant with an outermost form: a parameter, a placeholder, an error, a value, an item's or an expression's.
abbrev pub IsFormedConst : Tree → Type 0
IsFormedConst (leaf (atom x)) = atom_sort x ≡ const_sort
IsFormedConst (leaf (placeholder k u n)) = leaf_sort (placeholder k u n) ≡ const_sort
IsFormedConst (node (unevaluated d) ts) = Unit {0}
IsFormedConst (node (expression k) ts) = Unit {0}
IsFormedConst (node value ts) = Unit {0}
IsFormedConst t = ⊥

-- The parts of a type. A binder has none here: its body is opened.
abbrev pub direct_parts : Tree → Tree
direct_parts (node h ts) = ts
direct_parts t = nil

-- The form of a type over parts; of one without, a form over none.
abbrev pub head_of : Tree → Head
head_of (node h ts) = h
head_of t = tuple

-- The branches of a value tree.
abbrev pub branches_of : Tree → Tree
branches_of (node value_branch ts) = ts
branches_of t = nil

-- The parts of a constant that are related: an item's and an expression's arguments, a value's branches, not its type.
abbrev pub const_parts_of : Tree → Tree
const_parts_of (node (unevaluated d) ts) = ts
const_parts_of (node (expression k) ts) = ts
const_parts_of (node value (cons t (cons v nil))) = branches_of v
const_parts_of t = nil

-- The form that these are the parts of.
abbrev pub const_head_of : Tree → Head
const_head_of (node (unevaluated d) ts) = unevaluated d
const_head_of (node (expression k) ts) = expression k
const_head_of t = value_branch

-- A term of a form whose parts are related as parts of terms, and not as generic arguments: a pattern type or a pattern,
-- what stands over a binder or under one.
abbrev pub IsByParts : Tree → Type 0
IsByParts (node pattern_type ts) = Unit {0}
IsByParts (node range_pattern ts) = Unit {0}
IsByParts (node or_pattern ts) = Unit {0}
IsByParts (leaf (atom not_null_pattern)) = Unit {0}
IsByParts (node fn_ptr ts) = Unit {0}
IsByParts (node unsafe_binder ts) = Unit {0}
IsByParts (node dynamic ts) = Unit {0}
IsByParts (node object ts) = Unit {0}
IsByParts (node (signature x s k) ts) = Unit {0}
IsByParts (node inputs ts) = Unit {0}
IsByParts (node (existential_trait d) ts) = Unit {0}
IsByParts (node (existential_projection d) ts) = Unit {0}
IsByParts (leaf (atom (existential_auto d))) = Unit {0}
IsByParts t = ⊥

-- What may be a part of such a term, or such a term that is no type: all but value trees and types of values.
abbrev pub IsRelatedPart : {Key Id : Type 0} → Part Key Id → Type 0
IsRelatedPart (ValTree v) = ⊥
IsRelatedPart (ValueType t) = ⊥
IsRelatedPart p = Unit {0}

-- The same, but for generic arguments and binders: what is compared before its parts are related.
abbrev pub IsComparedPart : {Key Id : Type 0} → Part Key Id → Type 0
IsComparedPart (Pat p) = Unit {0}
IsComparedPart (Signature s) = Unit {0}
IsComparedPart (Inputs t) = Unit {0}
IsComparedPart (Existential p) = Unit {0}
IsComparedPart (Object k) = Unit {0}
IsComparedPart p = ⊥

-- A generic argument.
abbrev pub IsArgPart : {Key Id : Type 0} → Part Key Id → Type 0
IsArgPart (Region r) = Unit {0}
IsArgPart (Ty t) = Unit {0}
IsArgPart (Const c) = Unit {0}
IsArgPart p = ⊥

-- A binder over a body.
abbrev pub IsBinderPart : {Key Id : Type 0} → Part Key Id → Type 0
IsBinderPart (Binder vs b) = Unit {0}
IsBinderPart p = ⊥

-- Two parts at one place: generic arguments, whose kinds may differ, or parts of one sort.
abbrev pub ArePaired : {Key Id : Type 0} → Part Key Id → Part Key Id → Type 0
ArePaired a b = (IsArgPart a × IsArgPart b) ⊎ (part_sort b ≡ part_sort a)
