-- A tree is told by its code, so that it can be decided whether two trees are one.
use native.Mathlib.Decide.{ℕ_discrete}
use Rattle.std.proofs.Common.{◌≡◌, ◌↔◌, Bool, true, false, IsTrue, List, [], ◌∷◌, refl, sym, ap, ap₂, ◌∙◌}
use Rattle.term_enums.specs.declared.Mutability.{Mutability}
use Rattle.term_enums.specs.declared.Mutability.TheVariants as mutability
use Rattle.term_enums.specs.declared.IntTy.{IntTy}
use Rattle.term_enums.specs.declared.IntTy.TheVariants as int
use Rattle.term_enums.specs.declared.UintTy.{UintTy}
use Rattle.term_enums.specs.declared.UintTy.TheVariants as uint
use Rattle.term_enums.specs.declared.FloatTy.{FloatTy}
use Rattle.term_enums.specs.declared.FloatTy.TheVariants as float
use Rattle.term_enums.specs.declared.Safety.{Safety}
use Rattle.term_enums.specs.declared.Safety.TheVariants as safety
use Rattle.term_enums.specs.declared.ExternAbi.{ExternAbi}
use Rattle.term_enums.specs.declared.ExternAbi.TheVariants as abi
use Rattle.term_enums.specs.declared.PredicatePolarity.{PredicatePolarity}
use Rattle.term_enums.specs.declared.PredicatePolarity.TheVariants as polarity
use Rattle.term_enums.specs.declared.BoundConstness.{BoundConstness}
use Rattle.term_enums.specs.declared.BoundConstness.TheVariants as constness
use Rattle.term_enums.specs.declared.AliasRelationDirection.{AliasRelationDirection}
use Rattle.term_enums.specs.declared.AliasRelationDirection.TheVariants as direction
use Rattle.relation_terms.specs.Heads.{Kind, region_kind, type_kind, const_kind, VarKind, type_var, int_var}
use Rattle.relation_terms.specs.Heads.{float_var, const_var, region_var, AliasKind, projection_alias, inherent_alias}
use Rattle.relation_terms.specs.Heads.{opaque_alias, free_alias, AliasTermKind, type_alias, unevaluated_const}
use Rattle.relation_terms.specs.Heads.{projection_const, free_const, inherent_const, BoundKind, bound_kind, Atom}
use Rattle.relation_terms.specs.Heads.{bool_type, char_type, str_type, never_type, type_error, int_type, uint_type}
use Rattle.relation_terms.specs.Heads.{float_type, foreign, fresh_type, fresh_int, fresh_float, type_param}
use Rattle.relation_terms.specs.Heads.{static_region, early_region, const_error, fresh_const, const_param, value_leaf}
use Rattle.relation_terms.specs.Heads.{not_null_pattern, existential_auto, unstable_feature, ambiguous, Head, adt}
use Rattle.relation_terms.specs.Heads.{fn_def, closure, coroutine_closure, coroutine, coroutine_witness, array, slice}
use Rattle.relation_terms.specs.Heads.{pattern_type, tuple, unsafe_binder, dynamic, fn_ptr, raw_ptr, ref, alias}
use Rattle.relation_terms.specs.Heads.{signature, inputs, unevaluated, expression, value, value_type, value_branch}
use Rattle.relation_terms.specs.Heads.{range_pattern, or_pattern, arguments, object, existential_trait}
use Rattle.relation_terms.specs.Heads.{existential_projection, trait_ref, trait_clause, host_effect, subtype}
use Rattle.relation_terms.specs.Heads.{alias_term, region_outlives, type_outlives, projection, const_has_type}
use Rattle.relation_terms.specs.Heads.{well_formed, const_evaluatable, coerce, normalizes_to, alias_relate}
use Rattle.relation_terms.specs.Heads.{environment, Leaf, variable, bound, placeholder, atom, unknown}
use Rattle.relation_terms.specs.Trees.{Tree, leaf, node, bind, nil, cons}
use Rattle.relation_terms.specs.Equality.{Code, number, none, pair, tag, d0, d1, d2, d3, d4, d5, d6, Digit_discrete}
use Rattle.relation_terms.specs.Equality.{Code_discrete, decided, same_tree}
use Rattle.relation_terms.specs.Equality.{code_mutability, code_int, code_uint, code_float, code_safety, code_abi, code_polarity}
use Rattle.relation_terms.specs.Equality.{code_constness, code_direction, code_bool, code_kind, code_var, code_alias_kind}
use Rattle.relation_terms.specs.Equality.{code_alias_term_kind, code_bound_kind, code_atom, code_head, code_leaf, code_kinds}
use Rattle.relation_terms.specs.Equality.{code_tree}

mutability_of : Code → Mutability
mutability_of (tag d0 d0 none) = mutability.Not
mutability_of (tag d0 d1 none) = mutability.Mut
mutability_of c = mutability.Mut

mutability_back : (x : Mutability) → mutability_of (code_mutability x) ≡ x
unfolding mutability_of
mutability_back mutability.Not = refl
mutability_back mutability.Mut = refl

int_of : Code → IntTy
int_of (tag d0 d0 none) = int.Isize
int_of (tag d0 d1 none) = int.I8
int_of (tag d0 d2 none) = int.I16
int_of (tag d0 d3 none) = int.I32
int_of (tag d0 d4 none) = int.I64
int_of (tag d0 d5 none) = int.I128
int_of c = int.I128

int_back : (x : IntTy) → int_of (code_int x) ≡ x
unfolding int_of
int_back int.Isize = refl
int_back int.I8 = refl
int_back int.I16 = refl
int_back int.I32 = refl
int_back int.I64 = refl
int_back int.I128 = refl

uint_of : Code → UintTy
uint_of (tag d0 d0 none) = uint.Usize
uint_of (tag d0 d1 none) = uint.U8
uint_of (tag d0 d2 none) = uint.U16
uint_of (tag d0 d3 none) = uint.U32
uint_of (tag d0 d4 none) = uint.U64
uint_of (tag d0 d5 none) = uint.U128
uint_of c = uint.U128

uint_back : (x : UintTy) → uint_of (code_uint x) ≡ x
unfolding uint_of
uint_back uint.Usize = refl
uint_back uint.U8 = refl
uint_back uint.U16 = refl
uint_back uint.U32 = refl
uint_back uint.U64 = refl
uint_back uint.U128 = refl

float_of : Code → FloatTy
float_of (tag d0 d0 none) = float.F16
float_of (tag d0 d1 none) = float.F32
float_of (tag d0 d2 none) = float.F64
float_of (tag d0 d3 none) = float.F128
float_of c = float.F128

float_back : (x : FloatTy) → float_of (code_float x) ≡ x
unfolding float_of
float_back float.F16 = refl
float_back float.F32 = refl
float_back float.F64 = refl
float_back float.F128 = refl

safety_of : Code → Safety
safety_of (tag d0 d0 none) = safety.Unsafe
safety_of (tag d0 d1 none) = safety.Safe
safety_of c = safety.Safe

safety_back : (x : Safety) → safety_of (code_safety x) ≡ x
unfolding safety_of
safety_back safety.Unsafe = refl
safety_back safety.Safe = refl

abi_of : Code → ExternAbi
abi_of (tag d0 d0 none) = abi.Rust
abi_of (tag d0 d1 none) = abi.C
abi_of (tag d0 d2 none) = abi.System
abi_of c = abi.System

abi_back : (x : ExternAbi) → abi_of (code_abi x) ≡ x
unfolding abi_of
abi_back abi.Rust = refl
abi_back abi.C = refl
abi_back abi.System = refl

polarity_of : Code → PredicatePolarity
polarity_of (tag d0 d0 none) = polarity.Positive
polarity_of (tag d0 d1 none) = polarity.Negative
polarity_of c = polarity.Negative

polarity_back : (x : PredicatePolarity) → polarity_of (code_polarity x) ≡ x
unfolding polarity_of
polarity_back polarity.Positive = refl
polarity_back polarity.Negative = refl

constness_of : Code → BoundConstness
constness_of (tag d0 d0 none) = constness.Const
constness_of (tag d0 d1 none) = constness.Maybe
constness_of c = constness.Maybe

constness_back : (x : BoundConstness) → constness_of (code_constness x) ≡ x
unfolding constness_of
constness_back constness.Const = refl
constness_back constness.Maybe = refl

direction_of : Code → AliasRelationDirection
direction_of (tag d0 d0 none) = direction.Equate
direction_of (tag d0 d1 none) = direction.Subtype
direction_of c = direction.Subtype

direction_back : (x : AliasRelationDirection) → direction_of (code_direction x) ≡ x
unfolding direction_of
direction_back direction.Equate = refl
direction_back direction.Subtype = refl

bool_of : Code → Bool
bool_of (tag d0 d0 none) = false
bool_of c = true

bool_back : (x : Bool) → bool_of (code_bool x) ≡ x
unfolding bool_of
bool_back false = refl
bool_back true = refl

kind_of : Code → Kind
kind_of (tag d0 d0 none) = region_kind
kind_of (tag d0 d1 none) = type_kind
kind_of (tag d0 d2 none) = const_kind
kind_of c = const_kind

kind_back : (x : Kind) → kind_of (code_kind x) ≡ x
unfolding kind_of
kind_back region_kind = refl
kind_back type_kind = refl
kind_back const_kind = refl

var_of : Code → VarKind
var_of (tag d0 d0 none) = type_var
var_of (tag d0 d1 none) = int_var
var_of (tag d0 d2 none) = float_var
var_of (tag d0 d3 none) = const_var
var_of (tag d0 d4 none) = region_var
var_of c = region_var

var_back : (x : VarKind) → var_of (code_var x) ≡ x
unfolding var_of
var_back type_var = refl
var_back int_var = refl
var_back float_var = refl
var_back const_var = refl
var_back region_var = refl

alias_kind_of : Code → AliasKind
alias_kind_of (tag d0 d0 none) = projection_alias
alias_kind_of (tag d0 d1 none) = inherent_alias
alias_kind_of (tag d0 d2 none) = opaque_alias
alias_kind_of (tag d0 d3 none) = free_alias
alias_kind_of c = free_alias

alias_kind_back : (x : AliasKind) → alias_kind_of (code_alias_kind x) ≡ x
unfolding alias_kind_of
alias_kind_back projection_alias = refl
alias_kind_back inherent_alias = refl
alias_kind_back opaque_alias = refl
alias_kind_back free_alias = refl

alias_term_kind_of : Code → AliasTermKind
alias_term_kind_of (tag d0 d0 a) = type_alias (alias_kind_of a)
alias_term_kind_of (tag d0 d1 none) = unevaluated_const
alias_term_kind_of (tag d0 d2 none) = projection_const
alias_term_kind_of (tag d0 d3 none) = free_const
alias_term_kind_of (tag d0 d4 none) = inherent_const
alias_term_kind_of c = inherent_const

alias_term_kind_back : (x : AliasTermKind) → alias_term_kind_of (code_alias_term_kind x) ≡ x
unfolding alias_term_kind_of
alias_term_kind_back (type_alias a) = ap (λ z. type_alias z) (alias_kind_back a)
alias_term_kind_back unevaluated_const = refl
alias_term_kind_back projection_const = refl
alias_term_kind_back free_const = refl
alias_term_kind_back inherent_const = refl

bound_kind_of : Code → BoundKind
bound_kind_of (tag d0 d0 (pair a (number b))) = bound_kind (kind_of a) b
bound_kind_of c = bound_kind type_kind 0

bound_kind_back : (x : BoundKind) → bound_kind_of (code_bound_kind x) ≡ x
unfolding bound_kind_of
bound_kind_back (bound_kind a b) = ap (λ z. bound_kind z b) (kind_back a)

atom_of : Code → Atom
atom_of (tag d0 d0 none) = bool_type
atom_of (tag d0 d1 none) = char_type
atom_of (tag d0 d2 none) = str_type
atom_of (tag d0 d3 none) = never_type
atom_of (tag d0 d4 none) = type_error
atom_of (tag d0 d5 a) = int_type (int_of a)
atom_of (tag d0 d6 a) = uint_type (uint_of a)
atom_of (tag d1 d0 a) = float_type (float_of a)
atom_of (tag d1 d1 (number a)) = foreign a
atom_of (tag d1 d2 (number a)) = fresh_type a
atom_of (tag d1 d3 (number a)) = fresh_int a
atom_of (tag d1 d4 (number a)) = fresh_float a
atom_of (tag d1 d5 (pair (number a) (number b))) = type_param a b
atom_of (tag d1 d6 none) = static_region
atom_of (tag d2 d0 (pair (number a) (number b))) = early_region a b
atom_of (tag d2 d1 none) = const_error
atom_of (tag d2 d2 (number a)) = fresh_const a
atom_of (tag d2 d3 (pair (number a) (number b))) = const_param a b
atom_of (tag d2 d4 (pair (number a) (number b))) = value_leaf a b
atom_of (tag d2 d5 none) = not_null_pattern
atom_of (tag d2 d6 (number a)) = existential_auto a
atom_of (tag d3 d0 (number a)) = unstable_feature a
atom_of (tag d3 d1 none) = ambiguous
atom_of c = ambiguous

atom_back : (x : Atom) → atom_of (code_atom x) ≡ x
unfolding atom_of
atom_back bool_type = refl
atom_back char_type = refl
atom_back str_type = refl
atom_back never_type = refl
atom_back type_error = refl
atom_back (int_type a) = ap (λ z. int_type z) (int_back a)
atom_back (uint_type a) = ap (λ z. uint_type z) (uint_back a)
atom_back (float_type a) = ap (λ z. float_type z) (float_back a)
atom_back (foreign a) = refl
atom_back (fresh_type a) = refl
atom_back (fresh_int a) = refl
atom_back (fresh_float a) = refl
atom_back (type_param a b) = refl
atom_back static_region = refl
atom_back (early_region a b) = refl
atom_back const_error = refl
atom_back (fresh_const a) = refl
atom_back (const_param a b) = refl
atom_back (value_leaf a b) = refl
atom_back not_null_pattern = refl
atom_back (existential_auto a) = refl
atom_back (unstable_feature a) = refl
atom_back ambiguous = refl

head_of : Code → Head
head_of (tag d0 d0 (number a)) = adt a
head_of (tag d0 d1 (number a)) = fn_def a
head_of (tag d0 d2 (number a)) = closure a
head_of (tag d0 d3 (number a)) = coroutine_closure a
head_of (tag d0 d4 (number a)) = coroutine a
head_of (tag d0 d5 (number a)) = coroutine_witness a
head_of (tag d0 d6 none) = array
head_of (tag d1 d0 none) = slice
head_of (tag d1 d1 none) = pattern_type
head_of (tag d1 d2 none) = tuple
head_of (tag d1 d3 none) = unsafe_binder
head_of (tag d1 d4 none) = dynamic
head_of (tag d1 d5 none) = fn_ptr
head_of (tag d1 d6 a) = raw_ptr (mutability_of a)
head_of (tag d2 d0 a) = ref (mutability_of a)
head_of (tag d2 d1 (pair a (number b))) = alias (alias_kind_of a) b
head_of (tag d2 d2 (pair a (pair b c))) = signature (bool_of a) (safety_of b) (abi_of c)
head_of (tag d2 d3 none) = inputs
head_of (tag d2 d4 (number a)) = unevaluated a
head_of (tag d2 d5 (number a)) = expression a
head_of (tag d2 d6 none) = value
head_of (tag d3 d0 none) = value_type
head_of (tag d3 d1 none) = value_branch
head_of (tag d3 d2 none) = range_pattern
head_of (tag d3 d3 none) = or_pattern
head_of (tag d3 d4 none) = arguments
head_of (tag d3 d5 none) = object
head_of (tag d3 d6 (number a)) = existential_trait a
head_of (tag d4 d0 (number a)) = existential_projection a
head_of (tag d4 d1 (number a)) = trait_ref a
head_of (tag d4 d2 a) = trait_clause (polarity_of a)
head_of (tag d4 d3 a) = host_effect (constness_of a)
head_of (tag d4 d4 a) = subtype (bool_of a)
head_of (tag d4 d5 (pair a (number b))) = alias_term (alias_term_kind_of a) b
head_of (tag d4 d6 none) = region_outlives
head_of (tag d5 d0 none) = type_outlives
head_of (tag d5 d1 none) = projection
head_of (tag d5 d2 none) = const_has_type
head_of (tag d5 d3 none) = well_formed
head_of (tag d5 d4 none) = const_evaluatable
head_of (tag d5 d5 none) = coerce
head_of (tag d5 d6 none) = normalizes_to
head_of (tag d6 d0 a) = alias_relate (direction_of a)
head_of (tag d6 d1 none) = environment
head_of c = environment

head_back : (x : Head) → head_of (code_head x) ≡ x
unfolding head_of
head_back (adt a) = refl
head_back (fn_def a) = refl
head_back (closure a) = refl
head_back (coroutine_closure a) = refl
head_back (coroutine a) = refl
head_back (coroutine_witness a) = refl
head_back array = refl
head_back slice = refl
head_back pattern_type = refl
head_back tuple = refl
head_back unsafe_binder = refl
head_back dynamic = refl
head_back fn_ptr = refl
head_back (raw_ptr a) = ap (λ z. raw_ptr z) (mutability_back a)
head_back (ref a) = ap (λ z. ref z) (mutability_back a)
head_back (alias a b) = ap (λ z. alias z b) (alias_kind_back a)
head_back (signature a b c) =
    ap₂ (λ y z. signature y z (abi_of (code_abi c))) (bool_back a) (safety_back b) ∙ ap (λ z. signature a b z) (abi_back c)
head_back inputs = refl
head_back (unevaluated a) = refl
head_back (expression a) = refl
head_back value = refl
head_back value_type = refl
head_back value_branch = refl
head_back range_pattern = refl
head_back or_pattern = refl
head_back arguments = refl
head_back object = refl
head_back (existential_trait a) = refl
head_back (existential_projection a) = refl
head_back (trait_ref a) = refl
head_back (trait_clause a) = ap (λ z. trait_clause z) (polarity_back a)
head_back (host_effect a) = ap (λ z. host_effect z) (constness_back a)
head_back (subtype a) = ap (λ z. subtype z) (bool_back a)
head_back (alias_term a b) = ap (λ z. alias_term z b) (alias_term_kind_back a)
head_back region_outlives = refl
head_back type_outlives = refl
head_back projection = refl
head_back const_has_type = refl
head_back well_formed = refl
head_back const_evaluatable = refl
head_back coerce = refl
head_back normalizes_to = refl
head_back (alias_relate a) = ap (λ z. alias_relate z) (direction_back a)
head_back environment = refl

leaf_of : Code → Leaf
leaf_of (tag d0 d0 (pair a (number b))) = variable (var_of a) b
leaf_of (tag d0 d1 (pair a (pair (number b) (number c)))) = bound (bound_kind_of a) b c
leaf_of (tag d0 d2 (pair a (pair (number b) (number c)))) = placeholder (bound_kind_of a) b c
leaf_of (tag d0 d3 a) = atom (atom_of a)
leaf_of (tag d0 d4 none) = unknown
leaf_of c = unknown

leaf_back : (x : Leaf) → leaf_of (code_leaf x) ≡ x
unfolding leaf_of
leaf_back (variable a b) = ap (λ z. variable z b) (var_back a)
leaf_back (bound a b c) = ap (λ z. bound z b c) (bound_kind_back a)
leaf_back (placeholder a b c) = ap (λ z. placeholder z b c) (bound_kind_back a)
leaf_back (atom a) = ap (λ z. atom z) (atom_back a)
leaf_back unknown = refl

kinds_of : Code → List BoundKind
kinds_of (pair k ks) = bound_kind_of k ∷ kinds_of ks
kinds_of c = []

kinds_back : (x : List BoundKind) → kinds_of (code_kinds x) ≡ x
unfolding kinds_of
kinds_back [] = refl
kinds_back (k ∷ ks) = ap₂ (λ y z. y ∷ z) (bound_kind_back k) (kinds_back ks)

tree_of : Code → Tree
tree_of (tag d0 d0 a) = leaf (leaf_of a)
tree_of (tag d0 d1 (pair a b)) = node (head_of a) (tree_of b)
tree_of (tag d0 d2 (pair a b)) = bind (kinds_of a) (tree_of b)
tree_of (tag d0 d3 none) = nil
tree_of (tag d0 d4 (pair a b)) = cons (tree_of a) (tree_of b)
tree_of c = nil

tree_back : (x : Tree) → tree_of (code_tree x) ≡ x
unfolding tree_of
tree_back (leaf a) = ap (λ z. leaf z) (leaf_back a)
tree_back (node a b) = ap₂ (λ y z. node y z) (head_back a) (tree_back b)
tree_back (bind a b) = ap₂ (λ y z. bind y z) (kinds_back a) (tree_back b)
tree_back nil = refl
tree_back (cons a b) = ap₂ (λ y z. cons y z) (tree_back a) (tree_back b)

-- Trees of one code are one.
told : (t u : Tree) → code_tree t ≡ code_tree u → t ≡ u
told t u e = sym (tree_back t) ∙ (ap tree_of e ∙ tree_back u)

sound : (t u : Tree) (d : Dec (code_tree t ≡ code_tree u)) → IsTrue (decided d) → t ≡ u
sound t u (yes e) h = told t u e
sound t u (no n) h = absurd (cc)

here : (t u : Tree) (d : Dec (code_tree t ≡ code_tree u)) → t ≡ u → IsTrue (decided d)
here t u (yes n) e = refl
here t u (no n) e = absurd (n (ap code_tree e))

-- What is decided to be the same is equal, and what is equal is the same.
pub same_is : (t u : Tree) → IsTrue (same_tree t u) → t ≡ u
unfolding same_tree
same_is t u h = sound t u (Code_discrete ℕ_discrete Digit_discrete (code_tree t) (code_tree u)) h

pub is_same : (t u : Tree) → t ≡ u → IsTrue (same_tree t u)
unfolding same_tree
is_same t u e = here t u (Code_discrete ℕ_discrete Digit_discrete (code_tree t) (code_tree u)) e

-- Both of it.
pub same_decides : (t u : Tree) → (IsTrue (same_tree t u) ↔ (t ≡ u))
same_decides t u = (same_is t u, is_same t u)
