-- The trees of a program's terms: each by its form, over the trees of the terms that stand before it.
use Rattle.std.specs.Prelude.{ℕ, List, [], ◌∷◌, ◌++◌, Option, Some, None, get_or, slice_get, slice_range}
use Rattle.relation_terms.specs.Heads.{Leaf, atom, variable, placeholder, unknown, bound_kind, type_kind, const_kind}
use Rattle.relation_terms.specs.Heads.{type_var, region_var, bool_type, char_type, str_type, never_type, int_type}
use Rattle.relation_terms.specs.Heads.{uint_type, float_type, foreign, type_param, static_region, early_region}
use Rattle.relation_terms.specs.Heads.{const_param, value_leaf, adt, fn_def, closure, coroutine_closure, coroutine}
use Rattle.relation_terms.specs.Heads.{coroutine_witness}
use Rattle.relation_terms.specs.Heads.{array, slice, tuple, raw_ptr, ref, expression, value_branch}
use Rattle.relation_terms.specs.Heads.{region_kind, int_var, float_var, const_var, type_error, const_error}
use Rattle.relation_terms.specs.Heads.{pattern_type, range_pattern, or_pattern, not_null_pattern}
use Rattle.relation_terms.specs.Heads.{BoundKind, bound, fn_ptr, unsafe_binder, signature, inputs, Head, dynamic, object}
use Rattle.relation_terms.specs.Heads.{existential_trait, existential_projection, existential_auto}
use Rattle.relation_terms.specs.Heads.{alias, unevaluated, projection_alias, inherent_alias, opaque_alias, free_alias}
use Rattle.relation_terms.specs.Trees.{Tree, leaf, node, nil, cons, list_tree, front, last}
use Rattle.relation_terms.specs.Meaning.{under, value_tree}
use Rattle.term_enums.specs.declared.FnHeader.{FnHeader}
use Rattle.text_reading.specs.declared.reading.tree.ItemSort.{ItemSort}
use Rattle.text_reading.specs.declared.reading.tree.ItemSort.TheVariants as sort
use Rattle.text_reading.specs.declared.naming.program.Parts.{Parts}
use Rattle.text_reading.specs.declared.naming.program.Term.{Term}
use Rattle.text_reading.specs.declared.naming.program.Term.TheVariants as term

-- The tree of a number; of one that stands for no term, unknown.
abbrev pub at : List Tree → ℕ → Tree
at ts n = get_or ts n (leaf unknown)

-- The list of the trees of a term's parts, which a list of numbers has.
abbrev pub parts_tree : List ℕ → List Tree → Parts → Tree
parts_tree ns ts p = list_tree (at ts) (slice_range ns p.first p.behind)

-- A leaf that is made of what may be missing.
abbrev pub leaf_of : (ℕ → Leaf) → Option ℕ → Tree
leaf_of f None = leaf unknown
leaf_of f (Some n) = leaf (f n)

-- An item of a sort over the list of its arguments; of an item that is missing, and of a trait, unknown.
abbrev pub item_tree : ItemSort → Option ℕ → Tree → Tree
item_tree s None ts = leaf unknown
item_tree sort.Struct (Some d) ts = node (adt d) ts
item_tree sort.Fn (Some d) ts = node (fn_def d) ts
item_tree sort.Closure (Some d) ts = node (closure d) ts
item_tree sort.Coroutine (Some d) ts = node (coroutine d) ts
item_tree sort.CoroutineClosure (Some d) ts = node (coroutine_closure d) ts
item_tree sort.CoroutineWitness (Some d) ts = node (coroutine_witness d) ts
item_tree sort.Foreign (Some d) ts = leaf (atom (foreign d))
item_tree sort.AssocTy (Some d) ts = node (alias projection_alias d) ts
item_tree sort.InherentTy (Some d) ts = node (alias inherent_alias d) ts
item_tree sort.Opaque (Some d) ts = node (alias opaque_alias d) ts
item_tree sort.FreeTy (Some d) ts = node (alias free_alias d) ts
item_tree sort.AssocConst (Some d) ts = node (unevaluated d) ts
item_tree sort.FreeConst (Some d) ts = node (unevaluated d) ts
item_tree sort.InherentConst (Some d) ts = node (unevaluated d) ts
item_tree s (Some d) ts = leaf unknown

-- A head of an item over a list; of an item that is missing, unknown.
abbrev pub head_of : (ℕ → Head) → Option ℕ → Tree → Tree
head_of f None ts = leaf unknown
head_of f (Some d) ts = node (f d) ts

-- A trait object over its predicates and its region.
abbrev pub object_tree : Tree → Tree → Tree
object_tree ps r = node dynamic (cons (node object ps) (cons r nil))

-- The kind of a bound variable; those of a list of such, if each is one.
abbrev pub variable_of : Tree → Option BoundKind
variable_of (leaf (bound k d i)) = Some k
variable_of t = None

abbrev pub with_variable : Option BoundKind → Option (List BoundKind) → Option (List BoundKind)
with_variable (Some k) (Some ks) = Some (k ∷ ks)
with_variable (Some k) None = None
with_variable None ks = None

abbrev pub variables_of : Tree → Option (List BoundKind)
variables_of (cons t ts) = with_variable (variable_of t) (variables_of ts)
variables_of t = Some []

-- A function pointer of a header: under its binder the inputs, and the output, which is the last of the list.
abbrev pub fn_ptr_tree : FnHeader → Option (List BoundKind) → Tree → Tree
fn_ptr_tree h ks ts = node fn_ptr (cons (under ks (node (signature h.c_variadic h.safety h.abi)
    (cons (node inputs (front ts)) (cons (last ts) nil)))) nil)

-- A type under a binder.
abbrev pub unsafe_binder_tree : Option (List BoundKind) → Tree → Tree
unsafe_binder_tree ks t = node unsafe_binder (cons (under ks t) nil)

-- Over the numbers of the items and of the names, and the numbers of all parts.
module _ (items names parts : List ℕ) where
  -- The tree of a term, over the trees of those before it.
  abbrev pub text_term_tree : List Tree → Term → Tree
  text_term_tree ts term.Bool = leaf (atom bool_type)
  text_term_tree ts term.Char = leaf (atom char_type)
  text_term_tree ts term.Str = leaf (atom str_type)
  text_term_tree ts term.Never = leaf (atom never_type)
  text_term_tree ts (term.Int w) = leaf (atom (int_type w))
  text_term_tree ts (term.Uint w) = leaf (atom (uint_type w))
  text_term_tree ts (term.Float w) = leaf (atom (float_type w))
  text_term_tree ts (term.Item s d p) = item_tree s (slice_get items d) (parts_tree parts ts p)
  text_term_tree ts (term.Slice t) = node slice (cons (at ts t) nil)
  text_term_tree ts (term.Array t c) = node array (cons (at ts t) (cons (at ts c) nil))
  text_term_tree ts (term.Tuple p) = node tuple (parts_tree parts ts p)
  text_term_tree ts (term.RawPtr t u) = node (raw_ptr u) (cons (at ts t) nil)
  text_term_tree ts (term.Ref r t u) = node (ref u) (cons (at ts r) (cons (at ts t) nil))
  text_term_tree ts (term.TyParam i n) = leaf_of (λ x. atom (type_param i x)) (slice_get names n)
  text_term_tree ts (term.TyPlaceholder u v n) =
      leaf_of (λ x. placeholder (bound_kind type_kind x) u v) (slice_get names n)
  text_term_tree ts (term.TyVar n) = leaf (variable type_var n)
  text_term_tree ts (term.IntVar n) = leaf (variable int_var n)
  text_term_tree ts (term.FloatVar n) = leaf (variable float_var n)
  text_term_tree ts term.TyError = leaf (atom type_error)
  text_term_tree ts (term.Pat t p) = node pattern_type (cons (at ts t) (cons (at ts p) nil))
  text_term_tree ts term.Static = leaf (atom static_region)
  text_term_tree ts (term.RegionParam i n) = leaf_of (λ x. atom (early_region i x)) (slice_get names n)
  text_term_tree ts (term.RegionVar n) = leaf (variable region_var n)
  text_term_tree ts (term.RegionPlaceholder u v n) =
      leaf_of (λ x. placeholder (bound_kind region_kind x) u v) (slice_get names n)
  text_term_tree ts (term.ConstParam i n) = leaf_of (λ x. atom (const_param i x)) (slice_get names n)
  text_term_tree ts (term.ConstPlaceholder u v n) =
      leaf_of (λ x. placeholder (bound_kind const_kind x) u v) (slice_get names n)
  text_term_tree ts (term.ConstVar n) = leaf (variable const_var n)
  text_term_tree ts term.ConstError = leaf (atom const_error)
  text_term_tree ts (term.Number t b n) = value_tree (at ts t) (leaf (atom (value_leaf b n)))
  text_term_tree ts (term.Branch t p) = value_tree (at ts t) (node value_branch (parts_tree parts ts p))
  text_term_tree ts (term.Expr k p) = node (expression k) (parts_tree parts ts p)
  text_term_tree ts (term.Range s e) = node range_pattern (cons (at ts s) (cons (at ts e) nil))
  text_term_tree ts (term.Or p) = node or_pattern (parts_tree parts ts p)
  text_term_tree ts term.NotNull = leaf (atom not_null_pattern)
  text_term_tree ts (term.TyBound d v n) = leaf_of (λ x. bound (bound_kind type_kind x) d v) (slice_get names n)
  text_term_tree ts (term.RegionBound d v n) = leaf_of (λ x. bound (bound_kind region_kind x) d v) (slice_get names n)
  text_term_tree ts (term.ConstBound d v n) = leaf_of (λ x. bound (bound_kind const_kind x) d v) (slice_get names n)
  text_term_tree ts (term.FnPtr h v p) = fn_ptr_tree h (variables_of (parts_tree parts ts v)) (parts_tree parts ts p)
  text_term_tree ts (term.UnsafeBinder v t) = unsafe_binder_tree (variables_of (parts_tree parts ts v)) (at ts t)
  text_term_tree ts (term.Object p r) = object_tree (parts_tree parts ts p) (at ts r)
  text_term_tree ts (term.Implements v d p) =
      under (variables_of (parts_tree parts ts v)) (head_of existential_trait (slice_get items d) (parts_tree parts ts p))
  text_term_tree ts (term.Projects v d p t) = under (variables_of (parts_tree parts ts v))
      (head_of existential_projection (slice_get items d) (cons (at ts t) (parts_tree parts ts p)))
  text_term_tree ts (term.IsAuto v d) =
      under (variables_of (parts_tree parts ts v)) (leaf_of (λ x. atom (existential_auto x)) (slice_get items d))

  -- The trees of terms that stand behind those of these trees.
  abbrev pub trees_from : List Tree → List Term → List Tree
  trees_from ts [] = ts
  trees_from ts (x ∷ xs) = trees_from (ts ++ text_term_tree ts x ∷ []) xs

  -- The trees of all terms.
  abbrev pub trees_of : List Term → List Tree
  trees_of xs = trees_from [] xs
