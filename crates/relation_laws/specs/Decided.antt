-- The trees of small variable-free terms.
use Rattle.std.specs.Prelude.{◌≡◌, ◌⊎◌, ◌↔◌, [], ◌∷◌, Bool, true, false, List, map, Option, Some, None, get_or}
use Rattle.term_enums.specs.declared.Variance.{Variance}
use Rattle.term_enums.specs.declared.Variance.TheVariants.{Invariant}
use Rattle.relation_terms.specs.Heads.{Sort, region_sort, type_sort, const_sort, value_sort, value_type_sort}
use Rattle.relation_terms.specs.Heads.{pattern_sort, region_kind, type_kind, const_kind, bound_kind, bool_type}
use Rattle.relation_terms.specs.Heads.{char_type, str_type, never_type, type_error, int_type, uint_type, float_type}
use Rattle.relation_terms.specs.Heads.{foreign, type_param, static_region, early_region, const_error, const_param}
use Rattle.relation_terms.specs.Heads.{value_leaf, not_null_pattern, Head, adt, fn_def, closure, coroutine_closure}
use Rattle.relation_terms.specs.Heads.{coroutine, coroutine_witness, array, slice, pattern_type, tuple, raw_ptr, ref}
use Rattle.relation_terms.specs.Heads.{value, value_type, value_branch, expression, range_pattern, or_pattern, Leaf}
use Rattle.relation_terms.specs.Heads.{placeholder, atom}
use Rattle.relation_terms.specs.Trees.{Tree, leaf, node, nil, cons}
use Rattle.relation_semantics.specs.Relation.{Items, Interpretation, Rel, at, plain_atom}
use Rattle.relation_laws.specs.declared.decided.SmallLeaf.{SmallLeaf}
use Rattle.relation_laws.specs.declared.decided.SmallLeaf.TheVariants as small
use Rattle.relation_laws.specs.declared.decided.SmallHead.{SmallHead}
use Rattle.relation_laws.specs.declared.decided.SmallHead.TheVariants as form
use Rattle.relation_laws.specs.declared.decided.SmallSort.{SmallSort}
use Rattle.relation_laws.specs.declared.decided.SmallSort.TheVariants as sort
use Rattle.relation_laws.specs.declared.decided.SmallTerm.{SmallTerm, Simple, Form'}
use Rattle.relation_laws.specs.declared.decided.SmallParts.{SmallParts, End, Next'}

abbrev pub leaf_of : SmallLeaf → Leaf
leaf_of small.Bool = atom bool_type
leaf_of small.Char = atom char_type
leaf_of small.Str = atom str_type
leaf_of small.Never = atom never_type
leaf_of small.TypeError = atom type_error
leaf_of (small.Int w) = atom (int_type w)
leaf_of (small.Uint w) = atom (uint_type w)
leaf_of (small.Float w) = atom (float_type w)
leaf_of (small.Foreign d) = atom (foreign d)
leaf_of (small.TypeParam i n) = atom (type_param i n)
leaf_of small.Static = atom static_region
leaf_of (small.EarlyRegion i n) = atom (early_region i n)
leaf_of small.ConstError = atom const_error
leaf_of (small.ConstParam i n) = atom (const_param i n)
leaf_of (small.ValueLeaf b n) = atom (value_leaf b n)
leaf_of small.NotNull = atom not_null_pattern
leaf_of (small.TypePlaceholder u n) = placeholder (bound_kind type_kind 0) u n
leaf_of (small.RegionPlaceholder u n) = placeholder (bound_kind region_kind 0) u n
leaf_of (small.ConstPlaceholder u n) = placeholder (bound_kind const_kind 0) u n

abbrev pub head_of : SmallHead → Head
head_of (form.Adt d) = adt d
head_of (form.FnDef d) = fn_def d
head_of (form.Closure d) = closure d
head_of (form.CoroutineClosure d) = coroutine_closure d
head_of (form.Coroutine d) = coroutine d
head_of (form.CoroutineWitness d) = coroutine_witness d
head_of form.Array = array
head_of form.Slice = slice
head_of form.PatternType = pattern_type
head_of form.Tuple = tuple
head_of (form.RawPtr m) = raw_ptr m
head_of (form.Ref m) = ref m
head_of form.Value = value
head_of form.ValueType = value_type
head_of form.ValueBranch = value_branch
head_of (form.Expression k) = expression k
head_of form.RangePattern = range_pattern
head_of form.OrPattern = or_pattern

abbrev mutual
  pub small_tree : SmallTerm → Tree
  small_tree (Simple l) = leaf (leaf_of l)
  small_tree (Form' h p ps) = node (head_of h) (small_parts ps)

  pub small_parts : SmallParts → Tree
  small_parts End = nil
  small_parts (Next' p t q ps) = cons (small_tree t) (small_parts ps)

-- Each item declares these variances for its parameters; further ones are invariant.
abbrev pub all_declare : List Variance → Items
all_declare vs = record { declared = λ d i. get_or vs i Invariant; of_alias = λ d. None }

abbrev pub pair_of : SmallLeaf × SmallLeaf → Tree × Tree
pair_of p = (leaf (leaf_of p.0), leaf (leaf_of p.1))

-- Which regions outlive which: all of all, or what these pairs say.
abbrev pub outlives_by : Bool → List (SmallLeaf × SmallLeaf) → Option (List (Tree × Tree))
outlives_by true ps = None
outlives_by false ps = Some (map pair_of ps)

-- An interpretation says of regions just that.
abbrev pub Obeys : Interpretation → Bool → List (SmallLeaf × SmallLeaf) → Type 0
Obeys w all ps = w.outlives ≡ outlives_by all ps

-- The answer is whether two terms are related at a variance, where each item declares these variances.
abbrev pub Decides : Bool → List Variance → Interpretation → Tree → Variance → SmallTerm → SmallTerm → Type 0
Decides b vs w e v s t = b ≡ true ↔ Rel (all_declare vs) w e (at v) (small_tree s) (small_tree t)

abbrev pub sort_meant : SmallSort → Sort
sort_meant sort.Region = region_sort
sort_meant sort.Type = type_sort
sort_meant sort.Const = const_sort
sort_meant sort.Value = value_sort
sort_meant sort.ValueType = value_type_sort
sort_meant sort.Pattern = pattern_sort

-- A leaf without a parameter's name.
abbrev pub plain_leaf : Leaf → Leaf
plain_leaf (atom x) = atom (plain_atom x)
plain_leaf l = l

-- One region leads to another by some pairs: it is the other, or it leads to the first of a pair whose second leads
-- there.
abbrev pub Leads : List (Tree × Tree) → Tree → Tree → Type 0
Leads [] a b = a ≡ b
Leads (p ∷ ps) a b = Leads ps a b ⊎ (Leads ps a p.0 × Leads ps p.1 b)
