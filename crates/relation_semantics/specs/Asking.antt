-- What relating two terms asks for on the way down: constraints on regions, and goals for aliases.
use Rattle.std.specs.Prelude.{◌≡◌, ◌≢◌, ◌⊎◌, ℕ, ◌<◌, List, [], ◌∷◌, Option, Some, None}
use Rattle.term_enums.specs.declared.Variance.{Variance}
use Rattle.term_enums.specs.declared.Variance.TheVariants.{Covariant, Contravariant, Invariant, Bivariant}
use Rattle.term_enums.specs.declared.AliasRelationDirection.TheVariants.{Equate}
use Rattle.relation_terms.specs.Heads.{region_sort, type_sort, const_sort, leaf_sort, BoundKind, bound_sort, Head}
use Rattle.relation_terms.specs.Heads.{fn_ptr, unsafe_binder, alias, unevaluated, Leaf, variable, bound, placeholder}
use Rattle.relation_terms.specs.Heads.{atom, unknown}
use Rattle.relation_terms.specs.Trees.{Tree, leaf, node, bind, nil, cons, count, nth}
use Rattle.relation_semantics.specs.Relation.{Items, part_at, plain, IsRelatedHead, IsAlias, IsAliasHead, sort_of}
use Rattle.relation_semantics.specs.Stores.{Constraint, outlives_constraint, equal_constraint}
use Rattle.relation_semantics.specs.Goals.{alias_relate_predicate}
use Rattle.relation_semantics.specs.AliasGoals.{alias_at}
use Rattle.relation_semantics.specs.FirstOrder.{IsFirstOrderAtom, IsFirstOrderHead}
use Rattle.relation_semantics.specs.Steps.{HasNoBinder}
use Rattle.relation_semantics.specs.Settings.{Settings, DefersAliases}

-- What is asked for: a constraint on regions, or a goal, by its predicate.
pub data Wanted : Type 0 where
  a_constraint : Constraint → Wanted
  a_goal : Tree → Wanted

-- A constraint of a region with itself.
abbrev pub IsOfItself : Constraint → Type 0
IsOfItself (outlives_constraint a b) = a ≡ b
IsOfItself (equal_constraint a b) = a ≡ b

-- What need not be recorded.
abbrev pub IsTrivial : Wanted → Type 0
IsTrivial (a_constraint q) = IsOfItself q
IsTrivial (a_goal p) = ⊥

-- What is asked of two regions that are related at a variance: at covariance that the first outlives the second.
abbrev pub region_at : Variance → Tree → Tree → Option Constraint
region_at Covariant a b = Some (outlives_constraint a b)
region_at Contravariant a b = Some (outlives_constraint b a)
region_at Invariant a b = Some (equal_constraint a b)
region_at Bivariant a b = None

-- One of two terms is an alias type or an unevaluated constant. Where aliases are left to goals these two are, and they
-- are not gone into.
abbrev pub HaveAlias : Tree → Tree → Type 0
HaveAlias a b = IsAlias a ⊎ IsAlias b

-- What relating two terms at a variance asks for: of two regions their constraint; of two of which one is an alias,
-- unless they are one, its goal; of two others of one form what their parts ask for, each pair at the variance of its
-- place. Nothing is asked at bivariance. Of binders it is said what stands outside of them.
pub data AsksFor (c : Items) (z : Wanted) : Variance → Tree → Tree → Type 0 where
  of_regions : {v : Variance} {a b : Tree} (q : Constraint) → z ≡ a_constraint q → sort_of a ≡ region_sort →
      sort_of b ≡ region_sort → region_at v a b ≡ Some q → AsksFor c z v a b
  of_aliases : {v : Variance} {a b : Tree} (p : Tree) → z ≡ a_goal p → HaveAlias a b → a ≢ b → sort_of a ≡ type_sort →
      alias_at v a b ≡ Some p → AsksFor c z v a b
  of_unevaluated : {v : Variance} {a b : Tree} → z ≡ a_goal (alias_relate_predicate Equate a b) → HaveAlias a b →
      a ≢ b → sort_of a ≡ const_sort → v ≢ Bivariant → AsksFor c z v a b
  of_parts : {v : Variance} {h k : Head} {a b ts us : Tree} (i : ℕ) → a ≡ node h ts → b ≡ node k us →
      (HaveAlias a b → ⊥) → IsRelatedHead h → plain h ≡ plain k → i < count ts → i < count us →
      AsksFor c z (part_at c h i v) (nth i ts) (nth i us) → AsksFor c z v a b

-- What the parts of two forms ask for.
abbrev pub PartsAsk : Items → Head → Variance → Tree → Tree → Wanted → Type 0
PartsAsk c h v ts us z = (i : ℕ) × (i < count ts) × (i < count us) × AsksFor c z (part_at c h i v) (nth i ts) (nth i us)

-- Of inference variables and of what binders bind regions alone; and no error.
abbrev pub IsPlainLeaf : Leaf → Type 0
IsPlainLeaf (variable k n) = leaf_sort (variable k n) ≡ region_sort
IsPlainLeaf (bound k d i) = bound_sort k ≡ region_sort
IsPlainLeaf (placeholder k u n) = Unit {0}
IsPlainLeaf (atom x) = IsFirstOrderAtom x
IsPlainLeaf unknown = ⊥

-- First-order forms, function pointers, types under binders, alias types and unevaluated constants.
abbrev pub IsPlainHead : Head → Type 0
IsPlainHead fn_ptr = Unit {0}
IsPlainHead unsafe_binder = Unit {0}
IsPlainHead (alias k d) = Unit {0}
IsPlainHead (unevaluated d) = Unit {0}
IsPlainHead h = IsFirstOrderHead h

-- A binder binds regions alone.
abbrev pub BindsRegions : List BoundKind → Type 0
BindsRegions [] = Unit {0}
BindsRegions (k ∷ ks) = (bound_sort k ≡ region_sort) × BindsRegions ks

-- A term over such leaves and forms, whose binders bind regions alone.
abbrev pub IsPlainTerm : Tree → Type 0
IsPlainTerm (leaf l) = IsPlainLeaf l
IsPlainTerm (node h ts) = IsPlainHead h × IsPlainTerm ts
IsPlainTerm (bind ks t) = BindsRegions ks × IsPlainTerm t
IsPlainTerm nil = Unit {0}
IsPlainTerm (cons t ts) = IsPlainTerm t × IsPlainTerm ts

-- No alias type and no unevaluated constant stands in a term.
abbrev pub HasNoAlias : Tree → Type 0
HasNoAlias (leaf l) = Unit {0}
HasNoAlias (node h ts) = (IsAliasHead h → ⊥) × HasNoAlias ts
HasNoAlias (bind ks t) = HasNoAlias t
HasNoAlias nil = Unit {0}
HasNoAlias (cons t ts) = HasNoAlias t × HasNoAlias ts

-- Two such terms: without aliases; or without binders, where aliases are left to goals.
pub data ArePlain (k : Settings) (a b : Tree) : Type 0 where
  without_aliases : IsPlainTerm a → IsPlainTerm b → HasNoAlias a → HasNoAlias b → ArePlain k a b
  without_binders : IsPlainTerm a → IsPlainTerm b → HasNoBinder a → HasNoBinder b → DefersAliases k → ArePlain k a b
