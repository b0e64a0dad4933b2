-- Of which two types relating asks one goal and nothing else: two type variables of which nothing is recorded, and an
-- alias with another type.
use Rattle.std.specs.Prelude.{◌≡◌, ◌≢◌, ◌⊎◌, ℕ, true, false, Option, Some, None}
use Rattle.term_enums.specs.declared.Variance.{Variance}
use Rattle.term_enums.specs.declared.Variance.TheVariants.{Covariant, Contravariant}
use Rattle.relation_terms.specs.Heads.{type_sort, type_var, variable}
use Rattle.relation_terms.specs.Trees.{Tree, leaf}
use Rattle.relation_semantics.specs.AliasGoals.{alias_at}
use Rattle.relation_semantics.specs.Errors.{HaveNoError}
use Rattle.relation_semantics.specs.Goals.{subtype_predicate}
use Rattle.relation_semantics.specs.Relation.{IsAlias, sort_of}
use Rattle.relation_semantics.specs.Settings.{Settings, DefersAliases}

-- A type variable; no type variable.
abbrev pub IsTyVar : Tree → Type 0
IsTyVar t = (n : ℕ) × (t ≡ leaf (variable type_var n))

abbrev pub IsNoTyVar : Tree → Type 0
IsNoTyVar t = (n : ℕ) → t ≢ leaf (variable type_var n)

-- What is asked of two type variables that are related at a variance: at covariance that the first is a subtype of the
-- second, and the first is the expected one; at contravariance that the second is one of the first, which is expected.
abbrev pub subtype_at : Variance → Tree → Tree → Option Tree
subtype_at Covariant a b = Some (subtype_predicate true a b)
subtype_at Contravariant a b = Some (subtype_predicate false b a)
subtype_at v a b = None

-- What is asked of two types, as they are read at once, and nothing but that: of two type variables that the one is a
-- subtype of the other; and where aliases are left to goals, of an alias and another type, neither of them an error or a
-- type variable, that both are one or in order.
pub data AsksAlone (k : Settings) (v : Variance) (x y p : Tree) : Type 0 where
  of_variables : IsTyVar x → IsTyVar y → subtype_at v x y ≡ Some p → AsksAlone k v x y p
  of_alias : DefersAliases k → IsAlias x ⊎ IsAlias y → HaveNoError x y → IsNoTyVar x → IsNoTyVar y →
      alias_at v x y ≡ Some p → AsksAlone k v x y p

-- Of two terms no goal is asked alone, if they are types.
abbrev pub AsksNoneAlone : Settings → Variance → Tree → Tree → Type 0
AsksNoneAlone k v x y = sort_of x ≡ type_sort → sort_of y ≡ type_sort → (p : Tree) → AsksAlone k v x y p → ⊥
