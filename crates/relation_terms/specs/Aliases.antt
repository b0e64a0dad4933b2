-- Which alias terms are of types and which of traits, and the terms that they are.
use Rattle.std.specs.Prelude.{ℕ, Bool, true, false, ◌≡◌, IsTrue, IsSome, List, option_map, unwrap_or, codes}
use Rattle.relation_terms.specs.Heads.{Head, AliasTermKind, type_alias, unevaluated_const, projection_const, free_const}
use Rattle.relation_terms.specs.Heads.{inherent_const, projection_alias, inherent_alias, opaque_alias, free_alias}
use Rattle.relation_terms.specs.Heads.{alias, unevaluated}
use Rattle.relation_terms.specs.Trees.{Tree, node}
use Rattle.relation_terms.specs.Meaning.{Meaning, alias_kind, alias_id}
use Rattle.relation_terms.specs.Predicates.{alias_term_kind, alias_term_id, alias_of, item_parent}
use Rattle.relation_terms.specs.declared.terms.alias.AliasTyKind.{AliasTyKind}
use Rattle.relation_terms.specs.declared.predicate.alias_term.AliasTermKind.{AliasTermKind as TermKindOf}
use Rattle.relation_terms.specs.declared.predicate.alias_term.AliasTerm.{AliasTerm}

-- Kinds of types; all others are of constants.
abbrev pub is_type_kind : AliasTermKind → Bool
is_type_kind (type_alias k) = true
is_type_kind k = false

abbrev pub IsTypeKind : AliasTermKind → Type 0
IsTypeKind k = IsTrue (is_type_kind k)

abbrev pub IsConstKind : AliasTermKind → Type 0
IsConstKind k = is_type_kind k ≡ false

-- Kinds of what a trait declares, and of what an inherent impl has.
abbrev pub IsProjectionKind : AliasTermKind → Type 0
IsProjectionKind (type_alias projection_alias) = Unit {0}
IsProjectionKind projection_const = Unit {0}
IsProjectionKind k = ⊥

abbrev pub IsInherentKind : AliasTermKind → Type 0
IsInherentKind (type_alias inherent_alias) = Unit {0}
IsInherentKind inherent_const = Unit {0}
IsInherentKind k = ⊥

-- What an error calls an alias of a kind.
abbrev pub description : AliasTermKind → List ℕ
description (type_alias projection_alias) = codes "associated type"
description (type_alias inherent_alias) = codes "inherent associated type"
description (type_alias opaque_alias) = codes "opaque type"
description (type_alias free_alias) = codes "type alias"
description unevaluated_const = codes "unevaluated constant"
description projection_const = codes "associated const"
description free_const = codes "unevaluated constant"
description inherent_const = codes "inherent associated const"

-- The kind of an alias of types, as one of types and constants.
abbrev pub as_term_kind : {Id : Type 0} → AliasTyKind Id → TermKindOf Id
as_term_kind k = alias_of (alias_id k) (type_alias (alias_kind k))

-- The form of the term that an alias of a kind is, of the item of a number.
abbrev pub aliased_head : AliasTermKind → ℕ → Head
aliased_head (type_alias k) d = alias k d
aliased_head k d = unevaluated d

module _ {Key Id Name : Type 0} (m : Meaning Key Id Name) where
  -- How many generic parameters the trait has that declares an item, and 0 where no trait does.
  abbrev pub parent_count : Id → ℕ
  parent_count d = unwrap_or (option_map m.generics (item_parent m d)) 0

  -- An alias is of an item that a trait declares.
  abbrev pub IsProjection : AliasTerm Key Id → Type 0
  IsProjection a = IsProjectionKind (alias_term_kind a.kind) × IsSome (item_parent m (alias_term_id a.kind))

  -- The type or the constant that is an alias.
  abbrev pub alias_as_term : AliasTerm Key Id → Tree
  alias_as_term a = node (aliased_head (alias_term_kind a.kind) (m.id (alias_term_id a.kind))) (m.args a.args)
