-- Pairs that are left to no goal.
use Rattle.std.proofs.Common.{◌⊎◌, sym, subst, inl, inr}
use Rattle.relation_terms.specs.Heads.{Head, alias, opaque_alias, unevaluated, variable}
use Rattle.term_enums.specs.declared.Variance.{Variance}
use Rattle.relation_terms.specs.Meaning.{Meaning}
use Rattle.relation_folds.specs.declared.error.TypeError.{TypeError}
use Rattle.relation_semantics.specs.Stores.{Store}
use Rattle.relation_terms.specs.Trees.{Tree, leaf, node}
use Rattle.relation_semantics.specs.Relation.{Items, IsAlias}
use Rattle.relation_semantics.specs.Settings.{Settings}
use Rattle.relation_semantics.specs.Errors.{Meeting, as_pair, as_forms, ErrorByForms, ErrorAs, by_forms}
use Rattle.relation_semantics.specs.Errors.{AreOfOneForm, over_parts, over_aliases, one_leaf, parameters}
use Rattle.relation_semantics.specs.Errors.{IsOpaque, IsOpaqueBeside, IsDeferred}
use Rattle.relation_semantics.specs.Parts.{IsByParts}

-- Opaque types are aliases.
pub opaque_is_alias : (t : Tree) → IsOpaque t → IsAlias t
opaque_is_alias (node (alias opaque_alias d) ts) h = tt
opaque_is_alias t h = absurd h

pub beside_is_opaque : (t u : Tree) → IsOpaqueBeside t u → IsOpaque t
beside_is_opaque t (leaf (variable k n)) o = absurd o
beside_is_opaque t u o = o

beside_is_alias : (t u : Tree) → IsOpaqueBeside t u → IsAlias t
beside_is_alias t u h = opaque_is_alias t (beside_is_opaque t u h)

-- What is neither an alias nor an unevaluated constant is left to no goal.
head_normal : (h : Head) (ts us : Tree) → IsAlias (node h ts) → IsAlias (node h us)
head_normal (alias k d) ts us u = tt
head_normal (unevaluated d) ts us u = tt
head_normal h ts us u = absurd u

pub normal_not_left : (k : Settings) (a b : Tree) → (IsAlias a → ⊥) → (IsAlias b → ⊥) →
    IsDeferred k a b → ⊥
normal_not_left k a b f g (inl h) = either h.1
  where
    either : IsAlias a ⊎ IsAlias b → ⊥
    either (inl o) = f o
    either (inr o) = g o
normal_not_left k a b f g (inr h) = either h.1
  where
    either : IsOpaqueBeside a b ⊎ IsOpaqueBeside b a → ⊥
    either (inl o) = f (beside_is_alias a b o)
    either (inr o) = g (beside_is_alias b a o)

-- So what is said of two as forms is said of them as they are brought together.
pub said_as : {Key Id Name : Type 0} {m : Meaning Key Id Name} {k : Settings} {c : Items} {st : Store} {v : Variance}
    {e : TypeError Key Id Name} {a b : Tree} (w : Meeting) → (IsDeferred k a b → ⊥) →
    ErrorByForms m k c st v e a b → ErrorAs m w k c st v e a b
said_as as_pair n h = by_forms n h
said_as as_forms n h = h

-- Nor is what is related as parts of terms.
pub by_parts_normal : (t : Tree) → IsByParts t → IsAlias t → ⊥
by_parts_normal (node (alias k d) ts) p u = p
by_parts_normal (node (unevaluated d) ts) p u = p
by_parts_normal t p u = u

pub one_form_normal : (a b : Tree) → AreOfOneForm a b → (IsAlias a → ⊥) → IsAlias b → ⊥
one_form_normal a b (over_parts {h} {ts} {us} d e n) f u = f (subst IsAlias (sym d) (head_normal h us ts (subst IsAlias e u)))
one_form_normal a b (over_aliases d e n) f u = f (subst IsAlias (sym d) tt)
one_form_normal a b (one_leaf d e) f u = subst IsAlias e u
one_form_normal a b (parameters d e n) f u = subst IsAlias e u

pub parts_not_left : (k : Settings) (a b : Tree) → IsByParts a → IsByParts b → IsDeferred k a b → ⊥
parts_not_left k a b p q = normal_not_left k a b (by_parts_normal a p) (by_parts_normal b q)

pub form_not_left : (k : Settings) (a b : Tree) → IsByParts a → AreOfOneForm a b → IsDeferred k a b → ⊥
form_not_left k a b p o = normal_not_left k a b (by_parts_normal a p) (one_form_normal a b o (by_parts_normal a p))
