-- The tree of an alias of types, beside the type that it is.
use Rattle.std.specs.Prelude.{◌≡◌, IsTrue}
use Rattle.std.proofs.Common.{ap₂}
use Rattle.relation_terms.specs.Heads.{type_alias, alias_term}
use Rattle.relation_terms.specs.Trees.{Tree, node, known}
use Rattle.relation_terms.specs.Meaning.{Meaning, Extends, alias_kind, alias_id}
use Rattle.relation_terms.specs.declared.terms.alias.AliasTy.{AliasTy}

-- An alias of types as an alias term, of its kind, its item and its arguments. It is not the type that is this alias:
-- visitors and folders are asked about types, and not about their fields.
abbrev pub alias_ty_tree : {Key Id Name : Type 0} → Meaning Key Id Name → AliasTy Key Id → Tree
alias_ty_tree m a = node (alias_term (type_alias (alias_kind a.kind)) (m.id (alias_id a.kind))) (m.args a.args)

-- What is known stays while an interner grows.
pub stays_alias_ty : {Key Id Name : Type 0} {m n : Meaning Key Id Name} → Extends m n → (a : AliasTy Key Id) →
    IsTrue (known (alias_ty_tree m a)) → alias_ty_tree n a ≡ alias_ty_tree m a
stays_alias_ty e a k =
    ap₂ (λ x y. node (alias_term (type_alias (alias_kind a.kind)) x) y) (e.id (alias_id a.kind)) (e.args a.args k)
