-- Generic arguments that are compared.
use Rattle.std.specs.Prelude.{Bool, true, false}
use Rattle.relation_terms.specs.declared.terms.generic_arg.GenericArgKind.{GenericArgKind}
use Rattle.relation_terms.specs.declared.terms.generic_arg.GenericArgKind.TheVariants.{Lifetime, Ty, Const}

-- Both are types, both regions or both constants, of keys that are equal.
abbrev pub same_arg : {Key : Type 0} → (Key → Key → Bool) → GenericArgKind Key → GenericArgKind Key → Bool
same_arg eq (Lifetime r) (Lifetime s) = eq r.0 s.0
same_arg eq (Ty t) (Ty u) = eq t.0 u.0
same_arg eq (Const c) (Const d) = eq c.0 d.0
same_arg eq a b = false

-- Both are types, both regions or both constants.
abbrev pub alike : {Key : Type 0} → GenericArgKind Key → GenericArgKind Key → Bool
alike (Lifetime r) (Lifetime s) = true
alike (Ty t) (Ty u) = true
alike (Const c) (Const d) = true
alike a b = false
