-- The roots of variables that questions name, and what they are bound to.
use Rattle.std.specs.Prelude.{◌≡◌, ℕ, List, Option, Some, None}
use Rattle.relation_terms.specs.declared.terms.generic_arg.GenericArgKind.{GenericArgKind}
use Rattle.relation_terms.specs.declared.terms.generic_arg.GenericArgKind.TheVariants as arg
use Rattle.variable_tables.specs.declared.inner.InferCtxtInner.{InferCtxtInner}
use Rattle.variable_tables.specs.declared.inner.Variable.{Variable}
use Rattle.variable_tables.specs.declared.inner.VariableValue.{VariableValue}
use Rattle.variable_tables.specs.declared.inner.VariableValue.TheVariants.{Unknown, SameAs, Known}
use Rattle.variable_tables.specs.Variables.{root_at, value_at}
use Rattle.text_reading.specs.declared.naming.program.VariableKind.{VariableKind}
use Rattle.text_reading.specs.declared.naming.program.VariableKind.TheVariants.{Ty, Int, Float, Const, Region}
use Rattle.text_reading.specs.declared.naming.program.VariableId.{VariableId}

-- What is made of the term that a variable is bound to, by what is recorded of it.
abbrev pub bound_by : {K A : Type 0} → (K → A) → VariableValue K → Option A
bound_by f Unknown = None
bound_by f (SameAs r) = None
bound_by f (Known t) = Some (f t)

-- The same of the root of a variable's class.
abbrev pub bound_in : {K A : Type 0} → (K → A) → List (Variable K) → ℕ → Option A
bound_in f vs n = bound_by f (value_at vs (root_at vs n))

-- The root of a variable's class, by its number. That of a region is itself.
abbrev pub class_root : {Key : Type 0} → InferCtxtInner Key → VariableKind → ℕ → ℕ
class_root x Ty n = root_at x.types.items n
class_root x Int n = root_at x.ints.items n
class_root x Float n = root_at x.floats.items n
class_root x Const n = root_at x.consts.items n
class_root x Region n = n

-- The term that a variable's class is bound to.
abbrev pub class_binding : {Key : Type 0} → InferCtxtInner Key → VariableKind → ℕ → Option (GenericArgKind Key)
class_binding x Ty n = bound_in arg.Ty x.types.items n
class_binding x Int n = bound_in arg.Ty x.ints.items n
class_binding x Float n = bound_in arg.Ty x.floats.items n
class_binding x Const n = bound_in arg.Const x.consts.items n
class_binding x Region n = None

-- Two variables are of one kind, with one root.
pub record AreOneVariable {Key : Type 0} (x : InferCtxtInner Key) (a b : VariableId) : Type 0 where
  pub kind : a.kind ≡ b.kind
  pub root : class_root x a.kind a.number ≡ class_root x b.kind b.number
