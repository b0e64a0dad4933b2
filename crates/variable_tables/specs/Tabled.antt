-- A table of variables as contracts see it.
use Rattle.std.specs.Prelude.{List}
use Rattle.variable_tables.specs.declared.inner.Variable.{Variable}

-- Its variables, by their numbers.
pub record Table (K : Type 0) : Type 0 where
  pub items : List (Variable K)
