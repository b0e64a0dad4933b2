-- Which variables are a context's: those of its tables.
use Rattle.std.proofs.Common.{◌≡◌, ◌↔◌, ℕ, ◌<◌, arith, List, length, IsTrue, nat_lt}
use Rattle.std.proofs.lemmas.Bool.{ltb-true, lt-ltb}
use Rattle.relation_terms.specs.Trees.{Tree}
use Rattle.variable_tables.specs.declared.inner.Variable.{Variable}
use Rattle.variable_tables.specs.Variables.{entries_of}
use Rattle.relation_reference.proofs.Making.{entries_long}

-- A number below the length of a table is that of a variable.
pub is_own : {K : Type 0} (tree : K → Tree) (vs : List (Variable K)) (n l : ℕ) → l ≡ length vs →
    IsTrue (nat_lt n l) ↔ (n < length (entries_of tree vs))
is_own tree vs n l e =
    let long = entries_long tree vs in (
      λ h. let less = ltb-true n l h in omega (arith, less, e, long),
      λ h. lt-ltb n l (omega (arith, h, e, long)),
    )
