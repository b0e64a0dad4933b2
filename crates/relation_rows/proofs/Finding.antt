-- Rows that are found by their names.
use Rattle.std.proofs.Common.{◌≡◌, ℕ, List, Option, Some, None, true, false, sym, ◌∙◌, subst}
use Rattle.std.specs.Prelude.{IsSome}
use Rattle.relation_rows.specs.declared.rows.Row.{Row}
use Rattle.relation_rows.specs.Rows.{row_named, IsRow}
use Rattle.relation_rows.proofs.Arguments.{is_some}

-- A name by which a row is found is a row's.
pub found_is_row : (rows : List Row) (name : List ℕ) (o : Option Row) (r : Row) → o ≡ row_named rows name → o ≡ Some r →
    IsRow rows name
found_is_row rows name o r e is = is_some r (row_named rows name) (sym e ∙ is)

-- One by which none is found is none's.
pub none_is_row : (rows : List Row) (name : List ℕ) (o : Option Row) → o ≡ row_named rows name → o ≡ None →
    IsRow rows name → ⊥
none_is_row rows name o e is h = let no : false ≡ true = subst IsSome (sym e ∙ is) h in cc
