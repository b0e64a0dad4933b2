use Rattle.std.proofs.Common.{◌≡◌, drop}
use Rattle.relation_rows.specs.Rows.{row_named}
use Rattle.relation_rows.proofs.rows.row_named.Given as goal

-- none of the first has the name
abbrev pub invariant-loop-row : goal.invariant-loop-row
invariant-loop-row l = row_named l.rows l.name ≡ row_named (drop l.row-index l.rows) l.name
