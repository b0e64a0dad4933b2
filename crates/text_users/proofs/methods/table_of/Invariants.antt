use Rattle.std.proofs.Common.{take}
use Rattle.std.specs.List.{All}
use Rattle.relation_methods.specs.Methods.{AreKeyed}
use Rattle.text_users.specs.Found.{Holds}
use Rattle.text_users.proofs.methods.table_of.Given as goal

-- what was inserted so far has its keys, and is each method so far
abbrev pub invariant-loop-method : goal.invariant-loop-method
invariant-loop-method g l = record {
  keyed : AreKeyed (g.I.Interner.meaning l.cx) l.table;
  so_far : All (Holds l.table) (take l.method-index l.methods);
}
