use Rattle.std.proofs.Common.{IsTrue}
use Rattle.relation_terms.specs.Heads.{type_var}
use Rattle.relation_terms.specs.Trees.{known}
use Rattle.relation_semantics.specs.Bound.{IsWellBound}
use Rattle.relation_semantics.specs.Stores.{InContext}
use Rattle.relation_reference.specs.Answers.{VarReadsAsTy}
use Rattle.variable_tables.specs.Tables.{store_of}
use Rattle.relation_reference.proofs.Chains.{followed}
use Rattle.relation_reference.proofs.context.shallow.ty_of_var.Given as goal

abbrev pub decreases-loop-next : goal.decreases-loop-next
decreases-loop-next g l =
    let m = g.I.Interner.meaning l.cx in followed (store_of m l.inner) (m.ty l.found)

abbrev pub invariant-loop-next : goal.invariant-loop-next
invariant-loop-next g l =
    let m = g.I.Interner.meaning l.cx in
    record {
      sure : IsTrue (known (m.ty l.found));
      is_in : InContext (store_of m l.inner) (m.ty l.found);
      reads : VarReadsAsTy m l.inner type_var l.fn.var.0 l.found;
      by_lists : IsWellBound (m.ty l.found);
    }
