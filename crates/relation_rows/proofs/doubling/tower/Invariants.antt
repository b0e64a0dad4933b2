use Rattle.std.proofs.Common.{IsTrue}
use Rattle.relation_terms.specs.Trees.{known}
use Rattle.reference_interner.specs.Adding.{meaning_in}
use Rattle.relation_rows.proofs.doubling.tower.Given as goal

abbrev pub invariant-loop : goal.invariant-loop
invariant-loop l = IsTrue (known ((meaning_in l.cx).ty l.ty))
