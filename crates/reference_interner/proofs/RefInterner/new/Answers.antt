use Rattle.std.proofs.Common.{ap}
use Rattle.std.specs.Prelude.{false}
use Rattle.reference_interner.proofs.OnceLemmas.{none_known}
use Rattle.reference_interner.proofs.RefInterner.new.Goals as goal

pub returns-clause-knows_none : goal.returns-clause-knows_none
returns-clause-knows_none c =
    none_known (record { list = c.new-2.result.items; next_solver = false }) c.new.result
    (ap (λ xs. record { list = xs; next_solver = false }) c.new-2.ensures.items) c.new.ensures
