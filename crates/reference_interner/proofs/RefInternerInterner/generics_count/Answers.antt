use Rattle.std.proofs.Common.{ap, length}
use Rattle.reference_interner.specs.Nodes.{meaning_of}
use Rattle.reference_interner.proofs.RefInternerInterner.generics_count.Goals as goal

pub returns : goal.returns
unfolding meaning_of
returns c = ap length c.variances_of.ensures
