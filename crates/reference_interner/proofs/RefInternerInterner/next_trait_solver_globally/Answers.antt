use Rattle.std.proofs.Common.{refl}
use Rattle.reference_interner.specs.Nodes.{meaning_of}
use Rattle.reference_interner.proofs.RefInternerInterner.next_trait_solver_globally.Goals as goal

pub returns : goal.returns
unfolding meaning_of
returns c = refl
