use Rattle.std.proofs.Common.{refl}
use Rattle.reference_interner.specs.Nodes.{meaning_of}
use Rattle.reference_interner.specs.Adding.{items_in}
use Rattle.reference_interner.proofs.ItemLemmas.{same_terms}
use Rattle.reference_interner.proofs.RefInterner.set_solver_globally.Goals as goal

pub returns-clause-recorded : goal.returns-clause-recorded
unfolding meaning_of
returns-clause-recorded c = refl

pub returns-clause-terms : goal.returns-clause-terms
returns-clause-terms c = same_terms (items_in c.args.self.now) _ c.args.self.now.nodes
