use Rattle.relation_laws.proofs.Assigning.{assigning_twice, instantiating_assigns}
use Rattle.relation_semantics.proofs.Trees.{occurs_check}
use Rattle.relation_semantics.proofs.Resolved.{cycles_do_not_unify}
use Rattle.relation_semantics.proofs.Values.{value_namable}
use Rattle.relation_laws.proofs.laws.assigning.Goals as goal

pub returns : goal.returns
returns c = record { twice = assigning_twice; instantiating = instantiating_assigns; occurs = occurs_check; cycles = cycles_do_not_unify; namable = value_namable }
