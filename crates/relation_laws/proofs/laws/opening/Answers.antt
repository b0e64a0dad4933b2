use Rattle.relation_semantics.proofs.MakingEach.{making_each_makes, instantiating_each_opens}
use Rattle.relation_combining.proofs.OpenedTerms.{entered_body_is_in, instantiated_body_is_in, entered_body_binds}
use Rattle.relation_combining.proofs.OpenedTerms.{instantiated_body_binds}
use Rattle.relation_laws.proofs.NewVariables.{new_variables_fit}
use Rattle.relation_laws.proofs.OpenedInstances.{opened_is_instance}
use Rattle.relation_laws.proofs.laws.opening.Goals as goal

pub returns : goal.returns
returns c = record {
  makes = making_each_makes;
  opens = instantiating_each_opens;
  entered = entered_body_is_in;
  instantiated = instantiated_body_is_in;
  entered_binds = entered_body_binds;
  instantiated_binds = instantiated_body_binds;
  instance = opened_is_instance;
  fit = new_variables_fit;
}
