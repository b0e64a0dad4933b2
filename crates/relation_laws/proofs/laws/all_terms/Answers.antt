use Rattle.relation_combining.proofs.Constants.{constants_at_each_variance}
use Rattle.relation_laws.proofs.SmallTerms.{is_reflexive, anything_at_bivariance, errors_are_related, parameters_by_index, values_by_their_trees}
use Rattle.relation_laws.proofs.laws.all_terms.Goals as goal

pub returns : goal.returns
returns c = record { reflexive = is_reflexive; bivariance = anything_at_bivariance; errors = errors_are_related; parameters = parameters_by_index; values = values_by_their_trees; constants = constants_at_each_variance }
