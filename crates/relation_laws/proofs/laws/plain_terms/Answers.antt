use Rattle.context_relation.proofs.Completing.{errors_disagree, errors_are_unrelated, agreeing_are_related}
use Rattle.relation_laws.proofs.laws.plain_terms.Goals as goal

pub returns : goal.returns
returns g c = record {
  disagree = errors_disagree _ _ _;
  unrelated = errors_are_unrelated _ _ _;
  related = agreeing_are_related;
}
