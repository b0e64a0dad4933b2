use Rattle.relation_terms.proofs.Edits.{first_and_behind}
use Rattle.relation_terms.proofs.predicate.laws.own_arguments.Goals as goal

pub returns : goal.returns
returns c = first_and_behind
