use Rattle.relation_laws.proofs.SmallTerms.{references_by_regions, mutable_pointees_are_fixed, inputs_turn_round, bivariant_arguments}
use Rattle.relation_laws.proofs.laws.varying_parts.Goals as goal

pub returns : goal.returns
returns c = record { references = references_by_regions; mutable = mutable_pointees_are_fixed; inputs = inputs_turn_round; bivariant = bivariant_arguments }
