use Rattle.fast_reject.proofs.Themselves.{terms_are_instances, aliases_meet_types}
use Rattle.fast_reject.proofs.laws.instances.Goals as goal

pub returns : goal.returns
returns c = record { themselves = terms_are_instances; aliases = aliases_meet_types }
