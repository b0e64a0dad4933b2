use Rattle.anonymize.proofs.Renamings.{renamings_are_one}
use Rattle.anonymize.proofs.laws.renamings.Goals as goal

pub returns : goal.returns
returns c = record { one = renamings_are_one }
