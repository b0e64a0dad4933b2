use Rattle.anonymize.proofs.Renamings.{renamings_are_one}
use Rattle.relation_statements.proofs.Closing.{runs_close}
use Rattle.relation_statements.proofs.laws.runs.Goals as goal

pub returns : goal.returns
returns c = record { close = runs_close renamings_are_one }
