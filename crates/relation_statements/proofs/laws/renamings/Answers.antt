use Rattle.relation_statements.proofs.Implying.{renamings_imply}
use Rattle.relation_statements.proofs.laws.renamings.Goals as goal

pub returns : goal.returns
returns c = record { imply = renamings_imply }
