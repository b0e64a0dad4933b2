use Rattle.std.proofs.Common.{length}
use Rattle.relation_laws.proofs.decided.+leads.Given as goal

abbrev pub decreases-leads : goal.decreases-leads
decreases-leads l = length l.pairs.now
