use Rattle.variable_classes.proofs.Leading.{Goes, named_by}
use Rattle.variable_classes.proofs.members.lead_all.Given as goal

abbrev pub invariant-ring : goal.invariant-ring
invariant-ring l = Goes l.initial.members l.members l.from l.into l.at

abbrev pub decreases-ring : goal.decreases-ring
decreases-ring l = named_by l.from l.members
