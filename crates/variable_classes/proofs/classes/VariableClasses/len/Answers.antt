use Rattle.std.proofs.Common.{subst}
use Rattle.variable_classes.specs.Roots.{IsRootTable}
use Rattle.variable_classes.proofs.Rounds.{rooted}
use Rattle.variable_classes.proofs.classes.VariableClasses.len.Goals as goal

pub returns-clause-rooted : goal.returns-clause-rooted
returns-clause-rooted c = subst (λ v. IsRootTable v.items) c.self.view_is (rooted c.self.inside.members.items c.self.invariant)
