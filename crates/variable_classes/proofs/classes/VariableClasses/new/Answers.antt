use Rattle.variable_classes.proofs.Rounds.{none_are_rings}
use Rattle.variable_classes.proofs.classes.VariableClasses.new.Goals as goal

pub invariant_of-result : goal.invariant_of-result
invariant_of-result c = none_are_rings c.new.result.items c.new.ensures.items
