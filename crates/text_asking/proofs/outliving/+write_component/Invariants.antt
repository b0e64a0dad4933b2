use Rattle.text_asking.proofs.OutlivesLemmas.{weight}
use Rattle.text_asking.proofs.outliving.+write_component.Given as goal

-- it goes on with what is held in a component
abbrev pub decreases-write_component : goal.decreases-write_component
decreases-write_component g l = weight l.component.now

abbrev pub invariant-loop-place : goal.invariant-loop-place
invariant-loop-place g l = Unit {0}
