use Rattle.text_asking.proofs.outliving.write_components.Given as goal

abbrev pub invariant-loop-place : goal.invariant-loop-place
invariant-loop-place g l = Unit {0}
