use Rattle.text_asking.proofs.environment.write_environment.Given as goal

abbrev pub invariant-loop-clause : goal.invariant-loop-clause
invariant-loop-clause g l = Unit {0}
