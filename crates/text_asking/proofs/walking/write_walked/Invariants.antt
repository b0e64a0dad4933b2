use Rattle.text_asking.proofs.walking.write_walked.Given as goal

abbrev pub invariant-loop-term : goal.invariant-loop-term
invariant-loop-term g l = Unit {0}
