use Rattle.relation_rows.proofs.calls.writing.write_args.Given as goal

abbrev pub invariant-loop-term : goal.invariant-loop-term
invariant-loop-term g l = Unit {0}
