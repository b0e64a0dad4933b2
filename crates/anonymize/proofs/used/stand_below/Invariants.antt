use Rattle.std.proofs.Common.{take}
use Rattle.std.specs.List.{All}
use Rattle.anonymize.specs.Anonymous.{StandsBelow}
use Rattle.anonymize.proofs.used.stand_below.Given as goal

abbrev pub invariant-loop-var : goal.invariant-loop-var
invariant-loop-var l = All (StandsBelow l.count) (take l.var-index l.vars)
