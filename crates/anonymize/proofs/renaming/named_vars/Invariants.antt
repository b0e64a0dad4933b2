use Rattle.std.proofs.Common.{◌≡◌, take, map}
use Rattle.anonymize.specs.Anonymous.{named_as}
use Rattle.anonymize.proofs.renaming.named_vars.Given as goal

abbrev pub invariant-loop-var : goal.invariant-loop-var
invariant-loop-var g l = l.list.items ≡ map (named_as l.name) (take l.var-index l.fn.vars)
