use Rattle.std.proofs.Common.{◌-◌, false}
use Rattle.walk.specs.Places.{places, Pushes}
use Rattle.relation_folds.proofs.Visiting.{rest}
use Rattle.walk.proofs.places.push_tys.Given as goal

-- What stands on the stack are the last types.
abbrev pub invariant-loop-i : goal.invariant-loop-i
invariant-loop-i g l =
    Pushes (g.I.Interner.meaning l.cx)
    (places false (rest (l.count - l.i) ((g.I.Interner.meaning l.cx).tys l.tys))) l.fn.stack l.stack
