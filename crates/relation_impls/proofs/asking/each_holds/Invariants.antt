-- What is known of the bounds so far.
use Rattle.relation_impls.proofs.Bounds.{AskedSoFar}
use Rattle.relation_impls.proofs.asking.each_holds.Given as goal

abbrev pub invariant-loop-place : goal.invariant-loop-place
invariant-loop-place g l = AskedSoFar (g.C.InferCtxtLike.state l.initial.ctx) l.rules l.bounds
    (g.C.InferCtxtLike.state l.ctx) l.place l.told
