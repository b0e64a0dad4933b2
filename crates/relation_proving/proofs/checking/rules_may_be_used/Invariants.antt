-- The rules so far may be used.
use Rattle.std.proofs.Common.{take}
use Rattle.std.specs.List.{All}
use Rattle.relation_proving.specs.Checking.{IsProvableRule}
use Rattle.relation_proving.proofs.checking.rules_may_be_used.Given as goal

abbrev pub invariant-loop-rule : goal.invariant-loop-rule
invariant-loop-rule g l = All (IsProvableRule (g.C.InferCtxtLike.state l.ctx)) (take l.rule-index l.rules)
