use Rattle.std.proofs.Common.{take}
use Rattle.std.specs.List.{All}
use Rattle.text_proving.specs.Asked.{MayServe}
use Rattle.text_proving.proofs.refusing.rules_refusal.Given as goal

-- the rules so far serve
abbrev pub invariant-loop-rule : goal.invariant-loop-rule
invariant-loop-rule g l = All (MayServe (g.C.InferCtxtLike.state l.ctx)) (take l.rule-index l.rules)
