-- What both tests say is what is asked for.
use Rattle.std.proofs.Common.{◌↔◌, rules, IsTrue, All}
use Rattle.std.proofs.lemmas.List.Elements.{All-weaker}
use Rattle.std.proofs.lemmas.Result.{IfOk-weaker}
use Rattle.relation_proving.specs.Candidates.{MayAsk}
use Rattle.relation_proving.specs.Checking.{IsProvableGoal, IsProvableRule}
use Rattle.relation_proving.specs.RuleTerms.{MayUse}
use Rattle.examples.proofs.proving.may_be_asked.Goals as goal

pub returns-clause-rules : goal.returns-clause-rules
returns-clause-rules g c =
    let s = g.C.InferCtxtLike.state c.args.ctx.now in
    let are : IsTrue c.in_ok-rules_may_be_used.field-0 = (let i = c.if-not-branch.false in search rules) in
    let all = All-weaker (IsProvableRule s) (MayUse s) (λ k r. r.may) c.args.rules.now
    (c.in_ok-rules_may_be_used.ensures.0 are) in
    IfOk-weaker c.goal_may_be_asked.result (λ b. IsTrue b ↔ IsProvableGoal s c.args.goal.now)
    (λ b. IsTrue b → All (MayUse s) c.args.rules.now) (λ b h t. all) c.goal_may_be_asked.ensures

pub returns-clause-goal : goal.returns-clause-goal
returns-clause-goal g c =
    let s = g.C.InferCtxtLike.state c.args.ctx.now in
    IfOk-weaker c.goal_may_be_asked.result (λ b. IsTrue b ↔ IsProvableGoal s c.args.goal.now)
    (λ b. IsTrue b → MayAsk s c.args.goal.now) (λ b h t. (h.0 t).may) c.goal_may_be_asked.ensures
