use Rattle.std.proofs.Common.{sym, subst}
use Rattle.std.specs.List.{All}
use Rattle.std.proofs.lemmas.List.{take_all}
use Rattle.relation_proving.specs.RuleTerms.{KnowsRule}
use Rattle.text_proving.specs.Asked.{MayServe}
use Rattle.text_proving.proofs.Serving.{all_more}
use Rattle.text_proving.proofs.refusing.rules_refusal.Goals as goal

pub rule_refusal-requires : goal.rule_refusal-requires
rule_refusal-requires g c =
    subst (KnowsRule (g.C.InferCtxtLike.state c.args.ctx.now)) (sym c.rule-item.is)
    (c.requires c.loop-rule.rule-index c.rule-item.result c.loop-rule-test.true)

pub loop-rule-preserved : goal.loop-rule-preserved
loop-rule-preserved g c =
    all_more (MayServe (g.C.InferCtxtLike.state c.args.ctx.now)) c.args.rules.now c.loop-rule.rule-index
    c.rule-item.result c.rule-item.is c.loop-rule-test.true c.loop-rule.invariant c.in_default.ensures

pub returns : goal.returns
returns g c =
    subst (All (MayServe (g.C.InferCtxtLike.state c.args.ctx.now)))
    (take_all c.loop-rule.rule-index c.args.rules.now c.loop-rule-test.false) c.loop-rule.invariant
