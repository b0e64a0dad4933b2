-- What is told of a rule, once it was opened.
use Rattle.std.proofs.Common.{◌∙◌, sym}
use Rattle.relation_terms.proofs.Stays.{extends_on, knows_param_env}
use Rattle.relation_semantics.proofs.Going.{later_through}
use Rattle.relation_proving.proofs.Candidates.{ask_later, first_may, told_result}
use Rattle.relation_proving.proofs.candidate.try_rule.Goals as goal

pub try_opened-requires-clause-env_known : goal.try_opened-requires-clause-env_known
try_opened-requires-clause-env_known g c =
    knows_param_env c.in_ok-clauses.ensures.grows.extends c.args.param_env c.requires.env_known

pub try_opened-requires-clause-goal : goal.try_opened-requires-clause-goal
try_opened-requires-clause-goal g c =
    ask_later (g.C.InferCtxtLike.state c.args.ctx.now) (g.C.InferCtxtLike.state c.open_rule.new.ctx)
    c.in_ok-clauses.ensures.grows.extends c.in_ok-clauses.ensures.later c.args.goal.now c.requires.goal

pub try_opened-requires-clause-given : goal.try_opened-requires-clause-given
try_opened-requires-clause-given g c =
    first_may (g.C.InferCtxtLike.state c.args.ctx.now) (g.C.InferCtxtLike.state c.open_rule.new.ctx) c.args.rule
    c.in-Some.given.now c.in_ok-clauses.clauses.items c.in-Some.asks.now
    (sym c.deref.ensures.value ∙ c.in-Some.ensures.cases.0) c.in_ok-clauses.ensures.opens

pub returns-clause-later : goal.returns-clause-later
returns-clause-later g c = later_through c.in_ok-clauses.ensures.later c.try_opened.ensures.later

pub returns-clause-grown : goal.returns-clause-grown
returns-clause-grown g c = extends_on c.in_ok-clauses.ensures.grows.extends c.try_opened.ensures.grown

pub returns-clause-tells : goal.returns-clause-tells
returns-clause-tells g c =
    told_result (g.C.InferCtxtLike.state c.args.ctx.now) (g.C.InferCtxtLike.state c.open_rule.new.ctx)
    (g.C.InferCtxtLike.state c.try_opened.new.ctx) c.args.rule c.args.goal.now c.in-Some.given.now
    c.in_ok-clauses.clauses.items c.in-Some.asks.now (sym c.deref.ensures.value ∙ c.in-Some.ensures.cases.0)
    c.args.param_env c.in_ok-clauses.ensures.opens c.in_ok-clauses.ensures.grows.extends c.try_opened.ensures.grown
    c.try_opened.ensures.later c.requires.goal.is_known c.requires.env_known
    c.try_opened.result c.try_opened.ensures.tells

pub open_rule-requires : goal.open_rule-requires
open_rule-requires g c = record {
  lawful = c.requires.lawful;
  rule_known = c.requires.rule.is_known;
  taken = c.requires.rule.taken;
  has = c.requires.rule.is_in;
}
