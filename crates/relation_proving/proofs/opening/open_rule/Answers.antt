-- What is opened is a rule's clauses by new variables.
use Rattle.std.proofs.Common.{sym, subst, IsTrue}
use Rattle.relation_terms.specs.Trees.{known}
use Rattle.relation_proving.specs.RuleTerms.{rule_tree}
use Rattle.relation_proving.proofs.OpenedRules.{rule_later, opens_listed}
use Rattle.relation_proving.proofs.opening.open_rule.Goals as goal
use Rattle.relation_semantics.proofs.MakingEach.{refused_later}
use Rattle.relation_semantics.proofs.Bound.{outermost_binds}

pub instantiate_binder_with_infer-requires-clause-value_binds :
    goal.instantiate_binder_with_infer-requires-clause-value_binds
instantiate_binder_with_infer-requires-clause-value_binds g c =
    outermost_binds (rule_tree (g.C.InferCtxtLike.state c.args.ctx.now).meaning c.args.rule) c.requires.taken

pub returns-in_err-opened-clause-later : goal.returns-in_err-opened-clause-later
returns-in_err-opened-clause-later g c =
    refused_later c.opening.ensures.makes (g.C.InferCtxtLike.state c.args.ctx.now).store
    (g.C.InferCtxtLike.state c.instantiate_binder_with_infer.new.self).store _
    (g.met.C.InferCtxtLike.sound c.args.ctx.now c.requires.lawful) c.in_err-opened.ensures.instantiates

pub listed-requires : goal.listed-requires
listed-requires g c = subst (λ m. IsTrue (known (m.clauses c.in_ok-opened.opened))) (sym c.cx.ensures)
    c.in_ok-opened.ensures.instantiates.0

pub returns-clause-later : goal.returns-clause-later
returns-clause-later g c =
    let laws = c.opening.ensures in
    rule_later laws.opens laws.instantiated laws.instantiated_binds (g.C.InferCtxtLike.state c.args.ctx.now)
    (g.C.InferCtxtLike.state c.instantiate_binder_with_infer.new.self) c.args.rule c.in_ok-opened.opened
    c.in_ok-opened.ensures.instantiates.1 (g.met.C.InferCtxtLike.sound c.args.ctx.now c.requires.lawful)
    c.requires.has c.requires.taken

pub returns-clause-opens : goal.returns-clause-opens
returns-clause-opens g c =
    let laws = c.opening.ensures in
    opens_listed laws.opens laws.instantiated laws.instantiated_binds (g.C.InferCtxtLike.state c.args.ctx.now)
    (g.C.InferCtxtLike.state c.instantiate_binder_with_infer.new.self) c.args.rule c.in_ok-opened.opened
    c.in_ok-opened.ensures.instantiates.1 (g.met.C.InferCtxtLike.sound c.args.ctx.now c.requires.lawful)
    c.requires.has c.requires.taken _ c.cx.ensures c.listed.result c.listed.ensures
    c.in_ok-opened.ensures.instantiates.0
