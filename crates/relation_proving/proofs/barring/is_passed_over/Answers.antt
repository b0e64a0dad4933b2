use Rattle.std.proofs.Common.{sym, subst, IsTrue}
use Rattle.relation_terms.specs.Trees.{known}
use Rattle.relation_proving.specs.RuleTerms.{rule_tree}
use Rattle.relation_proving.specs.Subjects.{GivesAnother}
use Rattle.relation_proving.proofs.Barred.{another_never}
use Rattle.relation_proving.proofs.barring.is_passed_over.Goals as goal

pub gives_another-requires : goal.gives_another-requires
gives_another-requires g c = record {
  rule_known = subst (λ m. IsTrue (known (rule_tree m c.args.rule.now))) (sym c.cx.ensures) c.requires.rule.is_known;
  goal_known = subst (λ m. IsTrue (known (m.clause c.args.goal.now))) (sym c.cx.ensures) c.requires.goal.is_known;
}

pub returns-then-gives_another : goal.returns-then-gives_another
returns-then-gives_another g c = λ yes.
    another_never (g.C.InferCtxtLike.state c.args.ctx.now) c.args.rule.now c.args.goal.now c.requires.goal
    (subst (λ m. GivesAnother m c.args.rule.now c.args.goal.now) c.cx.ensures
    (c.gives_another.ensures c.if-gives_another.true))
