use Rattle.relation_proving.proofs.Said.{body_known, are_said}
use Rattle.relation_proving.proofs.comparing.compare.Goals as goal

pub said-requires : goal.said-requires
said-requires g c = record {
  goal_known = body_known (g.I.Interner.meaning c.args.cx.now) c.args.goal.now c.in-Some.goal c.in-Some.ensures
      c.requires.goal_known;
  given_known = body_known (g.I.Interner.meaning c.args.cx.now) c.args.given.now c.in-Some-clause_body.given
      c.in-Some-clause_body.ensures c.requires.given_known;
}

pub returns : goal.returns
returns g c = are_said (g.I.Interner.meaning c.args.cx.now) c.args.goal.now c.args.given.now c.in-Some.goal
    c.in-Some-clause_body.given c.in-Some.ensures c.in-Some-clause_body.ensures c.said.result c.said.ensures
