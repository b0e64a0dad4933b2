-- What is told of a goal and what an opened rule gives.
use Rattle.std.proofs.Common.{sym, subst, ap, ◌∙◌, ◌++◌}
use Rattle.relation_proving.specs.Candidates.{TellsOpened}
use Rattle.relation_proving.proofs.Candidates.{told_opened}
use Rattle.relation_proving.proofs.candidate.try_opened.Goals as goal

pub returns-clause-tells : goal.returns-clause-tells
returns-clause-tells g c =
    let s = g.C.InferCtxtLike.state c.args.ctx.now in
    let d = g.C.InferCtxtLike.state c.fit_clauses.new.ctx in
    subst (TellsOpened s d c.args.param_env c.args.goal.now c.args.given.now c.args.asks.now)
    (sym c.candidate_of.ensures)
    (told_opened s d c.args.param_env c.args.goal.now c.args.given.now c.args.asks.now c.extend_from_slice.new.self
    (c.in_ok-extend_from_slice.ensures.items ∙ ap (λ z. z ++ c.args.asks.now) c.new-list.ensures.items) c.in_ok-fitting.fitting
    c.in_ok-fitting.ensures.tells)
