use Rattle.context_relation.proofs.Recalling.{remembers}
use Rattle.context_relation.proofs.relation.SolverRelating.remember.Goals as goal
use Rattle.relation_folds.proofs.Folding.{on_err}

pub returns-in_err-insert : goal.returns-in_err-insert
returns-in_err-insert g c =
    let r = c.args.self.now in
    remembers r.structurally_relate_aliases r.infcx.ghost_name r.cache.pairs.kept c.insert.new.self.pairs.kept r.goals.items
    (g.Infcx.InferCtxtLike.state r.infcx.now) r.ambient_variance r.param_env
    (r.ambient_variance, c.args.a.now, c.args.b.now) c.from_residual.result c.requires c.in_err-insert.ensures.no_more
    (on_err c.from_residual.result _ c.in_err-insert.ensures.refused)

pub returns : goal.returns
returns g c =
    let r = c.args.self.now in
    remembers r.structurally_relate_aliases r.infcx.ghost_name r.cache.pairs.kept c.insert.new.self.pairs.kept r.goals.items
    (g.Infcx.InferCtxtLike.state r.infcx.now) r.ambient_variance r.param_env
    (r.ambient_variance, c.args.a.now, c.args.b.now) _ c.requires c.in_ok-insert.ensures.no_more tt
