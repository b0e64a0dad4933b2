use Rattle.relation_combining.specs.Solving.{held_by}
use Rattle.context_relation.proofs.EmittedGoals.{goals_added, none_added}
use Rattle.context_relation.proofs.emitting.SolverRelatingPredicateEmittingRelation.register_goals.Goals as goal

pub returns : goal.returns
returns g c =
    let r = c.args.self.now in
    let s = g.Infcx.InferCtxtLike.state r.infcx.now in
    goals_added s.meaning (held_by r.structurally_relate_aliases r.infcx.ghost_name r.cache.pairs.kept s) r.goals.items c.extend_from_slice.new.self.items c.args.goals.now s.store
    s.lawful r.ambient_variance r.param_env c.in_ok-extend_from_slice.ensures.items c.requires.known (tt {0})

pub returns-in_err-extend_from_slice : goal.returns-in_err-extend_from_slice
returns-in_err-extend_from_slice g c =
    let r = c.args.self.now in
    let s = g.Infcx.InferCtxtLike.state r.infcx.now in
    none_added s.meaning (held_by r.structurally_relate_aliases r.infcx.ghost_name r.cache.pairs.kept s) r.goals.items c.extend_from_slice.new.self.items s.store
    s.lawful r.ambient_variance r.param_env c.in_err-extend_from_slice.ensures.items _ c.from_residual.result c.from_residual.ensures.0
