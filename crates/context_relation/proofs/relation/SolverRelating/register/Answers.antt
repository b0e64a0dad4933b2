use Rattle.std.proofs.Common.{[], ◌∷◌}
use Rattle.relation_goals.specs.Emitting.{goals_in}
use Rattle.relation_combining.specs.Solving.{held_by, solving_through}
use Rattle.context_relation.proofs.EmittedGoals.{goal_added, none_added}
use Rattle.context_relation.proofs.relation.SolverRelating.register.Goals as goal

pub returns-in_err-push : goal.returns-in_err-push
returns-in_err-push g c =
    let r = c.args.self.now in
    let s = g.Infcx.InferCtxtLike.state r.infcx.now in
    none_added s.meaning (held_by r.structurally_relate_aliases r.infcx.ghost_name r.cache.pairs.kept s) r.goals.items c.push.new.self.items s.store
    s.lawful r.ambient_variance r.param_env c.in_err-push.ensures.items
    (goals_in (solving_through r.structurally_relate_aliases r.infcx.ghost_name r.cache.pairs.kept r.goals.items s r.ambient_variance r.param_env) (c.args.predicate ∷ []))
    c.from_residual.result c.from_residual.ensures.0

pub returns : goal.returns
returns g c =
    let r = c.args.self.now in
    let s = g.Infcx.InferCtxtLike.state r.infcx.now in
    goal_added s.meaning (held_by r.structurally_relate_aliases r.infcx.ghost_name r.cache.pairs.kept s) r.goals.items c.push.new.self.items
    s.store s.lawful r.ambient_variance r.param_env c.args.predicate
    c.in_ok-push.ensures.items c.requires.lawful.1.0
    c.requires.known (tt {0})
