use Rattle.std.proofs.Common.{sym, ap, ◌∙◌, subst, All}
use Rattle.relation_goals.specs.Emitting.{AddsGoals}
use Rattle.relation_semantics.specs.Goals.{KnowsGoal, goals_of}
use Rattle.relation_combining.specs.Solving.{solving_through}
use Rattle.context_relation.proofs.EmittedGoals.{known_goals, goals_mean}
use Rattle.context_relation.proofs.emitting.SolverRelatingPredicateEmittingRelation.register_predicates.Goals as goal

pub register_goals-requires : goal.register_goals-requires
register_goals-requires g c =
    let r = c.args.self.now in
    let m = (g.Infcx.InferCtxtLike.state r.infcx.now).meaning in
    record {
      known = subst (All (KnowsGoal m)) (sym (c.as_slice.ensures.value ∙ c.in_ok-goals.ensures))
          (known_goals m r.param_env c.requires.lawful.1.0 c.args.predicates.now c.requires.known);
    }

pub returns : goal.returns
returns g c =
    let r = c.args.self.now in
    let q = c.register_goals.new.self in
    let s = g.Infcx.InferCtxtLike.state r.infcx.now in
    let d = g.Infcx.InferCtxtLike.state q.infcx.now in
    subst (λ gs. AddsGoals (solving_through r.structurally_relate_aliases r.infcx.ghost_name r.cache.pairs.kept r.goals.items s r.ambient_variance r.param_env)
    (solving_through q.structurally_relate_aliases q.infcx.ghost_name q.cache.pairs.kept q.goals.items d q.ambient_variance q.param_env) gs c.register_goals.result)
    (ap (goals_of s.meaning) (c.as_slice.ensures.value ∙ c.in_ok-goals.ensures)
    ∙ goals_mean s.meaning r.param_env c.args.predicates.now)
    c.register_goals.ensures
