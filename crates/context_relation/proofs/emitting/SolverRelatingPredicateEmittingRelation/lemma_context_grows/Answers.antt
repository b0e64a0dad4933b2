use Rattle.context_relation.proofs.Solving.{solver_with}
use Rattle.context_relation.proofs.emitting.SolverRelatingPredicateEmittingRelation.lemma_context_grows.Goals as goal

pub returns : goal.returns
returns g c = λ x h later l.
    let r = c.args.self.now in
    solver_with r.structurally_relate_aliases r.infcx.ghost_name r.cache.pairs.kept r.goals.items (g.Infcx.InferCtxtLike.state r.infcx.now) (g.Infcx.InferCtxtLike.state x) h later
    r.ambient_variance r.param_env l.1
