use Rattle.context_relation.proofs.Solving.{solver_grows}
use Rattle.context_relation.proofs.relation.SolverRelatingTypeRelationInterner.lemma_interner_grows.Goals as goal

pub returns : goal.returns
returns g c = λ cx e l.
    let r = c.args.self.now in
    let s = g.Infcx.InferCtxtLike.state r.infcx.now in
    solver_grows r.structurally_relate_aliases r.infcx.ghost_name r.cache.pairs.kept r.goals.items s
    (g.Infcx.InferCtxtLike.state (g.Infcx.InferCtxtLike.with_interner r.infcx.now cx)) _ e
    (c.lemma_interner_grows.ensures cx e l.0.0) r.ambient_variance r.param_env l.1
