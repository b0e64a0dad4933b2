use Rattle.std.proofs.Common.{ap}
use Rattle.relation_semantics.proofs.Answering.{same_environment}
use Rattle.context_relation.specs.Relating.{term_in}
use Rattle.relation_combining.specs.Solving.{held_by}
use Rattle.context_relation.proofs.Solving.{as_before}
use Rattle.context_relation.proofs.relation.SolverRelating.relate.Goals as goal

pub returns-clause-related : goal.returns-clause-related
returns-clause-related g c =
    let r = c.args.self.now in
    let s = g.Infcx.InferCtxtLike.state r.infcx.now in
    let q = c.relate.new.r in
    let d = g.Infcx.InferCtxtLike.state q.infcx.now in
    let over = g.T.Relate.over in
    let tree = g.T.HasTree.tree in
    as_before (held_by r.structurally_relate_aliases r.infcx.ghost_name r.cache.pairs.kept s) (held_by q.structurally_relate_aliases q.infcx.ghost_name q.cache.pairs.kept d) r.goals.items q.goals.items s.meaning
    d.meaning s.store d.store s.lawful d.lawful r.ambient_variance q.ambient_variance r.param_env q.param_env
    c.requires.lawful.1.0
    (term_in s over tree c.args.a.now) (term_in s over tree c.args.b.now) (term_in d over tree) c.relate.result
    c.relate.ensures.related

pub returns-clause-registers : goal.returns-clause-registers
returns-clause-registers g c = c.relate.ensures.registers

pub returns-clause-variance : goal.returns-clause-variance
returns-clause-variance g c = ((c.relate.ensures.related).passes).ambient

pub returns-clause-environment : goal.returns-clause-environment
returns-clause-environment g c = same_environment ((c.relate.ensures.related).passes).kept

pub returns-clause-same_reference : goal.returns-clause-same_reference
returns-clause-same_reference g c = ap (λ k. k.reference) ((c.relate.ensures.related).passes).kept

pub returns-clause-aliases : goal.returns-clause-aliases
returns-clause-aliases g c = ap (λ k. k.settings.structurally_relate_aliases) ((c.relate.ensures.related).passes).kept
