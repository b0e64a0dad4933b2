use Rattle.relation_combining.specs.Solving.{solving_through}
use Rattle.relation_steps.proofs.Sorted.{const_sorted}
use Rattle.context_relation.proofs.StepsRecord.{consts_record}
use Rattle.context_relation.proofs.relation.SolverRelatingTypeRelationInterner.consts.Goals as goal

pub returns-clause-records : goal.returns-clause-records
returns-clause-records g c =
    let r = c.args.self.now in
    let s = g.Infcx.InferCtxtLike.state r.infcx.now in
    let q = c.super_combine_consts.new.relation in
    let d = g.Infcx.InferCtxtLike.state q.infcx.now in
    let cx = g.Infcx.InferCtxtLike.interner r.infcx.now in
    let of = g.met.Infcx.InferCtxtLike.reads r.infcx.now in
    let sorted = (g.met.Infcx.Interner.Interner.sorted cx).const_ in
    let k = c.requires.asked in
    let a = c.args.a.now in
    let b = c.args.b.now in
    let step = c.super_combine_consts.ensures in
    consts_record (solving_through r.structurally_relate_aliases r.infcx.ghost_name r.cache.pairs.kept r.goals.items s r.ambient_variance r.param_env)
    (solving_through q.structurally_relate_aliases q.infcx.ghost_name q.cache.pairs.kept q.goals.items d q.ambient_variance q.param_env)
    (step.stepped).passes a b k.left_known k.right_known (const_sorted of a (sorted a) k.left_known)
    (const_sorted of b (sorted b) k.right_known) c.requires.decides step.memory c.super_combine_consts.result step.combines
