use Rattle.std.proofs.Common.{refl, ap}
use Rattle.relation_folds.specs.declared.error.RelateFault.TheVariants.{Memory}
use Rattle.relation_semantics.proofs.Passing.{as_err}
use Rattle.context_relation.proofs.Solving.{asked_recorded, held_stands, regions_recorded, memory_refused}
use Rattle.relation_steps.proofs.Sorted.{region_sorted}
use Rattle.relation_semantics.specs.Goals.{goals_of}
use Rattle.context_relation.specs.Stepping.{constraint_refused}
use Rattle.context_relation.proofs.Stepping.{regions_step}
use Rattle.context_relation.proofs.relation.SolverRelatingTypeRelationInterner.regions.Goals as goal

pub returns-in_err-relate_regions-clause-related : goal.returns-in_err-relate_regions-clause-related
returns-in_err-relate_regions-clause-related g c =
    let r = c.args.self.now in
    let s = g.Infcx.InferCtxtLike.state r.infcx.now in
    let d = g.Infcx.InferCtxtLike.state c.relate_regions.new.infcx in
    let f = c.relate_regions.ensures in
    memory_refused (held_stands r.structurally_relate_aliases r.infcx.ghost_name r.cache.pairs.kept s d f.stands) r.goals.items _ s.meaning d.meaning s.store d.store s.lawful d.lawful r.ambient_variance
    r.param_env c.requires.lawful.1 f.stands.meaning f.stands.lawful ((s.meaning).region c.args.a.now)
    ((s.meaning).region c.args.b.now) (d.meaning).region c.from_residual.result
    (as_err c.from_residual.result Memory c.from_residual.ensures.0 c.from_residual.ensures.1)
    c.in_err-relate_regions.ensures.refused f.goes f.bound f.full f.built

pub returns-clause-related : goal.returns-clause-related
returns-clause-related g c =
    let r = c.args.self.now in
    let s = g.Infcx.InferCtxtLike.state r.infcx.now in
    let cx = g.Infcx.InferCtxtLike.interner r.infcx.now in
    let of = g.met.Infcx.InferCtxtLike.reads r.infcx.now in
    let d = g.Infcx.InferCtxtLike.state c.relate_regions.new.infcx in
    let f = c.relate_regions.ensures in
    let k = c.requires.asked in
    let is = (g.met.Infcx.Interner.Interner.sorted cx).region in
    regions_recorded (held_stands r.structurally_relate_aliases r.infcx.ghost_name r.cache.pairs.kept s d f.stands) r.goals.items s.meaning s.store d.store s.lawful d.lawful r.ambient_variance r.param_env
    c.args.a.now c.args.b.now c.requires.decides
    (region_sorted of c.args.a.now (is c.args.a.now) k.left_known, k.left_in)
    (region_sorted of c.args.b.now (is c.args.b.now) k.right_known, k.right_in) f.goes
    c.in_ok-relate_regions.ensures.adds d.meaning c.args.a.now f.stands.meaning refl f.stands.lawful
    c.requires.lawful.1 k.left_known

pub relate_regions-requires-clause-a_in : goal.relate_regions-requires-clause-a_in
relate_regions-requires-clause-a_in g c =
    let r = c.args.self.now in
    let s = g.Infcx.InferCtxtLike.state r.infcx.now in
    let cx = g.Infcx.InferCtxtLike.interner r.infcx.now in
    let of = g.met.Infcx.InferCtxtLike.reads r.infcx.now in
    let k = c.requires.asked in
    (region_sorted of c.args.a.now ((g.met.Infcx.Interner.Interner.sorted cx).region c.args.a.now) k.left_known, k.left_in)

pub relate_regions-requires-clause-b_in : goal.relate_regions-requires-clause-b_in
relate_regions-requires-clause-b_in g c =
    let r = c.args.self.now in
    let s = g.Infcx.InferCtxtLike.state r.infcx.now in
    let cx = g.Infcx.InferCtxtLike.interner r.infcx.now in
    let of = g.met.Infcx.InferCtxtLike.reads r.infcx.now in
    let k = c.requires.asked in
    (region_sorted of c.args.b.now ((g.met.Infcx.Interner.Interner.sorted cx).region c.args.b.now) k.right_known, k.right_in)

pub returns-in_err-relate_regions-clause-steps : goal.returns-in_err-relate_regions-clause-steps
returns-in_err-relate_regions-clause-steps g c = constraint_refused c.in_err-relate_regions.ensures.refused
    (as_err c.from_residual.result Memory c.from_residual.ensures.0 c.from_residual.ensures.1)

pub returns-clause-steps : goal.returns-clause-steps
returns-clause-steps g c =
    let r = c.args.self.now in
    regions_step r.structurally_relate_aliases r.infcx.ghost_name r.cache.pairs.kept r.goals.items r.goals.items
    (g.Infcx.InferCtxtLike.state r.infcx.now) (g.Infcx.InferCtxtLike.state c.relate_regions.new.infcx)
    r.ambient_variance r.param_env c.args.a.now c.args.b.now c.requires.decides c.in_ok-relate_regions.ensures.adds

pub returns-in_err-relate_regions-clause-registers_nothing :
    goal.returns-in_err-relate_regions-clause-registers_nothing
returns-in_err-relate_regions-clause-registers_nothing g c =
    ap (λ m. goals_of m c.args.self.now.goals.items) c.relate_regions.ensures.stands.meaning

pub returns-clause-registers_nothing : goal.returns-clause-registers_nothing
returns-clause-registers_nothing g c =
    ap (λ m. goals_of m c.args.self.now.goals.items) c.relate_regions.ensures.stands.meaning

pub returns-clause-recorded : goal.returns-clause-recorded
returns-clause-recorded g c = λ promised.
    let r = c.args.self.now in
    let s = g.Infcx.InferCtxtLike.state r.infcx.now in
    asked_recorded s.meaning s.store (g.Infcx.InferCtxtLike.state c.relate_regions.new.infcx).store r.ambient_variance
    c.args.a.now c.args.b.now c.requires.decides c.in_ok-relate_regions.ensures.adds
