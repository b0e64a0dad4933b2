use Rattle.std.proofs.Common.{refl, sym, subst}
use Rattle.relation_folds.specs.declared.error.RelateFault.TheVariants.{Memory}
use Rattle.relation_semantics.specs.Lawful.{OnlyMemory}
use Rattle.relation_semantics.proofs.Passing.{as_err}
use Rattle.relation_semantics.proofs.Remembering.{noted_remembering}
use Rattle.relation_combining.specs.Solving.{solving_through, solver_manner}
use Rattle.context_relation.proofs.Recalling.{noted_pair}
use Rattle.relation_steps.proofs.Sorted.{ty_sorted}
use Rattle.context_relation.proofs.relation.SolverRelatingTypeRelationInterner.note_tys.Goals as goal

pub remember-requires : goal.remember-requires
remember-requires g c =
    let r = c.args.self.now in
    let s = g.Infcx.InferCtxtLike.state r.infcx.now in
    let cx = g.Infcx.InferCtxtLike.interner r.infcx.now in
    let of = g.met.Infcx.InferCtxtLike.reads r.infcx.now in
    let sorted = (g.met.Infcx.Interner.Interner.sorted cx).ty in
    let k = c.requires.asked in
    let a = c.args.a.now in
    let b = c.args.b.now in
    noted_pair solver_manner
    (solving_through r.structurally_relate_aliases r.infcx.ghost_name r.cache.pairs.kept r.goals.items s r.ambient_variance r.param_env)
    a b k c.requires.related c.requires.alone (ty_sorted of a (sorted a) k.left_known) (ty_sorted of b (sorted b) k.right_known)

pub returns-in_err-remember : goal.returns-in_err-remember
returns-in_err-remember g c = noted_remembering c.in_err-remember.ensures _ _
    (refl, refl, refl, c.requires.asked.left_known, c.requires.asked.right_known) c.from_residual.result
    (subst OnlyMemory (sym (as_err c.from_residual.result Memory c.from_residual.ensures.0 c.from_residual.ensures.1)) tt)

pub returns : goal.returns
returns g c = noted_remembering c.in_ok-remember.ensures _ _
    (refl, refl, refl, c.requires.asked.left_known, c.requires.asked.right_known) _ tt
