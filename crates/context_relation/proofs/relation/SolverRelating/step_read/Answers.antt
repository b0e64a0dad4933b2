use Rattle.std.proofs.Common.{refl, inr}
use Rattle.relation_combining.specs.Solving.{solving_through, solver_manner}
use Rattle.context_relation.specs.Stepping.{met_again, combined}
use Rattle.relation_steps.proofs.Sorted.{ty_sorted}
use Rattle.context_relation.proofs.Ordinary.{ordinary_by_parts, combined_by_parts, stepped_by_parts}
use Rattle.context_relation.proofs.Recalling.{met_step}
use Rattle.context_relation.proofs.Stepping.{leaves_itself}
use Rattle.context_relation.proofs.relation.SolverRelating.step_read.Goals as goal

pub returns-then-was_related-clause-stepped : goal.returns-then-was_related-clause-stepped
returns-then-was_related-clause-stepped g c =
    let r = c.args.self.now in
    let s = g.Infcx.InferCtxtLike.state r.infcx.now in
    let was = solving_through r.structurally_relate_aliases r.infcx.ghost_name r.cache.pairs.kept r.goals.items s r.ambient_variance r.param_env in
    met_step solver_manner was c.args.a.now c.args.b.now c.requires.lawful.0.1 (c.was_related.ensures c.if-was_related.true)

pub returns-then-was_related-clause-steps : goal.returns-then-was_related-clause-steps
returns-then-was_related-clause-steps g c =
    let r = c.args.self.now in
    let s = g.Infcx.InferCtxtLike.state r.infcx.now in
    let was = solving_through r.structurally_relate_aliases r.infcx.ghost_name r.cache.pairs.kept r.goals.items s r.ambient_variance r.param_env in
    met_again (c.was_related.ensures c.if-was_related.true) (leaves_itself was) refl

-- Ordinary types are left to their parts, and so are aliases with the old solver.
pub returns-then-are_ordinary-clause-stepped : goal.returns-then-are_ordinary-clause-stepped
returns-then-are_ordinary-clause-stepped g c =
    let r = c.args.self.now in
    let s = g.Infcx.InferCtxtLike.state r.infcx.now in
    let was = solving_through r.structurally_relate_aliases r.infcx.ghost_name r.cache.pairs.kept r.goals.items s r.ambient_variance r.param_env in
    let cx = g.Infcx.InferCtxtLike.interner r.infcx.now in
    let of = g.met.Infcx.InferCtxtLike.reads r.infcx.now in
    let sorted = g.met.Infcx.Interner.Interner.sorted cx in
    let a = c.args.a.now in
    let b = c.args.b.now in
    let k = c.requires.asked in
    stepped_by_parts was a b (ordinary_by_parts was a b (c.are_ordinary.ensures.0 c.if-are_ordinary.true)) k (ty_sorted of a (sorted.ty a) k.left_known)
    (ty_sorted of b (sorted.ty b) k.right_known) (g.met.Infcx.InferCtxtLike.sound r.infcx.now c.requires.lawful.0.0)

pub returns-then-are_ordinary-clause-steps : goal.returns-then-are_ordinary-clause-steps
returns-then-are_ordinary-clause-steps g c =
    let r = c.args.self.now in
    let s = g.Infcx.InferCtxtLike.state r.infcx.now in
    let was = solving_through r.structurally_relate_aliases r.infcx.ghost_name r.cache.pairs.kept r.goals.items s r.ambient_variance r.param_env in
    let a = c.args.a.now in
    let b = c.args.b.now in
    combined (combined_by_parts was a b (ordinary_by_parts was a b (c.are_ordinary.ensures.0 c.if-are_ordinary.true)))

pub returns-then-are_aliases_by_parts-clause-stepped : goal.returns-then-are_aliases_by_parts-clause-stepped
returns-then-are_aliases_by_parts-clause-stepped g c =
    let r = c.args.self.now in
    let s = g.Infcx.InferCtxtLike.state r.infcx.now in
    let was = solving_through r.structurally_relate_aliases r.infcx.ghost_name r.cache.pairs.kept r.goals.items s r.ambient_variance r.param_env in
    let cx = g.Infcx.InferCtxtLike.interner r.infcx.now in
    let of = g.met.Infcx.InferCtxtLike.reads r.infcx.now in
    let sorted = g.met.Infcx.Interner.Interner.sorted cx in
    let a = c.args.a.now in
    let b = c.args.b.now in
    let k = c.requires.asked in
    stepped_by_parts was a b (c.are_aliases_by_parts.ensures c.if-are_aliases_by_parts.true) k (ty_sorted of a (sorted.ty a) k.left_known)
    (ty_sorted of b (sorted.ty b) k.right_known) (g.met.Infcx.InferCtxtLike.sound r.infcx.now c.requires.lawful.0.0)

pub returns-then-are_aliases_by_parts-clause-steps : goal.returns-then-are_aliases_by_parts-clause-steps
returns-then-are_aliases_by_parts-clause-steps g c =
    let r = c.args.self.now in
    let s = g.Infcx.InferCtxtLike.state r.infcx.now in
    let was = solving_through r.structurally_relate_aliases r.infcx.ghost_name r.cache.pairs.kept r.goals.items s r.ambient_variance r.param_env in
    let a = c.args.a.now in
    let b = c.args.b.now in
    combined (combined_by_parts was a b (c.are_aliases_by_parts.ensures c.if-are_aliases_by_parts.true))

pub returns-then-are_ordinary-clause-remembers : goal.returns-then-are_ordinary-clause-remembers
returns-then-are_ordinary-clause-remembers g c = λ n m. refl

pub returns-then-are_aliases_by_parts-clause-remembers : goal.returns-then-are_aliases_by_parts-clause-remembers
returns-then-are_aliases_by_parts-clause-remembers g c = λ n m. refl

pub returns-then-was_related-clause-remembers : goal.returns-then-was_related-clause-remembers
returns-then-was_related-clause-remembers g c = λ n m p h. inr h
