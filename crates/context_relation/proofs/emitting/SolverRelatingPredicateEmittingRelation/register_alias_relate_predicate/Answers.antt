use Rattle.std.proofs.Common.{refl, sym, subst, IfSome}
use Rattle.term_enums.specs.declared.memory.OutOfMemory.{OutOfMemory}
use Rattle.relation_semantics.specs.AliasGoals.{alias_at}
use Rattle.relation_goals.specs.Emitting.{RegistersGoal}
use Rattle.relation_combining.specs.Solving.{solving_through}
use Rattle.relation_combining.proofs.Registering.{same_later, if_some, alias_known}
use Rattle.context_relation.proofs.Solving.{solver_with}
use Rattle.context_relation.proofs.SolvingGoals.{goal_made, goal_not_made}
use Rattle.context_relation.proofs.emitting.SolverRelatingPredicateEmittingRelation.register_alias_relate_predicate.Goals as goal

pub returns-in_err-predicate : goal.returns-in_err-predicate
returns-in_err-predicate g c =
    let r = c.args.self.now in
    let s = g.Infcx.InferCtxtLike.state r.infcx.now in
    let d = g.Infcx.InferCtxtLike.state c.alias_asked.new.infcx in
    let h = c.alias_asked.ensures in
    if_some (alias_at r.ambient_variance ((s.meaning).ty c.args.a.now) ((s.meaning).ty c.args.b.now))
    (λ p. RegistersGoal {A = Unit {0}} {F = OutOfMemory} (solving_through r.structurally_relate_aliases r.infcx.ghost_name r.cache.pairs.kept r.goals.items s r.ambient_variance r.param_env)
    (solving_through r.structurally_relate_aliases r.infcx.ghost_name r.cache.pairs.kept r.goals.items d r.ambient_variance r.param_env) p c.from_residual.result)
    (λ p e. goal_not_made r.structurally_relate_aliases r.infcx.ghost_name r.cache.pairs.kept r.goals.items s d h.grows h.same_store
    r.ambient_variance r.param_env c.requires.lawful.1 p c.from_residual.result c.from_residual.ensures.0)

pub register-requires-clause-lawful : goal.register-requires-clause-lawful
register-requires-clause-lawful g c =
    let r = c.args.self.now in
    let s = g.Infcx.InferCtxtLike.state r.infcx.now in
    let d = g.Infcx.InferCtxtLike.state c.alias_asked.new.infcx in
    (solver_with r.structurally_relate_aliases r.infcx.ghost_name r.cache.pairs.kept r.goals.items s d c.alias_asked.ensures.grows
    (same_later s d c.alias_asked.ensures.same_store) r.ambient_variance r.param_env c.requires.lawful.1).lawful c.requires.lawful

pub register-requires-clause-known : goal.register-requires-clause-known
register-requires-clause-known g c =
    let r = c.args.self.now in
    let s = g.Infcx.InferCtxtLike.state r.infcx.now in
    let d = g.Infcx.InferCtxtLike.state c.alias_asked.new.infcx in
    alias_known r.ambient_variance ((s.meaning).ty c.args.a.now) ((s.meaning).ty c.args.b.now)
    ((d.meaning).predicate c.in_ok-predicate.predicate) c.in_ok-predicate.ensures.made c.requires.a_known c.requires.b_known

pub returns : goal.returns
returns g c =
    let r = c.args.self.now in
    let q = c.register.new.self in
    let s = g.Infcx.InferCtxtLike.state r.infcx.now in
    let d = g.Infcx.InferCtxtLike.state c.alias_asked.new.infcx in
    let f = g.Infcx.InferCtxtLike.state q.infcx.now in
    let h = c.alias_asked.ensures in
    let p = (d.meaning).predicate c.in_ok-predicate.predicate in
    subst (λ z. IfSome z (λ p. RegistersGoal {A = Unit {0}} {F = OutOfMemory} (solving_through r.structurally_relate_aliases r.infcx.ghost_name r.cache.pairs.kept r.goals.items s r.ambient_variance r.param_env)
    (solving_through q.structurally_relate_aliases q.infcx.ghost_name q.cache.pairs.kept q.goals.items f q.ambient_variance q.param_env) p c.register.result)) (sym c.in_ok-predicate.ensures.made)
    (goal_made r.structurally_relate_aliases r.infcx.ghost_name r.cache.pairs.kept r.goals.items s d h.grows h.same_store
    r.ambient_variance r.param_env c.requires.lawful.1 c.in_ok-predicate.predicate p refl c.register.result
    c.register.ensures)
