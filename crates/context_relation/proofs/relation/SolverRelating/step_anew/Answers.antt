use Rattle.std.proofs.Common.{sym, ap, ◌∙◌, inl, inr, ⊎_elim, subst, Contains, Ok, Err}
use Rattle.relation_folds.specs.declared.error.RelateFault.TheVariants.{Memory}
use Rattle.relation_semantics.specs.declared.relate.Step.TheVariants.{Done}
use Rattle.relation_semantics.specs.Parts.{IsRigid}
use Rattle.relation_semantics.specs.Lawful.{Stepped}
use Rattle.relation_semantics.proofs.Passing.{as_err}
use Rattle.relation_semantics.proofs.Remembering.{step_remembering, step_not_remembered}
use Rattle.relation_combining.specs.Solving.{solving_through, solver_manner}
use Rattle.relation_steps.specs.Keyed.{SteppedTys}
use Rattle.context_relation.specs.Stepping.{CombinesShallowTys, combined, not_remembered}
use Rattle.context_relation.proofs.Recalling.{answered_pair, answered_means, combined_alike, unanswered, not_answered}
use Rattle.context_relation.proofs.relation.SolverRelating.step_anew.Goals as goal

pub returns-in_err-step-clause-steps : goal.returns-in_err-step-clause-steps
returns-in_err-step-clause-steps g c =
    let r = c.args.self.now in
    let q = c.combine_tys.new.self in
    let s = g.Infcx.InferCtxtLike.state r.infcx.now in
    let d = g.Infcx.InferCtxtLike.state q.infcx.now in
    let was = solving_through r.structurally_relate_aliases r.infcx.ghost_name r.cache.pairs.kept r.goals.items s r.ambient_variance r.param_env in
    let then = solving_through q.structurally_relate_aliases q.infcx.ghost_name q.cache.pairs.kept q.goals.items d q.ambient_variance q.param_env in
    let a = c.args.a.now in
    let b = c.args.b.now in
    let fault = c.in_err-step.field-0.0 in
    combined (subst (CombinesShallowTys was then a b)
    (sym (as_err c.from_residual.result fault c.from_residual.ensures.0 c.from_residual.ensures.1))
    c.in_err-step.ensures.combines)

pub remember-requires : goal.remember-requires
remember-requires g c =
    let r = c.args.self.now in
    let q = c.combine_tys.new.self in
    let s = g.Infcx.InferCtxtLike.state r.infcx.now in
    let d = g.Infcx.InferCtxtLike.state q.infcx.now in
    let was = solving_through r.structurally_relate_aliases r.infcx.ghost_name r.cache.pairs.kept r.goals.items s r.ambient_variance r.param_env in
    let then = solving_through q.structurally_relate_aliases q.infcx.ghost_name q.cache.pairs.kept q.goals.items d q.ambient_variance q.param_env in
    let a = c.args.a.now in
    let b = c.args.b.now in
    let e = c.in_ok-step.ensures in
    let step = subst (λ z. SteppedTys solver_manner was then a b (Ok z)) c.in-Done.is e.stepped in
    let came = subst (λ z. CombinesShallowTys was then a b (Ok z)) c.in-Done.is e.combines in
    answered_pair was then a b c.in-Done.answer c.requires.asked step came

pub returns-in_err-remember-in-Done-clause-stepped : goal.returns-in_err-remember-in-Done-clause-stepped
returns-in_err-remember-in-Done-clause-stepped g c =
    let r = c.args.self.now in
    let q = c.combine_tys.new.self in
    let s = g.Infcx.InferCtxtLike.state r.infcx.now in
    let d = g.Infcx.InferCtxtLike.state q.infcx.now in
    let was = solving_through r.structurally_relate_aliases r.infcx.ghost_name r.cache.pairs.kept r.goals.items s r.ambient_variance r.param_env in
    let then = solving_through q.structurally_relate_aliases q.infcx.ghost_name q.cache.pairs.kept q.goals.items d q.ambient_variance q.param_env in
    let a = c.args.a.now in
    let b = c.args.b.now in
    let n = c.remember.new.self in
    let f = g.Infcx.InferCtxtLike.state n.infcx.now in
    let last = solving_through n.structurally_relate_aliases n.infcx.ghost_name n.cache.pairs.kept n.goals.items f n.ambient_variance n.param_env in
    let ta = (s.meaning).ty a in
    let tb = (s.meaning).ty b in
    let e = c.in_ok-step.ensures in
    let step = subst (λ z. SteppedTys solver_manner was then a b (Ok z)) c.in-Done.is e.stepped in
    let from = c.from_residual-in_err-remember-in-Done in
    let h = c.in_err-remember-in-Done.ensures in
    subst (Stepped solver_manner IsRigid was last ta tb (f.meaning).ty)
    (sym (as_err from.result Memory from.ensures.0 from.ensures.1))
    (subst (λ m. Stepped solver_manner IsRigid was last ta tb m.ty (Err Memory)) (sym h.meaning)
    (step_not_remembered h solver_manner IsRigid ta tb (d.meaning).ty c.in-Done.answer step))

pub returns-in_err-remember-in-Done-clause-steps : goal.returns-in_err-remember-in-Done-clause-steps
returns-in_err-remember-in-Done-clause-steps g c =
    let r = c.args.self.now in
    let q = c.combine_tys.new.self in
    let s = g.Infcx.InferCtxtLike.state r.infcx.now in
    let d = g.Infcx.InferCtxtLike.state q.infcx.now in
    let was = solving_through r.structurally_relate_aliases r.infcx.ghost_name r.cache.pairs.kept r.goals.items s r.ambient_variance r.param_env in
    let then = solving_through q.structurally_relate_aliases q.infcx.ghost_name q.cache.pairs.kept q.goals.items d q.ambient_variance q.param_env in
    let a = c.args.a.now in
    let b = c.args.b.now in
    let n = c.remember.new.self in
    let f = g.Infcx.InferCtxtLike.state n.infcx.now in
    let last = solving_through n.structurally_relate_aliases n.infcx.ghost_name n.cache.pairs.kept n.goals.items f n.ambient_variance n.param_env in
    let ta = (s.meaning).ty a in
    let tb = (s.meaning).ty b in
    let e = c.in_ok-step.ensures in
    let came = subst (λ z. CombinesShallowTys was then a b (Ok z)) c.in-Done.is e.combines in
    let from = c.from_residual-in_err-remember-in-Done in
    let h = c.in_err-remember-in-Done.ensures in
    not_remembered c.in-Done.answer (combined_alike was then last h.meaning h.store h.goals a b (Ok (Done c.in-Done.answer)) came)
    (as_err from.result Memory from.ensures.0 from.ensures.1)

pub returns-in_ok-remember-in-Done-clause-stepped : goal.returns-in_ok-remember-in-Done-clause-stepped
returns-in_ok-remember-in-Done-clause-stepped g c =
    let r = c.args.self.now in
    let q = c.combine_tys.new.self in
    let s = g.Infcx.InferCtxtLike.state r.infcx.now in
    let d = g.Infcx.InferCtxtLike.state q.infcx.now in
    let was = solving_through r.structurally_relate_aliases r.infcx.ghost_name r.cache.pairs.kept r.goals.items s r.ambient_variance r.param_env in
    let then = solving_through q.structurally_relate_aliases q.infcx.ghost_name q.cache.pairs.kept q.goals.items d q.ambient_variance q.param_env in
    let a = c.args.a.now in
    let b = c.args.b.now in
    let n = c.remember.new.self in
    let f = g.Infcx.InferCtxtLike.state n.infcx.now in
    let last = solving_through n.structurally_relate_aliases n.infcx.ghost_name n.cache.pairs.kept n.goals.items f n.ambient_variance n.param_env in
    let ta = (s.meaning).ty a in
    let tb = (s.meaning).ty b in
    let e = c.in_ok-step.ensures in
    let step = subst (λ z. SteppedTys solver_manner was then a b (Ok z)) c.in-Done.is e.stepped in
    let h = c.in_ok-remember-in-Done.ensures in
    subst (λ m. Stepped solver_manner IsRigid was last ta tb m.ty (Ok (Done c.in-Done.answer))) (sym h.meaning)
    (step_remembering h solver_manner IsRigid ta tb (d.meaning).ty c.in-Done.answer step
    (answered_means was then a b c.in-Done.answer c.requires.asked step))

pub returns-in_ok-remember-in-Done-clause-steps : goal.returns-in_ok-remember-in-Done-clause-steps
returns-in_ok-remember-in-Done-clause-steps g c =
    let r = c.args.self.now in
    let q = c.combine_tys.new.self in
    let s = g.Infcx.InferCtxtLike.state r.infcx.now in
    let d = g.Infcx.InferCtxtLike.state q.infcx.now in
    let was = solving_through r.structurally_relate_aliases r.infcx.ghost_name r.cache.pairs.kept r.goals.items s r.ambient_variance r.param_env in
    let then = solving_through q.structurally_relate_aliases q.infcx.ghost_name q.cache.pairs.kept q.goals.items d q.ambient_variance q.param_env in
    let a = c.args.a.now in
    let b = c.args.b.now in
    let n = c.remember.new.self in
    let f = g.Infcx.InferCtxtLike.state n.infcx.now in
    let last = solving_through n.structurally_relate_aliases n.infcx.ghost_name n.cache.pairs.kept n.goals.items f n.ambient_variance n.param_env in
    let ta = (s.meaning).ty a in
    let tb = (s.meaning).ty b in
    let e = c.in_ok-step.ensures in
    let came = subst (λ z. CombinesShallowTys was then a b (Ok z)) c.in-Done.is e.combines in
    let h = c.in_ok-remember-in-Done.ensures in
    combined (combined_alike was then last h.meaning h.store h.goals a b (Ok (Done c.in-Done.answer)) came)

-- Where there is an answer at most the two are remembered.
pub returns-in_err-step-clause-remembers : goal.returns-in_err-step-clause-remembers
returns-in_err-step-clause-remembers g c = λ n m.
    let r = c.args.self.now in
    let q = c.combine_tys.new.self in
    let s = g.Infcx.InferCtxtLike.state r.infcx.now in
    let d = g.Infcx.InferCtxtLike.state q.infcx.now in
    let was = solving_through r.structurally_relate_aliases r.infcx.ghost_name r.cache.pairs.kept r.goals.items s r.ambient_variance r.param_env in
    let then = solving_through q.structurally_relate_aliases q.infcx.ghost_name q.cache.pairs.kept q.goals.items d q.ambient_variance q.param_env in
    let fault = c.in_err-step.field-0.0 in
    not_answered was then c.args.a.now c.args.b.now c.from_residual.result fault
    (as_err c.from_residual.result fault c.from_residual.ensures.0 c.from_residual.ensures.1)

pub returns-in_err-remember-in-Done-clause-remembers : goal.returns-in_err-remember-in-Done-clause-remembers
returns-in_err-remember-in-Done-clause-remembers g c = λ n m.
    let r = c.args.self.now in
    let q = c.remember.new.self in
    let s = g.Infcx.InferCtxtLike.state r.infcx.now in
    let d = g.Infcx.InferCtxtLike.state q.infcx.now in
    let was = solving_through r.structurally_relate_aliases r.infcx.ghost_name r.cache.pairs.kept r.goals.items s r.ambient_variance r.param_env in
    let last = solving_through q.structurally_relate_aliases q.infcx.ghost_name q.cache.pairs.kept q.goals.items d q.ambient_variance q.param_env in
    let from = c.from_residual-in_err-remember-in-Done in
    not_answered was last c.args.a.now c.args.b.now from.result Memory
    (as_err from.result Memory from.ensures.0 from.ensures.1)

pub returns-in_ok-remember-in-Done-clause-remembers : goal.returns-in_ok-remember-in-Done-clause-remembers
returns-in_ok-remember-in-Done-clause-remembers g c = λ n m p h.
    let e = c.in_ok-step.ensures in
    let r = c.args.self.now in
    let q = c.combine_tys.new.self in
    ⊎_elim (λ is. inl (is ∙ ap (λ v. (v, c.args.a.now, c.args.b.now)) (e.stepped).passes.ambient))
    (λ k. inr (subst (λ ps. Contains ps p) (e.memory n m) k)) (c.in_ok-remember-in-Done.ensures.no_more p h)

pub returns-in_default : goal.returns-in_default
returns-in_default g c =
    let e = c.in_ok-step.ensures in
    let r = c.args.self.now in
    let q = c.combine_tys.new.self in
    let s = g.Infcx.InferCtxtLike.state r.infcx.now in
    let d = g.Infcx.InferCtxtLike.state q.infcx.now in
    let was = solving_through r.structurally_relate_aliases r.infcx.ghost_name r.cache.pairs.kept r.goals.items s r.ambient_variance r.param_env in
    let then = solving_through q.structurally_relate_aliases q.infcx.ghost_name q.cache.pairs.kept q.goals.items d q.ambient_variance q.param_env in
    record {
      stepped = e.stepped;
      steps = combined e.combines;
      remembers = λ n m. unanswered was then c.args.a.now c.args.b.now _ c.in_default.not-Done (e.memory n m);
    }
