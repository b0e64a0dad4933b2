use Rattle.std.proofs.Common.{refl, sym, ap, subst, IfSome, Ok, Err}
use Rattle.term_enums.specs.declared.memory.OutOfMemory.{OutOfMemory}
use Rattle.relation_terms.specs.Heads.{type_var}
use Rattle.relation_folds.specs.declared.error.RelateFault.TheVariants.{Memory}
use Rattle.relation_semantics.specs.Goals.{goals_of}
use Rattle.relation_semantics.specs.Parts.{IsRigid}
use Rattle.relation_semantics.proofs.AliasSteps.{shallow_free}
use Rattle.relation_combining.proofs.Shallowly.{variable_made}
use Rattle.relation_semantics.specs.Lawful.{Stepped}
use Rattle.relation_semantics.proofs.Passing.{as_err}
use Rattle.relation_goals.specs.Emitting.{RegistersGoal}
use Rattle.relation_combining.specs.Solving.{solving_through, solver_manner}
use Rattle.context_relation.specs.Stepping.{made_one}
use Rattle.relation_combining.proofs.Binding.{no_region}
use Rattle.relation_combining.proofs.DeferringSteps.{goal_refused}
use Rattle.context_relation.proofs.Solving.{held_stands, roots_step}
use Rattle.context_relation.proofs.SolvingGoals.{directed_asks, subtype_step}
use Rattle.context_relation.proofs.Stepping.{directed_decides, subtype_combines, subtype_refused}
use Rattle.context_relation.proofs.relation.SolverRelating.combine_ty_vars.Goals as goal

pub register_subtype_predicate-requires-clause-directed : goal.register_subtype_predicate-requires-clause-directed
register_subtype_predicate-requires-clause-directed g c = directed_decides c.in_default.not-Invariant c.requires.can.decides

pub returns-in_err-register_subtype_predicate-clause-stepped : goal.returns-in_err-register_subtype_predicate-clause-stepped
returns-in_err-register_subtype_predicate-clause-stepped g c =
    let r = c.args.self.now in
    let q = c.register_subtype_predicate.new.self in
    let s = g.Infcx.InferCtxtLike.state r.infcx.now in
    let d = g.Infcx.InferCtxtLike.state q.infcx.now in
    let ta = (s.meaning).ty c.args.a.now in
    let tb = (s.meaning).ty c.args.b.now in
    let was = solving_through r.structurally_relate_aliases r.infcx.ghost_name r.cache.pairs.kept r.goals.items s r.ambient_variance r.param_env in
    let now = solving_through q.structurally_relate_aliases q.infcx.ghost_name q.cache.pairs.kept q.goals.items d q.ambient_variance q.param_env in
    let asks = directed_asks r.ambient_variance ta tb (directed_decides c.in_default.not-Invariant c.requires.can.decides) in
    let h : RegistersGoal {A = Unit {0}} {F = OutOfMemory} was now asks.0 (Err c.in_err-register_subtype_predicate.field-0.0) =
    subst (λ o. IfSome o (λ p. RegistersGoal {A = Unit {0}} {F = OutOfMemory} was now p (Err c.in_err-register_subtype_predicate.field-0.0))) asks.1
    c.in_err-register_subtype_predicate.ensures in
    subst (Stepped solver_manner IsRigid was now ta tb (d.meaning).ty)
    (sym (as_err c.from_residual.result Memory c.from_residual.ensures.0 c.from_residual.ensures.1))
    (goal_refused IsRigid ta tb (d.meaning).ty asks.0 h)

pub returns-clause-stepped : goal.returns-clause-stepped
returns-clause-stepped g c =
    let r = c.args.self.now in
    let q = c.register_subtype_predicate.new.self in
    let s = g.Infcx.InferCtxtLike.state r.infcx.now in
    let d = g.Infcx.InferCtxtLike.state q.infcx.now in
    let ta = (s.meaning).ty c.args.a.now in
    let tb = (s.meaning).ty c.args.b.now in
    let was = solving_through r.structurally_relate_aliases r.infcx.ghost_name r.cache.pairs.kept r.goals.items s r.ambient_variance r.param_env in
    let now = solving_through q.structurally_relate_aliases q.infcx.ghost_name q.cache.pairs.kept q.goals.items d q.ambient_variance q.param_env in
    let asks = directed_asks r.ambient_variance ta tb (directed_decides c.in_default.not-Invariant c.requires.can.decides) in
    let h : RegistersGoal {A = Unit {0}} {F = OutOfMemory} was now asks.0 (Ok tt) =
    subst (λ o. IfSome o (λ p. RegistersGoal {A = Unit {0}} {F = OutOfMemory} was now p (Ok tt))) asks.1
    c.in_ok-register_subtype_predicate.ensures in
    subtype_step {r = was} {q = now} c.args.x.0 c.args.y.0 ta tb asks.0 c.requires.a_is c.requires.b_is (
      variable_made s.store type_var c.args.x.0 ((s.meaning).ty c.args.a.now) c.requires.a_is c.requires.can.asked.left_in,
      shallow_free s.store type_var c.args.x.0 ((s.meaning).ty c.args.a.now) c.requires.a_is c.requires.can.a_shallow,
    ) (
      variable_made s.store type_var c.args.y.0 ((s.meaning).ty c.args.b.now) c.requires.b_is c.requires.can.asked.right_in,
      shallow_free s.store type_var c.args.y.0 ((s.meaning).ty c.args.b.now) c.requires.b_is c.requires.can.b_shallow,
    ) asks.1 h (d.meaning).ty c.args.a.now
    ((h.extends).ty c.args.a.now c.requires.can.asked.left_known) c.requires.can.asked.left_known

pub returns-in_err-register_subtype_predicate-clause-combines : goal.returns-in_err-register_subtype_predicate-clause-combines
returns-in_err-register_subtype_predicate-clause-combines g c =
    let r = c.args.self.now in
    let q = c.register_subtype_predicate.new.self in
    let s = g.Infcx.InferCtxtLike.state r.infcx.now in
    let d = g.Infcx.InferCtxtLike.state q.infcx.now in
    let ta = (s.meaning).ty c.args.a.now in
    let tb = (s.meaning).ty c.args.b.now in
    let was = solving_through r.structurally_relate_aliases r.infcx.ghost_name r.cache.pairs.kept r.goals.items s r.ambient_variance r.param_env in
    let now = solving_through q.structurally_relate_aliases q.infcx.ghost_name q.cache.pairs.kept q.goals.items d q.ambient_variance q.param_env in
    let directed = directed_decides c.in_default.not-Invariant c.requires.can.decides in
    let asks = directed_asks r.ambient_variance ta tb directed in
    subtype_refused {r = was} {q = now} c.args.a.now c.args.b.now asks.0 directed
    (subst (λ o. IfSome o (λ p. RegistersGoal {A = Unit {0}} {F = OutOfMemory} was now p (Err c.in_err-register_subtype_predicate.field-0.0))) asks.1
    c.in_err-register_subtype_predicate.ensures) c.from_residual.result
    (as_err c.from_residual.result Memory c.from_residual.ensures.0 c.from_residual.ensures.1)

pub returns-clause-combines : goal.returns-clause-combines
returns-clause-combines g c =
    let r = c.args.self.now in
    let q = c.register_subtype_predicate.new.self in
    let s = g.Infcx.InferCtxtLike.state r.infcx.now in
    let d = g.Infcx.InferCtxtLike.state q.infcx.now in
    let ta = (s.meaning).ty c.args.a.now in
    let tb = (s.meaning).ty c.args.b.now in
    let was = solving_through r.structurally_relate_aliases r.infcx.ghost_name r.cache.pairs.kept r.goals.items s r.ambient_variance r.param_env in
    let now = solving_through q.structurally_relate_aliases q.infcx.ghost_name q.cache.pairs.kept q.goals.items d q.ambient_variance q.param_env in
    let asks = directed_asks r.ambient_variance ta tb (directed_decides c.in_default.not-Invariant c.requires.can.decides) in
    subtype_combines {r = was} {q = now} c.args.a.now c.args.b.now asks.0 asks.1
    (subst (λ o. IfSome o (λ p. RegistersGoal {A = Unit {0}} {F = OutOfMemory} was now p (Ok tt))) asks.1
    c.in_ok-register_subtype_predicate.ensures)

pub returns-in-Invariant-clause-stepped : goal.returns-in-Invariant-clause-stepped
returns-in-Invariant-clause-stepped g c =
    let r = c.args.self.now in
    let s = g.Infcx.InferCtxtLike.state r.infcx.now in
    let sound = g.met.Infcx.InferCtxtLike.sound r.infcx.now c.requires.can.lawful.0.0 in
    let d = g.Infcx.InferCtxtLike.state c.equate_ty_vids_raw.new.self in
    let done = c.equate_ty_vids_raw.ensures.equates in
    roots_step (held_stands r.structurally_relate_aliases r.infcx.ghost_name r.cache.pairs.kept s d done.stands) r.goals.items IsRigid s.meaning d.meaning s.store d.store s.lawful d.lawful
    r.ambient_variance r.param_env type_var (no_region type_var tt) c.args.x.0 c.args.y.0 ((s.meaning).ty c.args.a.now)
    ((s.meaning).ty c.args.b.now) (d.meaning).ty c.args.a.now done.stands.meaning
    c.requires.can.lawful.1 sound done.stands.lawful done.same done.equates c.requires.a_is
    c.requires.b_is (ap (λ z. z.ty c.args.a.now) done.stands.meaning)

pub returns-in-Invariant-clause-combines : goal.returns-in-Invariant-clause-combines
returns-in-Invariant-clause-combines g c =
    let done = c.equate_ty_vids_raw.ensures.equates in
    made_one c.args.x.0 c.args.y.0 c.in-Invariant.is c.requires.a_is c.requires.b_is
    (record { same = done.same; equates = done.equates }) done.stands.meaning
    (ap (λ m. goals_of m c.args.self.now.goals.items) done.stands.meaning) refl

pub equate_ty_vids_raw-requires-clause-a_unresolved : goal.equate_ty_vids_raw-requires-clause-a_unresolved
equate_ty_vids_raw-requires-clause-a_unresolved g c =
    let s = g.Infcx.InferCtxtLike.state c.args.self.now.infcx.now in
    let t = (s.meaning).ty c.args.a.now in
    let k = c.requires.can in (
      variable_made s.store type_var c.args.x.0 t c.requires.a_is k.asked.left_in,
      shallow_free s.store type_var c.args.x.0 t c.requires.a_is k.a_shallow,
    )

pub equate_ty_vids_raw-requires-clause-b_unresolved : goal.equate_ty_vids_raw-requires-clause-b_unresolved
equate_ty_vids_raw-requires-clause-b_unresolved g c =
    let s = g.Infcx.InferCtxtLike.state c.args.self.now.infcx.now in
    let t = (s.meaning).ty c.args.b.now in
    let k = c.requires.can in (
      variable_made s.store type_var c.args.y.0 t c.requires.b_is k.asked.right_in,
      shallow_free s.store type_var c.args.y.0 t c.requires.b_is k.b_shallow,
    )
