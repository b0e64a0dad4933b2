use Rattle.std.proofs.Common.{◌≡◌, refl, sym, ap, ◌∙◌, inr, subst, subst₂, Some, IfSome, IsTrue, Ok, Err}
use Rattle.term_enums.specs.declared.Variance.TheVariants.{Covariant, Contravariant}
use Rattle.term_enums.specs.declared.memory.OutOfMemory.{OutOfMemory}
use Rattle.relation_terms.specs.Heads.{type_var, variable}
use Rattle.relation_terms.specs.Trees.{leaf, known}
use Rattle.relation_folds.specs.declared.error.TypeError.TheVariants.{CyclicTy}
use Rattle.relation_folds.specs.declared.error.RelateFault.TheVariants.{Memory}
use Rattle.relation_semantics.specs.declared.relate.Step.TheVariants.{Done, Again}
use Rattle.relation_semantics.specs.AliasGoals.{alias_at}
use Rattle.relation_semantics.specs.Parts.{IsRigid}
use Rattle.relation_semantics.proofs.AliasSteps.{shallow_free}
use Rattle.relation_combining.proofs.Shallowly.{variable_made}
use Rattle.relation_semantics.specs.Lawful.{Stepped, items_of}
use Rattle.relation_semantics.proofs.Passing.{as_err}
use Rattle.relation_semantics.proofs.Registered.{goals_stay}
use Rattle.relation_goals.specs.Emitting.{RegistersGoal}
use Rattle.relation_combining.specs.Solving.{held_by, solving, solving_through, solver_manner, KnowsGoals}
use Rattle.context_relation.specs.Stepping.{right_bound, right_asked, right_unasked, right_refused as right_not_bound, BindsTyVar, BindsAsking, BindsUnasked}
use Rattle.context_relation.proofs.BindingAsked.{came_of_alias, bound_on}
use Rattle.relation_combining.proofs.CombiningTys.{alias_is_asked}
use Rattle.relation_combining.proofs.GeneralisingErrors.{cycle_error}
use Rattle.context_relation.proofs.Solving.{held_grows, decides_back, as_solving, from_solving, solver_with, still_lawful}
use Rattle.relation_steps.proofs.Sorted.{ty_sorted}
use Rattle.relation_combining.proofs.SolvingVariables.{bound_later, refused_later, right_step, right_refused, right_asks, right_unasked as right_unasked_step, type_comes_to_none}
use Rattle.context_relation.proofs.relation.SolverRelating.bind_right.Goals as goal
use Rattle.relation_semantics.proofs.Erased.{xform_invariant}

pub returns-in_err-bound-clause-stepped : goal.returns-in_err-bound-clause-stepped
returns-in_err-bound-clause-stepped g c =
    let r = c.args.self.now in
    let s = g.Infcx.InferCtxtLike.state r.infcx.now in
    let sound = g.met.Infcx.InferCtxtLike.sound r.infcx.now c.requires.can.lawful.0.0 in
    let d = g.Infcx.InferCtxtLike.state c.instantiate_ty_var_raw.new.self in
    let f = c.in_err-bound.field-0.0 in
    let h = c.in_err-bound.ensures in
    let n = c.args.y.0 in
    let is = c.requires.b_is in
    let t = (s.meaning).ty c.args.a.now in
    let other = type_comes_to_none s.store t n c.requires.can.a_shallow c.requires.a_is in
    let was = solving_through r.structurally_relate_aliases r.infcx.ghost_name r.cache.pairs.kept r.goals.items s r.ambient_variance r.param_env in
    let then = solving (held_by r.structurally_relate_aliases r.infcx.ghost_name r.cache.pairs.kept s) r.goals.items d.meaning d.store d.lawful r.ambient_variance r.param_env in
    let later = refused_later r.structurally_relate_aliases s d sound type_var tt n t c.xform-variance.result (λ m. m.ty) CyclicTy other f
    h.instantiates in
    let still = still_lawful (held_grows r.structurally_relate_aliases r.infcx.ghost_name r.cache.pairs.kept s d h.grows) r.goals.items s.store d.store
    r.ambient_variance r.param_env h.grows.extends c.requires.can.lawful.1 h.grows.lawful later in
    subst (λ res. Stepped solver_manner IsRigid (solving_through r.structurally_relate_aliases r.infcx.ghost_name r.cache.pairs.kept r.goals.items s r.ambient_variance r.param_env)
    (solving_through r.structurally_relate_aliases r.infcx.ghost_name r.cache.pairs.kept r.goals.items d r.ambient_variance r.param_env)
    ((s.meaning).ty c.args.a.now) ((s.meaning).ty c.args.b.now) (d.meaning).ty res)
    (sym (as_err c.from_residual.result f c.from_residual.ensures.0 c.from_residual.ensures.1))
    (subst (λ l. Stepped solver_manner IsRigid (solving_through r.structurally_relate_aliases r.infcx.ghost_name r.cache.pairs.kept r.goals.items s r.ambient_variance r.param_env)
    (solving_through r.structurally_relate_aliases r.infcx.ghost_name r.cache.pairs.kept r.goals.items d r.ambient_variance r.param_env) t l
    (d.meaning).ty (Err f)) (sym is)
    (as_solving (held_grows r.structurally_relate_aliases r.infcx.ghost_name r.cache.pairs.kept s d h.grows) r.goals.items s.store d.store s.lawful d.lawful r.ambient_variance r.param_env h.grows.extends
    c.requires.can.lawful.1 (λ q. Stepped solver_manner IsRigid
    (solving_through r.structurally_relate_aliases r.infcx.ghost_name r.cache.pairs.kept r.goals.items s r.ambient_variance r.param_env) q t (leaf (variable type_var n)) (d.meaning).ty
    (Err f)) (right_refused (solving_through r.structurally_relate_aliases r.infcx.ghost_name r.cache.pairs.kept r.goals.items s r.ambient_variance r.param_env)
    was.lawful then.lawful
    still IsRigid s d h.grows.extends c.requires.can.decides sound type_var tt n t (
      variable_made s.store type_var n ((s.meaning).ty c.args.b.now) c.requires.b_is c.requires.can.asked.right_in,
      shallow_free s.store type_var n ((s.meaning).ty c.args.b.now) c.requires.b_is c.requires.can.b_shallow,
    ) other (λ m. m.ty) CyclicTy c.xform-variance.result
    (d.meaning).ty (λ o z i x. cycle_error d.meaning r.structurally_relate_aliases s.store d.store n t sound o z i other x) f h.instantiates)))

pub returns-in_err-bound-clause-combines : goal.returns-in_err-bound-clause-combines
returns-in_err-bound-clause-combines g c =
    let r = c.args.self.now in
    let s = g.Infcx.InferCtxtLike.state r.infcx.now in
    let d = g.Infcx.InferCtxtLike.state c.instantiate_ty_var_raw.new.self in
    let h = c.in_err-bound.ensures in
    let f = c.in_err-bound.field-0.0 in
    let n = c.args.y.0 in
    right_not_bound n f c.requires.b_is c.requires.a_is
    (subst (λ v. BindsTyVar (solving_through r.structurally_relate_aliases r.infcx.ghost_name r.cache.pairs.kept r.goals.items s r.ambient_variance r.param_env)
    (solving_through r.structurally_relate_aliases r.infcx.ghost_name r.cache.pairs.kept r.goals.items d r.ambient_variance r.param_env) v n c.args.a.now
    (Err f)) c.xform-variance.ensures (record {
      instantiated = h.instantiates;
      goals = goals_stay h.grows.extends r.goals.items c.requires.can.lawful.1.1;
    }))
    (as_err c.from_residual.result f c.from_residual.ensures.0 c.from_residual.ensures.1)

pub returns-in_err-register_alias_relate_predicate-clause-stepped :
    goal.returns-in_err-register_alias_relate_predicate-clause-stepped
returns-in_err-register_alias_relate_predicate-clause-stepped g c =
    let r = c.args.self.now in
    let s = g.Infcx.InferCtxtLike.state r.infcx.now in
    let cx = g.Infcx.InferCtxtLike.interner r.infcx.now in
    let of = g.met.Infcx.InferCtxtLike.reads r.infcx.now in
    let sound = g.met.Infcx.InferCtxtLike.sound r.infcx.now c.requires.can.lawful.0.0 in
    let k = c.requires.can.asked in
    let env : KnowsGoals s.meaning r.param_env r.goals.items = c.requires.can.lawful.1 in
    let d = g.Infcx.InferCtxtLike.state c.instantiate_ty_var_raw.new.self in
    let h = c.instantiate_ty_var_raw.ensures in
    let held = held_grows r.structurally_relate_aliases r.infcx.ghost_name r.cache.pairs.kept s d h.grows in
    let n = c.args.y.0 in
    let t = (s.meaning).ty c.args.a.now in
    let was = solving_through r.structurally_relate_aliases r.infcx.ghost_name r.cache.pairs.kept r.goals.items s r.ambient_variance r.param_env in
    let then = solving (held_by r.structurally_relate_aliases r.infcx.ghost_name r.cache.pairs.kept s) r.goals.items d.meaning d.store d.lawful r.ambient_variance r.param_env in
    let L = was.lawful in
    let K = then.lawful in
    let z = c.in_ok-bound.bound in
    let i = c.in_ok-bound.ensures.instantiates in
    let m = c.in-Some.field-0.0 in
    let u = (d.meaning).ty z in
    let u_is : u ≡ leaf (variable type_var m) = c.in-Some.ensures.is in
    let t_stays : (d.meaning).ty c.args.a.now ≡ t = h.grows.extends.ty c.args.a.now k.left_known in
    let sorted = ty_sorted of c.args.a.now ((g.met.Infcx.Interner.Interner.sorted cx).ty c.args.a.now) k.left_known in
    let later = bound_later r.structurally_relate_aliases s d sound type_var tt n t c.xform-variance.result
    (g.met.Infcx.InferCtxtLike.numbers r.infcx.now c.requires.can.lawful.0.0) u k.left_in sorted i.1 in
    let still = still_lawful held r.goals.items s.store d.store r.ambient_variance r.param_env h.grows.extends env h.grows.lawful later in
    let j = c.register_alias_relate_predicate.new.self in
    let e = g.Infcx.InferCtxtLike.state j.infcx.now in
    let p = solving_through j.structurally_relate_aliases j.infcx.ghost_name j.cache.pairs.kept j.goals.items e j.ambient_variance j.param_env in
    let reg = c.in_err-register_alias_relate_predicate.ensures in
    let asked = alias_is_asked r.ambient_variance t u c.requires.can.decides in
    let came = came_of_alias r.structurally_relate_aliases (items_of s.meaning) s.store d.store c.xform-variance.result n m t u i.1
    u_is c.requires.can.a_shallow c.requires.a_is in
    let there = subst (λ o. IfSome o (λ w. RegistersGoal {A = Unit {0}} {F = OutOfMemory} (solving_through r.structurally_relate_aliases r.infcx.ghost_name r.cache.pairs.kept r.goals.items d r.ambient_variance r.param_env) p w (Err c.in_err-register_alias_relate_predicate.field-0.0))) asked.1
    (subst (λ y. IfSome (alias_at r.ambient_variance y u) (λ w. RegistersGoal {A = Unit {0}} {F = OutOfMemory} (solving_through r.structurally_relate_aliases r.infcx.ghost_name r.cache.pairs.kept r.goals.items d r.ambient_variance r.param_env) p w (Err c.in_err-register_alias_relate_predicate.field-0.0))) t_stays reg) in
    let made = from_solving held r.goals.items s.store d.store s.lawful d.lawful r.ambient_variance r.param_env
    h.grows.extends env (λ y. RegistersGoal {A = Unit {0}} {F = OutOfMemory} y p asked.0 (Err c.in_err-register_alias_relate_predicate.field-0.0)) there in
    let from = c.from_residual-in_err-register_alias_relate_predicate in
    let is = as_err from.result Memory from.ensures.0 from.ensures.1 in
    subst₂ (λ l res. Stepped solver_manner IsRigid was p t l (e.meaning).ty res) (sym c.requires.b_is) (sym is)
    (right_unasked_step was L K still s d h.grows.extends sound (g.met.Infcx.InferCtxtLike.numbers r.infcx.now c.requires.can.lawful.0.0)
    (g.met.Infcx.InferCtxtLike.bound_by_lists c.instantiate_ty_var_raw.new.self h.grows.lawful) n m t u k.left_taken.1 k.left_in
    k.left_known (ty_sorted of c.args.a.now ((g.met.Infcx.Interner.Interner.sorted cx).ty c.args.a.now) k.left_known)
    c.xform-variance.result (λ e. c.xform-variance.ensures ∙ xform_invariant _ Contravariant e) i.0 i.1 u_is came.0 came.1 p asked.0 made IsRigid (e.meaning).ty)

pub returns-in_err-register_alias_relate_predicate-clause-combines :
    goal.returns-in_err-register_alias_relate_predicate-clause-combines
returns-in_err-register_alias_relate_predicate-clause-combines g c =
    let r = c.args.self.now in
    let s = g.Infcx.InferCtxtLike.state r.infcx.now in
    let k = c.requires.can.asked in
    let env : KnowsGoals s.meaning r.param_env r.goals.items = c.requires.can.lawful.1 in
    let d = g.Infcx.InferCtxtLike.state c.instantiate_ty_var_raw.new.self in
    let h = c.instantiate_ty_var_raw.ensures in
    let held = held_grows r.structurally_relate_aliases r.infcx.ghost_name r.cache.pairs.kept s d h.grows in
    let n = c.args.y.0 in
    let t = (s.meaning).ty c.args.a.now in
    let was = solving_through r.structurally_relate_aliases r.infcx.ghost_name r.cache.pairs.kept r.goals.items s r.ambient_variance r.param_env in
    let z = c.in_ok-bound.bound in
    let i = c.in_ok-bound.ensures.instantiates in
    let m = c.in-Some.field-0.0 in
    let u = (d.meaning).ty z in
    let u_is : u ≡ leaf (variable type_var m) = c.in-Some.ensures.is in
    let t_stays : (d.meaning).ty c.args.a.now ≡ t = h.grows.extends.ty c.args.a.now k.left_known in
    let j = c.register_alias_relate_predicate.new.self in
    let e = g.Infcx.InferCtxtLike.state j.infcx.now in
    let p = solving_through j.structurally_relate_aliases j.infcx.ghost_name j.cache.pairs.kept j.goals.items e j.ambient_variance j.param_env in
    let reg = c.in_err-register_alias_relate_predicate.ensures in
    let asked = alias_is_asked r.ambient_variance t u c.requires.can.decides in
    let came = came_of_alias r.structurally_relate_aliases (items_of s.meaning) s.store d.store c.xform-variance.result n m t u i.1
    u_is c.requires.can.a_shallow c.requires.a_is in
    let there = subst (λ o. IfSome o (λ w. RegistersGoal {A = Unit {0}} {F = OutOfMemory} (solving_through r.structurally_relate_aliases r.infcx.ghost_name r.cache.pairs.kept r.goals.items d r.ambient_variance r.param_env) p w (Err c.in_err-register_alias_relate_predicate.field-0.0))) asked.1
    (subst (λ y. IfSome (alias_at r.ambient_variance y u) (λ w. RegistersGoal {A = Unit {0}} {F = OutOfMemory} (solving_through r.structurally_relate_aliases r.infcx.ghost_name r.cache.pairs.kept r.goals.items d r.ambient_variance r.param_env) p w (Err c.in_err-register_alias_relate_predicate.field-0.0))) t_stays reg) in
    let made = from_solving held r.goals.items s.store d.store s.lawful d.lawful r.ambient_variance r.param_env
    h.grows.extends env (λ y. RegistersGoal {A = Unit {0}} {F = OutOfMemory} y p asked.0 (Err c.in_err-register_alias_relate_predicate.field-0.0)) there in
    let from = c.from_residual-in_err-register_alias_relate_predicate in
    let is = as_err from.result Memory from.ensures.0 from.ensures.1 in
    right_unasked n z c.requires.b_is c.requires.a_is
    (subst (λ v. BindsUnasked was p v n c.args.a.now z) c.xform-variance.ensures (record {
      instantiated = bound_on s d p made.extends made.store r.structurally_relate_aliases c.xform-variance.result n t z i;
      is_variable = (m, made.extends.ty z i.0 ∙ u_is);
      goals = made.goals;
    })) is

pub returns-in-Some-clause-stepped : goal.returns-in-Some-clause-stepped
returns-in-Some-clause-stepped g c =
    let r = c.args.self.now in
    let s = g.Infcx.InferCtxtLike.state r.infcx.now in
    let cx = g.Infcx.InferCtxtLike.interner r.infcx.now in
    let of = g.met.Infcx.InferCtxtLike.reads r.infcx.now in
    let sound = g.met.Infcx.InferCtxtLike.sound r.infcx.now c.requires.can.lawful.0.0 in
    let k = c.requires.can.asked in
    let env : KnowsGoals s.meaning r.param_env r.goals.items = c.requires.can.lawful.1 in
    let d = g.Infcx.InferCtxtLike.state c.instantiate_ty_var_raw.new.self in
    let h = c.instantiate_ty_var_raw.ensures in
    let held = held_grows r.structurally_relate_aliases r.infcx.ghost_name r.cache.pairs.kept s d h.grows in
    let n = c.args.y.0 in
    let t = (s.meaning).ty c.args.a.now in
    let was = solving_through r.structurally_relate_aliases r.infcx.ghost_name r.cache.pairs.kept r.goals.items s r.ambient_variance r.param_env in
    let then = solving (held_by r.structurally_relate_aliases r.infcx.ghost_name r.cache.pairs.kept s) r.goals.items d.meaning d.store d.lawful r.ambient_variance r.param_env in
    let L = was.lawful in
    let K = then.lawful in
    let z = c.in_ok-bound.bound in
    let i = c.in_ok-bound.ensures.instantiates in
    let m = c.in-Some.field-0.0 in
    let u = (d.meaning).ty z in
    let u_is : u ≡ leaf (variable type_var m) = c.in-Some.ensures.is in
    let t_stays : (d.meaning).ty c.args.a.now ≡ t = h.grows.extends.ty c.args.a.now k.left_known in
    let sorted = ty_sorted of c.args.a.now ((g.met.Infcx.Interner.Interner.sorted cx).ty c.args.a.now) k.left_known in
    let later = bound_later r.structurally_relate_aliases s d sound type_var tt n t c.xform-variance.result
    (g.met.Infcx.InferCtxtLike.numbers r.infcx.now c.requires.can.lawful.0.0) u k.left_in sorted i.1 in
    let still = still_lawful held r.goals.items s.store d.store r.ambient_variance r.param_env h.grows.extends env h.grows.lawful later in
    let j = c.register_alias_relate_predicate.new.self in
    let e = g.Infcx.InferCtxtLike.state j.infcx.now in
    let p = solving_through j.structurally_relate_aliases j.infcx.ghost_name j.cache.pairs.kept j.goals.items e j.ambient_variance j.param_env in
    let reg = c.in_ok-register_alias_relate_predicate.ensures in
    let asked = alias_is_asked r.ambient_variance t u c.requires.can.decides in
    let came = came_of_alias r.structurally_relate_aliases (items_of s.meaning) s.store d.store c.xform-variance.result n m t u i.1
    u_is c.requires.can.a_shallow c.requires.a_is in
    let there = subst (λ o. IfSome o (λ w. RegistersGoal {A = Unit {0}} {F = OutOfMemory} (solving_through r.structurally_relate_aliases r.infcx.ghost_name r.cache.pairs.kept r.goals.items d r.ambient_variance r.param_env) p w (Ok tt))) asked.1
    (subst (λ y. IfSome (alias_at r.ambient_variance y u) (λ w. RegistersGoal {A = Unit {0}} {F = OutOfMemory} (solving_through r.structurally_relate_aliases r.infcx.ghost_name r.cache.pairs.kept r.goals.items d r.ambient_variance r.param_env) p w (Ok tt))) t_stays reg) in
    let made = from_solving held r.goals.items s.store d.store s.lawful d.lawful r.ambient_variance r.param_env
    h.grows.extends env (λ y. RegistersGoal {A = Unit {0}} {F = OutOfMemory} y p asked.0 (Ok tt)) there in
    subst (λ l. Stepped solver_manner IsRigid was p t l (e.meaning).ty (Ok (Done c.args.a.now)))
    (sym c.requires.b_is) (right_asks was L K still s d h.grows.extends sound (g.met.Infcx.InferCtxtLike.numbers r.infcx.now c.requires.can.lawful.0.0)
    (g.met.Infcx.InferCtxtLike.bound_by_lists c.instantiate_ty_var_raw.new.self h.grows.lawful) n m t u k.left_taken.1 k.left_in
    k.left_known (ty_sorted of c.args.a.now ((g.met.Infcx.Interner.Interner.sorted cx).ty c.args.a.now) k.left_known)
    c.xform-variance.result (λ e. c.xform-variance.ensures ∙ xform_invariant _ Contravariant e) i.0 i.1 u_is came.0 came.1 p asked.0 made IsRigid (e.meaning).ty c.args.a.now asked.1
    (made.extends.ty c.args.a.now (subst (λ y. IsTrue (known y)) (sym (h.grows.extends.ty c.args.a.now k.left_known)) k.left_known) ∙ h.grows.extends.ty c.args.a.now k.left_known))

pub returns-in-Some-clause-combines : goal.returns-in-Some-clause-combines
returns-in-Some-clause-combines g c =
    let r = c.args.self.now in
    let s = g.Infcx.InferCtxtLike.state r.infcx.now in
    let k = c.requires.can.asked in
    let env : KnowsGoals s.meaning r.param_env r.goals.items = c.requires.can.lawful.1 in
    let d = g.Infcx.InferCtxtLike.state c.instantiate_ty_var_raw.new.self in
    let h = c.instantiate_ty_var_raw.ensures in
    let held = held_grows r.structurally_relate_aliases r.infcx.ghost_name r.cache.pairs.kept s d h.grows in
    let n = c.args.y.0 in
    let t = (s.meaning).ty c.args.a.now in
    let was = solving_through r.structurally_relate_aliases r.infcx.ghost_name r.cache.pairs.kept r.goals.items s r.ambient_variance r.param_env in
    let z = c.in_ok-bound.bound in
    let i = c.in_ok-bound.ensures.instantiates in
    let m = c.in-Some.field-0.0 in
    let u = (d.meaning).ty z in
    let u_is : u ≡ leaf (variable type_var m) = c.in-Some.ensures.is in
    let t_stays : (d.meaning).ty c.args.a.now ≡ t = h.grows.extends.ty c.args.a.now k.left_known in
    let j = c.register_alias_relate_predicate.new.self in
    let e = g.Infcx.InferCtxtLike.state j.infcx.now in
    let p = solving_through j.structurally_relate_aliases j.infcx.ghost_name j.cache.pairs.kept j.goals.items e j.ambient_variance j.param_env in
    let reg = c.in_ok-register_alias_relate_predicate.ensures in
    let asked = alias_is_asked r.ambient_variance t u c.requires.can.decides in
    let came = came_of_alias r.structurally_relate_aliases (items_of s.meaning) s.store d.store c.xform-variance.result n m t u i.1
    u_is c.requires.can.a_shallow c.requires.a_is in
    let there = subst (λ o. IfSome o (λ w. RegistersGoal {A = Unit {0}} {F = OutOfMemory} (solving_through r.structurally_relate_aliases r.infcx.ghost_name r.cache.pairs.kept r.goals.items d r.ambient_variance r.param_env) p w (Ok tt))) asked.1
    (subst (λ y. IfSome (alias_at r.ambient_variance y u) (λ w. RegistersGoal {A = Unit {0}} {F = OutOfMemory} (solving_through r.structurally_relate_aliases r.infcx.ghost_name r.cache.pairs.kept r.goals.items d r.ambient_variance r.param_env) p w (Ok tt))) t_stays reg) in
    let made = from_solving held r.goals.items s.store d.store s.lawful d.lawful r.ambient_variance r.param_env
    h.grows.extends env (λ y. RegistersGoal {A = Unit {0}} {F = OutOfMemory} y p asked.0 (Ok tt)) there in
    right_asked n z asked.0 c.requires.b_is c.requires.a_is
    (subst (λ y. alias_at r.ambient_variance t y ≡ Some asked.0) (sym (made.extends.ty z i.0)) asked.1)
    (subst (λ v. BindsAsking was p v n c.args.a.now z asked.0) c.xform-variance.ensures (record {
      instantiated = bound_on s d p made.extends made.store r.structurally_relate_aliases c.xform-variance.result n t z i;
      is_variable = (m, made.extends.ty z i.0 ∙ u_is);
      goals = made.goals;
    })) refl

pub returns-clause-stepped : goal.returns-clause-stepped
returns-clause-stepped g c =
    let r = c.args.self.now in
    let s = g.Infcx.InferCtxtLike.state r.infcx.now in
    let cx = g.Infcx.InferCtxtLike.interner r.infcx.now in
    let of = g.met.Infcx.InferCtxtLike.reads r.infcx.now in
    let sound = g.met.Infcx.InferCtxtLike.sound r.infcx.now c.requires.can.lawful.0.0 in
    let k = c.requires.can.asked in
    let q = c.instantiate_ty_var_raw.new.self in
    let d = g.Infcx.InferCtxtLike.state q in
    let z = c.in_ok-bound.bound in
    let h = c.in_ok-bound.ensures in
    let grown = h.grows.extends in
    let n = c.args.y.0 in
    let t = (s.meaning).ty c.args.a.now in
    let is = c.requires.b_is in
    let root_stays : (d.meaning).ty c.args.b.now ≡ leaf (variable type_var n) =
    grown.ty c.args.b.now k.right_known ∙ is in
    let t_stays : (d.meaning).ty c.args.a.now ≡ t = grown.ty c.args.a.now k.left_known in
    let was = solving_through r.structurally_relate_aliases r.infcx.ghost_name r.cache.pairs.kept r.goals.items s r.ambient_variance r.param_env in
    let then = solving (held_by r.structurally_relate_aliases r.infcx.ghost_name r.cache.pairs.kept s) r.goals.items d.meaning d.store d.lawful r.ambient_variance r.param_env in
    let sorted = ty_sorted of c.args.a.now ((g.met.Infcx.Interner.Interner.sorted cx).ty c.args.a.now) k.left_known in
    let later = bound_later r.structurally_relate_aliases s d sound type_var tt n t c.xform-variance.result
    (g.met.Infcx.InferCtxtLike.numbers r.infcx.now c.requires.can.lawful.0.0) ((d.meaning).ty z) k.left_in sorted h.instantiates.1 in
    let still = still_lawful (held_grows r.structurally_relate_aliases r.infcx.ghost_name r.cache.pairs.kept s d h.grows) r.goals.items s.store d.store
    r.ambient_variance r.param_env grown c.requires.can.lawful.1 h.grows.lawful later in
    subst (λ x. Stepped solver_manner IsRigid was (solving_through r.structurally_relate_aliases r.infcx.ghost_name r.cache.pairs.kept r.goals.items d r.ambient_variance r.param_env)
    t ((s.meaning).ty c.args.b.now) (d.meaning).ty (Ok x)) (sym refl)
    (subst (λ l. Stepped solver_manner IsRigid (solving_through r.structurally_relate_aliases r.infcx.ghost_name r.cache.pairs.kept r.goals.items s r.ambient_variance r.param_env)
    (solving_through r.structurally_relate_aliases r.infcx.ghost_name r.cache.pairs.kept r.goals.items d r.ambient_variance r.param_env) t l
    (d.meaning).ty (Ok (Again c.args.a.now c.args.b.now c.args.a.now z Covariant c.args.a.now))) (sym is)
    (as_solving (held_grows r.structurally_relate_aliases r.infcx.ghost_name r.cache.pairs.kept s d h.grows) r.goals.items s.store d.store s.lawful d.lawful r.ambient_variance r.param_env grown
    c.requires.can.lawful.1 (λ q. Stepped solver_manner IsRigid
    (solving_through r.structurally_relate_aliases r.infcx.ghost_name r.cache.pairs.kept r.goals.items s r.ambient_variance r.param_env) q t (leaf (variable type_var n)) (d.meaning).ty
    (Ok (Again c.args.a.now c.args.b.now c.args.a.now z Covariant c.args.a.now))) (right_step (solving_through r.structurally_relate_aliases r.infcx.ghost_name r.cache.pairs.kept r.goals.items s r.ambient_variance r.param_env)
    was.lawful then.lawful
    still type_var tt s d grown sound
    (g.met.Infcx.InferCtxtLike.numbers r.infcx.now c.requires.can.lawful.0.0)
    (g.met.Infcx.InferCtxtLike.bound_by_lists q h.grows.lawful) n t ((d.meaning).ty z) k.left_taken.1 k.left_in
    k.left_known (ty_sorted of c.args.a.now ((g.met.Infcx.Interner.Interner.sorted cx).ty c.args.a.now) k.left_known)
    c.xform-variance.result (λ e. c.xform-variance.ensures ∙ xform_invariant _ Contravariant e) h.instantiates.0 h.instantiates.1 IsRigid c.args.a.now c.args.b.now
    c.args.a.now z c.args.a.now (d.meaning).ty (λ e. c.requires.a_is) t_stays root_stays t_stays refl (inr t_stays))))

pub returns-clause-combines : goal.returns-clause-combines
returns-clause-combines g c =
    let r = c.args.self.now in
    let s = g.Infcx.InferCtxtLike.state r.infcx.now in
    let d = g.Infcx.InferCtxtLike.state c.instantiate_ty_var_raw.new.self in
    let h = c.in_ok-bound.ensures in
    let n = c.args.y.0 in
    let z = c.in_ok-bound.bound in
    right_bound n z c.requires.b_is c.requires.a_is
    (subst (λ v. BindsTyVar (solving_through r.structurally_relate_aliases r.infcx.ghost_name r.cache.pairs.kept r.goals.items s r.ambient_variance r.param_env)
    (solving_through r.structurally_relate_aliases r.infcx.ghost_name r.cache.pairs.kept r.goals.items d r.ambient_variance r.param_env) v n c.args.a.now
    (Ok z)) c.xform-variance.ensures (record {
      instantiated = h.instantiates;
      goals = goals_stay h.grows.extends r.goals.items c.requires.can.lawful.1.1;
    }))
    c.in_default.ensures.is_none refl

pub instantiate_ty_var_raw-requires-clause-source_by_lists : goal.instantiate_ty_var_raw-requires-clause-source_by_lists
instantiate_ty_var_raw-requires-clause-source_by_lists g c = c.requires.can.asked.left_taken.1

pub instantiate_ty_var_raw-requires-clause-decides : goal.instantiate_ty_var_raw-requires-clause-decides
instantiate_ty_var_raw-requires-clause-decides g c =
    decides_back c.args.self.now.ambient_variance c.xform-variance.result c.requires.can.decides c.xform-variance.ensures

pub register_alias_relate_predicate-requires-clause-lawful : goal.register_alias_relate_predicate-requires-clause-lawful
register_alias_relate_predicate-requires-clause-lawful g c =
    let r = c.args.self.now in
    let s = g.Infcx.InferCtxtLike.state r.infcx.now in
    let cx = g.Infcx.InferCtxtLike.interner r.infcx.now in
    let of = g.met.Infcx.InferCtxtLike.reads r.infcx.now in
    let sound = g.met.Infcx.InferCtxtLike.sound r.infcx.now c.requires.can.lawful.0.0 in
    let k = c.requires.can.asked in
    let d = g.Infcx.InferCtxtLike.state c.instantiate_ty_var_raw.new.self in
    let n = c.args.y.0 in
    let t = (s.meaning).ty c.args.a.now in
    let z = c.in_ok-bound.bound in
    let sorted = ty_sorted of c.args.a.now ((g.met.Infcx.Interner.Interner.sorted cx).ty c.args.a.now) k.left_known in
    let later = bound_later r.structurally_relate_aliases s d sound type_var tt n t c.xform-variance.result
    (g.met.Infcx.InferCtxtLike.numbers r.infcx.now c.requires.can.lawful.0.0) ((d.meaning).ty z) k.left_in sorted
    c.in_ok-bound.ensures.instantiates.1 in
    (solver_with r.structurally_relate_aliases r.infcx.ghost_name r.cache.pairs.kept r.goals.items s d c.in_ok-bound.ensures.grows later
    r.ambient_variance r.param_env c.requires.can.lawful.1).lawful c.requires.can.lawful

pub instantiate_ty_var_raw-requires-clause-target_unresolved : goal.instantiate_ty_var_raw-requires-clause-target_unresolved
instantiate_ty_var_raw-requires-clause-target_unresolved g c =
    let s = g.Infcx.InferCtxtLike.state c.args.self.now.infcx.now in
    let t = (s.meaning).ty c.args.b.now in
    let k = c.requires.can in (
      variable_made s.store type_var c.args.y.0 t c.requires.b_is k.asked.right_in,
      shallow_free s.store type_var c.args.y.0 t c.requires.b_is k.b_shallow,
    )
