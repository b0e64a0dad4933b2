use Rattle.std.proofs.Common.{◌≡◌, ◌||◌, true, false, refl, sym, ◌∙◌, arith, inl, inr}
use Rattle.std.proofs.lemmas.Bool.{false≢true}
use Rattle.std.proofs.lemmas.Grind.{common_steps}
use Rattle.relation_combining.proofs.OverContext.{grows_itself}
use Rattle.relation_folds.specs.Visits.{bound_var_escapes}
use Rattle.relation_folds.specs.declared.error.RelateFault.TheVariants.{Memory}
use Rattle.relation_semantics.specs.Binders.{binder_tree, bound_by}
use Rattle.relation_semantics.proofs.Passing.{as_err}
use Rattle.relation_combining.specs.Solving.{solving_through}
use Rattle.relation_recursion.proofs.Rounds.{under_binds}
use Rattle.relation_semantics.proofs.Bound.{outermost_binds}
use Rattle.context_relation.proofs.SolvingBinders.{opens_neither, opening_refused, opens_second}
use Rattle.context_relation.proofs.SolvingBinders.{opens_first, opens_none, no_more}
use Rattle.relation_semantics.proofs.Registered.{goals_stay}
use Rattle.context_relation.specs.Stepping.{as_they_stand, right_entered, right_not_entered, left_entered}
use Rattle.context_relation.specs.Stepping.{left_not_entered, none_left}
use Rattle.context_relation.proofs.Stepping.{leaves_itself, opens_seen}
use Rattle.context_relation.proofs.relation.SolverRelatingTypeRelationInterner.open_binders.Goals as goal

pub returns-then-is_behind_last-clause-opened : goal.returns-then-is_behind_last-clause-opened
returns-then-is_behind_last-clause-opened g c =
    let r = c.args.self.now in
    let s = g.Infcx.InferCtxtLike.state r.infcx.now in
    let tree = g.T.HasTree.tree s.meaning in
    let a = c.args.a.now in
    let b = c.args.b.now in
    let last = c.is_behind_last.ensures c.if-is_behind_last.true in
    no_more r.structurally_relate_aliases r.infcx.ghost_name r.cache.pairs.kept r.goals.items s r.ambient_variance r.param_env c.requires.lawful.1
    (grows_itself s c.requires.lawful.0.0) (tree a.value) (tree b.value)
    c.args.round tree ((s.meaning).bound_vars a.bound_vars) ((s.meaning).bound_vars b.bound_vars) c.requires.asked
    (omega (arith, last.0, c.requires.round)) (inl last.1)

pub returns-then-round-gt0-clause-opened : goal.returns-then-round-gt0-clause-opened
returns-then-round-gt0-clause-opened g c =
    let r = c.args.self.now in
    let s = g.Infcx.InferCtxtLike.state r.infcx.now in
    let tree = g.T.HasTree.tree s.meaning in
    let a = c.args.a.now in
    let b = c.args.b.now in
    let none : (bound_var_escapes (tree a.value) || bound_var_escapes (tree b.value)) ≡ false =
    grind (arith, common_steps) in
    no_more r.structurally_relate_aliases r.infcx.ghost_name r.cache.pairs.kept r.goals.items s r.ambient_variance r.param_env c.requires.lawful.1
    (grows_itself s c.requires.lawful.0.0) (tree a.value) (tree b.value)
    c.args.round tree ((s.meaning).bound_vars a.bound_vars) ((s.meaning).bound_vars b.bound_vars) c.requires.asked
    (grind (arith, common_steps)) (inr none)

pub returns-then-not-one_uses-clause-opened : goal.returns-then-not-one_uses-clause-opened
returns-then-not-one_uses-clause-opened g c =
    let r = c.args.self.now in
    let s = g.Infcx.InferCtxtLike.state r.infcx.now in
    let tree = g.T.HasTree.tree s.meaning in
    let a = c.args.a.now in
    let b = c.args.b.now in
    let none : (bound_var_escapes (tree a.value) || bound_var_escapes (tree b.value)) ≡ false =
    grind (arith, common_steps) in
    opens_none r.structurally_relate_aliases r.infcx.ghost_name r.cache.pairs.kept r.goals.items s r.ambient_variance r.param_env c.requires.lawful.1
    (grows_itself s c.requires.lawful.0.0) (tree a.value) (tree b.value)
    c.args.round tree ((s.meaning).bound_vars a.bound_vars) ((s.meaning).bound_vars b.bound_vars) c.requires.asked
    c.requires.decides (g.met.Infcx.InferCtxtLike.sound r.infcx.now c.requires.lawful.0.0) none
    (grind (arith, common_steps)) a.value b.value refl refl

pub enter_and_instantiate-requires-clause-entered_binds : goal.enter_and_instantiate-requires-clause-entered_binds
enter_and_instantiate-requires-clause-entered_binds g c =
    let s = g.Infcx.InferCtxtLike.state c.args.self.now.infcx.now in
    outermost_binds (binder_tree g.T.HasTree.tree s.meaning c.args.b.now) c.requires.asked.right_taken.1

pub enter_and_instantiate-requires-clause-instantiated_binds :
    goal.enter_and_instantiate-requires-clause-instantiated_binds
enter_and_instantiate-requires-clause-instantiated_binds g c =
    let s = g.Infcx.InferCtxtLike.state c.args.self.now.infcx.now in
    outermost_binds (binder_tree g.T.HasTree.tree s.meaning c.args.a.now) c.requires.asked.left_taken.1

pub enter_and_instantiate-requires-then-enters_first-clause-entered_binds :
    goal.enter_and_instantiate-requires-then-enters_first-clause-entered_binds
enter_and_instantiate-requires-then-enters_first-clause-entered_binds g c =
    let s = g.Infcx.InferCtxtLike.state c.args.self.now.infcx.now in
    outermost_binds (binder_tree g.T.HasTree.tree s.meaning c.args.a.now) c.requires.asked.left_taken.1

pub enter_and_instantiate-requires-then-enters_first-clause-instantiated_binds :
    goal.enter_and_instantiate-requires-then-enters_first-clause-instantiated_binds
enter_and_instantiate-requires-then-enters_first-clause-instantiated_binds g c =
    let s = g.Infcx.InferCtxtLike.state c.args.self.now.infcx.now in
    outermost_binds (binder_tree g.T.HasTree.tree s.meaning c.args.b.now) c.requires.asked.right_taken.1

pub returns-in_err-y-clause-opened : goal.returns-in_err-y-clause-opened
returns-in_err-y-clause-opened g c =
    let r = c.args.self.now in
    let s = g.Infcx.InferCtxtLike.state r.infcx.now in
    let d = g.Infcx.InferCtxtLike.state c.enter_and_instantiate.new.infcx in
    let done = c.in_err-y.ensures in
    let h = done.opens in
    opening_refused r.structurally_relate_aliases r.infcx.ghost_name r.cache.pairs.kept r.goals.items s d r.ambient_variance r.param_env c.requires.lawful.1
    (g.met.Infcx.InferCtxtLike.sound r.infcx.now c.requires.lawful.0.0) done.grows h.0 h.1 h.2
    (bound_by (binder_tree g.T.HasTree.tree s.meaning c.args.a.now)) h.3 c.args.round
    (binder_tree g.T.HasTree.tree s.meaning c.args.a.now) (binder_tree g.T.HasTree.tree s.meaning c.args.b.now)
    (g.T.HasTree.tree d.meaning) c.from_residual.result
    (as_err c.from_residual.result Memory c.from_residual.ensures.0 c.from_residual.ensures.1)
    (λ k ha hb. under_binds ((s.meaning).bound_vars c.args.a.now.bound_vars)
    (g.T.HasTree.tree s.meaning c.args.a.now.value) c.requires.asked.left_known k ha)

pub returns-then-enters_second-clause-opened : goal.returns-then-enters_second-clause-opened
returns-then-enters_second-clause-opened g c =
    let r = c.args.self.now in
    let s = g.Infcx.InferCtxtLike.state r.infcx.now in
    let d = g.Infcx.InferCtxtLike.state c.enter_and_instantiate.new.infcx in
    let tree = g.T.HasTree.tree in
    let a = c.args.a.now in
    let b = c.args.b.now in
    let some : (bound_var_escapes (tree s.meaning a.value) || bound_var_escapes (tree s.meaning b.value)) ≡ true =
    grind (arith, common_steps) in
    let done = c.in_ok-y.ensures in
    let at = c.enters_second.ensures.0 c.if-enters_second.true in
    opens_second r.structurally_relate_aliases r.infcx.ghost_name r.cache.pairs.kept r.goals.items s d r.ambient_variance r.param_env c.requires.lawful.1
    (g.met.Infcx.InferCtxtLike.sound r.infcx.now c.requires.lawful.0.0) done.grows c.args.round (tree s.meaning a.value)
    (tree s.meaning b.value) tree c.in_ok-y.x c.in_ok-y.y some ((s.meaning).bound_vars a.bound_vars)
    ((s.meaning).bound_vars b.bound_vars) c.requires.asked done.opens at.0 at.1

pub returns-in_err-x-clause-opened : goal.returns-in_err-x-clause-opened
returns-in_err-x-clause-opened g c =
    let r = c.args.self.now in
    let s = g.Infcx.InferCtxtLike.state r.infcx.now in
    let d = g.Infcx.InferCtxtLike.state c.enter_and_instantiate-then-enters_first.new.infcx in
    let done = c.in_err-x.ensures in
    let h = done.opens in
    let from = c.from_residual-in_err-x in
    opening_refused r.structurally_relate_aliases r.infcx.ghost_name r.cache.pairs.kept r.goals.items s d r.ambient_variance r.param_env c.requires.lawful.1
    (g.met.Infcx.InferCtxtLike.sound r.infcx.now c.requires.lawful.0.0) done.grows h.0 h.1 h.2
    (bound_by (binder_tree g.T.HasTree.tree s.meaning c.args.b.now)) h.3 c.args.round
    (binder_tree g.T.HasTree.tree s.meaning c.args.a.now) (binder_tree g.T.HasTree.tree s.meaning c.args.b.now)
    (g.T.HasTree.tree d.meaning) from.result (as_err from.result Memory from.ensures.0 from.ensures.1)
    (λ k ha hb. under_binds ((s.meaning).bound_vars c.args.b.now.bound_vars)
    (g.T.HasTree.tree s.meaning c.args.b.now.value) c.requires.asked.right_known k hb)

pub returns-then-enters_first-clause-opened : goal.returns-then-enters_first-clause-opened
returns-then-enters_first-clause-opened g c =
    let r = c.args.self.now in
    let s = g.Infcx.InferCtxtLike.state r.infcx.now in
    let d = g.Infcx.InferCtxtLike.state c.enter_and_instantiate-then-enters_first.new.infcx in
    let tree = g.T.HasTree.tree in
    let a = c.args.a.now in
    let b = c.args.b.now in
    let some : (bound_var_escapes (tree s.meaning a.value) || bound_var_escapes (tree s.meaning b.value)) ≡ true =
    grind (arith, common_steps) in
    let done = c.in_ok-x.ensures in
    opens_first r.structurally_relate_aliases r.infcx.ghost_name r.cache.pairs.kept r.goals.items s d r.ambient_variance r.param_env c.requires.lawful.1
    (g.met.Infcx.InferCtxtLike.sound r.infcx.now c.requires.lawful.0.0) done.grows c.args.round (tree s.meaning a.value)
    (tree s.meaning b.value) tree c.in_ok-x.x c.in_ok-x.y some ((s.meaning).bound_vars a.bound_vars)
    ((s.meaning).bound_vars b.bound_vars) c.requires.asked done.opens
    (c.enters_first.ensures.0 c.if-enters_first.true)

pub returns-clause-opened : goal.returns-clause-opened
returns-clause-opened g c =
    let r = c.args.self.now in
    let s = g.Infcx.InferCtxtLike.state r.infcx.now in
    let tree = g.T.HasTree.tree s.meaning in
    let a = c.args.a.now in
    let b = c.args.b.now in
    let last = opens_neither r.ambient_variance c.args.round c.requires.decides c.requires.round
    (λ h. false≢true (sym c.if-enters_second.false ∙ c.enters_second.ensures.1 h))
    (λ h. false≢true (sym c.if-enters_first.false ∙ c.enters_first.ensures.1 h)) in
    no_more r.structurally_relate_aliases r.infcx.ghost_name r.cache.pairs.kept r.goals.items s r.ambient_variance r.param_env c.requires.lawful.1
    (grows_itself s c.requires.lawful.0.0) (tree a.value) (tree b.value)
    c.args.round tree ((s.meaning).bound_vars a.bound_vars) ((s.meaning).bound_vars b.bound_vars) c.requires.asked
    last.0 (inl last.1)

pub returns-then-is_behind_last-clause-steps : goal.returns-then-is_behind_last-clause-steps
returns-then-is_behind_last-clause-steps g c =
    let r = c.args.self.now in
    let s = g.Infcx.InferCtxtLike.state r.infcx.now in
    let last = c.is_behind_last.ensures c.if-is_behind_last.true in
    none_left (omega (arith, last.0, c.requires.round)) (inl last.1) (leaves_itself (solving_through r.structurally_relate_aliases r.infcx.ghost_name r.cache.pairs.kept r.goals.items s r.ambient_variance r.param_env)) refl

pub returns-then-round-gt0-clause-steps : goal.returns-then-round-gt0-clause-steps
returns-then-round-gt0-clause-steps g c =
    let r = c.args.self.now in
    let s = g.Infcx.InferCtxtLike.state r.infcx.now in
    let tree = g.T.HasTree.tree in
    let a = c.args.a.now in
    let b = c.args.b.now in
    let none : (bound_var_escapes (tree s.meaning a.value) || bound_var_escapes (tree s.meaning b.value)) ≡ false =
    grind (arith, common_steps) in
    none_left (grind (arith, common_steps)) (inr none) (leaves_itself (solving_through r.structurally_relate_aliases r.infcx.ghost_name r.cache.pairs.kept r.goals.items s r.ambient_variance r.param_env)) refl

pub returns-then-not-one_uses-clause-steps : goal.returns-then-not-one_uses-clause-steps
returns-then-not-one_uses-clause-steps g c =
    let r = c.args.self.now in
    let s = g.Infcx.InferCtxtLike.state r.infcx.now in
    let tree = g.T.HasTree.tree in
    let a = c.args.a.now in
    let b = c.args.b.now in
    let none : (bound_var_escapes (tree s.meaning a.value) || bound_var_escapes (tree s.meaning b.value)) ≡ false =
    grind (arith, common_steps) in
    as_they_stand (grind (arith, common_steps)) none (leaves_itself (solving_through r.structurally_relate_aliases r.infcx.ghost_name r.cache.pairs.kept r.goals.items s r.ambient_variance r.param_env)) refl

pub returns-in_err-y-clause-steps : goal.returns-in_err-y-clause-steps
returns-in_err-y-clause-steps g c =
    let r = c.args.self.now in
    let s = g.Infcx.InferCtxtLike.state r.infcx.now in
    let tree = g.T.HasTree.tree in
    let a = c.args.a.now in
    let b = c.args.b.now in
    let some : (bound_var_escapes (tree s.meaning a.value) || bound_var_escapes (tree s.meaning b.value)) ≡ true =
    grind (arith, common_steps) in
    right_not_entered (c.enters_second.ensures.0 c.if-enters_second.true) some c.in_err-y.ensures.opens
    (as_err c.from_residual.result Memory c.from_residual.ensures.0 c.from_residual.ensures.1)

pub returns-then-enters_second-clause-steps : goal.returns-then-enters_second-clause-steps
returns-then-enters_second-clause-steps g c =
    let r = c.args.self.now in
    let s = g.Infcx.InferCtxtLike.state r.infcx.now in
    let tree = g.T.HasTree.tree in
    let a = c.args.a.now in
    let b = c.args.b.now in
    let some : (bound_var_escapes (tree s.meaning a.value) || bound_var_escapes (tree s.meaning b.value)) ≡ true =
    grind (arith, common_steps) in
    let d = g.Infcx.InferCtxtLike.state c.enter_and_instantiate.new.infcx in
    let h = c.in_ok-y.ensures.opens in
    right_entered c.in_ok-y.x c.in_ok-y.y (c.enters_second.ensures.0 c.if-enters_second.true) some (
      h.0,
      h.1,
      opens_seen s d ((s.meaning).bound_vars b.bound_vars) ((s.meaning).bound_vars a.bound_vars)
          (tree s.meaning b.value) (tree s.meaning a.value) (tree d.meaning c.in_ok-y.y) (tree d.meaning c.in_ok-y.x) h.2,
    ) refl

pub returns-in_err-x-clause-steps : goal.returns-in_err-x-clause-steps
returns-in_err-x-clause-steps g c =
    let r = c.args.self.now in
    let s = g.Infcx.InferCtxtLike.state r.infcx.now in
    let tree = g.T.HasTree.tree in
    let a = c.args.a.now in
    let b = c.args.b.now in
    let some : (bound_var_escapes (tree s.meaning a.value) || bound_var_escapes (tree s.meaning b.value)) ≡ true =
    grind (arith, common_steps) in
    let from = c.from_residual-in_err-x in
    left_not_entered (c.enters_first.ensures.0 c.if-enters_first.true) some c.in_err-x.ensures.opens
    (as_err from.result Memory from.ensures.0 from.ensures.1)

pub returns-then-enters_first-clause-steps : goal.returns-then-enters_first-clause-steps
returns-then-enters_first-clause-steps g c =
    let r = c.args.self.now in
    let s = g.Infcx.InferCtxtLike.state r.infcx.now in
    let tree = g.T.HasTree.tree in
    let a = c.args.a.now in
    let b = c.args.b.now in
    let some : (bound_var_escapes (tree s.meaning a.value) || bound_var_escapes (tree s.meaning b.value)) ≡ true =
    grind (arith, common_steps) in
    let d = g.Infcx.InferCtxtLike.state c.enter_and_instantiate-then-enters_first.new.infcx in
    let h = c.in_ok-x.ensures.opens in
    left_entered c.in_ok-x.x c.in_ok-x.y (c.enters_first.ensures.0 c.if-enters_first.true) some (
      h.0,
      h.1,
      opens_seen s d ((s.meaning).bound_vars a.bound_vars) ((s.meaning).bound_vars b.bound_vars)
          (tree s.meaning a.value) (tree s.meaning b.value) (tree d.meaning c.in_ok-x.x) (tree d.meaning c.in_ok-x.y) h.2,
    ) refl

pub returns-clause-steps : goal.returns-clause-steps
returns-clause-steps g c =
    let r = c.args.self.now in
    let s = g.Infcx.InferCtxtLike.state r.infcx.now in
    let tree = g.T.HasTree.tree in
    let a = c.args.a.now in
    let b = c.args.b.now in
    let last = opens_neither r.ambient_variance c.args.round c.requires.decides c.requires.round
    (λ h. false≢true (sym c.if-enters_second.false ∙ c.enters_second.ensures.1 h))
    (λ h. false≢true (sym c.if-enters_first.false ∙ c.enters_first.ensures.1 h)) in
    none_left last.0 (inl last.1) (leaves_itself (solving_through r.structurally_relate_aliases r.infcx.ghost_name r.cache.pairs.kept r.goals.items s r.ambient_variance r.param_env)) refl

pub returns-in_err-y-clause-registers_nothing : goal.returns-in_err-y-clause-registers_nothing
returns-in_err-y-clause-registers_nothing g c =
    goals_stay c.in_err-y.ensures.grows.extends c.args.self.now.goals.items c.requires.lawful.1.1

pub returns-then-enters_second-clause-registers_nothing : goal.returns-then-enters_second-clause-registers_nothing
returns-then-enters_second-clause-registers_nothing g c =
    goals_stay c.in_ok-y.ensures.grows.extends c.args.self.now.goals.items c.requires.lawful.1.1

pub returns-in_err-x-clause-registers_nothing : goal.returns-in_err-x-clause-registers_nothing
returns-in_err-x-clause-registers_nothing g c =
    goals_stay c.in_err-x.ensures.grows.extends c.args.self.now.goals.items c.requires.lawful.1.1

pub returns-then-enters_first-clause-registers_nothing : goal.returns-then-enters_first-clause-registers_nothing
returns-then-enters_first-clause-registers_nothing g c =
    goals_stay c.in_ok-x.ensures.grows.extends c.args.self.now.goals.items c.requires.lawful.1.1
