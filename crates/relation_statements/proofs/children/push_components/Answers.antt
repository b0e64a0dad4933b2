use Rattle.std.proofs.Common.{◌+◌, ◌∷◌, [], refl, sym, subst, take, Ok, IsSome}
use Rattle.std.specs.List.{filter_map}
use Rattle.relation_terms.proofs.Stays.{stays_same, knows_region}
use Rattle.outlives_assumptions.specs.Assuming.{IsKnownComponent}
use Rattle.outlives_assumptions.proofs.Assumptions.{all_at, filter_next, knows_component}
use Rattle.relation_statements.specs.Statements.{component_implied}
use Rattle.elaboration_worklist.specs.Kept.{Pushed}
use Rattle.relation_statements.proofs.Making.{stays_implied, first_give}
use Rattle.elaboration_worklist.proofs.Worklists.{pushed_start, pushed_then, pushed_stopped}
use Rattle.relation_statements.proofs.children.push_components.Goals as goal

pub loop-component-init : goal.loop-component-init
loop-component-init g c =
    let m = g.I.Interner.meaning c.args.cx.now in
    pushed_start g.O.HasTree.tree g.O.HasTree.stays m (stays_same m) c.args.list.now tt c.requires.kept

pub push_component-requires-clause-component : goal.push_component-requires-clause-component
push_component-requires-clause-component g c =
    let m = g.I.Interner.meaning c.args.cx.now in
    let x = c.component-item.result in
    knows_component c.loop-component.invariant.grown x
    (all_at (IsKnownComponent m) c.args.components.now c.loop-component.component-index x c.requires.components
    c.loop-component-test.true c.component-item.is)

pub push_component-requires-clause-region : goal.push_component-requires-clause-region
push_component-requires-clause-region g c =
    knows_region c.loop-component.invariant.grown c.args.region.now c.requires.region

pub push_component-requires-clause-bound_vars : goal.push_component-requires-clause-bound_vars
push_component-requires-clause-bound_vars g c =
    subst IsSome (sym (c.loop-component.invariant.grown.bound_vars c.args.bound_vars.now c.requires.bound_vars))
    c.requires.bound_vars

pub returns-in-Err : goal.returns-in-Err
returns-in-Err g c =
    let m = g.I.Interner.meaning c.args.cx.now in
    let n = g.I.Interner.meaning c.loop-component.cx in
    let o = g.I.Interner.meaning c.push_component.new.cx in
    let e = c.loop-component.invariant.grown in
    let b = c.args.bound_vars.now in
    let r = c.args.region.now in
    let x = c.component-item.result in
    let i = c.loop-component.component-index in
    let cs = c.args.components.now in
    let f = component_implied m b r in
    let w = c.args.list.now in
    let v = c.loop-component.list in
    let u = c.push_component.new.list in
    let k = all_at (IsKnownComponent m) cs i x c.requires.components c.loop-component-test.true c.component-item.is in
    let ps = filter_map f (take i cs) in
    let qs = filter_map (component_implied n b r) (x ∷ []) in
    let all = filter_map f (take (i + 1) cs) in
    let next = filter_next f cs i x qs c.loop-component-test.true c.component-item.is
    (stays_implied e b r x c.requires.bound_vars c.requires.region k) in
    pushed_stopped g.O.HasTree.tree g.O.HasTree.stays m o all (filter_map f cs) w u c.in-Err.fault c.in-Err.fault
    c.push_component.result c.in-Err.is refl (first_give f (i + 1) cs)
    (subst (λ z. Pushed g.O.HasTree.tree m o z w u c.push_component.result) next
    (pushed_then g.O.HasTree.tree g.O.HasTree.stays {m = m} {n = n} {o = n} {p = o} ps qs w v u tt
    c.push_component.result
    c.loop-component.invariant (stays_same n) c.push_component.ensures))

pub loop-component-preserved : goal.loop-component-preserved
loop-component-preserved g c =
    let m = g.I.Interner.meaning c.args.cx.now in
    let n = g.I.Interner.meaning c.loop-component.cx in
    let o = g.I.Interner.meaning c.push_component.new.cx in
    let e = c.loop-component.invariant.grown in
    let b = c.args.bound_vars.now in
    let r = c.args.region.now in
    let x = c.component-item.result in
    let i = c.loop-component.component-index in
    let cs = c.args.components.now in
    let f = component_implied m b r in
    let w = c.args.list.now in
    let v = c.loop-component.list in
    let u = c.push_component.new.list in
    let k = all_at (IsKnownComponent m) cs i x c.requires.components c.loop-component-test.true c.component-item.is in
    let ps = filter_map f (take i cs) in
    let qs = filter_map (component_implied n b r) (x ∷ []) in
    let next = filter_next f cs i x qs c.loop-component-test.true c.component-item.is
    (stays_implied e b r x c.requires.bound_vars c.requires.region k) in
    subst (λ z. Pushed g.O.HasTree.tree m o z w u (Ok tt)) next
    (pushed_then g.O.HasTree.tree g.O.HasTree.stays {m = m} {n = n} {o = n} {p = o} ps qs w v u tt (Ok tt)
    c.loop-component.invariant (stays_same n)
    (subst (λ z. Pushed g.O.HasTree.tree n o qs v u z) c.in-Ok.is c.push_component.ensures))
