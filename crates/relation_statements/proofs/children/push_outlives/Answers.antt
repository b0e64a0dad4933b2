use Rattle.std.proofs.Common.{◌∙◌, sym, subst, false}
use Rattle.std.specs.List.{All, filter_map}
use Rattle.relation_terms.proofs.Stays.{stays_same}
use Rattle.outlives_assumptions.specs.Assuming.{IsKnownComponent}
use Rattle.relation_statements.specs.Children.{children, mode_of}
use Rattle.relation_statements.specs.Statements.{statements, component_implied, type_outlives_tree}
use Rattle.elaboration_worklist.specs.Kept.{Pushed}
use Rattle.relation_statements.proofs.Making.{bound_nothing, outlives_same, parts_known}
use Rattle.elaboration_worklist.proofs.Worklists.{pushed_empty, pushed_as}
use Rattle.relation_statements.proofs.children.push_outlives.Goals as goal

pub returns-then-is_bound : goal.returns-then-is_bound
returns-then-is_bound g c =
    let m = g.I.Interner.meaning c.args.cx.now in
    let mode = mode_of false false in
    let b = c.args.bound_vars.now in
    let p = c.args.outlives.now in
    pushed_empty g.O.HasTree.tree g.O.HasTree.stays m (stays_same m)
    (children (statements m) mode (type_outlives_tree m b p)) c.args.list.now tt
    (bound_nothing m (g.met.I.Interner.sorted c.args.cx.now) mode (statements m) b p
    (sym c.is_bound.ensures ∙ c.if-is_bound.true)) c.requires.kept

pub push_components-requires-clause-components : goal.push_components-requires-clause-components
push_components-requires-clause-components g c =
    let m = g.I.Interner.meaning c.args.cx.now in
    subst (All (IsKnownComponent m)) (sym c.deref.ensures.value)
    (parts_known m (m.ty (c.args.outlives.now).0) c.in_ok-components.components.items c.requires.ty
    c.in_ok-components.ensures.some)

pub returns : goal.returns
returns g c =
    let m = g.I.Interner.meaning c.args.cx.now in
    let n = g.I.Interner.meaning c.push_components.new.cx in
    let mode = mode_of false false in
    let b = c.args.bound_vars.now in
    let p = c.args.outlives.now in
    let list = c.in_ok-components.components.items in
    let f = component_implied m b p.1 in
    let cs = children (statements m) mode (type_outlives_tree m b p) in
    let same = outlives_same m (g.met.I.Interner.sorted c.args.cx.now) mode (statements m) b p list
    c.requires.bound_vars
    c.requires.ty (sym c.is_bound.ensures ∙ c.if-is_bound.false) c.in_ok-components.ensures.some
    c.in_ok-components.ensures.all in
    pushed_as g.O.HasTree.tree g.O.HasTree.stays m n (filter_map f list) cs c.args.list.now c.push_components.new.list
    c.push_components.result (λ t k. (same t).0 k) (λ t k. (same t).1 k)
    (subst (λ z. Pushed g.O.HasTree.tree m n (filter_map f z) c.args.list.now c.push_components.new.list
    c.push_components.result) c.deref.ensures.value c.push_components.ensures)
