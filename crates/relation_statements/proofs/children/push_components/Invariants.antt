use Rattle.std.proofs.Common.{take, Ok}
use Rattle.std.specs.List.{filter_map}
use Rattle.relation_statements.specs.Statements.{component_implied}
use Rattle.elaboration_worklist.specs.Kept.{Pushed}
use Rattle.relation_statements.proofs.children.push_components.Given as goal

-- What follows for the first components was pushed.
abbrev pub invariant-loop-component : goal.invariant-loop-component
invariant-loop-component g l =
    let m = g.I.Interner.meaning l.fn.cx in
    Pushed g.O.HasTree.tree {T = Unit {0}} m (g.I.Interner.meaning l.cx)
    (filter_map (component_implied m l.fn.bound_vars l.fn.region) (take l.component-index l.fn.components))
    l.fn.list l.list (Ok tt)
