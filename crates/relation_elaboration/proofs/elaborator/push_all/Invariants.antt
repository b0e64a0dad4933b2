use Rattle.std.proofs.Common.{◌≡◌, ◌++◌, map, Ok}
use Rattle.elaboration_worklist.specs.Kept.{Pushed}
use Rattle.relation_elaboration.proofs.elaborator.push_all.Given as goal

-- The first predicates were pushed, and the others are still to come.
abbrev pub invariant-loop-obligation : goal.invariant-loop-obligation
invariant-loop-obligation g l =
    let m = g.I.Interner.meaning l.fn.cx in
    Pushed g.O.HasTree.tree {T = Unit {0}} m (g.I.Interner.meaning l.cx) (map (g.O.HasTree.tree m) l.yielded)
    l.fn.list l.list (Ok tt) × (l.yielded ++ l.obligation-iterator.rest.items ≡ l.fn.obligations.items)
