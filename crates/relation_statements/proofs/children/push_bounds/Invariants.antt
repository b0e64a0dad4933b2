use Rattle.std.proofs.Common.{take, Ok, false}
use Rattle.relation_terms.specs.Owned.{bound_tree}
use Rattle.relation_statements.specs.Children.{children, effect_of, mode_of}
use Rattle.relation_statements.specs.Statements.{statements}
use Rattle.elaboration_worklist.specs.Kept.{Pushed}
use Rattle.relation_statements.proofs.children.push_bounds.Given as goal

-- The first const bounds were pushed.
abbrev pub invariant-loop-index : goal.invariant-loop-index
invariant-loop-index g l =
    let m = g.I.Interner.meaning l.fn.cx in
    Pushed g.O.HasTree.tree {T = Unit {0}} m (g.I.Interner.meaning l.cx)
    (take l.index (children (statements m) (mode_of false false) (effect_of l.fn.constness
    (bound_tree m l.fn.trait_ref))))
    l.fn.list l.list (Ok tt)
