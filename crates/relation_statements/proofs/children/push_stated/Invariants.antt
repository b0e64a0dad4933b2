use Rattle.std.proofs.Common.{take, Ok}
use Rattle.relation_terms.specs.Clauses.{trait_clause_tree}
use Rattle.relation_statements.specs.Children.{children, mode_of}
use Rattle.relation_statements.specs.Statements.{statements}
use Rattle.elaboration_worklist.specs.Kept.{Pushed}
use Rattle.relation_statements.proofs.children.push_stated.Given as goal

-- The first of what the trait states were pushed.
abbrev pub invariant-loop-index : goal.invariant-loop-index
invariant-loop-index g l =
    let m = g.I.Interner.meaning l.fn.cx in
    Pushed g.O.HasTree.tree {T = Unit {0}} m (g.I.Interner.meaning l.cx)
    (take l.index (children (statements m) (mode_of l.fn.mode.0 l.fn.mode.1) (trait_clause_tree m l.fn.parent)))
    l.fn.list l.list (Ok tt)
