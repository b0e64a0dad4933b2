use Rattle.std.proofs.Common.{◌+◌, ◌*◌}
use Rattle.relation_terms.specs.Trees.{size}
use Rattle.relation_terms.specs.Parts.{part_tree, parts_tree}
use Rattle.relation_terms.specs.Orders.{in_order, list_order}
use Rattle.relation_folds.specs.Visits.{Flow, Walks}
use Rattle.relation_folds.proofs.Visiting.{rest}
use Rattle.relation_folds.proofs.visit.walk.+walk.Given as goal

abbrev pub decreases-visit_part : goal.decreases-visit_part
decreases-visit_part g l = 2 * size (part_tree (g.I.Interner.meaning l.cx.now) l.part.now) + 1

abbrev pub decreases-visit_list : goal.decreases-visit_list
decreases-visit_list g l = 2 * size (parts_tree (g.I.Interner.meaning l.cx.now) l.parts.now)

-- What goes over the rest of a list from here goes over the whole from its beginning.
abbrev pub invariant-visit_list-loop-step : goal.invariant-visit_list-loop-step
invariant-visit_list-loop-step g l =
    (w : _) (r : Flow) →
    Walks (g.V.TypeVisitor.visits l.cx) l.depth l.visitor
    (rest l.step (in_order (list_order l.parts) (parts_tree (g.I.Interner.meaning l.cx) l.parts))) w r →
    Walks (g.V.TypeVisitor.visits l.cx) l.depth l.fn.visitor
    (in_order (list_order l.parts) (parts_tree (g.I.Interner.meaning l.cx) l.parts)) w r
