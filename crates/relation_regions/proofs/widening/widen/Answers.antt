-- Whether the next node has an edge.
use Rattle.std.proofs.Common.{◌∙◌, sym, subst, ◌+◌}
use Rattle.relation_regions.specs.declared.graph.Graph.{Graph}
use Rattle.relation_regions.specs.Widening.{IsWidened}
use Rattle.relation_regions.proofs.Widened.{widened_none, widened_more, widened_same}
use Rattle.relation_regions.proofs.widening.widen.Goals as goal
use Rattle.relation_regions.proofs.widening.widen.Goals.{then-is_some+in_ok-add, else-is_some}

pub loop-node-init : goal.loop-node-init
loop-node-init c = widened_none c.args.graph.now c.args.reasons.now c.requires.graph

pub loop-node-preserved : goal.loop-node-preserved
loop-node-preserved c =
    let P : Graph → Type 0 = λ g. IsWidened c.args.graph.now c.args.reasons.now (c.loop-node.node + 1) g in
    elim c.if-is_some.branch [
      | then-is_some+in_ok-add w ↦ subst P (sym w.graph-is) (widened_more c.args.graph.now c.args.reasons.now
          c.loop-node.node c.loop-node.graph w.add.new.self c.loop-node.invariant w.in_ok-add.ensures.graph
          w.in_ok-add.ensures.nodes w.in_ok-add.ensures.added_from w.in_ok-add.ensures.added_to
          (sym c.is_some.ensures ∙ w.if-is_some.true))
      | else-is_some w ↦ subst P (sym w.graph-is) (widened_same c.args.graph.now c.args.reasons.now c.loop-node.node
          c.loop-node.graph c.loop-node.invariant (sym c.is_some.ensures ∙ w.if-is_some.false))
    ]
