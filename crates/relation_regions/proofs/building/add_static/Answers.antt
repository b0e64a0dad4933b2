-- The edge to one more node.
use Rattle.std.proofs.Common.{refl, arith, ◌≡◌, ◌∙◌, length, subst}
use Rattle.relation_regions.specs.Building.{AddsStatic}
use Rattle.relation_regions.proofs.EdgesAdded.{no_static, extends_more, static_more}
use Rattle.relation_regions.proofs.building.add_static.Goals as goal

pub loop-node-init : goal.loop-node-init
loop-node-init c = no_static c.args.graph.now c.requires.graph

pub add-requires-clause-graph : goal.add-requires-clause-graph
add-requires-clause-graph c = c.loop-node.invariant.extends.graph

pub loop-node-preserved : goal.loop-node-preserved
loop-node-preserved c =
    let i = c.loop-node.node in
    let h = c.loop-node.invariant.extends in
    let after = c.in_ok-add.ensures in
    record {
      extends = extends_more c.args.graph.now c.loop-node.graph c.add.new.self i 0 i h after.graph after.nodes
          after.added_from after.added_to;
      has = static_more c.args.graph.now c.loop-node.graph c.add.new.self i 0 i h after.graph after.nodes
          after.added_from after.added_to c.loop-node.invariant.has refl refl;
    }

pub returns : goal.returns
returns c =
    let e : c.loop-node.node ≡ length c.args.graph.now.latest.items =
    omega (arith, c.len-node-end.ensures ∙ c.args.graph.now.latest.ok.0) in
    subst (λ n. AddsStatic c.args.graph.now n c.loop-node.graph) e c.loop-node.invariant
