-- An edge is forced by itself, or by what makes its node reach its reason.
use Rattle.std.proofs.Common.{arith, ◌<◌, ◌≤◌, ◌∙◌, length}
use Rattle.std.proofs.lemmas.Result.{on_ok_weaker}
use Rattle.relation_regions.specs.Standings.{Among}
use Rattle.relation_regions.proofs.Forcing.{own_edge}
use Rattle.relation_regions.proofs.Deciding.{edge_node, reason_is, static_case}
use Rattle.relation_regions.proofs.unsatisfiable.add_causes.Goals as goal

pub bounds-reasons-node : goal.bounds-reasons-node
bounds-reasons-node c =
    let p = edge_node c.args.graph.now c.args.wide.now c.args.standings.now c.args.reasons.now
    (length c.args.reasons.now) c.requires.wide c.args.edge c.index-node.result.now c.requires.edge c.index-node.ensures
    c.requires.nodes in
    omega (arith, p.1, c.requires.reasons.one_each)

pub add_path-requires-clause-node : goal.add_path-requires-clause-node
add_path-requires-clause-node c =
    let p = edge_node c.args.graph.now c.args.wide.now c.args.standings.now c.args.reasons.now
    (length c.args.reasons.now) c.requires.wide c.args.edge c.index-node.result.now c.requires.edge c.index-node.ensures
    c.requires.nodes in
    omega (arith, p.1, c.requires.nodes)

pub add_path-requires-clause-reached : goal.add_path-requires-clause-reached
add_path-requires-clause-reached c =
    let le : length c.args.graph.now.to.items ≤ c.args.edge =
    omega (arith, c.len.ensures ∙ c.args.graph.now.to.ok.0, c.if-edge-len.false) in
    let e = reason_is c.args.graph.now c.args.wide.now c.args.asked c.args.standings.now c.args.reasons.now
    (length c.args.reasons.now) c.requires.wide c.requires.reasons c.args.edge c.index-node.result.now
    c.unwrap_or-reason.result le c.requires.edge c.index-node.ensures c.requires.nodes
    c.unwrap_or-reason.ensures in
    omega (arith, c.requires.reasons.in_graph c.index-node.result.now c.unwrap_or-reason.result e, c.requires.nodes)

pub add_path-requires-clause-reaches : goal.add_path-requires-clause-reaches
add_path-requires-clause-reaches c =
    let le : length c.args.graph.now.to.items ≤ c.args.edge =
    omega (arith, c.len.ensures ∙ c.args.graph.now.to.ok.0, c.if-edge-len.false) in
    c.requires.reasons.reaches c.index-node.result.now c.unwrap_or-reason.result
    (reason_is c.args.graph.now c.args.wide.now c.args.asked c.args.standings.now c.args.reasons.now
    (length c.args.reasons.now) c.requires.wide c.requires.reasons c.args.edge c.index-node.result.now
    c.unwrap_or-reason.result le c.requires.edge c.index-node.ensures c.requires.nodes
    c.unwrap_or-reason.ensures)

pub returns-then-edge-len-clause-forced : goal.returns-then-edge-len-clause-forced
returns-then-edge-len-clause-forced c =
    let lt : c.args.edge < length c.args.graph.now.to.items =
    omega (arith, c.len.ensures ∙ c.args.graph.now.to.ok.0, c.if-edge-len.true) in
    on_ok_weaker c.add_edge.result (own_edge c.args.graph.now c.args.wide.now c.args.asked c.args.standings.now
    c.args.reasons.now (length c.args.reasons.now) c.requires.wide c.requires.reasons (Among c.add_edge.new.by.items)
    c.args.edge lt) c.add_edge.ensures.has

pub returns-clause-forced : goal.returns-clause-forced
returns-clause-forced c =
    let le : length c.args.graph.now.to.items ≤ c.args.edge =
    omega (arith, c.len.ensures ∙ c.args.graph.now.to.ok.0, c.if-edge-len.false) in
    on_ok_weaker c.add_path.result (static_case c.args.graph.now c.args.wide.now c.args.asked c.args.standings.now
    c.args.reasons.now (length c.args.reasons.now) c.requires.wide c.requires.reasons c.args.edge
    c.index-node.result.now c.unwrap_or-reason.result le c.requires.edge c.index-node.ensures
    c.requires.nodes c.unwrap_or-reason.ensures c.add_path.new.by.items) c.add_path.ensures.has
