-- What is decided of the built graphs is so of the pairs.
use Rattle.std.proofs.Common.{◌∙◌, length, arith}
use Rattle.relation_regions.proofs.EdgesAdded.{built_alike}
use Rattle.relation_regions.proofs.Demanded.{met_answer, unmet_answer}
use Rattle.relation_regions.proofs.numbered.solve_beside.Goals as goal

pub decide-requires-clause-known : goal.decide-requires-clause-known
decide-requires-clause-known c = c.requires.alone.built.graph

pub decide-requires-clause-graph : goal.decide-requires-clause-graph
decide-requires-clause-graph c = c.in_ok-graph.ensures.graph

pub decide-requires-clause-copy : goal.decide-requires-clause-copy
decide-requires-clause-copy c = c.in_ok-wide.ensures.graph

pub decide-requires-clause-same : goal.decide-requires-clause-same
decide-requires-clause-same c = built_alike (length c.args.standings.now) c.args.asked.now c.args.known.now
    c.in_ok-graph.graph c.in_ok-wide.wide c.in_ok-graph.ensures c.in_ok-wide.ensures

pub decide-requires-clause-known_nodes : goal.decide-requires-clause-known_nodes
decide-requires-clause-known_nodes c = c.requires.alone.built.nodes_are

pub decide-requires-clause-nodes : goal.decide-requires-clause-nodes
decide-requires-clause-nodes c = c.in_ok-graph.ensures.nodes_are

pub decide-requires-clause-asked : goal.decide-requires-clause-asked
decide-requires-clause-asked c =
    omega (arith, c.in_ok-graph.ensures.count, c.len.ensures ∙ c.args.asked.now.shorter.ok.0)

pub returns-clause-met : goal.returns-clause-met
returns-clause-met c =
    let alone = c.requires.alone in
    met_answer c.args.standings.now c.args.asked.now c.args.known.now alone.none c.in_ok-graph.graph
    c.args.alone.now alone.empty c.in_ok-graph.ensures alone.built c.decide.result c.len.result
    (c.len.ensures ∙ c.args.asked.now.shorter.ok.0) c.decide.ensures

pub returns-clause-unmet : goal.returns-clause-unmet
returns-clause-unmet c =
    let alone = c.requires.alone in
    unmet_answer c.args.standings.now c.args.asked.now c.args.known.now alone.none c.in_ok-graph.graph
    c.args.alone.now alone.empty c.in_ok-graph.ensures alone.built c.decide.result c.len.result
    (c.len.ensures ∙ c.args.asked.now.shorter.ok.0) c.decide.ensures
