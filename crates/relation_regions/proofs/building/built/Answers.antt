-- What is added to a graph of so many nodes.
use Rattle.std.proofs.Common.{sym, subst}
use Rattle.relation_regions.specs.Building.{ArePairs, IsBuilt}
use Rattle.relation_regions.proofs.building.built.Goals as goal

pub add_all-requires-clause-empty : goal.add_all-requires-clause-empty
add_all-requires-clause-empty c = c.in_ok-graph.ensures.empty.1

pub add_all-requires-clause-asked : goal.add_all-requires-clause-asked
add_all-requires-clause-asked c =
    subst (λ n. ArePairs n c.args.asked.now) (sym c.in_ok-graph.ensures.nodes) c.requires.asked

pub add_all-requires-clause-known : goal.add_all-requires-clause-known
add_all-requires-clause-known c =
    subst (λ n. ArePairs n c.args.known.now) (sym c.in_ok-graph.ensures.nodes) c.requires.known

pub returns : goal.returns
returns c = subst (λ n. IsBuilt n c.args.asked.now c.args.known.now c.add_all.new.graph) c.in_ok-graph.ensures.nodes
    c.in_ok-add_all.ensures
