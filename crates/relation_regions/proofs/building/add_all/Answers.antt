-- The three added one after another.
use Rattle.std.proofs.Common.{ap, sym, subst, refl, length, List, ℕ}
use Rattle.std.proofs.lemmas.Result.{on_ok_weaker}
use Rattle.relation_regions.specs.Building.{ArePairs}
use Rattle.relation_regions.proofs.EdgesAdded.{built_of}
use Rattle.relation_regions.proofs.building.add_all.Goals as goal

pub add_pairs-requires-2-clause-graph : goal.add_pairs-requires-2-clause-graph
add_pairs-requires-2-clause-graph c = c.in_ok-add_pairs.ensures.extends.graph

pub add_pairs-requires-2-clause-pairs : goal.add_pairs-requires-2-clause-pairs
add_pairs-requires-2-clause-pairs c =
    subst (λ n. ArePairs n c.args.known.now) (sym c.in_ok-add_pairs.ensures.extends.nodes) c.requires.known

pub add_static-requires : goal.add_static-requires
add_static-requires c = record { graph = c.in_ok-add_pairs-2.ensures.extends.graph }

pub returns : goal.returns
returns c = on_ok_weaker c.add_static.result
    (built_of (length c.args.graph.now.latest.items) c.args.asked.now c.args.known.now c.args.graph.now
    c.add_pairs.new.graph c.add_pairs-2.new.graph c.add_static.new.graph
    (ap (λ (l : List ℕ). length l) c.requires.empty) refl c.in_ok-add_pairs.ensures c.in_ok-add_pairs-2.ensures)
    c.add_static.ensures
