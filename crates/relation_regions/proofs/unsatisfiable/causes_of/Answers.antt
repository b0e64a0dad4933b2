-- Each edge of the path is forced, and so is what the path says.
use borrow.Author.Count.{below_more}
use Rattle.std.proofs.Common.{arith, get_or, ◌<◌, length}
use Rattle.relation_regions.specs.Standings.{Among}
use Rattle.relation_regions.specs.Deciding.{EdgeIsForced}
use Rattle.relation_regions.proofs.Forcing.{path_in, forced_more, wide_path_forced}
use Rattle.relation_regions.proofs.unsatisfiable.causes_of.Goals as goal

pub add_causes-requires-clause-edge : goal.add_causes-requires-clause-edge
add_causes-requires-clause-edge c =
    let lt : c.loop-edge.edge-index < length c.args.path.now = omega arith in
    path_in c.args.wide.now.from.items c.args.wide.now.to.items c.args.path.now c.args.longer c.args.shorter
    c.requires.path c.loop-edge.edge-index lt

pub loop-edge-preserved : goal.loop-edge-preserved
loop-edge-preserved c =
    let g = c.args.graph.now in
    let w = c.args.wide.now in
    let old = c.loop-edge.by.items in
    let new = c.add_causes.new.by.items in
    record {
      asked_for = c.in_ok-add_causes.ensures.adds.asked_for c.loop-edge.invariant.asked_for;
      forced = below_more
          (λ k. EdgeIsForced g w c.args.asked c.args.standings.now (Among new) (get_or c.args.path.now k 0))
          c.loop-edge.edge-index
          (λ k q. forced_more g.from.items g.to.items c.args.asked c.args.standings.now (Among old) (Among new)
          c.in_ok-add_causes.ensures.adds.kept (get_or w.from.items (get_or c.args.path.now k 0) 0)
          (get_or w.to.items (get_or c.args.path.now k 0) 0) (c.loop-edge.invariant.forced k q))
          c.in_ok-add_causes.ensures.forced;
    }

pub returns-clause-forced : goal.returns-clause-forced
returns-clause-forced c = wide_path_forced c.args.graph.now c.args.wide.now c.args.asked c.args.standings.now
    (Among c.loop-edge.by.items) c.args.path.now c.args.longer c.args.shorter
    (λ k lt. c.loop-edge.invariant.forced k (omega (arith, lt))) c.requires.path
