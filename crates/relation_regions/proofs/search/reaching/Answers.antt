-- Once each found node is done, all are found from which the target is reached.
use Rattle.std.proofs.Common.{arith, ◌<◌, length}
use Rattle.relation_regions.proofs.Paths.{closed_finds_all}
use Rattle.relation_regions.proofs.Searching.{done_more}
use Rattle.relation_regions.proofs.search.reaching.Goals as goal

pub loop-done-preserved : goal.loop-done-preserved
loop-done-preserved c =
    let l = c.loop-done in
    let after = c.in_ok-find_predecessors.ensures in
    let lt : l.done < length l.found.nodes.items = omega arith in
    record {
      search = after.search;
      within = omega (arith, lt, after.keeps.longer);
      closed = done_more c.args.graph.now c.requires.graph l.found c.find_predecessors.new.self l.done
          lt l.invariant.closed after.keeps after.found;
    }

pub returns-clause-finds_all : goal.returns-clause-finds_all
returns-clause-finds_all c = closed_finds_all c.args.graph.now c.args.target c.loop-done.found
    c.loop-done.invariant.search (λ k q. c.loop-done.invariant.closed k (omega arith))
