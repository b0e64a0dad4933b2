-- The way is followed from the node's place to the first.
use Rattle.std.proofs.Common.{arith}
use Rattle.relation_regions.proofs.Paths.{path_start, path_next, path_end}
use Rattle.relation_regions.proofs.search.Search.path.Goals as goal

pub loop-place-init : goal.loop-place-init
loop-place-init c =
    let p = path_start c.args.graph.now c.args.target c.args.self.now c.args.node c.unwrap_or-place.result
    c.index.result.now c.new-path.result.items c.requires.search (omega (arith, c.requires.search.all_nodes)) c.requires.found c.index.ensures
    c.unwrap_or-place.ensures c.new-path.ensures.items in
    record { within = p.0; leads = p.1 }

pub loop-place-preserved : goal.loop-place-preserved
loop-place-preserved c =
    let p = path_next c.args.graph.now c.args.target c.args.self.now c.args.node c.loop-place.place
    c.index-in-loop-place.result.now c.index-place.result.now c.loop-place.path.items c.push.new.self.items
    c.requires.search c.loop-place-test.true c.loop-place.invariant.within c.index-in-loop-place.ensures
    c.index-place.ensures c.in_ok-push.ensures.items c.loop-place.invariant.leads in
    record { within = p.0; leads = p.1 }

pub returns : goal.returns
returns c = path_end c.args.graph.now c.args.target c.args.self.now c.args.node c.loop-place.place
    c.loop-place.path.items c.requires.search c.loop-place-test.false c.loop-place.invariant.leads
