-- The latest edge to the node, and behind each edge the one before it.
use Rattle.std.proofs.Common.{arith, ◌∙◌, ◌≡◌, ◌<◌, ◌-◌, length, get_or}
use Rattle.std.proofs.lemmas.Grind.{get_or_default_zero}
use Rattle.relation_regions.proofs.Searching.{latest_first, latest_next, predecessors_more, keeps_itself, keeps_on}
use Rattle.relation_regions.proofs.search.Search.find_predecessors.Goals as goal

pub loop-left-init : goal.loop-left-init
loop-left-init c =
    let g = c.args.graph.now in
    let s = c.args.self.now in
    let node = c.index-node.result.now in
    let left = c.index-left.result.now in
    let at : node ≡ get_or s.nodes.items c.args.place 0 =
    c.index-node.ensures ∙ get_or_default_zero s.nodes.items c.args.place node c.requires.place in
    let lt : node < length g.latest.items = omega (arith, at, c.requires.search.in_graph c.args.place c.requires.place) in
    let p = latest_first g c.requires.graph s node left lt
    (c.index-left.ensures ∙ get_or_default_zero g.latest.items node left lt) in
    record { search = c.requires.search; keeps = keeps_itself s; latest = p.0; within = p.1; found = p.2 }

pub loop-left-preserved : goal.loop-left-preserved
loop-left-preserved c =
    let g = c.args.graph.now in
    let l = c.loop-left in
    let next = c.index-left-in-loop-left.result.now in
    let lt : l.left - 1 < length g.earlier.items =
    omega (arith, l.invariant.within, c.loop-left-test.true, c.requires.graph.each_earlier) in
    let next_is = c.index-left-in-loop-left.ensures ∙ get_or_default_zero g.earlier.items (l.left - 1) next lt in
    let leads = l.invariant.latest.leads c.loop-left-test.true in
    let p = latest_next g c.requires.graph c.index-node.result.now l.left next c.loop-left-test.true l.invariant.within
    leads next_is in
    record {
      search = c.in_ok-find.ensures.search;
      keeps = keeps_on c.args.self.now l.self c.find.new.self l.invariant.keeps c.in_ok-find.ensures.keeps;
      latest = p.0;
      within = omega (arith, p.1, l.invariant.within);
      found = predecessors_more g c.requires.graph l.self c.find.new.self c.index-node.result.now l.left next
          c.loop-left-test.true l.invariant.within leads next_is l.invariant.found c.in_ok-find.ensures.keeps
          c.in_ok-find.ensures.found;
    }
