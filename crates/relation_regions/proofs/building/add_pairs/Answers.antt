-- One more pair.
use Rattle.std.proofs.Common.{arith, ◌∙◌, ◌<◌, length}
use Rattle.std.proofs.lemmas.Grind.{get_or_default_zero}
use Rattle.relation_regions.proofs.EdgesAdded.{no_pairs, extends_more, pairs_more}
use Rattle.relation_regions.proofs.building.add_pairs.Goals as goal

pub loop-pair-init : goal.loop-pair-init
loop-pair-init c = no_pairs c.args.graph.now c.args.pairs.now c.requires.graph

pub loop-pair-preserved : goal.loop-pair-preserved
loop-pair-preserved c =
    let p = c.args.pairs.now in
    let i = c.loop-pair.pair in
    let h = c.loop-pair.invariant.extends in
    let after = c.in_ok-add.ensures in
    let a = c.index.result.now in
    let b = c.index-in-loop-pair.result.now in
    let lt : i < length p.shorter.items = omega arith in
    let lt_longer : i < length p.longer.items = omega (arith, lt, c.requires.pairs.each_longer) in
    record {
      extends = extends_more c.args.graph.now c.loop-pair.graph c.add.new.self i a b h after.graph after.nodes
          after.added_from after.added_to;
      has = pairs_more c.args.graph.now c.loop-pair.graph c.add.new.self i a b h after.graph after.nodes
          after.added_from after.added_to p c.loop-pair.invariant.has
          (c.index.ensures ∙ get_or_default_zero p.longer.items i a lt_longer)
          (c.index-in-loop-pair.ensures ∙ get_or_default_zero p.shorter.items i b lt);
    }
