-- One more pair of regions.
use Rattle.std.proofs.Common.{◌<◌, ◌+◌, length, get_or, take, subst, arith}
use Rattle.std.proofs.lemmas.List.{take_more, take_all}
use Rattle.relation_regions.specs.Numbering.{AreRegionsOf}
use Rattle.relation_regions.proofs.NumbersFound.{regions_more}
use Rattle.relation_regions.proofs.numbering.regions_of.Goals as goal

pub region_at-longer-requires-clause-below : goal.region_at-longer-requires-clause-below
region_at-longer-requires-clause-below g c = (c.requires.below c.loop-pair.pair-index (0, 0) (omega arith)).0

pub region_at-longer-requires-clause-fits : goal.region_at-longer-requires-clause-fits
region_at-longer-requires-clause-fits g c = c.requires.fits

pub region_at-shorter-requires-clause-below : goal.region_at-shorter-requires-clause-below
region_at-shorter-requires-clause-below g c = (c.requires.below c.loop-pair.pair-index (0, 0) (omega arith)).1

pub region_at-shorter-requires-clause-fits : goal.region_at-shorter-requires-clause-fits
region_at-shorter-requires-clause-fits g c = c.requires.fits

pub loop-pair-preserved : goal.loop-pair-preserved
loop-pair-preserved g c =
    let i = c.loop-pair.pair-index in
    let pairs = c.args.pairs.now in
    let lt : i < length pairs = omega arith in
    regions_more c.args.table.now (take i pairs) (take (i + 1) pairs) (get_or pairs i (0, 0))
    c.loop-pair.regions.items c.push.new.self.items c.region_at-longer.result c.region_at-shorter.result
    c.loop-pair.invariant c.region_at-longer.ensures c.region_at-shorter.ensures (take_more pairs i (0, 0) lt)
    c.in_ok-push.ensures.items

pub returns : goal.returns
returns g c = subst (λ pairs. AreRegionsOf c.args.table.now pairs c.loop-pair.regions.items)
    (take_all c.loop-pair.pair-index c.args.pairs.now (omega arith)) c.loop-pair.invariant
