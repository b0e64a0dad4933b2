-- What one more region is.
use Rattle.std.proofs.Common.{◌≡◌, ◌<◌, length, map, sym, subst, arith}
use Rattle.std.proofs.lemmas.List.{length-map, take_all}
use Rattle.relation_semantics.specs.Stores.{IsRegionIn}
use Rattle.relation_regions.specs.Reading.{standing_in, trees_of}
use Rattle.relation_regions.specs.Worlds.{static}
use Rattle.relation_regions.proofs.NumbersFound.{stands_more}
use Rattle.relation_regions.proofs.reading.standings_of.Goals as goal

pub region_at-region-requires-clause-below : goal.region_at-region-requires-clause-below
region_at-region-requires-clause-below g c = omega (arith, c.len-index-end.ensures.count)

pub region_at-region-requires-clause-fits : goal.region_at-region-requires-clause-fits
region_at-region-requires-clause-fits g c = c.requires.fits

pub standing-stands-requires-clause-region_in : goal.standing-stands-requires-clause-region_in
standing-stands-requires-clause-region_in g c =
    let m = g.C.InferCtxtLike.state c.args.ctx.now in
    let keys = c.args.table.now in
    let lt : c.loop-index.index < length (trees_of m keys) =
    omega (arith, c.len-index-end.ensures.count, length-map keys (m.meaning).region) in
    subst (IsRegionIn m.store) (sym (c.region_at-region.ensures (m.meaning).region))
    (c.requires.regions_in c.loop-index.index static lt)

pub standing-stands-requires-clause-lawful : goal.standing-stands-requires-clause-lawful
standing-stands-requires-clause-lawful g c = c.requires.lawful

pub loop-index-preserved : goal.loop-index-preserved
loop-index-preserved g c =
    let m = g.C.InferCtxtLike.state c.args.ctx.now in
    let keys = c.args.table.now in
    let lt : c.loop-index.index < length (trees_of m keys) =
    omega (arith, c.len-index-end.ensures.count, length-map keys (m.meaning).region) in
    stands_more m.store (trees_of m keys) c.loop-index.index c.loop-index.standings.items c.push.new.self.items
    c.standing-stands.result ((m.meaning).region c.region_at-region.result) lt c.loop-index.invariant
    c.in_ok-push.ensures.items c.standing-stands.ensures (c.region_at-region.ensures (m.meaning).region)

pub returns : goal.returns
returns g c =
    let m = g.C.InferCtxtLike.state c.args.ctx.now in
    let keys = c.args.table.now in
    subst (λ l. c.loop-index.standings.items ≡ map (standing_in m.store) l)
    (take_all c.loop-index.index (trees_of m keys)
    (omega (arith, c.len-index-end.ensures.count, length-map keys (m.meaning).region))) c.loop-index.invariant
