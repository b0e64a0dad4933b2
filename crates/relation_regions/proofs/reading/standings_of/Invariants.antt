-- What the first regions are.
use Rattle.std.proofs.Common.{◌≡◌, map, take}
use Rattle.relation_regions.specs.Reading.{standing_in, trees_of}
use Rattle.relation_regions.proofs.reading.standings_of.Given as goal

abbrev pub invariant-loop-index : goal.invariant-loop-index
invariant-loop-index g l = l.standings.items ≡ map (standing_in (g.C.InferCtxtLike.state l.ctx).store)
    (take l.index (trees_of (g.C.InferCtxtLike.state l.ctx) l.table))
