-- A region gets a number.
use Rattle.std.proofs.Common.{arith}
use Rattle.relation_regions.proofs.RegionNumbers.{gets_number}
use Rattle.relation_regions.proofs.numbering.number.Goals as goal

pub returns : goal.returns
returns g c = gets_number (λ k l. g.X.PartialEq.eq k.0 l.0) c.args.region c.args.table.now c.intern.new.self
    c.in_ok-number.number (λ i h. (c.in_ok-number.ensures.there i h).1) c.in_ok-number.ensures.number
    c.in_ok-number.ensures.added (omega arith)
