-- A pair is added.
use Rattle.relation_regions.proofs.Constraints.{pair_read}
use Rattle.relation_regions.proofs.reading.add_pair.Goals as goal

pub returns : goal.returns
returns g c = pair_read (λ k l. g.X.PartialEq.eq k.0 l.0) c.push_row.result c.args.longer c.args.shorter
    c.args.asked_by c.args.table.now c.number.new.table c.number-2.new.table
    c.args.pairs.now.pairs c.args.pairs.now.asked_by.items
    (record { longer = c.push_row.new.first; shorter = c.push_row.new.second }) c.push_row.new.third.items
    c.in_ok-first.first c.in_ok-second.second c.in_ok-first.ensures c.in_ok-second.ensures
    c.push_row.ensures.first c.push_row.ensures.second c.push_row.ensures.third
