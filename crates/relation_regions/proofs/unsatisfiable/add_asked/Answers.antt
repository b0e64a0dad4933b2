-- The next edge is looked at.
use Rattle.std.proofs.Common.{get_or, refl}
use Rattle.relation_regions.proofs.Deciding.{asked_more}
use Rattle.relation_regions.proofs.unsatisfiable.add_asked.Goals as goal

pub loop-edge-preserved : goal.loop-edge-preserved
loop-edge-preserved c =
    let l = c.loop-edge in
    let p = asked_more c.args.asked c.args.path.now c.args.by.now.items l.by.items c.add_edge.new.by.items l.edge-index
    (get_or c.args.path.now l.edge-index 0) l.invariant.adds l.invariant.has refl c.in_ok-add_edge.ensures.adds
    c.in_ok-add_edge.ensures.has in
    record { adds = p.0; has = p.1 }
