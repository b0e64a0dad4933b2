-- Whether the edge is added.
use Rattle.std.proofs.Common.{arith}
use Rattle.relation_regions.proofs.Deciding.{edge_added, adds_itself}
use Rattle.relation_regions.proofs.unsatisfiable.add_edge.Goals as goal

pub returns-in_ok-push : goal.returns-in_ok-push
returns-in_ok-push c =
    let p = edge_added c.args.asked c.args.by.now.items c.push.new.self.items c.args.edge c.if-edge-asked.true
    c.in_ok-push.ensures.items in
    record { adds = p.0; has = λ q. p.1 }

pub returns-else-edge-asked : goal.returns-else-edge-asked
returns-else-edge-asked c = record {
  adds = adds_itself c.args.asked c.args.by.now.items;
  has = λ q. absurd (omega (arith, q, c.if-edge-asked.false));
}
