use Rattle.std.proofs.Common.{◌∙◌, ap, sym, position}
use Rattle.node_table.proofs.Finding.{has_position}
use Rattle.node_table.proofs.table.NodeTable.place.Goals as goal

pub returns : goal.returns
returns g c =
    let eq = g.N.PartialEq.eq in
    let n = c.args.node.now in
    has_position eq g.met.N.Eq.laws c.args.self.now n c.in_ok-index.index
    (ap (position (eq n)) (sym c.self.view_is) ∙ sym c.in_ok-index.ensures.index)
