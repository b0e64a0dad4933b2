use Rattle.std.proofs.Common.{subst}
use Rattle.std.specs.List.{IsDistinct}
use Rattle.node_table.proofs.Finding.{all_unequal}
use Rattle.node_table.proofs.table.NodeTable.len.Goals as goal

pub returns-clause-each_once : goal.returns-clause-each_once
returns-clause-each_once g c =
    let eq = g.N.PartialEq.eq in
    all_unequal eq g.met.N.Eq.laws c.args.self.now (subst (IsDistinct eq) c.self.view_is c.len.ensures.unique)
