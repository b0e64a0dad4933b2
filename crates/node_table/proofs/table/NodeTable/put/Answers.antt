use Rattle.std.proofs.Common.{◌++◌, ◌∷◌, [], ◌∙◌, ap, subst, sym}
use Rattle.node_table.specs.Finding.{Lacks}
use Rattle.node_table.proofs.Finding.{put_last}
use Rattle.node_table.proofs.table.NodeTable.put.Goals as goal

pub returns-clause-added : goal.returns-clause-added
returns-clause-added g c =
    let eq = g.N.PartialEq.eq in
    let n = c.args.node in
    let ns = c.self.inside.nodes.keys in
    c.in_ok-insert.ensures.keys ∙
    put_last eq g.met.N.Eq.laws ns n (subst (λ xs. Lacks eq xs n) (sym c.self.view_is) c.requires) ∙
    ap (λ xs. xs ++ n ∷ []) c.self.view_is
