use Rattle.std.proofs.Common.{sym}
use Rattle.anonymize.proofs.Renamings.{renamed_empty}
use Rattle.anonymize.proofs.renaming.rename_bound_vars.Goals as goal

pub returns-then-is_empty-clause-made : goal.returns-then-is_empty-clause-made
returns-then-is_empty-clause-made g c =
    let m = g.I.Interner.meaning c.args.cx.now in
    renamed_empty c.args.used.now (m.name c.args.name) (g.T.HasTree.tree m c.args.body.now)
    (sym c.if-is_empty.ensures)
