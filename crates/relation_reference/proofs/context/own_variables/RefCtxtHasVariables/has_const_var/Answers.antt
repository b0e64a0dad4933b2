use Rattle.relation_reference.proofs.Owning.{is_own}
use Rattle.relation_reference.proofs.context.own_variables.RefCtxtHasVariables.has_const_var.Goals as goal

pub returns : goal.returns
returns g c =
    let m = g.I.Interner.meaning c.args.self.now.interner in
    let table = c.args.self.now.inner.consts in
    is_own m.const_ table.items c.args.vid.0 c.len.result c.len.ensures
