use Rattle.std.proofs.Common.{◌∙◌, sym, ap}
use Rattle.relation_terms.specs.Trees.{count}
use Rattle.relation_terms.proofs.Members.{list_count}
use Rattle.relation_recursion.proofs.starting.equal_length.Goals as goal

pub returns-clause-left : goal.returns-clause-left
returns-clause-left g c =
    let m = g.I.Interner.meaning c.args.cx.now in
    sym (ap count c.tys-n.ensures ∙ list_count m.ty c.tys-n.result.now)

pub returns-clause-right : goal.returns-clause-right
returns-clause-right g c =
    let m = g.I.Interner.meaning c.args.cx.now in
    c.if-n-m.false ∙ sym (ap count c.tys-m.ensures ∙ list_count m.ty c.tys-m.result.now)
