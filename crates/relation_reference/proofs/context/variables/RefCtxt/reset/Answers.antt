use Rattle.std.proofs.Common.{ap, ◌∙◌, map}
use Rattle.relation_reference.proofs.New.{new_lawful}
use Rattle.relation_reference.proofs.context.variables.RefCtxt.reset.Goals as goal

pub returns-clause-lawful : goal.returns-clause-lawful
returns-clause-lawful g c =
    let m = g.I.Interner.meaning c.args.self.interner in
    let e = c.empty_tables-inner.ensures in
    new_lawful m c.empty_tables-inner.result e.new (ap (λ v. map m.ty v.items) e.numbers ∙ c.requires.numbers)
