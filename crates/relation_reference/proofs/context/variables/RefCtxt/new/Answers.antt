use Rattle.std.proofs.Common.{ap, ◌∙◌, map}
use Rattle.relation_reference.proofs.New.{new_lawful}
use Rattle.relation_reference.proofs.context.variables.RefCtxt.new.Goals as goal

pub returns-clause-lawful : goal.returns-clause-lawful
returns-clause-lawful g c =
    let n = g.I.Interner.meaning c.number_keys.new.interner in
    let e = c.empty_tables-inner.ensures in
    new_lawful n c.empty_tables-inner.result e.new (ap (λ v. map n.ty v.items) e.numbers ∙ c.in_ok-numbers.ensures.means)
