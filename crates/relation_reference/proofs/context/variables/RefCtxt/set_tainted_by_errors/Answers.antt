use Rattle.relation_reference.proofs.Tainting.{taint_lawful}
use Rattle.relation_reference.proofs.context.variables.RefCtxt.set_tainted_by_errors.Goals as goal

pub returns-clause-lawful : goal.returns-clause-lawful
returns-clause-lawful g c =
    taint_lawful (g.I.Interner.meaning c.args.self.now.interner) c.args.self.now.inner c.requires
