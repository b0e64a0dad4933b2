use Rattle.relation_reference.proofs.Budget.{budget_lawful}
use Rattle.relation_reference.proofs.context.variables.RefCtxt.set_budget.Goals as goal

pub returns-clause-lawful : goal.returns-clause-lawful
returns-clause-lawful g c = budget_lawful (g.I.Interner.meaning c.args.self.now.interner) c.args.self.now.inner c.args.budget c.requires
