use Rattle.std.proofs.Common.{arith}
use Rattle.relation_reference.proofs.Universes.{universe_lawful}
use Rattle.relation_reference.proofs.context.variables.RefCtxt.create_next_universe.Goals as goal

pub returns-clause-lawful : goal.returns-clause-lawful
returns-clause-lawful g c =
    let next = c.in_ok-next.ensures in
    universe_lawful (g.I.Interner.meaning c.args.self.now.interner) c.args.self.now.inner c.in_ok-next.next
    (omega (arith, next))
    c.requires
