use Rattle.std.proofs.Common.{arith}
use Rattle.relation_reference.proofs.Universes.{universe_lawful}
use Rattle.text_asking.proofs.context.enter_universe.Goals as goal

pub returns-then-ctx-universe-clause-lawful : goal.returns-then-ctx-universe-clause-lawful
returns-then-ctx-universe-clause-lawful g c =
    let later = c.if-ctx-universe.true in
    universe_lawful (g.I.Interner.meaning c.args.ctx.now.interner) c.args.ctx.now.inner _ (omega (arith, later)) c.requires
