use Rattle.examples.proofs.Ranked.{given_known_result}
use Rattle.examples.proofs.proving.make_had.Goals as goal

pub returns-clause-sure : goal.returns-clause-sure
returns-clause-sure g c =
    given_known_result (g.I.Interner.meaning c.make_ranked.new.cx) (g.I.Interner.meaning c.make_given.new.cx)
    c.in_ok-clause.clause c.make_given.result c.in_ok-clause.ensures.sure c.make_given.ensures.is
