use Rattle.plain_relation.proofs.Concrete.{concrete_asked}
use Rattle.relation_tests.proofs.relating.asks_of_types.Goals as goal

pub constraints_of-requires-clause-asked : goal.constraints_of-requires-clause-asked
constraints_of-requires-clause-asked g c =
    let m = g.I.Interner.meaning c.args.cx in
    concrete_asked m c.args.variance (m.ty c.args.a.now) (m.ty c.args.b.now) c.requires.lhs c.requires.rhs
