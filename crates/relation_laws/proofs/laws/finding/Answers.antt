use Rattle.relation_elaboration.proofs.Finding.{traits_closed}
use Rattle.relation_laws.proofs.laws.finding.Goals as goal

pub returns : goal.returns
returns g c = record {
  supertraits = λ cx n b k begun only grown is by goes.
      traits_closed g.I.Interner.meaning (g.met.I.Interner.states cx) grown b k is begun only by goes;
}
