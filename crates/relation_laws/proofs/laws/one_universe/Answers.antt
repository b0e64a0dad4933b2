use Rattle.relation_semantics.proofs.Equating.{equated_later}
use Rattle.relation_combining.proofs.GeneralisingInOne.{generalising_keeps_universe}
use Rattle.relation_semantics.proofs.OneUniverse.{roots_are, equated_keeps_universe, reading_leads}
use Rattle.relation_laws.proofs.laws.one_universe.Goals as goal

pub returns : goal.returns
returns c = record {
  roots = roots_are;
  equating = λ before after k child root o q g.
      equated_keeps_universe before after k child root q (equated_later before after k child root q g o);
  reading = λ st a b x y g p q. reading_leads st g a b x y p q;
  generalising = generalising_keeps_universe;
}
