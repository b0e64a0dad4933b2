use Rattle.plain_relation.proofs.PlainLemmas.{plain_grows}
use Rattle.plain_relation.proofs.PlainRelationTypeRelation.lemma_interner_grows.Goals as goal

pub returns : goal.returns
returns g c = λ cx e l. plain_grows e c.args.self.now.ambient c.args.self.now.constraints.items l
