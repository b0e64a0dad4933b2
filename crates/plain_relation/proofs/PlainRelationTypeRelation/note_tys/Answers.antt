use Rattle.plain_relation.specs.Plain.{plain_state}
use Rattle.relation_semantics.proofs.Retelling.{noted_nothing}
use Rattle.plain_relation.proofs.PlainRelationTypeRelation.note_tys.Goals as goal

pub returns : goal.returns
returns g c =
    let r = c.args.self.now in
    noted_nothing _ (plain_state (g.I.Interner.meaning r.interner) r.ambient r.constraints.items) _ _
