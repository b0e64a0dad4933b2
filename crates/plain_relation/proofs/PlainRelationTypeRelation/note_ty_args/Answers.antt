use Rattle.plain_relation.specs.Plain.{plain_state}
use Rattle.relation_semantics.proofs.Retelling.{noted_nothing}
use Rattle.plain_relation.proofs.PlainRelationTypeRelation.note_ty_args.Goals as goal

pub returns-clause-noted : goal.returns-clause-noted
returns-clause-noted g c =
    let r = c.args.self.now in
    noted_nothing _ (plain_state (g.I.Interner.meaning r.interner) r.ambient r.constraints.items) _ _

-- It promises nothing of open arguments.
pub returns-clause-asks : goal.returns-clause-asks
returns-clause-asks g c = λ h. absurd h
