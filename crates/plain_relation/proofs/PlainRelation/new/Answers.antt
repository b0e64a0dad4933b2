use Rattle.std.proofs.Common.{refl, []}
use Rattle.plain_relation.specs.Plain.{plain_store}
use Rattle.relation_semantics.proofs.Empty.{empty_sound}
use Rattle.plain_relation.proofs.PlainRelation.new.Goals as goal

pub returns-clause-lawful : goal.returns-clause-lawful
returns-clause-lawful g c =
    empty_sound (plain_store (g.I.Interner.meaning c.args.interner) []) (λ k. refl) (λ k. refl) refl
