use Rattle.std.proofs.Common.{refl}
use Rattle.relation_semantics.specs.Parts.{IsRigid}
use Rattle.plain_relation.specs.Plain.{plain_state, plain_manner}
use Rattle.relation_semantics.proofs.Recording.{records_trivial, stands_itself}
use Rattle.relation_semantics.proofs.Retelling.{parts_left}
use Rattle.plain_relation.proofs.PlainLemmas.{formed, none_left}
use Rattle.plain_relation.proofs.PlainRelationTypeRelation.tys.Goals as goal

pub returns-clause-stepped : goal.returns-clause-stepped
returns-clause-stepped g c =
    let m = g.I.Interner.meaning c.args.self.now.interner in
    let cs = c.args.self.now.constraints.items in
    let is = (g.met.I.Interner.sorted c.args.self.now.interner).ty in
    let k = c.requires.asked in
    parts_left plain_manner IsRigid (plain_state m c.args.self.now.ambient cs) m.ty c.args.a.now c.args.b.now
    c.args.a.now c.args.b.now refl refl k
    (formed m cs (m.ty c.args.a.now) (is c.args.a.now k.left_known) k.left_in)
    (formed m cs (m.ty c.args.b.now) (is c.args.b.now k.right_known) k.right_in)
    (none_left (m.ty c.args.a.now) (m.ty c.args.b.now))

-- It records nothing.
pub returns-clause-records : goal.returns-clause-records
returns-clause-records g c = (
  λ promised bare. let r = c.args.self.now in (
    refl,
    refl,
    records_trivial (stands_itself (plain_state (g.I.Interner.meaning r.interner) r.ambient r.constraints.items)) refl
        (λ z o. absurd o),
  ),
  λ promised k gone ha hb all. (refl, λ q st later sound asks. asks),
)

-- It promises nothing of what is registered at once.
pub returns-clause-registers : goal.returns-clause-registers
returns-clause-registers g c = (λ h. absurd h, λ h. absurd h, λ h. absurd h)
