use Rattle.std.proofs.Common.{refl}
use Rattle.relation_semantics.specs.Parts.{IsFormedConst}
use Rattle.plain_relation.specs.Plain.{plain_store, plain_state, plain_manner}
use Rattle.relation_recursion.proofs.Compared.{formed_const}
use Rattle.relation_semantics.proofs.Recording.{records_trivial, stands_itself}
use Rattle.relation_semantics.proofs.Standing.{term_within}
use Rattle.relation_semantics.proofs.Retelling.{parts_left}
use Rattle.plain_relation.proofs.PlainLemmas.{no_const_variable, none_left}
use Rattle.plain_relation.proofs.PlainRelationTypeRelation.consts.Goals as goal

pub returns-clause-records : goal.returns-clause-records
returns-clause-records g c = (
  λ promised bare. let r = c.args.self.now in (
    refl,
    refl,
    records_trivial (stands_itself (plain_state (g.I.Interner.meaning r.interner) r.ambient r.constraints.items)) refl
        (λ z o. absurd o),
  ),
  λ promised k gone ha hb all. (refl, λ q st later sound asks. asks),
)

pub returns-clause-stepped : goal.returns-clause-stepped
returns-clause-stepped g c =
    let m = g.I.Interner.meaning c.args.self.now.interner in
    let cs = c.args.self.now.constraints.items in
    let k = c.requires.asked in
    parts_left plain_manner IsFormedConst (plain_state m c.args.self.now.ambient cs) m.const_
    c.args.a.now c.args.b.now c.args.a.now c.args.b.now refl refl k
    (formed_const m c.const_kind-a.result c.args.a.now c.const_kind-a.ensures
    (term_within (plain_store m cs) (m.const_ c.args.a.now) k.left_in)
    (no_const_variable m cs (m.const_ c.args.a.now) k.left_in))
    (formed_const m c.const_kind-b.result c.args.b.now c.const_kind-b.ensures
    (term_within (plain_store m cs) (m.const_ c.args.b.now) k.right_in)
    (no_const_variable m cs (m.const_ c.args.b.now) k.right_in))
    (none_left (m.const_ c.args.a.now) (m.const_ c.args.b.now))
