use Rattle.std.proofs.Common.{◌∙◌, sym}
use Rattle.relation_terms.proofs.Parts.{same_part}
use Rattle.variable_tables.specs.Tables.{store_of}
use Rattle.relation_reference.proofs.Remembering.{recalled}
use Rattle.relation_reference.proofs.context.memory.recall_resolved.Goals as goal

pub returns : goal.returns
returns g c =
    let m = g.I.Interner.meaning c.args._cx.now in
    let eq = g.I.Key.PartialEq.eq in
    let laws = g.met.I.Interner in
    let a = c.args._cx.now in
    let memory = c.args.memory.now in
    let found = c.copied.ensures ∙ c.get.ensures.value in
    recalled m (store_of m c.args._inner.now) eq
    (same_part m eq (laws.same_ty a) (laws.same_region a) (laws.same_const a) (laws.same_valtree a) (laws.same_pat a)
    (laws.same_existential_predicates a))
    memory c.requires.remembers c.args.part.now c.in_ok-key.key
    (sym c.key_of.ensures ∙ c.in_ok-key.was) c.requires.known c.copied.result found
