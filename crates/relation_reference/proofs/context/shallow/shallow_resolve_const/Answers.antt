use Rattle.std.proofs.Common.{refl, ap, ◌∙◌}
use Rattle.relation_terms.specs.Heads.{const_var}
use Rattle.relation_terms.specs.Meaning.{const_tree}
use Rattle.relation_semantics.specs.Errors.{itself}
use Rattle.relation_semantics.proofs.ReadAs.{read_resolves}
use Rattle.variable_tables.specs.Tables.{store_of}
use Rattle.relation_reference.proofs.Reading.{read_for, const_shallow}
use Rattle.variable_tables.proofs.Grows.{made_in_context}
use Rattle.variable_tables.proofs.Writing.{table_of_entries}
use Rattle.relation_reference.proofs.context.shallow.shallow_resolve_const.Goals as goal

pub const_of_var-requires-clause-made : goal.const_of_var-requires-clause-made
const_of_var-requires-clause-made g c =
    let m = g.I.Interner.meaning c.args.cx.now in
    let x = c.args.inner.now in
    table_of_entries m.const_ x.consts.items _ (made_in_context (store_of m x) const_var (m.const_ c.args.constant.now) _
    (c.const_kind.ensures ∙ ap (const_tree m) c.in-Some.ensures.is) c.requires.const_in)

pub returns-in_default : goal.returns-in_default
returns-in_default g c =
    let m = g.I.Interner.meaning c.args.cx.now in
    let st = store_of m c.args.inner.now in
    let t = m.const_ c.args.constant.now in
    record {
      sure = c.requires.const_known;
      reads = itself refl;
      resolves = read_resolves st c.requires.lawful.sound t t (itself refl);
      shallow = const_shallow m c.const_kind.result t c.const_kind.ensures st c.in_default.ensures.is_none;
      by_lists = λ d. d;
    }

pub returns : goal.returns
returns g c =
    let m = g.I.Interner.meaning c.args.cx.now in
    let st = store_of m c.args.inner.now in
    let t = m.const_ c.args.constant.now in
    let u = m.const_ c.const_of_var.result in
    let e = c.const_of_var.ensures in
    let reads = read_for st t u _ (c.const_kind.ensures ∙ ap (const_tree m) c.in-Some.ensures.is) e.reads in
    record {
      sure = e.sure;
      reads = reads;
      resolves = read_resolves st c.requires.lawful.sound t u reads;
      shallow = e.shallow;
      by_lists = λ d. e.by_lists;
    }
