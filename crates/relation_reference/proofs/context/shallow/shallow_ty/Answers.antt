use Rattle.std.proofs.Common.{refl, ap, ◌∙◌}
use Rattle.relation_terms.specs.Heads.{type_var}
use Rattle.relation_terms.specs.Meaning.{kind_tree}
use Rattle.relation_semantics.specs.Errors.{itself}
use Rattle.variable_tables.specs.Tables.{store_of}
use Rattle.relation_reference.proofs.Reading.{read_for, type_shallow}
use Rattle.variable_tables.proofs.Grows.{made_in_context}
use Rattle.variable_tables.proofs.Writing.{table_of_entries}
use Rattle.relation_reference.proofs.context.shallow.shallow_ty.Goals as goal

pub ty_of_var-requires-clause-made : goal.ty_of_var-requires-clause-made
ty_of_var-requires-clause-made g c =
    let m = g.I.Interner.meaning c.args.cx.now in
    let x = c.args.inner.now in
    table_of_entries m.ty x.types.items _ (made_in_context (store_of m x) type_var (m.ty c.args.ty.now) _
    (c.ty_kind.ensures ∙ ap (kind_tree m) c.in-Some.ensures.is) c.requires.ty_in)

pub returns-in_default : goal.returns-in_default
returns-in_default g c =
    let m = g.I.Interner.meaning c.args.cx.now in
    record {
      sure = c.requires.ty_known;
      reads = itself refl;
      shallow = type_shallow m c.ty_kind.result (m.ty c.args.ty.now) c.ty_kind.ensures (store_of m c.args.inner.now)
          c.in_default.ensures.is_none;
      by_lists = λ d. d;
    }

pub returns : goal.returns
returns g c =
    let m = g.I.Interner.meaning c.args.cx.now in
    let e = c.ty_of_var.ensures in
    record {
      sure = e.sure;
      reads = read_for (store_of m c.args.inner.now) (m.ty c.args.ty.now) (m.ty c.ty_of_var.result) _
          (c.ty_kind.ensures ∙ ap (kind_tree m) c.in-Some.ensures.is) e.reads;
      shallow = e.shallow;
      by_lists = λ d. e.by_lists;
    }
