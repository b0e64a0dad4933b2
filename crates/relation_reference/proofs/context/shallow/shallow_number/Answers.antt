use Rattle.std.proofs.Common.{refl, ap, ◌∙◌}
use Rattle.relation_terms.specs.Heads.{int_var, float_var}
use Rattle.relation_terms.specs.Meaning.{kind_tree}
use Rattle.relation_semantics.specs.Errors.{itself}
use Rattle.variable_tables.specs.Tables.{store_of}
use Rattle.relation_reference.proofs.Reading.{read_for, number_shallow}
use Rattle.variable_tables.proofs.Grows.{made_in_context}
use Rattle.variable_tables.proofs.Writing.{table_of_entries}
use Rattle.relation_reference.proofs.context.shallow.shallow_number.Goals as goal

pub ty_of_int_var-requires-clause-made : goal.ty_of_int_var-requires-clause-made
ty_of_int_var-requires-clause-made g c =
    let m = g.I.Interner.meaning c.args.cx.now in
    let x = c.args.inner.now in
    table_of_entries m.ty x.ints.items _ (made_in_context (store_of m x) int_var (m.ty c.args.ty.now) _
    (c.ty_kind-kind.ensures ∙ ap (kind_tree m) c.in-Some.ensures.is) c.requires.ty_in)

pub returns-in-Some-clause-reads : goal.returns-in-Some-clause-reads
returns-in-Some-clause-reads g c =
    let m = g.I.Interner.meaning c.args.cx.now in
    read_for (store_of m c.args.inner.now) (m.ty c.args.ty.now) (m.ty c.ty_of_int_var.result) _
    (c.ty_kind-kind.ensures ∙ ap (kind_tree m) c.in-Some.ensures.is) c.ty_of_int_var.ensures.reads

pub ty_of_float_var-requires-clause-made : goal.ty_of_float_var-requires-clause-made
ty_of_float_var-requires-clause-made g c =
    let m = g.I.Interner.meaning c.args.cx.now in
    let x = c.args.inner.now in
    table_of_entries m.ty x.floats.items _ (made_in_context (store_of m x) float_var (m.ty c.args.ty.now) _
    (c.ty_kind-kind.ensures ∙ ap (kind_tree m) c.in-Some-float_vid.ensures.is) c.requires.ty_in)

pub returns-in-Some-float_vid-clause-reads : goal.returns-in-Some-float_vid-clause-reads
returns-in-Some-float_vid-clause-reads g c =
    let m = g.I.Interner.meaning c.args.cx.now in
    read_for (store_of m c.args.inner.now) (m.ty c.args.ty.now) (m.ty c.ty_of_float_var.result) _
    (c.ty_kind-kind.ensures ∙ ap (kind_tree m) c.in-Some-float_vid.ensures.is) c.ty_of_float_var.ensures.reads

pub returns : goal.returns
returns g c =
    let m = g.I.Interner.meaning c.args.cx.now in
    record {
      sure = c.requires.ty_known;
      reads = itself refl;
      shallow = number_shallow m c.ty_kind-kind.result (m.ty c.args.ty.now) c.ty_kind-kind.ensures (store_of m c.args.inner.now)
          c.requires.ty_shallow c.in_default.ensures.is_none c.in_default-float_vid.ensures.is_none;
      by_lists = λ d. d;
    }
