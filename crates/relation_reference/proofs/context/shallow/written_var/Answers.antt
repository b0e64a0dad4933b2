use Rattle.std.proofs.Common.{refl, sym, ap, ◌∙◌}
use Rattle.relation_terms.specs.Heads.{type_var}
use Rattle.relation_terms.specs.Meaning.{kind_tree}
use Rattle.variable_tables.specs.Tables.{store_of}
use Rattle.relation_reference.proofs.Reading.{unknown_shallow}
use Rattle.variable_tables.proofs.Grows.{made_in_context}
use Rattle.variable_tables.proofs.Writing.{table_of_entries}
use Rattle.relation_reference.proofs.context.shallow.written_var.Goals as goal

pub probe-requires : goal.probe-requires
probe-requires g c =
    let m = g.I.Interner.meaning c.args.cx.now in
    let x = c.args.inner.now in
    table_of_entries m.ty x.types.items _ (made_in_context (store_of m x) type_var (m.ty c.args.ty.now) _
    (c.ty_kind.ensures ∙ ap (kind_tree m) c.in_ok-var.ensures.is) c.requires.ty_in)

pub returns-in-Unknown-clause-is_none : goal.returns-in-Unknown-clause-is_none
returns-in-Unknown-clause-is_none g c =
    let m = g.I.Interner.meaning c.args.cx.now in
    let x = c.args.inner.now in
    unknown_shallow m.ty x.types.items (store_of m x) refl c.in_ok-var.var.0 (m.ty c.args.ty.now)
    (c.ty_kind.ensures ∙ ap (kind_tree m) c.in_ok-var.ensures.is) (sym c.probe.ensures ∙ c.in-Unknown.is)
