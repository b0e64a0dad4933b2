use Rattle.std.proofs.Common.{sym}
use Rattle.relation_terms.specs.Parts.{part_tree}
use Rattle.variable_tables.specs.Tables.{store_of}
use Rattle.relation_reference.proofs.Folding.{unbound_itself, variable_context}
use Rattle.relation_reference.proofs.context.folding.resolve_variable.Goals as goal

pub resolve_part-requires-clause-term_in : goal.resolve_part-requires-clause-term_in
resolve_part-requires-clause-term_in g c =
    let m = g.I.Interner.meaning c.args.cx.now in
    let v = c.requires.variable in
    variable_context (store_of m c.args.inner.now) v.0 v.1 (part_tree m c.args.variable.now) v.2 (v.3 c.if-is_made.true)

pub returns-clause-resolves : goal.returns-clause-resolves
returns-clause-resolves g c =
    let m = g.I.Interner.meaning c.args.cx.now in
    let v = c.requires.variable in
    sym (unbound_itself (store_of m c.args.inner.now) v.0 v.1 (part_tree m c.args.variable.now) v.2 (v.4 c.if-is_made.false))
