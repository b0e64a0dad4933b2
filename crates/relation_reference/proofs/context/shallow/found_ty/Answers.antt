use Rattle.std.proofs.Common.{refl}
use Rattle.relation_terms.specs.Heads.{type_var}
use Rattle.variable_tables.specs.Tables.{store_of}
use Rattle.relation_reference.proofs.Reading.{root_made, found, found_known, found_read, found_by_lists}
use Rattle.variable_tables.proofs.Writing.{table_made, table_of_entries}
use Rattle.relation_reference.proofs.context.shallow.found_ty.Goals as goal

pub returns : goal.returns
returns g c =
    let m = g.I.Interner.meaning c.args._cx.now in
    let x = c.args.inner.now in
    let st = store_of m x in
    let l = c.requires.lawful in
    let v = c.args.var.0 in
    let there = table_of_entries m.ty x.types.items _ (root_made m.ty x.types.items st type_var refl l.sound v (table_made m.ty x.types.items v c.requires.made)) in
    let u = m.ty c.term_of.result in
    let f = found m.ty x.types.items st type_var refl l.rooted (l.keyed type_var) v there c.term_of.result c.term_of.ensures in
    record {
      sure = found_known m x l type_var v u f;
      reads = found_read m x l type_var v u f;
      found = f;
      by_lists = found_by_lists m x l type_var v u f;
    }
