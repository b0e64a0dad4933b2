use Rattle.std.proofs.Common.{refl}
use Rattle.relation_terms.specs.Heads.{const_var}
use Rattle.variable_tables.specs.Tables.{store_of}
use Rattle.relation_reference.proofs.Reading.{root_made, found, found_known, found_read, found_by_lists, found_const_shallow}
use Rattle.variable_tables.proofs.Writing.{table_made, table_of_entries}
use Rattle.relation_reference.proofs.context.shallow.const_of_var.Goals as goal

pub returns : goal.returns
returns g c =
    let m = g.I.Interner.meaning c.args._cx.now in
    let x = c.args.inner.now in
    let st = store_of m x in
    let l = c.requires.lawful in
    let v = c.args.var.0 in
    let there = table_of_entries m.const_ x.consts.items _ (root_made m.const_ x.consts.items st const_var refl l.sound v (table_made m.const_ x.consts.items v c.requires.made)) in
    let u = m.const_ c.term_of.result in
    let f = found m.const_ x.consts.items st const_var refl l.rooted (l.keyed const_var) v there c.term_of.result c.term_of.ensures in
    record {
      sure = found_known m x l const_var v u f;
      reads = found_read m x l const_var v u f;
      shallow = found_const_shallow m x l v u f;
      by_lists = found_by_lists m x l const_var v u f;
    }
