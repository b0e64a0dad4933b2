use Rattle.std.proofs.Common.{◌<◌, refl, sym, subst, length}
use Rattle.relation_terms.specs.Heads.{float_var}
use Rattle.relation_semantics.specs.Steps.{LeadsTo}
use Rattle.variable_tables.specs.Tables.{store_of}
use Rattle.relation_semantics.specs.Resolving.{IsRoot}
use Rattle.relation_reference.proofs.Reading.{root_leads, root_stands, root_made}
use Rattle.variable_tables.proofs.Writing.{table_made, table_of_entries}
use Rattle.relation_reference.proofs.context.variables.RefCtxt.root_float_var.Goals as goal

pub returns : goal.returns
returns g c =
    let m = g.I.Interner.meaning c.args.self.now.interner in
    let x = c.args.self.now.inner in
    let st = store_of m x in
    let l = c.requires.lawful in
    let v = c.args.var.0 in
    let is = sym c.root_of.ensures in
    let there = root_made m.ty x.floats.items st float_var refl l.sound v (table_made m.ty x.floats.items v c.requires.made) in
    record {
      made = subst (λ r. r < length x.floats.items) is (table_of_entries m.ty x.floats.items _ there);
      leads = subst (LeadsTo st float_var v) is (root_leads m.ty x.floats.items st float_var refl v);
      root = subst (λ r. IsRoot st float_var r) is (root_stands m.ty x.floats.items st float_var refl l.rooted v);
    }
