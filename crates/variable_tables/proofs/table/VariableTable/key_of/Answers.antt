use Rattle.std.proofs.Common.{arith}
use Rattle.variable_tables.proofs.Reading.{in_rows, reads_key}
use Rattle.variable_tables.proofs.table.VariableTable.key_of.Goals as goal

pub index-requires : goal.index-requires
index-requires g c =
    let there = in_rows c.self.inside.rows.items c.self.inside.classes.items c.args.self.now c.self.view_is c.args.v c.requires in
    let long = c.self.inside.rows.ok.0 in
    omega (arith, there, long)

pub returns : goal.returns
returns g c = reads_key c.self.inside.rows.items c.self.inside.classes.items c.args.self.now c.self.view_is c.args.v c.requires c.index.result.now c.index.ensures
