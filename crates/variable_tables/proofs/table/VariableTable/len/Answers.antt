use Rattle.std.proofs.Common.{◌∙◌}
use Rattle.variable_tables.proofs.Reading.{table_long}
use Rattle.variable_tables.proofs.table.VariableTable.len.Goals as goal

pub returns : goal.returns
returns g c =
    c.len.ensures ∙ c.self.inside.rows.ok.0 ∙ table_long c.self.inside.rows.items c.self.inside.classes.items c.args.self.now c.self.view_is
