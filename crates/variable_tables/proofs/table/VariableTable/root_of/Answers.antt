use Rattle.std.proofs.Common.{sym, ◌∙◌}
use Rattle.variable_tables.proofs.Reading.{in_roots, reads_root}
use Rattle.variable_tables.proofs.table.VariableTable.root_of.Goals as goal

pub root-requires : goal.root-requires
root-requires g c = in_roots c.self.inside.rows.items c.self.inside.classes.items c.args.self.now c.self.view_is c.args.v c.requires c.self.invariant

pub returns : goal.returns
returns g c = c.root.ensures.is ∙ sym (reads_root c.self.inside.rows.items c.self.inside.classes.items c.args.self.now c.self.view_is c.args.v c.requires)
