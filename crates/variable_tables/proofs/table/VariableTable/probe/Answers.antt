use Rattle.std.proofs.Common.{arith, sym, ap, ◌∙◌}
use Rattle.variable_tables.specs.Rooted.{root_value}
use Rattle.variable_tables.proofs.Reading.{in_rows, in_roots, reads_value}
use Rattle.variable_tables.proofs.table.VariableTable.probe.Goals as goal

pub root-requires : goal.root-requires
root-requires g c = in_roots c.self.inside.rows.items c.self.inside.classes.items c.args.self.now c.self.view_is c.args.v c.requires c.self.invariant

pub index-requires : goal.index-requires
index-requires g c =
    let there = in_rows c.self.inside.rows.items c.self.inside.classes.items c.args.self.now c.self.view_is c.args.v c.requires in
    let long = c.self.inside.rows.ok.0 in
    omega (arith, there, long)

pub returns : goal.returns
returns g c = c.value_of.ensures ∙ ap (λ r. root_value c.args.v r c.index.result.now.term) c.root.ensures.is
    ∙ sym (reads_value c.self.inside.rows.items c.self.inside.classes.items c.args.self.now c.self.view_is c.args.v c.requires c.index.result.now c.index.ensures)
