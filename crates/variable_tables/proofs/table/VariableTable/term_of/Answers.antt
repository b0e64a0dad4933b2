use Rattle.std.proofs.Common.{◌<◌, length, sym, ap, ◌∙◌, get_or, arith}
use Rattle.variable_tables.specs.Variables.{term_at}
use Rattle.variable_tables.proofs.Reading.{in_rows, in_roots, reads_root, reads_term}
use Rattle.variable_tables.proofs.table.VariableTable.term_of.Goals as goal

pub root-root-requires : goal.root-root-requires
root-root-requires g c = in_roots c.self.inside.rows.items c.self.inside.classes.items c.args.self.now c.self.view_is c.args.v c.requires c.self.invariant

pub index-requires : goal.index-requires
index-requires g c =
    let there = in_rows c.self.inside.rows.items c.self.inside.classes.items c.args.self.now c.self.view_is c.args.v c.requires in
    let low = c.root-root.ensures.below in
    let long = c.self.inside.rows.ok.0 in
    omega (arith, there, low, long)

pub returns : goal.returns
returns g c = λ d.
    let es = c.self.inside.rows.items in
    let rs = c.self.inside.classes.items in
    let t = c.args.self.now in
    let low = c.root-root.ensures.below in
    let k = c.requires in
    let there : c.root-root.result < length t.items = omega (arith, low, k) in
    let is = c.root-root.ensures.is ∙ sym (reads_root es rs t c.self.view_is c.args.v c.requires) in
    c.term_or_key.ensures
    ∙ reads_term es rs t c.self.view_is c.root-root.result there c.index.result.now c.index.ensures c.root-root.ensures.own d
    ∙ ap (λ r. term_at (get_or t.items r d)) is
