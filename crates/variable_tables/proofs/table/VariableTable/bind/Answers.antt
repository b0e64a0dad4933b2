use Rattle.std.proofs.Common.{◌∙◌, ap, slice_set}
use Rattle.variable_tables.specs.declared.inner.VariableValue.TheVariants.{Known}
use Rattle.variable_tables.specs.Variables.{keys_of, values_of, universes_of}
use Rattle.variable_tables.proofs.Rows.{bound_keys, bound_values, bound_universes, bound_long}
use Rattle.variable_tables.proofs.Reading.{in_rows, table_own}
use Rattle.variable_tables.proofs.table.VariableTable.bind.Goals as goal

pub write_term-requires : goal.write_term-requires
write_term-requires g c = in_rows c.self.inside.rows.items c.self.inside.classes.items c.args.self.now c.self.view_is c.args.v c.requires.made

pub invariant_of-self : goal.invariant_of-self
invariant_of-self g c =
    let es = c.self.inside.rows.items in
    let rs = c.self.inside.classes.items in
    let t = c.args.self.now in
    let k = c.requires in
    bound_long es c.write_term.new.rows.items rs c.args.v c.args.term (in_rows es rs t c.self.view_is c.args.v k.made)
    (table_own es rs t c.self.view_is c.args.v k.made k.free) c.write_term.ensures.keys c.write_term.ensures.terms c.self.invariant

pub returns-clause-keys : goal.returns-clause-keys
returns-clause-keys g c =
    let es = c.self.inside.rows.items in
    let rs = c.self.inside.classes.items in
    let t = c.args.self.now in
    let k = c.requires in
    bound_keys es c.write_term.new.rows.items rs c.args.v c.args.term (in_rows es rs t c.self.view_is c.args.v k.made)
    (table_own es rs t c.self.view_is c.args.v k.made k.free) c.write_term.ensures.keys c.write_term.ensures.terms
    ∙ ap (λ z. keys_of z.items) c.self.view_is

pub returns-clause-values : goal.returns-clause-values
returns-clause-values g c =
    let es = c.self.inside.rows.items in
    let rs = c.self.inside.classes.items in
    let t = c.args.self.now in
    let k = c.requires in
    bound_values es c.write_term.new.rows.items rs c.args.v c.args.term (in_rows es rs t c.self.view_is c.args.v k.made)
    (table_own es rs t c.self.view_is c.args.v k.made k.free) c.write_term.ensures.keys c.write_term.ensures.terms
    ∙ ap (λ z. slice_set (values_of z.items) c.args.v (Known c.args.term)) c.self.view_is

pub returns-clause-universes : goal.returns-clause-universes
returns-clause-universes g c =
    let es = c.self.inside.rows.items in
    let rs = c.self.inside.classes.items in
    let t = c.args.self.now in
    let k = c.requires in
    bound_universes es c.write_term.new.rows.items rs c.args.v c.args.term (in_rows es rs t c.self.view_is c.args.v k.made)
    (table_own es rs t c.self.view_is c.args.v k.made k.free) c.write_term.ensures.keys c.write_term.ensures.terms c.write_term.ensures.universes
    ∙ ap (λ z. universes_of z.items) c.self.view_is
