use Rattle.std.proofs.Common.{◌<◌, length, sym, ap, ap₂, ◌∙◌, min, arith}
use Rattle.variable_tables.specs.Variables.{keys_of, universe_at, led_values, led_universes}
use Rattle.variable_tables.proofs.Rows.{linked_keys, linked_values, linked_universes, linked_long}
use Rattle.variable_tables.proofs.Reading.{in_rows, in_roots, table_own}
use Rattle.variable_tables.proofs.table.VariableTable.link.Goals as goal

pub join-requires-clause-a_in : goal.join-requires-clause-a_in
join-requires-clause-a_in g c =
    in_roots c.self.inside.rows.items c.self.inside.classes.items c.args.self.now c.self.view_is c.args.child c.requires.made c.self.invariant

pub join-requires-clause-b_in : goal.join-requires-clause-b_in
join-requires-clause-b_in g c =
    let there = in_roots c.self.inside.rows.items c.self.inside.classes.items c.args.self.now c.self.view_is c.args.child c.requires.made c.self.invariant in
    let less = c.requires.smaller in
    omega (arith, there, less)

pub write_universe-requires : goal.write_universe-requires
write_universe-requires g c =
    let there = in_rows c.self.inside.rows.items c.self.inside.classes.items c.args.self.now c.self.view_is c.args.child c.requires.made in
    let less = c.requires.smaller in
    omega (arith, there, less)

pub invariant_of-self : goal.invariant_of-self
invariant_of-self g c =
    let es = c.self.inside.rows.items in
    let rs = c.self.inside.classes.items in
    let t = c.args.self.now in
    let k = c.requires in
    let root_made : c.args.root < length t.items = (let a = k.made in let b = k.smaller in omega (arith, a, b)) in
    linked_long rs c.args.child c.args.root (in_roots es rs t c.self.view_is c.args.child k.made c.self.invariant)
    (table_own es rs t c.self.view_is c.args.child k.made k.child_free) (table_own es rs t c.self.view_is c.args.root root_made k.root_free) k.smaller
    es c.write_universe.new.rows.items c.join.new.self.items c.join.ensures (in_rows es rs t c.self.view_is c.args.child k.made)
    c.write_universe.ensures.keys c.write_universe.ensures.terms c.self.invariant

pub returns-clause-keys : goal.returns-clause-keys
returns-clause-keys g c =
    let es = c.self.inside.rows.items in
    let rs = c.self.inside.classes.items in
    let t = c.args.self.now in
    let k = c.requires in
    let root_made : c.args.root < length t.items = (let a = k.made in let b = k.smaller in omega (arith, a, b)) in
    linked_keys rs c.args.child c.args.root (in_roots es rs t c.self.view_is c.args.child k.made c.self.invariant)
    (table_own es rs t c.self.view_is c.args.child k.made k.child_free) (table_own es rs t c.self.view_is c.args.root root_made k.root_free) k.smaller
    es c.write_universe.new.rows.items c.join.new.self.items c.join.ensures (in_rows es rs t c.self.view_is c.args.child k.made)
    c.write_universe.ensures.keys c.write_universe.ensures.terms ∙ ap (λ z. keys_of z.items) c.self.view_is

pub returns-clause-values : goal.returns-clause-values
returns-clause-values g c =
    let es = c.self.inside.rows.items in
    let rs = c.self.inside.classes.items in
    let t = c.args.self.now in
    let k = c.requires in
    let root_made : c.args.root < length t.items = (let a = k.made in let b = k.smaller in omega (arith, a, b)) in
    linked_values rs c.args.child c.args.root (in_roots es rs t c.self.view_is c.args.child k.made c.self.invariant)
    (table_own es rs t c.self.view_is c.args.child k.made k.child_free) (table_own es rs t c.self.view_is c.args.root root_made k.root_free) k.smaller
    es c.write_universe.new.rows.items c.join.new.self.items c.join.ensures (in_rows es rs t c.self.view_is c.args.child k.made)
    c.write_universe.ensures.keys c.write_universe.ensures.terms ∙ ap (λ z. led_values c.args.child c.args.root z.items) c.self.view_is

pub returns-clause-universes : goal.returns-clause-universes
returns-clause-universes g c =
    let es = c.self.inside.rows.items in
    let rs = c.self.inside.classes.items in
    let t = c.args.self.now in
    let k = c.requires in
    let root_made : c.args.root < length t.items = (let a = k.made in let b = k.smaller in omega (arith, a, b)) in
    linked_universes rs c.args.child c.args.root (in_roots es rs t c.self.view_is c.args.child k.made c.self.invariant)
    (table_own es rs t c.self.view_is c.args.child k.made k.child_free) (table_own es rs t c.self.view_is c.args.root root_made k.root_free) k.smaller
    es c.write_universe.new.rows.items c.join.new.self.items c.join.ensures (in_rows es rs t c.self.view_is c.args.child k.made)
    c.write_universe.ensures.keys c.write_universe.ensures.terms c.smaller-universe.result
    (c.smaller-universe.ensures ∙ ap₂ min (c.universe_of-below.ensures ∙ sym (ap (λ z. universe_at z.items c.args.child) c.self.view_is))
    (c.universe_of-above.ensures ∙ sym (ap (λ z. universe_at z.items c.args.root) c.self.view_is)))
    c.write_universe.ensures.universes ∙ ap (λ z. led_universes c.args.child c.args.root z.items) c.self.view_is
