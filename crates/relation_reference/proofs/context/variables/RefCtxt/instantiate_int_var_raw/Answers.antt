use Rattle.std.proofs.Common.{refl, arith}
use Rattle.relation_semantics.specs.NumberValues.{int_value_tree}
use Rattle.variable_tables.proofs.Writing.{value_free}
use Rattle.relation_reference.proofs.Numbers.{number_in, int_bound, int_bound_lawful}
use Rattle.relation_reference.proofs.context.variables.RefCtxt.instantiate_int_var_raw.Goals as goal

pub index-key-requires : goal.index-key-requires
index-key-requires g c =
    let m = g.I.Interner.meaning c.args.self.now.interner in
    let x = c.args.self.now.inner in
    let within = number_in m x.numbers.items c.int_value_place-place.result c.requires.lawful.numbers c.int_value_place-place.ensures.place in
    let long = x.numbers.ok.0 in
    omega (arith, within, long)

pub returns-clause-lawful : goal.returns-clause-lawful
returns-clause-lawful g c =
    let m = g.I.Interner.meaning c.args.self.now.interner in
    let x = c.args.self.now.inner in
    int_bound_lawful m x c.requires.lawful c.bind.new.self c.args.var.0 c.int_value_place-place.result c.index-key.result.now (int_value_tree c.args.value)
    c.int_value_place-place.ensures.place c.int_value_place-place.ensures.is c.index-key.ensures c.bind.ensures.keys c.bind.ensures.values c.bind.ensures.universes
    c.requires.made c.requires.unbound c.args.value c.requires.value_known refl

pub returns-clause-binds : goal.returns-clause-binds
returns-clause-binds g c =
    let m = g.I.Interner.meaning c.args.self.now.interner in
    let x = c.args.self.now.inner in
    int_bound m x c.requires.lawful c.bind.new.self c.args.var.0 c.int_value_place-place.result c.index-key.result.now (int_value_tree c.args.value)
    c.int_value_place-place.ensures.place c.int_value_place-place.ensures.is c.index-key.ensures c.bind.ensures.keys c.bind.ensures.values c.bind.ensures.universes
    c.requires.made c.requires.unbound c.args.value c.requires.value_known refl

pub bind-requires-clause-free : goal.bind-requires-clause-free
bind-requires-clause-free g c =
    value_free (g.I.Interner.meaning c.args.self.now.interner).ty c.args.self.now.inner.ints.items c.args.var.0 c.requires.unbound
