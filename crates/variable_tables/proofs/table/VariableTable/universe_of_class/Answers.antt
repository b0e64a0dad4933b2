use Rattle.std.proofs.Common.{sym, ap, ◌∙◌, Some}
use Rattle.variable_tables.proofs.Reading.{in_roots, reads_root, class_universe_is}
use Rattle.variable_tables.proofs.table.VariableTable.universe_of_class.Goals as goal

pub root-root-requires : goal.root-root-requires
root-root-requires g c = in_roots c.self.inside.rows.items c.self.inside.classes.items c.args.self.now c.self.view_is c.args.v c.requires c.self.invariant

pub returns-in-Unknown : goal.returns-in-Unknown
returns-in-Unknown g c =
    let is = c.root-root.ensures.is ∙ sym (reads_root c.self.inside.rows.items c.self.inside.classes.items c.args.self.now c.self.view_is c.args.v c.requires) in
    ap (λ u. Some (record { 0 = u })) c.universe_of.ensures
    ∙ class_universe_is c.args.self.now.items c.args.v c.root-root.result _ is c.in-Unknown.ensures

pub returns-in-SameAs : goal.returns-in-SameAs
returns-in-SameAs g c =
    let is = c.root-root.ensures.is ∙ sym (reads_root c.self.inside.rows.items c.self.inside.classes.items c.args.self.now c.self.view_is c.args.v c.requires) in
    class_universe_is c.args.self.now.items c.args.v c.root-root.result _ is c.in-SameAs.ensures

pub returns-in-Known : goal.returns-in-Known
returns-in-Known g c =
    let is = c.root-root.ensures.is ∙ sym (reads_root c.self.inside.rows.items c.self.inside.classes.items c.args.self.now c.self.view_is c.args.v c.requires) in
    class_universe_is c.args.self.now.items c.args.v c.root-root.result _ is c.in-Known.ensures
