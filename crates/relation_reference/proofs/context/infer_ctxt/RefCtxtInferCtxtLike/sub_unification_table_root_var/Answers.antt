use Rattle.std.proofs.Common.{arith}
use Rattle.variable_tables.proofs.SubRoots.{root_there}
use Rattle.variable_tables.proofs.Writing.{table_of_entries}
use Rattle.relation_reference.proofs.context.infer_ctxt.RefCtxtInferCtxtLike.sub_unification_table_root_var.Goals as goal

pub root-requires : goal.root-requires
root-requires g c =
    let x = c.args.self.now.inner in
    let m = g.I.Interner.meaning c.args.self.now.interner in
    root_there m x c.requires.lawful.sub_rooted c.args.var.0 (table_of_entries m.ty x.types.items c.args.var.0 c.requires.made)

pub returns-clause-made : goal.returns-clause-made
returns-clause-made g c =
    let below = c.root.ensures.below in
    let made = c.requires.made in
    omega (arith, below, made)

pub returns-clause-own : goal.returns-clause-own
returns-clause-own g c = c.root.ensures.own
