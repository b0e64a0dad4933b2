use Rattle.std.proofs.Common.{refl, sym, subst}
use Rattle.relation_terms.specs.Heads.{const_var}
use Rattle.relation_semantics.specs.Steps.{LeadsTo}
use Rattle.relation_semantics.specs.Stores.{IsMade}
use Rattle.variable_tables.specs.Tables.{store_of}
use Rattle.relation_semantics.specs.Resolving.{IsRoot}
use Rattle.relation_reference.proofs.Reading.{root_leads, root_stands, root_made}
use Rattle.relation_reference.proofs.context.infer_ctxt.RefCtxtInferCtxtLike.root_const_var.Goals as goal

pub returns : goal.returns
returns g c =
    let m = g.I.Interner.meaning c.args.self.now.interner in
    let x = c.args.self.now.inner in
    let st = store_of m x in
    let l = c.requires.lawful in
    let v = c.args.var.0 in
    let is = sym c.root_of.ensures in
    let there = root_made m.const_ x.consts.items st const_var refl l.sound v c.requires.made in
    record {
      made = subst (IsMade st const_var) is there;
      leads = subst (LeadsTo st const_var v) is (root_leads m.const_ x.consts.items st const_var refl v);
      root = subst (λ r. IsRoot st const_var r) is (root_stands m.const_ x.consts.items st const_var refl l.rooted v);
    }
