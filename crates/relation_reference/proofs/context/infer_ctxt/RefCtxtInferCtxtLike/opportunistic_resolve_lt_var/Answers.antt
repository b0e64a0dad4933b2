use Rattle.std.proofs.Common.{refl, sym, subst, IsTrue}
use Rattle.relation_terms.specs.Heads.{region_var, variable}
use Rattle.relation_terms.specs.Trees.{leaf, known}
use Rattle.relation_semantics.specs.Errors.{itself}
use Rattle.relation_reference.proofs.Calls.{read}
use Rattle.relation_reference.proofs.VariableUniverses.{region_key}
use Rattle.variable_tables.proofs.Writing.{table_of_entries}
use Rattle.relation_reference.proofs.context.infer_ctxt.RefCtxtInferCtxtLike.opportunistic_resolve_lt_var.Goals as goal

pub returns : goal.returns
returns g c =
    let p = c.args.self.now in
    let m = g.I.Interner.meaning p.interner in
    let n = c.args.vid.0 in
    let there = table_of_entries m.region p.inner.regions.items n c.requires.made in
    let is = region_key m p.inner c.requires.lawful n there c.key_of.result c.key_of.ensures in
    record {
      reads = read g.I.Interner.meaning p (leaf (variable region_var n)) (m.region c.key_of.result) c.requires.lawful
          (subst (λ t. IsTrue (known t)) (sym is) refl) (itself (sym is));
      itself = is;
    }
