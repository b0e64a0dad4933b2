use Rattle.relation_semantics.proofs.Standing.{term_context}
use Rattle.variable_tables.specs.Tables.{store_of}
use Rattle.relation_reference.proofs.context.infer_ctxt.RefCtxtInferCtxtLike.shallow_resolve_const.Goals as goal

pub shallow_resolve_const-requires-clause-const_in : goal.shallow_resolve_const-requires-clause-const_in
shallow_resolve_const-requires-clause-const_in g c =
    let m = g.I.Interner.meaning c.args.self.now.interner in
    term_context (store_of m c.args.self.now.inner) (m.const_ c.args.ct.now) c.requires.ct_in
