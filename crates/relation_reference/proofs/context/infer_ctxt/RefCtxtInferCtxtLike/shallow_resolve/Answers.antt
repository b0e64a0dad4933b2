use Rattle.relation_semantics.proofs.Standing.{term_context}
use Rattle.variable_tables.specs.Tables.{store_of}
use Rattle.relation_reference.proofs.context.infer_ctxt.RefCtxtInferCtxtLike.shallow_resolve.Goals as goal

pub shallow_resolve-requires-clause-ty_in : goal.shallow_resolve-requires-clause-ty_in
shallow_resolve-requires-clause-ty_in g c =
    let m = g.I.Interner.meaning c.args.self.now.interner in
    term_context (store_of m c.args.self.now.inner) (m.ty c.args.ty.now) c.requires.ty_in
