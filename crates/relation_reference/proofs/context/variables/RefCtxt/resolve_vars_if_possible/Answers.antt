use Rattle.std.proofs.Common.{◌∙◌}
use Rattle.relation_terms.proofs.Members.{if_ok}
use Rattle.relation_semantics.specs.Stores.{resolved}
use Rattle.variable_tables.specs.Tables.{store_of}
use Rattle.relation_reference.proofs.Folding.{fold_resolves, stays_lawful}
use Rattle.relation_reference.proofs.context.variables.RefCtxt.resolve_vars_if_possible.Goals as goal

pub returns-clause-resolves : goal.returns-clause-resolves
returns-clause-resolves g c =
    let m = g.I.Interner.meaning c.args.self.now.interner in
    let s = resolved (store_of m c.args.self.now.inner) in
    if_ok c.fold_with.result (λ x e. e ∙ fold_resolves s 0 (g.T.HasTree.tree m c.args.value.now)) c.fold_with.ensures.made

pub fold_with-requires-clause-ready : goal.fold_with-requires-clause-ready
fold_with-requires-clause-ready g c =
    stays_lawful (g.I.Interner.meaning c.args.self.now.interner) c.args.self.now.inner c.requires.lawful
