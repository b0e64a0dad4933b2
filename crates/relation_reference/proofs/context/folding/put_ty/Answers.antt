use Rattle.std.proofs.Common.{sym, ap, ◌∙◌, Some}
use Rattle.relation_terms.specs.Parts.{part_tree}
use Rattle.relation_semantics.specs.Stores.{resolved}
use Rattle.variable_tables.specs.Tables.{store_of}
use Rattle.relation_reference.proofs.Folding.{value_of}
use Rattle.relation_reference.proofs.context.folding.put_ty.Goals as goal

pub returns-clause-puts : goal.returns-clause-puts
returns-clause-puts g c =
    let m = g.I.Interner.meaning c.args.cx.now in
    let n = g.I.Interner.meaning c.resolve_variable.new.cx in
    let v = c.requires.variable in
    value_of (resolved (store_of m c.args.inner.now)) v.0 v.1 (m.ty c.args.ty.now) v.2
    ∙ ap Some (sym (ap (part_tree n) c.expect_ty.ensures ∙ c.in_ok-resolved.ensures.resolves))
