use Rattle.std.proofs.Common.{◌∙◌, refl, ap}
use Rattle.relation_terms.specs.Heads.{const_var}
use Rattle.relation_terms.specs.Meaning.{const_tree}
use Rattle.relation_terms.proofs.Stays.{stays_same}
use Rattle.relation_semantics.specs.Stores.{resolved}
use Rattle.variable_tables.specs.Tables.{store_of}
use Rattle.relation_reference.specs.Resolvers.{lawful_stays, values_stay}
use Rattle.relation_reference.proofs.Folding.{past_table, const_value}
use Rattle.variable_tables.proofs.Writing.{table_made}
use Rattle.relation_reference.proofs.context.folding.ResolverKeyTypeFolder.fold_const.Goals as goal

pub put_const-requires-clause-lawful : goal.put_const-requires-clause-lawful
put_const-requires-clause-lawful g c =
    let m = g.I.Interner.meaning c.args.cx.now in
    (c.requires.ready m (stays_same m)).0

pub put_const-requires-clause-variable : goal.put_const-requires-clause-variable
put_const-requires-clause-variable g c =
    let m = g.I.Interner.meaning c.args.cx.now in
    let x = c.args.self.now.inner.now in
    let v = c.in-Some.vid.0 in (
      const_var,
      v,
      c.const_kind.ensures ∙ ap (const_tree m) c.in-Some.ensures.is,
      λ h. table_made m.const_ x.consts.items v (c.has-is_made.ensures.is h),
      λ h. past_table m.const_ x.consts.items v (c.has-is_made.ensures.is_not h),
    )

pub returns-in-Some-clause-steps : goal.returns-in-Some-clause-steps
returns-in-Some-clause-steps g c =
    let e = c.put_const.ensures.grown in
    let x = c.args.self.now.inner.now in
    record { grown = e; ready = lawful_stays e x c.requires.ready; kept = λ d t. values_stay e x c.requires.ready t }

pub returns-clause-made : goal.returns-clause-made
returns-clause-made g c =
    let m = g.I.Interner.meaning c.args.cx.now in
    const_value m (resolved (store_of m c.args.self.now.inner.now)) c.const_kind.result (m.const_ c.args.constant.now)
    c.const_kind.ensures c.in_default.ensures.is_none

pub returns-clause-steps : goal.returns-clause-steps
returns-clause-steps g c =
    record { grown = stays_same (g.I.Interner.meaning c.args.cx.now); ready = c.requires.ready; kept = λ d t. refl }
