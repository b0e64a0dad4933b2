use Rattle.std.proofs.Common.{◌∙◌, refl, ap, Some}
use Rattle.relation_terms.specs.Heads.{region_var}
use Rattle.relation_terms.specs.Meaning.{region_tree}
use Rattle.relation_terms.proofs.Stays.{stays_same}
use Rattle.relation_semantics.specs.Stores.{resolved}
use Rattle.variable_tables.specs.Tables.{store_of}
use Rattle.relation_reference.proofs.Folding.{value_of, unbound_itself, region_value}
use Rattle.relation_reference.proofs.context.folding.ResolverKeyTypeFolder.fold_region.Goals as goal

pub returns-in-ReVar-clause-made : goal.returns-in-ReVar-clause-made
returns-in-ReVar-clause-made g c =
    let m = g.I.Interner.meaning c.args.cx.now in
    let st = store_of m c.args.self.now.inner.now in
    let l = (c.requires.ready m (stays_same m)).0 in
    let v = c.in-ReVar.field-0.0 in
    let t = m.region c.args.region.now in
    let e = c.region_kind.ensures ∙ ap (region_tree m) c.in-ReVar.is in
    value_of (resolved st) region_var v t e ∙ ap Some (unbound_itself st region_var v t e (l.sound.regions_unbound v))

pub returns-in-ReVar-clause-steps : goal.returns-in-ReVar-clause-steps
returns-in-ReVar-clause-steps g c =
    record { grown = stays_same (g.I.Interner.meaning c.args.cx.now); ready = c.requires.ready; kept = λ d t. refl }

pub returns-in_default-clause-made : goal.returns-in_default-clause-made
returns-in_default-clause-made g c =
    let m = g.I.Interner.meaning c.args.cx.now in
    region_value m (resolved (store_of m c.args.self.now.inner.now)) c.region_kind.result (m.region c.args.region.now)
    c.region_kind.ensures c.in_default.not-ReVar

pub returns-in_default-clause-steps : goal.returns-in_default-clause-steps
returns-in_default-clause-steps g c =
    record { grown = stays_same (g.I.Interner.meaning c.args.cx.now); ready = c.requires.ready; kept = λ d t. refl }
