use Rattle.std.proofs.Common.{ap, ◌∙◌}
use Rattle.relation_terms.specs.Heads.{region_var}
use Rattle.relation_terms.specs.Meaning.{region_tree}
use Rattle.variable_tables.specs.Tables.{store_of}
use Rattle.variable_tables.proofs.Grows.{made_in_context}
use Rattle.variable_tables.proofs.Writing.{table_of_entries}
use Rattle.occurs_check.proofs.fates.fate_of_region.Goals as goal

pub region_universe-requires : goal.region_universe-requires
region_universe-requires g c =
    let m = g.I.Interner.meaning c.args.cx.now in
    let made = made_in_context (store_of m c.args.inner.now) region_var (m.region c.args.region.now) c.in-ReVar.vid.0
    (c.region_kind.ensures ∙ ap (region_tree m) c.in-ReVar.is) c.requires.term_in in
    table_of_entries m.region c.args.inner.now.regions.items c.in-ReVar.vid.0 made
