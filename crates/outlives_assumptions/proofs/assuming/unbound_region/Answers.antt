use Rattle.std.proofs.Common.{ap, ◌∙◌}
use Rattle.relation_terms.specs.Meaning.{region_tree}
use Rattle.outlives_assumptions.proofs.Assumptions.{free_given, bound_given}
use Rattle.outlives_assumptions.proofs.assuming.unbound_region.Goals as goal

pub region_kind-requires : goal.region_kind-requires
region_kind-requires g c = c.requires

pub returns-in-ReBound : goal.returns-in-ReBound
returns-in-ReBound g c =
    let m = g.I.Interner.meaning c.args.cx.now in
    let b = c.in-ReBound in
    bound_given m c.args.region.now b.field-0 b.field-1 (c.region_kind.ensures ∙ ap (region_tree m) b.is)

pub returns-in_default : goal.returns-in_default
returns-in_default g c =
    let m = g.I.Interner.meaning c.args.cx.now in
    free_given m c.args.region.now c.region_kind.result c.region_kind.ensures c.in_default.not-ReBound
