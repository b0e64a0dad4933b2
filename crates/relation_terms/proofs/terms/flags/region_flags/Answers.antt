use Rattle.std.proofs.Common.{ap, sym, ◌∙◌}
use Rattle.relation_terms.specs.Flags.{flags_of}
use Rattle.relation_terms.proofs.Flags.{own_region_flags}
use Rattle.relation_terms.proofs.terms.flags.region_flags.Goals as goal

pub returns : goal.returns
returns g c =
    let m = g.I.Interner.meaning c.args.cx.now in
    c.region_own_flags.ensures m ∙ own_region_flags m c.region_kind-kind.result ∙
    ap flags_of (sym c.region_kind-kind.ensures)
