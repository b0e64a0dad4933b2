-- The path that was found is forced.
use Rattle.std.proofs.Common.{sym, subst}
use Rattle.relation_regions.specs.Graphs.{IsPath}
use Rattle.relation_regions.proofs.decide.explain.Goals as goal

pub causes_of-requires-clause-path : goal.causes_of-requires-clause-path
causes_of-requires-clause-path c =
    let w = c.args.wide.now in
    subst (λ l. IsPath w.from.items w.to.items l c.args.longer c.args.shorter) (sym c.as_slice.ensures.value)
    c.in_ok-path.ensures
