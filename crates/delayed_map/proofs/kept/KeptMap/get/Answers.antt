use Rattle.std.proofs.Common.{subst}
use Rattle.delayed_map.specs.Kept.{IsKeptAt, Finds}
use Rattle.delayed_map.proofs.Finding.{finds_at}
use Rattle.delayed_map.proofs.kept.KeptMap.get.Goals as goal

pub returns-in-At : goal.returns-in-At
returns-in-At g c =
    let eq = g.K.PartialEq.eq in
    let q = c.args.key.now in
    let n = c.in-At.number in
    let kept = subst (λ es. IsKeptAt eq q es n) c.as_slice.ensures.value (c.find.ensures n c.in-At.is) in
    let e = c.index.result.now in
    subst (λ es. Finds eq q e.1 es) c.self.view_is
    (finds_at eq q c.self.inside.entries.items n e kept c.index.ensures)
