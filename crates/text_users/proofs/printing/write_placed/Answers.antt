-- A region that is there is known.
use Rattle.std.proofs.Common.{IsTrue, IfSome, sym, subst}
use Rattle.relation_terms.specs.Trees.{known}
use Rattle.text_users.proofs.printing.write_placed.Goals as goal

pub write_region-requires : goal.write_region-requires
write_region-requires g c =
    let m = (g.C.InferCtxtLike.state c.args.ctx.now).meaning in
    let k : IsTrue (known (m.region c.in-Some.region)) =
    subst (λ o. IfSome o (λ r. IsTrue (known (m.region r)))) c.in-Some.is c.requires.known in
    subst (λ n. IsTrue (known (n.region c.in-Some.region))) (sym c.cx.ensures) k

pub universe_of-requires-clause-known : goal.universe_of-requires-clause-known
universe_of-requires-clause-known g c =
    let m = (g.C.InferCtxtLike.state c.args.ctx.now).meaning in
    subst (λ o. IfSome o (λ r. IsTrue (known (m.region r)))) c.in-Some.is c.requires.known
