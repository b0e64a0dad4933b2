use Rattle.std.proofs.Common.{rules, IsTrue, sym, subst}
use Rattle.relation_terms.specs.Trees.{known, Leaves}
use Rattle.relation_coherence.proofs.BothOpened.{body_known}
use Rattle.text_users.specs.Fixed.{IsFixedLeaf}
use Rattle.text_users.proofs.overlapping.refusal.Goals as goal

pub are_fixed-requires : goal.are_fixed-requires
are_fixed-requires g c =
    subst (λ m. IsTrue (known (m.args (c.args.header.now).value))) (sym c.cx-cx.ensures)
    (body_known (g.C.InferCtxtLike.state c.args.ctx.now).meaning c.args.header.now c.requires)

pub returns-in-Ok : goal.returns-in-Ok
returns-in-Ok g c =
    let fixed : IsTrue c.are_fixed.result = (let i = c.if-not-are_fixed.false in search rules) in
    record {
      taken = c.in-Ok.ensures.may.1;
      has = c.in-Ok.ensures.may.0;
      fixed = subst (λ m. Leaves IsFixedLeaf (m.args (c.args.header.now).value)) c.cx-cx.ensures (c.are_fixed.ensures fixed);
    }
