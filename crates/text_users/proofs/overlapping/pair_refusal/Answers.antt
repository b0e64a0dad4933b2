use Rattle.std.proofs.Common.{◌≡◌, rules, IsTrue, sym, subst}
use Rattle.relation_terms.specs.Trees.{known, count}
use Rattle.relation_coherence.proofs.BothOpened.{body_known}
use Rattle.text_users.proofs.overlapping.pair_refusal.Goals as goal

pub are_as_many-requires-clause-left_known : goal.are_as_many-requires-clause-left_known
are_as_many-requires-clause-left_known g c =
    subst (λ m. IsTrue (known (m.args (c.args.left.now).value))) (sym c.cx-cx.ensures)
    (body_known (g.C.InferCtxtLike.state c.args.ctx.now).meaning c.args.left.now c.requires.left_known)

pub are_as_many-requires-clause-right_known : goal.are_as_many-requires-clause-right_known
are_as_many-requires-clause-right_known g c =
    subst (λ m. IsTrue (known (m.args (c.args.right.now).value))) (sym c.cx-cx.ensures)
    (body_known (g.C.InferCtxtLike.state c.args.ctx.now).meaning c.args.right.now c.requires.right_known)

pub returns-clause-fits : goal.returns-clause-fits
returns-clause-fits g c =
    let many : IsTrue c.are_as_many.result = (let i = c.if-not-are_as_many.false in search rules) in
    subst (λ m. count (m.args (c.args.left.now).value) ≡ count (m.args (c.args.right.now).value)) c.cx-cx.ensures
    (c.are_as_many.ensures many)
