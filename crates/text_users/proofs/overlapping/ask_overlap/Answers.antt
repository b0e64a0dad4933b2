use Rattle.text_users.proofs.Fixing.{under_closed, names_agree}
use Rattle.text_users.proofs.overlapping.ask_overlap.Goals as goal

pub overlap-requires-clause-left_closed : goal.overlap-requires-clause-left_closed
overlap-requires-clause-left_closed g c =
    let s = g.C.InferCtxtLike.state c.args.ctx.now in
    under_closed ((s.meaning).bound_vars (c.args.left).bound_vars) ((s.meaning).args (c.args.left).value)
    c.in_default.ensures.left.fixed

pub overlap-requires-clause-right_closed : goal.overlap-requires-clause-right_closed
overlap-requires-clause-right_closed g c =
    let s = g.C.InferCtxtLike.state c.args.ctx.now in
    under_closed ((s.meaning).bound_vars (c.args.right).bound_vars) ((s.meaning).args (c.args.right).value)
    c.in_default.ensures.right.fixed

pub overlap-requires-clause-names : goal.overlap-requires-clause-names
overlap-requires-clause-names g c =
    let s = g.C.InferCtxtLike.state c.args.ctx.now in
    names_agree ((s.meaning).args (c.args.left).value) ((s.meaning).args (c.args.right).value)
    c.in_default.ensures.left.fixed c.in_default.ensures.right.fixed
