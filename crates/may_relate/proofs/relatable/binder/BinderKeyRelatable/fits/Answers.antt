use Rattle.may_relate.proofs.Remembered.{seen_around}
use Rattle.may_relate.proofs.Wholes.{ok_under, err_under}
use Rattle.may_relate.proofs.relatable.binder.BinderKeyRelatable.fits.Goals as goal

pub fits-requires-clause-seen : goal.fits-requires-clause-seen
fits-requires-clause-seen g c =
    (c.in_ok-inside.ensures.seen (g.C.InferCtxtLike.state c.args.ctx.now).store c.requires.seen).1

pub returns-in_err-inside-clause-seen : goal.returns-in_err-inside-clause-seen
returns-in_err-inside-clause-seen g c =
    (c.in_err-inside.ensures.seen (g.C.InferCtxtLike.state c.args.ctx.now).store c.requires.seen).0

pub returns-clause-fits : goal.returns-clause-fits
returns-clause-fits g c =
    let m = g.C.Interner.Interner.meaning c.args.cx.now in
    ok_under m (g.C.InferCtxtLike.state c.args.ctx.now).store c.args.self.now.bound_vars c.args.around.now _
    (g.T.HasTree.tree m c.args.self.now.value) c.fits.result c.in_ok-inside.ensures.inside c.fits.ensures.fits

pub returns-clause-why : goal.returns-clause-why
returns-clause-why g c =
    let m = g.C.Interner.Interner.meaning c.args.cx.now in
    err_under m (g.C.InferCtxtLike.state c.args.ctx.now).store c.args.self.now.bound_vars c.args.around.now _
    (g.T.HasTree.tree m c.args.self.now.value) c.fits.result c.in_ok-inside.ensures.inside c.fits.ensures.why

pub returns-clause-seen : goal.returns-clause-seen
returns-clause-seen g c =
    seen_around (g.C.Interner.Interner.meaning c.args.cx.now) c.args.self.now.bound_vars c.args.around.now _
    c.in_ok-inside.ensures.inside (g.C.InferCtxtLike.state c.args.ctx.now).store _ c.fits.ensures.seen
