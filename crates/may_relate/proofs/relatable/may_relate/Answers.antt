use Rattle.std.proofs.Common.{ap}
use Rattle.may_relate.proofs.Fitting.{ok_related, err_related, err_unfit}
use Rattle.may_relate.proofs.relatable.may_relate.Goals as goal

pub returns-clause-may : goal.returns-clause-may
returns-clause-may g c =
    ok_related (g.C.InferCtxtLike.state c.args.ctx.now).store _ _ c.fits.result
    (ap (λ m. g.T.HasTree.tree m c.args.term.now) c.cx-cx.ensures) c.fits.ensures.fits

pub returns-clause-may_not : goal.returns-clause-may_not
returns-clause-may_not g c =
    err_related (g.C.InferCtxtLike.state c.args.ctx.now).store _ _ c.fits.result
    (ap (λ m. g.T.HasTree.tree m c.args.term.now) c.cx-cx.ensures) c.fits.ensures.why

pub returns-clause-why : goal.returns-clause-why
returns-clause-why g c =
    err_unfit (g.C.InferCtxtLike.state c.args.ctx.now).store _ _ c.fits.result
    (ap (λ m. g.T.HasTree.tree m c.args.term.now) c.cx-cx.ensures) c.fits.ensures.why

pub fits-requires-clause-seen : goal.fits-requires-clause-seen
fits-requires-clause-seen g c = c.none_seen-seen.ensures _
