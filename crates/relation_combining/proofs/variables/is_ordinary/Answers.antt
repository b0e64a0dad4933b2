use Rattle.std.proofs.Common.{refl, subst}
use Rattle.std.proofs.lemmas.Bool.{false≢true}
use Rattle.relation_combining.specs.Deferring.{StandsAs}
use Rattle.relation_combining.proofs.DeferredPairs.{other_alone}
use Rattle.relation_combining.proofs.variables.is_ordinary.Goals as goal

pub returns-in-Other : goal.returns-in-Other
returns-in-Other g c =
    let t = ((g.Infcx.InferCtxtLike.state c.args.infcx.now).meaning).ty c.args.ty.now in
    (λ e. subst (λ w. StandsAs w t) c.in-Other.is c.ty_standing.ensures, λ o. refl)

pub returns-in_default : goal.returns-in_default
returns-in_default g c =
    let t = ((g.Infcx.InferCtxtLike.state c.args.infcx.now).meaning).ty c.args.ty.now in
    (λ e. absurd (false≢true e), λ o. absurd (c.in_default.not-Other (other_alone c.ty_standing.result t c.ty_standing.ensures o)))
