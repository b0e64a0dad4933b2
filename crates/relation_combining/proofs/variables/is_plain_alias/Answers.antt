use Rattle.std.proofs.Common.{subst}
use Rattle.relation_combining.specs.Deferring.{StandsAs}
use Rattle.relation_combining.proofs.variables.is_plain_alias.Goals as goal

pub returns-in-Alias : goal.returns-in-Alias
returns-in-Alias g c =
    let t = ((g.Infcx.InferCtxtLike.state c.args.infcx.now).meaning).ty c.args.ty.now in
    λ e. subst (λ w. StandsAs w t) c.in-Alias.is c.ty_standing.ensures
